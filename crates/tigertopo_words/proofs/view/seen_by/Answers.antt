use Rattle.tigertopo_words.proofs.view.seen_by.Goals as goal

pub returns-in_default : goal.returns-in_default
returns-in_default c = λ view spells. c.in_default.ensures view.center spells.at
