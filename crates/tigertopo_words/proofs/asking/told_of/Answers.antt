use Rattle.std.proofs.Common.{}
use Rattle.tigertopo_words.proofs.ArgumentLemmas.{told_the_same}
use Rattle.tigertopo_words.proofs.asking.told_of.Goals as goal

pub returns : goal.returns
returns c =
    let all = c.given.ensures in
    let most = c.given-2.ensures in
    let skipped = c.given-3.ensures in
    told_the_same c.asked_by.result _ _ _ _ _ _ all most skipped c.asked_by.ensures
