use Rattle.std.proofs.Common.{arith}
use Rattle.tigertopo_words.proofs.BudgetLemmas.{no_width}
use Rattle.tigertopo_words.proofs.view.width_of.Goals as goal

pub returns-in_default : goal.returns-in_default
returns-in_default c = λ width spelt. c.in_default.ensures width spelt.is

pub returns-then-width-lt1 : goal.returns-then-width-lt1
returns-then-width-lt1 c = no_width c.args.word.now c.in-Some.width c.in-Some.ensures (λ some most. omega arith)
