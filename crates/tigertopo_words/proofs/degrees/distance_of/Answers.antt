use Rattle.std.proofs.Common.{arith}
use Rattle.tigertopo_words.proofs.DegreesLemmas.{no_point, no_whole, no_part, the_number, spells_number}
use Rattle.tigertopo_words.proofs.degrees.distance_of.Goals as goal

pub returns-in_err-before : goal.returns-in_err-before
returns-in_err-before c =
    rw c.from_residual.ensures (λ n within. no_point c.args.text.now c.split_once.result c.split_once.ensures.cases c.in_err-before.was n (omega arith))

pub returns-in_err-whole : goal.returns-in_err-whole
returns-in_err-whole c =
    rw c.from_residual-in_err-whole.ensures (λ n within. no_whole c.args.text.now c.split_once.result c.in_ok-before.before c.in_ok-before.behind c.split_once.ensures.cases c.in_ok-before.was c.in_err-whole.ensures n (omega arith))

pub returns-in_err-part : goal.returns-in_err-part
returns-in_err-part c =
    rw c.from_residual-in_err-part.ensures (λ n within. no_part c.args.text.now c.split_once.result c.in_ok-before.before c.in_ok-before.behind c.split_once.ensures.cases c.in_ok-before.was c.in_err-part.ensures n (omega arith))

pub returns-then-whole-from : goal.returns-then-whole-from
returns-then-whole-from c = λ n within spelt.
    let is = the_number c.args.text.now c.split_once.result c.in_ok-before.before c.in_ok-before.behind c.split_once.ensures.cases c.in_ok-before.was c.in_ok-whole.whole c.in_ok-part.part c.in_ok-whole.ensures c.in_ok-part.ensures.0 n (omega arith) spelt in
    omega (arith, is)

pub returns-then-distance-from : goal.returns-then-distance-from
returns-then-distance-from c = λ n within spelt.
    let is = the_number c.args.text.now c.split_once.result c.in_ok-before.before c.in_ok-before.behind c.split_once.ensures.cases c.in_ok-before.was c.in_ok-whole.whole c.in_ok-part.part c.in_ok-whole.ensures c.in_ok-part.ensures.0 n (omega arith) spelt in
    omega (arith, is)

pub returns : goal.returns
returns c = (
  spells_number c.args.text.now c.split_once.result c.in_ok-before.before c.in_ok-before.behind c.split_once.ensures.cases c.in_ok-before.was c.in_ok-whole.whole c.in_ok-part.part _ c.in_ok-whole.ensures c.in_ok-part.ensures.0 (omega arith),
  omega arith,
  λ m within spelt.
      let is = the_number c.args.text.now c.split_once.result c.in_ok-before.before c.in_ok-before.behind c.split_once.ensures.cases c.in_ok-before.was c.in_ok-whole.whole c.in_ok-part.part c.in_ok-whole.ensures c.in_ok-part.ensures.0 m (omega arith) spelt in omega (arith, is),
)
