use Rattle.std.proofs.Common.{refl, sym, arith}
use Rattle.std.proofs.lemmas.Bool.{false≢true}
use Rattle.tl_check_sides.proofs.CellsLemmas.Rising.{all_two, neighbours_more}
use Rattle.tl_check_sides.proofs.cells.kept.find_repeat.Goals as goal

pub loop-place-preserved : goal.loop-place-preserved
loop-place-preserved c =
    let low = c.loop-place.auto.place in
    neighbours_more c.args.kept.now c.loop-place.place (omega (arith, low)) c.loop-place.invariant (c.in_default.ensures.none refl)

pub returns-clause-none : goal.returns-clause-none
returns-clause-none c = λ none.
    all_two c.args.kept.now c.requires (λ k lt. let done = c.loop-place-test.false in c.loop-place.invariant k (omega (arith, done, lt)))

pub returns-in-Some-clause-none : goal.returns-in-Some-clause-none
returns-in-Some-clause-none c = λ none. absurd (false≢true (sym none))

pub returns-clause-some : goal.returns-clause-some
returns-clause-some c = tt

pub loop-place-init : goal.loop-place-init
loop-place-init c = λ k lt. absurd (omega (arith, lt))
