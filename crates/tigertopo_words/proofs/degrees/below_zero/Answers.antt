use Rattle.std.proofs.Common.{◌≡◌, ◌-◌, suc, subst, sym, arith}
use Rattle.std.proofs.lemmas.Int.{ints}
use Rattle.tigertopo_words.specs.Points.{AreDegreesOf}
use Rattle.tigertopo_words.proofs.degrees.below_zero.Goals as goal

pub returns-in_err-distance : goal.returns-in_err-distance
returns-in_err-distance c = rw c.from_residual.ensures (λ n within. c.in_err-distance.ensures (suc n) within)

pub returns-then-distance-eq0 : goal.returns-then-distance-eq0
returns-then-distance-eq0 c = λ n within spelt. let same = c.in_ok-distance.ensures.2 (suc n) within spelt in omega (arith, same)

pub returns : goal.returns
returns c =
    let some : suc (c.in_ok-distance.distance - 1) ≡ c.in_ok-distance.distance = omega arith in
    let within = c.in_ok-distance.ensures.1 in (
      c.in_ok-distance.distance - 1,
      omega (arith, ints, within),
      subst (AreDegreesOf c.args.rest.now) (sym some) c.in_ok-distance.ensures.0,
      omega (arith, within),
    )
