use Prim.Native.Nat.{◌∣◌}
use Rattle.std.proofs.Common.{◌≡◌, ◌*ℤ◌, ℤ, to_z, of_z, rules}
use Rattle.std.specs.Prelude.{unsigned_abs, FitsSigned}
use Rattle.std.specs.Int.{w128}
use Rattle.std.proofs.lemmas.Int.{to_z-of_z}
use Rattle.tl_geom.proofs.Dividing.{lowest_of, part_above, alone_lowest, one_divides, one_bits, bits_one}
use Rattle.tl_geom.proofs.rational.Rational.lowest.Goals as goal

passed : (g a : ℤ) → FitsSigned w128 g → FitsSigned w128 a → unsigned_abs g ∣ unsigned_abs a →
    unsigned_abs (to_z w128 (of_z w128 g)) ∣ unsigned_abs (to_z w128 (of_z w128 a))
passed g a fits fits' h = rw (to_z-of_z w128 g fits, to_z-of_z w128 a fits') h

came : (g a r : ℤ) → FitsSigned w128 g → FitsSigned w128 a → FitsSigned w128 r → r *ℤ to_z w128 (of_z w128 g) ≡ to_z w128 (of_z w128 a) →
    to_z w128 (of_z w128 r) *ℤ g ≡ a
came g a r fits fits' fits'' e = rw (to_z-of_z w128 r fits'') (rw (to_z-of_z w128 g fits, to_z-of_z w128 a fits') at e)

pub returns-then-divisor-eq1-clause-lowest : goal.returns-then-divisor-eq1-clause-lowest
returns-then-divisor-eq1-clause-lowest c =
    alone_lowest c.args.self c.divisor-divisor.result
    (one_bits c.divisor-divisor.result c.divisor-divisor.ensures.above c.if-divisor-eq1.true) c.divisor-divisor.ensures.greatest

pub part-requires-clause-divides : goal.part-requires-clause-divides
part-requires-clause-divides c = passed c.divisor-divisor.result c.args.self.x (search rules) (search rules) c.divisor-divisor.ensures.x

pub part-requires-2-clause-divides : goal.part-requires-2-clause-divides
part-requires-2-clause-divides c = passed c.divisor-divisor.result c.args.self.y (search rules) (search rules) c.divisor-divisor.ensures.y

pub part-requires-3-clause-divides : goal.part-requires-3-clause-divides
part-requires-3-clause-divides c = passed c.divisor-divisor.result c.args.self.d (search rules) (search rules) c.divisor-divisor.ensures.d

pub invariant_of-result : goal.invariant_of-result
invariant_of-result c = record {
  above_zero = part_above (to_z w128 (of_z w128 c.part-3.result)) c.args.self.d c.divisor-divisor.result c.divisor-divisor.ensures.above c.args.self.above_zero
      (came c.divisor-divisor.result c.args.self.d c.part-3.result (search rules) (search rules) (search rules) c.part-3.ensures);
}

pub returns-clause-lowest : goal.returns-clause-lowest
returns-clause-lowest c =
    lowest_of c.args.self c.divisor-divisor.result c.divisor-divisor.ensures.above c.divisor-divisor.ensures.greatest _
    (came c.divisor-divisor.result c.args.self.x c.part.result (search rules) (search rules) (search rules) c.part.ensures)
    (came c.divisor-divisor.result c.args.self.y c.part-2.result (search rules) (search rules) (search rules) c.part-2.ensures)
    (came c.divisor-divisor.result c.args.self.d c.part-3.result (search rules) (search rules) (search rules) c.part-3.ensures)

pub returns-clause-kept : goal.returns-clause-kept
returns-clause-kept c = λ lowest.
    absurd (c.if-divisor-eq1.false (bits_one c.divisor-divisor.result
    (one_divides c.args.self c.divisor-divisor.result c.divisor-divisor.ensures.above lowest c.divisor-divisor.ensures.x c.divisor-divisor.ensures.y
    c.divisor-divisor.ensures.d)))
