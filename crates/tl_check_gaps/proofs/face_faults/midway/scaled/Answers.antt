-- A product of a factor below 2 ^ 67 and one below 2 ^ 32 stays far within 128 bits.
use Rattle.std.proofs.Common.{◌≡◌, ◌∙◌, ap, subst, sym, ◌^◌, ◌<◌, ℤ, ◌*ℤ◌, unsigned_abs, arith}
use Rattle.std.proofs.lemmas.Int.{to_z-of_z, unsigned_abs-mul, fits_signed_from_abs}
use Rattle.std.proofs.lemmas.Nat.{mul-lt}
use mir.Syntax.{w128}
use mir.Val.{SFits, to_z, of_z}
use Rattle.tl_check_gaps.proofs.face_faults.midway.scaled.Goals as goal

bounded : (a b : ℤ) → unsigned_abs a < 2 ^ 67 → unsigned_abs b < 2 ^ 32 → unsigned_abs (a *ℤ b) < 2 ^ 99
bounded a b h k = subst (λ n. n < 2 ^ 99) (sym (unsigned_abs-mul a b)) (mul-lt (unsigned_abs a) (unsigned_abs b) (2 ^ 67) (2 ^ 32) h k)

-- the same product, of the factors as they are passed
passed : (a b : ℤ) → unsigned_abs a < 2 ^ 67 → unsigned_abs b < 2 ^ 32 → to_z w128 (of_z w128 a) *ℤ to_z w128 (of_z w128 b) ≡ a *ℤ b
passed a b h k =
    ap (λ z. z *ℤ to_z w128 (of_z w128 b)) (to_z-of_z w128 a (fits_signed_from_abs w128 a (omega (arith, h))))
    ∙ ap (λ z. a *ℤ z) (to_z-of_z w128 b (fits_signed_from_abs w128 b (omega (arith, k))))

fits : (a b : ℤ) → unsigned_abs a < 2 ^ 67 → unsigned_abs b < 2 ^ 32 → SFits w128 (to_z w128 (of_z w128 a) *ℤ to_z w128 (of_z w128 b))
fits a b h k = subst (λ z. SFits w128 z) (sym (passed a b h k)) (fits_signed_from_abs w128 (a *ℤ b) (omega (arith, bounded a b h k)))

back : (a b : ℤ) → unsigned_abs a < 2 ^ 67 → unsigned_abs b < 2 ^ 32 → to_z w128 (of_z w128 (to_z w128 (of_z w128 a) *ℤ to_z w128 (of_z w128 b))) ≡ a *ℤ b
back a b h k = to_z-of_z w128 (to_z w128 (of_z w128 a) *ℤ to_z w128 (of_z w128 b)) (fits a b h k) ∙ passed a b h k

pub returns-clause-value : goal.returns-clause-value
returns-clause-value c = back c.args.a c.args.b c.requires.first c.requires.second

pub returns-clause-bound : goal.returns-clause-bound
returns-clause-bound c =
    subst (λ z. unsigned_abs z < 2 ^ 99) (sym (back c.args.a c.args.b c.requires.first c.requires.second))
    (bounded c.args.a c.args.b c.requires.first c.requires.second)

pub overflow_mul-result : goal.overflow_mul-result
overflow_mul-result c = fits c.args.a c.args.b c.requires.first c.requires.second
