-- What a turn to the left says, and one that isn't to the right.
use Rattle.std.proofs.Common.{◌≡◌, Bool, false, IsTrue, Ordering, ℤ, pos, ◌<ℤ◌, ◌≤ℤ◌, sym, ◌∙◌, arith}
use Rattle.std.proofs.lemmas.Cmp.{int_ranked}
use Rattle.std.proofs.lemmas.Int.{ints}
use Rattle.std.specs.declared.cmp.Ordering.TheVariants.{Less, Equal, Greater}
use Rattle.std.specs.Ordering.{int_cmp, is_gt, is_lt, MatchOrdering}

gt_cases : (z : ℤ) (o : Ordering) → MatchOrdering o (z <ℤ pos 0) (z ≡ pos 0) (pos 0 <ℤ z) → IsTrue (is_gt o) → pos 0 <ℤ z
gt_cases z Less m h = absurd (cc)
gt_cases z Equal m h = absurd (cc)
gt_cases z Greater m h = m

pub gt_test : (z : ℤ) (o : Ordering) (t : Bool) → o ≡ int_cmp z (pos 0) → t ≡ is_gt o → IsTrue t → pos 0 <ℤ z
gt_test z o t e f h = gt_cases z o (int_ranked z (pos 0) o e) (sym f ∙ h)

not_lt_cases : (z : ℤ) (o : Ordering) → MatchOrdering o (z <ℤ pos 0) (z ≡ pos 0) (pos 0 <ℤ z) → is_lt o ≡ false → pos 0 ≤ℤ z
not_lt_cases z Less m h = absurd (cc)
not_lt_cases z Equal m h = omega (arith, ints, m)
not_lt_cases z Greater m h = omega (arith, ints, m)

pub not_lt_test : (z : ℤ) (o : Ordering) (t : Bool) → o ≡ int_cmp z (pos 0) → t ≡ is_lt o → t ≡ false → pos 0 ≤ℤ z
not_lt_test z o t e f h = not_lt_cases z o (int_ranked z (pos 0) o e) (sym f ∙ h)
