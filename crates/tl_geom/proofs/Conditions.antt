-- What a test says, alone and after another.
use Rattle.std.proofs.Common.{◌≡◌, ◌≢◌, ◌↔◌, ◌&&◌, int_eq, rules, Bool, true, false, IsTrue, Ordering, ℤ, pos, ◌<ℤ◌, ◌≤ℤ◌, sym, ◌∙◌, refl, subst, arith}
use Rattle.std.proofs.lemmas.Int.{ints, to_z-of_z}
use mir.Syntax.{w32}
use mir.Val.{SFits, to_z, of_z}
use Rattle.std.proofs.lemmas.Cmp.{int_ranked}
use Rattle.std.specs.declared.cmp.Ordering.TheVariants.{Less, Equal, Greater}
use Rattle.std.specs.Ordering.{int_cmp, is_lt, is_eq, is_gt, MatchOrdering}
use lib.Signed.{le_z}
use Rattle.tl_geom.specs.declared.point.Point.{Point}
use borrow.Author.Differences.{true_is_le}

-- a test that comes after a test that passed
pub second_test : {P Q R : Type 0} (b c : Bool) → b ≡ true → (IsTrue b ↔ P) → (IsTrue c ↔ Q) → (P → Q → R) → (R → Q) → IsTrue c ↔ R
second_test b c e p q to from = (λ h. to (p.0 e) (q.0 h), λ r. q.1 (from r))

pub apart : false ≡ true → ⊥
apart e = cc

-- a test that failed
pub failed_test : {P R : Type 0} (b : Bool) → b ≡ false → (IsTrue b ↔ P) → (R → P) → IsTrue b ↔ R
failed_test b e p from = (λ h. absurd (apart (sym e ∙ h)), λ r. p.1 (from r))

-- the tests of an order
pub le_test : (x y : ℤ) → IsTrue (le_z x y) ↔ (x ≤ℤ y)
le_test x y = (λ h. omega (arith, ints, h), λ h. sym (true_is_le x y (omega (arith, ints, h))))

gt_cases : (z : ℤ) (o : Ordering) → MatchOrdering o (z <ℤ pos 0) (z ≡ pos 0) (pos 0 <ℤ z) → IsTrue (is_gt o) ↔ (pos 0 <ℤ z)
gt_cases z Less m = (λ e. absurd (cc), λ h. absurd (omega (arith, ints, m, h)))
gt_cases z Equal m = (λ e. absurd (cc), λ h. absurd (omega (arith, ints, m, h)))
gt_cases z Greater m = (λ e. m, λ h. refl)

pub gt_test : (z : ℤ) (o : Ordering) → o ≡ int_cmp z (pos 0) → IsTrue (is_gt o) ↔ (pos 0 <ℤ z)
gt_test z o e = gt_cases z o (int_ranked z (pos 0) o e)

lt_cases : (z : ℤ) (o : Ordering) → MatchOrdering o (z <ℤ pos 0) (z ≡ pos 0) (pos 0 <ℤ z) → IsTrue (is_lt o) ↔ (z <ℤ pos 0)
lt_cases z Less m = (λ e. m, λ h. refl)
lt_cases z Equal m = (λ e. absurd (cc), λ h. absurd (omega (arith, ints, m, h)))
lt_cases z Greater m = (λ e. absurd (cc), λ h. absurd (omega (arith, ints, m, h)))

pub lt_test : (z : ℤ) (o : Ordering) → o ≡ int_cmp z (pos 0) → IsTrue (is_lt o) ↔ (z <ℤ pos 0)
lt_test z o e = lt_cases z o (int_ranked z (pos 0) o e)

eq_cases : (z : ℤ) (o : Ordering) → MatchOrdering o (z <ℤ pos 0) (z ≡ pos 0) (pos 0 <ℤ z) → IsTrue (is_eq o) ↔ (z ≡ pos 0)
eq_cases z Less m = (λ e. absurd (cc), λ h. absurd (omega (arith, ints, m, h)))
eq_cases z Equal m = (λ e. m, λ h. refl)
eq_cases z Greater m = (λ e. absurd (cc), λ h. absurd (omega (arith, ints, m, h)))

pub eq_test : (z : ℤ) (o : Ordering) → o ≡ int_cmp z (pos 0) → IsTrue (is_eq o) ↔ (z ≡ pos 0)
eq_test z o e = eq_cases z o (int_ranked z (pos 0) o e)

-- one fact that holds exactly where another does, and that where a third does
pub iff_trans : {P Q R : Type 0} → (P ↔ Q) → (Q ↔ R) → P ↔ R
iff_trans p q = (λ h. q.0 (p.0 h), λ r. p.1 (q.1 r))

-- whether two points are one
pub same_point : (p q : Point) (b : Bool) → b ≡ (int_eq p.x q.x && int_eq p.y q.y) → b ≡ true → p ≡ q
same_point p q b e h = search rules

pub other_point : (p q : Point) (b : Bool) → b ≡ (int_eq p.x q.x && int_eq p.y q.y) → b ≡ false → p ≢ q
other_point p q b e h = search rules

-- whether a number of 32 bits lies between two others
le_test_back : (a b : ℤ) → SFits w32 a → SFits w32 b → IsTrue (le_z (to_z w32 (of_z w32 a)) (to_z w32 (of_z w32 b))) ↔ (a ≤ℤ b)
le_test_back a b f g =
    subst (λ x. IsTrue (le_z x (to_z w32 (of_z w32 b))) ↔ (a ≤ℤ b)) (sym (to_z-of_z w32 a f)) (subst (λ y. IsTrue (le_z a y) ↔ (a ≤ℤ b)) (sym (to_z-of_z w32 b g)) (le_test a b))

pub within_test : (low v high : ℤ) → SFits w32 low → SFits w32 v → SFits w32 high → le_z (to_z w32 (of_z w32 low)) (to_z w32 (of_z w32 v)) ≡ true →
    IsTrue (le_z (to_z w32 (of_z w32 v)) (to_z w32 (of_z w32 high))) ↔ ((low ≤ℤ v) × (v ≤ℤ high))
within_test low v high f g h e =
    second_test (le_z (to_z w32 (of_z w32 low)) (to_z w32 (of_z w32 v))) (le_z (to_z w32 (of_z w32 v)) (to_z w32 (of_z w32 high))) e (le_test_back low v f g) (le_test_back v high g h) (λ x y. (x, y)) (λ r. r.1)

pub not_within_test : (low v high : ℤ) → SFits w32 low → SFits w32 v → le_z (to_z w32 (of_z w32 low)) (to_z w32 (of_z w32 v)) ≡ false →
    IsTrue (le_z (to_z w32 (of_z w32 low)) (to_z w32 (of_z w32 v))) ↔ ((low ≤ℤ v) × (v ≤ℤ high))
not_within_test low v high f g e = failed_test (le_z (to_z w32 (of_z w32 low)) (to_z w32 (of_z w32 v))) e (le_test_back low v f g) (λ r. r.0)
