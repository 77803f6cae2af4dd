-- A place is written in one way in lowest terms.
use Prim.Native.Nat.{◌∣◌}
use lib.Dec.{T_prop}
use lib.Signed.{lt_z}
use Rattle.std.proofs.Common.{◌≡◌, ⊎_elim, ℕ, zero, suc, ◌+◌, ◌-◌, ◌*◌, ◌<◌, ◌≤◌, ℤ, pos, negsuc, ◌*ℤ◌, ◌<ℤ◌, sym, ap, subst, ◌∙◌, arith}
use Rattle.std.specs.Prelude.{unsigned_abs}
use Rattle.std.proofs.lemmas.Bool.{cases_lt}
use Rattle.std.proofs.lemmas.Int.{ints, unsigned_abs-mul}
use Rattle.std.proofs.lemmas.Nat.Gcd.{dvd_refl, dvd-zero, dvd_trans, dvd_antisymm}
use Rattle.std.proofs.Math.Nat.{dvd-add, dvd-add_iff_right, dvd-mul_left}
use Rattle.tl_geom.specs.declared.rational.Rational.{Rational}
use Rattle.tl_geom.specs.Plane.{IsSame}
use Rattle.tl_geom.specs.Lowest.{IsLowest}
use Rattle.tl_geom.proofs.Places.{same_sym}
use Rattle.tl_geom.proofs.Polynomials.{num, ◌⊗◌, same}
use Rattle.tl_geom.proofs.Signs.{cancel}

-- ---- common divisors

-- g divides a and b, and what divides both times a factor divides g times that factor
record IsCommon (a b g : ℕ) : Type 0 where
  first : g ∣ a
  last : g ∣ b
  times : (d q : ℕ) → d ∣ q * a → d ∣ q * b → d ∣ q * g

turned : (a b g : ℕ) → IsCommon a b g → IsCommon b a g
turned a b g c = record { first = c.last; last = c.first; times = λ d q e f. c.times d q f e }

added : (a r g : ℕ) → IsCommon a r g → IsCommon a (a + r) g
added a r g c = record {
  first = c.first;
  last = dvd-add g c.first c.last;
  times = λ d q e f.
      let sum : q * (a + r) ≡ q * a + q * r = omega arith in
      c.times d q e ((dvd-add_iff_right d e).1 (subst (λ (m : ℕ). d ∣ m) sum f));
}

common : (n a b : ℕ) → a + b ≤ n → (g : ℕ) × IsCommon a b g
common n zero b le = (b, record { first = dvd-zero b; last = dvd_refl b; times = λ d q e f. f })
common n (suc a) zero le = (suc a, record { first = dvd_refl (suc a); last = dvd-zero (suc a); times = λ d q e f. e })
common zero (suc a) (suc b) le = absurd (omega (arith, le))
common (suc n) (suc a) (suc b) le =
    ⊎_elim
    (λ (less : b < a).
    let rest : (g : ℕ) × IsCommon (suc b) (suc a - suc b) g = common n (suc b) (suc a - suc b) (omega (arith, le, less)) in
    let sum : suc b + (suc a - suc b) ≡ suc a = omega (arith, less) in
    (rest.0, turned (suc b) (suc a) rest.0 (subst (λ (m : ℕ). IsCommon (suc b) m rest.0) sum (added (suc b) (suc a - suc b) rest.0 rest.1))))
    (λ (more : a ≤ b).
    let rest : (g : ℕ) × IsCommon (suc a) (suc b - suc a) g = common n (suc a) (suc b - suc a) (omega (arith, le, more)) in
    let sum : suc a + (suc b - suc a) ≡ suc b = omega (arith, more) in
    (rest.0, subst (λ (m : ℕ). IsCommon (suc a) m rest.0) sum (added (suc a) (suc b - suc a) rest.0 rest.1)))
    (cases_lt b a)

-- ---- one place

sizes : (x d y e : ℤ) → x *ℤ e ≡ y *ℤ d → unsigned_abs e * unsigned_abs x ≡ unsigned_abs y * unsigned_abs d
sizes x d y e is =
    let turn : unsigned_abs e * unsigned_abs x ≡ unsigned_abs x * unsigned_abs e = omega arith in
    turn ∙ sym (unsigned_abs-mul x e) ∙ ap unsigned_abs is ∙ unsigned_abs-mul y d

-- the denominator of lowest terms divides each other one
divides : (p q : Rational) → IsSame p q → IsLowest p → unsigned_abs p.d ∣ unsigned_abs q.d
divides p q is lowest =
    let x : ℕ = unsigned_abs p.x in let y : ℕ = unsigned_abs p.y in let d : ℕ = unsigned_abs p.d in let e : ℕ = unsigned_abs q.d in
    let of_x : d ∣ e * x = subst (λ (m : ℕ). d ∣ m) (sym (sizes p.x p.d q.x q.d is.x)) (dvd-mul_left d (unsigned_abs q.x)) in
    let of_y : d ∣ e * y = subst (λ (m : ℕ). d ∣ m) (sym (sizes p.y p.d q.y q.d is.y)) (dvd-mul_left d (unsigned_abs q.y)) in
    let of_d : d ∣ e * d = dvd-mul_left d e in
    let one : (g : ℕ) × IsCommon x y g = common (x + y) x y (omega arith) in
    let all : (g : ℕ) × IsCommon one.0 d g = common (one.0 + d) one.0 d (omega arith) in
    let none : all.0 ≡ 1 = lowest all.0 (dvd_trans all.0 all.1.first one.1.first) (dvd_trans all.0 all.1.first one.1.last) all.1.last in
    let told : d ∣ e * all.0 = all.1.times d e (one.1.times d e of_x of_y) of_d in
    let whole : e * all.0 ≡ e = ap (λ (g : ℕ). e * g) none ∙ (omega arith) in
    subst (λ (m : ℕ). d ∣ m) whole told

one_size : (a b : ℤ) → pos 0 <ℤ a → pos 0 <ℤ b → unsigned_abs a ≡ unsigned_abs b → a ≡ b
one_size (pos a) (pos b) h k e = ap pos e
one_size (negsuc a) b h k e = absurd (omega (arith, ints, h))
one_size (pos a) (negsuc b) h k e = absurd (omega (arith, ints, k))

one_above : {a b : ℤ} (h k : a <ℤ b) → h ≡ k
one_above {a} {b} h k = λ i. record { lt = T_prop (lt_z a b) h.lt k.lt i }

rational_of : (x y d : ℤ) → pos 0 <ℤ d → Rational
rational_of x y d h = record { x = x; y = y; d = d; above_zero = h }

one_denominator : (x y d e : ℤ) → d ≡ e → (h : pos 0 <ℤ d) (k : pos 0 <ℤ e) → rational_of x y d h ≡ rational_of x y e k
one_denominator x y d e is =
    subst (λ (z : ℤ). (h : pos 0 <ℤ d) (k : pos 0 <ℤ z) → rational_of x y d h ≡ rational_of x y z k) is
    (λ h k. ap (rational_of x y d) (one_above h k))

rational_same : (p q : Rational) → p.x ≡ q.x → p.y ≡ q.y → p.d ≡ q.d → p ≡ q
unfolding rational_of
rational_same p q x y d =
    ap (λ (z : ℤ). rational_of z p.y p.d p.above_zero) x
    ∙ ap (λ (z : ℤ). rational_of q.x z p.d p.above_zero) y
    ∙ one_denominator q.x q.y p.d q.d d p.above_zero q.above_zero

one_part : (x y d e : ℤ) → pos 0 <ℤ e → d ≡ e → x *ℤ e ≡ y *ℤ d → x ≡ y
one_part x y d e above is same_point =
    let turn : e *ℤ x ≡ x *ℤ e = same (num e ⊗ num x) (num x ⊗ num e) (omega arith) in
    let back : y *ℤ e ≡ e *ℤ y = same (num y ⊗ num e) (num e ⊗ num y) (omega arith) in
    cancel e x y above (turn ∙ same_point ∙ ap (λ (z : ℤ). y *ℤ z) is ∙ back)

pub one_way : (p q : Rational) → IsSame p q → IsLowest p → IsLowest q → p ≡ q
one_way p q is lowest lowest' =
    let d : p.d ≡ q.d = one_size p.d q.d p.above_zero q.above_zero
    (dvd_antisymm (divides p q is lowest) (divides q p (same_sym p q is) lowest')) in
    rational_same p q (one_part p.x q.x p.d q.d q.above_zero d is.x) (one_part p.y q.y p.d q.d q.above_zero d is.y) d
