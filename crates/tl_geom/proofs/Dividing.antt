-- Numbers that are divided by one that divides them, and rational points whose numbers are.
use Prim.Native.Nat.{◌∣◌}
use Rattle.std.proofs.Common.{◌≡◌, ℕ, zero, suc, ◌*◌, ◌<◌, ◌≤◌, ℤ, pos, negsuc, ◌*ℤ◌, neg_ℤ, ◌<ℤ◌, of_z, refl, sym, ap, subst, ◌∙◌, arith}
use Rattle.std.specs.Prelude.{unsigned_abs, int_div, int_rem, FitsSigned}
use Rattle.std.specs.Int.{w128}
use Rattle.std.proofs.lemmas.Int.{ints, by_lt_z, quot-rem, unsigned_abs-mul}
use Rattle.std.proofs.lemmas.Nat.Gcd.{le_of_dvd, mod-eq-zero_of_dvd}
use Rattle.std.proofs.Math.Nat.{mul-dvd-mul_right, eq-zero_of_zero-dvd, eq-one_of_dvd-one}
use Rattle.tl_geom.specs.declared.rational.Rational.{Rational}
use Rattle.tl_geom.specs.Lowest.{IsLowest, IsLowestOf}
use Rattle.tl_geom.proofs.Places.{same_refl}
use Rattle.tl_geom.proofs.Polynomials.{num, ◌⊗◌, same}
use Rattle.tl_geom.proofs.Signs.{mono}

-- ---- numbers

-- what is divided by a number that divides it leaves nothing
nothing_left : (a d : ℤ) → unsigned_abs d ∣ unsigned_abs a → int_rem a d ≡ pos 0
nothing_left (pos a) d h = ap pos (mod-eq-zero_of_dvd (unsigned_abs d) h)
nothing_left (negsuc a) d h = ap (λ m. neg_ℤ (pos m)) (mod-eq-zero_of_dvd (unsigned_abs d) h)

pub divided : (a d : ℤ) → unsigned_abs d ∣ unsigned_abs a → int_div a d *ℤ d ≡ a
divided a d h = let both = quot-rem a d in let none = nothing_left a d h in omega (arith, ints, both, none)

pub some_size : (a : ℤ) → pos 0 <ℤ a → 0 < unsigned_abs a
some_size (pos zero) h = omega (arith, ints, h)
some_size (pos (suc a)) h = omega arith
some_size (negsuc a) h = omega (arith, ints, h)

pub some_divisor : (n m : ℕ) → 0 < m → n ∣ m → 0 < n
some_divisor zero m some h = let none = eq-zero_of_zero-dvd h in omega (arith, some, none)
some_divisor (suc n) m some h = omega arith

one_at_most : (n m : ℕ) → 0 < n → 0 < m → n * m ≤ m → n ≡ 1
one_at_most zero m above some le = absurd (omega (arith, above))
one_at_most (suc zero) m above some le = refl
one_at_most (suc (suc n)) m above some le = absurd (omega (arith, some, le))

-- ---- the place

-- the number that divides all three most, and what is left of them
module _ (q : Rational) (g : ℤ) (above : pos 0 <ℤ g)
    (greatest : (n : ℕ) → n ∣ unsigned_abs q.x → n ∣ unsigned_abs q.y → n ∣ unsigned_abs q.d → n ∣ unsigned_abs g) where
  pub lowest_of : (r : Rational) → r.x *ℤ g ≡ q.x → r.y *ℤ g ≡ q.y → r.d *ℤ g ≡ q.d → IsLowestOf q r
  lowest_of r x y d = record {
    same = record {
      x = ap (λ z. r.x *ℤ z) (sym d) ∙ same (num r.x ⊗ (num r.d ⊗ num g)) ((num r.x ⊗ num g) ⊗ num r.d) (omega arith) ∙ ap (λ z. z *ℤ r.d) x;
      y = ap (λ z. r.y *ℤ z) (sym d) ∙ same (num r.y ⊗ (num r.d ⊗ num g)) ((num r.y ⊗ num g) ⊗ num r.d) (omega arith) ∙ ap (λ z. z *ℤ r.d) y;
    };
    lowest = λ n of_x of_y of_d.
        one_at_most n (unsigned_abs g) (some_divisor n (unsigned_abs r.d) (some_size r.d r.above_zero) of_d) (some_size g above)
        (le_of_dvd (some_size g above)
        (greatest (n * unsigned_abs g) (times n r.x q.x x of_x) (times n r.y q.y y of_y) (times n r.d q.d d of_d)));
  }
    where
      times : (n : ℕ) (a b : ℤ) → a *ℤ g ≡ b → n ∣ unsigned_abs a → n * unsigned_abs g ∣ unsigned_abs b
      times n a b e h =
          subst (λ m. n * unsigned_abs g ∣ m) (sym (unsigned_abs-mul a g) ∙ ap unsigned_abs e) (mul-dvd-mul_right n h (unsigned_abs g))

-- where no number but 1 divides all three it is in lowest terms
pub alone_lowest : (q : Rational) (g : ℤ) → g ≡ pos 1 →
    ((n : ℕ) → n ∣ unsigned_abs q.x → n ∣ unsigned_abs q.y → n ∣ unsigned_abs q.d → n ∣ unsigned_abs g) → IsLowestOf q q
alone_lowest q g e greatest = record {
  same = same_refl q;
  lowest = λ n x y d. eq-one_of_dvd-one (subst (λ z. n ∣ unsigned_abs z) e (greatest n x y d));
}

-- above 0 as what it is a part of
pub part_above : (a b g : ℤ) → pos 0 <ℤ g → pos 0 <ℤ b → a *ℤ g ≡ b → pos 0 <ℤ a
part_above a b g above some e =
    by_lt_z (pos 0) a (λ h. h)
    (λ le. absurd (
    let low = mono g a (pos 0) (omega (arith, ints, above)) le in
    let turned = same (num g ⊗ num a) (num a ⊗ num g) (omega arith) in
    omega (arith, ints, low, turned, e, some)))

-- a number that divides all three of lowest terms is 1
pub one_divides : (q : Rational) (g : ℤ) → pos 0 <ℤ g → IsLowest q → unsigned_abs g ∣ unsigned_abs q.x → unsigned_abs g ∣ unsigned_abs q.y →
    unsigned_abs g ∣ unsigned_abs q.d → g ≡ pos 1
one_divides q (pos n) above lowest x y d = ap pos (lowest n x y d)
one_divides q (negsuc n) above lowest x y d = absurd (omega (arith, ints, above))

-- what is no greater than a number above 0 fits as that does
pub fits_below : (z : ℤ) (n : ℕ) → pos 0 <ℤ z → n ≤ unsigned_abs z → FitsSigned w128 z → FitsSigned w128 (pos n)
fits_below (pos m) n above le fits = record { sfits = let f = fits.sfits in omega (arith, le, f) }
fits_below (negsuc m) n above le fits = absurd (omega (arith, ints, above))

-- the bits of a number above 0 are the number
pub one_bits : (z : ℤ) → pos 0 <ℤ z → of_z w128 z ≡ 1 → z ≡ pos 1
one_bits (pos m) above e = ap pos e
one_bits (negsuc m) above e = absurd (omega (arith, ints, above))

pub bits_one : (z : ℤ) → z ≡ pos 1 → of_z w128 z ≡ 1
bits_one z e = ap (of_z w128) e
