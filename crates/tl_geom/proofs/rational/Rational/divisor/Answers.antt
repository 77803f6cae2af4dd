use Prim.Native.Nat.{◌∣◌}
use Rattle.std.proofs.Common.{◌≡◌, ℕ, ◌<◌, ◌≤◌, ◌<ℤ◌, pos, to_z, of_z, ap, sym, subst, ◌∙◌, rules, arith}
use Rattle.std.specs.Prelude.{unsigned_abs, FitsSigned}
use Rattle.std.specs.Int.{w128, IsGcd}
use Rattle.std.proofs.lemmas.Int.{ints, to_z_pos, to_z-of_z}
use Rattle.std.proofs.lemmas.Nat.Gcd.{le_of_dvd, dvd_trans}
use Rattle.tl_geom.specs.declared.rational.Rational.{Rational}
use Rattle.tl_geom.proofs.Dividing.{some_size, some_divisor, fits_below}
use Rattle.tl_geom.proofs.rational.Rational.divisor.Goals as goal

-- what the two steps found
module _ (q : Rational) (fits_x : FitsSigned w128 q.x) (fits_y : FitsSigned w128 q.y) (fits_d : FitsSigned w128 q.d) (x y d both all : ℕ)
    (x_is : x ≡ unsigned_abs (to_z w128 (of_z w128 q.x))) (y_is : y ≡ unsigned_abs (to_z w128 (of_z w128 q.y)))
    (d_is : d ≡ unsigned_abs (to_z w128 (of_z w128 q.d))) (first : IsGcd x y both) (next : IsGcd both d all) where
  of_x : x ≡ unsigned_abs q.x
  of_x = x_is ∙ ap unsigned_abs (to_z-of_z w128 q.x fits_x)

  of_y : y ≡ unsigned_abs q.y
  of_y = y_is ∙ ap unsigned_abs (to_z-of_z w128 q.y fits_y)

  of_d : d ≡ unsigned_abs q.d
  of_d = d_is ∙ ap unsigned_abs (to_z-of_z w128 q.d fits_d)

  some_d : 0 < d
  some_d = subst (λ n. 0 < n) (sym of_d) (some_size q.d q.above_zero)

  some : 0 < all
  some = some_divisor all d some_d next.1

  small : FitsSigned w128 (pos all)
  small = fits_below q.d all q.above_zero (subst (λ n. all ≤ n) of_d (le_of_dvd some_d next.1)) fits_d

  value : to_z w128 all ≡ pos all
  value = to_z_pos w128 all (let f = small.sfits in omega (arith, f))

  size : unsigned_abs (to_z w128 all) ≡ all
  size = ap unsigned_abs value

  above : pos 0 <ℤ to_z w128 all
  above = subst (λ z. pos 0 <ℤ z) (sym value) (let s = some in omega (arith, ints, s))

  divides_x : unsigned_abs (to_z w128 all) ∣ unsigned_abs q.x
  divides_x = subst (λ n. n ∣ unsigned_abs q.x) (sym size) (subst (λ n. all ∣ n) of_x (dvd_trans all next.0 first.0))

  divides_y : unsigned_abs (to_z w128 all) ∣ unsigned_abs q.y
  divides_y = subst (λ n. n ∣ unsigned_abs q.y) (sym size) (subst (λ n. all ∣ n) of_y (dvd_trans all next.0 first.1))

  divides_d : unsigned_abs (to_z w128 all) ∣ unsigned_abs q.d
  divides_d = subst (λ n. n ∣ unsigned_abs q.d) (sym size) (subst (λ n. all ∣ n) of_d next.1)

  greatest : (n : ℕ) → n ∣ unsigned_abs q.x → n ∣ unsigned_abs q.y → n ∣ unsigned_abs q.d → n ∣ unsigned_abs (to_z w128 all)
  greatest n on_x on_y on_d =
      subst (λ m. n ∣ m) (sym size)
      (next.2 n (first.2 n (subst (λ m. n ∣ m) (sym of_x) on_x) (subst (λ m. n ∣ m) (sym of_y) on_y)) (subst (λ m. n ∣ m) (sym of_d) on_d))

pub overflow_cast-result : goal.overflow_cast-result
overflow_cast-result c =
    small c.args.self (search rules) (search rules) (search rules) c.unsigned_abs.result c.unsigned_abs-2.result c.unsigned_abs-3.result
    c.common_divisor-of_both.result c.common_divisor.result c.unsigned_abs.ensures.value c.unsigned_abs-2.ensures.value
    c.unsigned_abs-3.ensures.value c.common_divisor-of_both.ensures c.common_divisor.ensures

pub returns-clause-above : goal.returns-clause-above
returns-clause-above c =
    above c.args.self (search rules) (search rules) (search rules) c.unsigned_abs.result c.unsigned_abs-2.result c.unsigned_abs-3.result
    c.common_divisor-of_both.result c.common_divisor.result c.unsigned_abs.ensures.value c.unsigned_abs-2.ensures.value
    c.unsigned_abs-3.ensures.value c.common_divisor-of_both.ensures c.common_divisor.ensures

pub returns-clause-x : goal.returns-clause-x
returns-clause-x c =
    divides_x c.args.self (search rules) (search rules) (search rules) c.unsigned_abs.result c.unsigned_abs-2.result c.unsigned_abs-3.result
    c.common_divisor-of_both.result c.common_divisor.result c.unsigned_abs.ensures.value c.unsigned_abs-2.ensures.value
    c.unsigned_abs-3.ensures.value c.common_divisor-of_both.ensures c.common_divisor.ensures

pub returns-clause-y : goal.returns-clause-y
returns-clause-y c =
    divides_y c.args.self (search rules) (search rules) (search rules) c.unsigned_abs.result c.unsigned_abs-2.result c.unsigned_abs-3.result
    c.common_divisor-of_both.result c.common_divisor.result c.unsigned_abs.ensures.value c.unsigned_abs-2.ensures.value
    c.unsigned_abs-3.ensures.value c.common_divisor-of_both.ensures c.common_divisor.ensures

pub returns-clause-d : goal.returns-clause-d
returns-clause-d c =
    divides_d c.args.self (search rules) (search rules) (search rules) c.unsigned_abs.result c.unsigned_abs-2.result c.unsigned_abs-3.result
    c.common_divisor-of_both.result c.common_divisor.result c.unsigned_abs.ensures.value c.unsigned_abs-2.ensures.value
    c.unsigned_abs-3.ensures.value c.common_divisor-of_both.ensures c.common_divisor.ensures

pub returns-clause-greatest : goal.returns-clause-greatest
returns-clause-greatest c =
    greatest c.args.self (search rules) (search rules) (search rules) c.unsigned_abs.result c.unsigned_abs-2.result c.unsigned_abs-3.result
    c.common_divisor-of_both.result c.common_divisor.result c.unsigned_abs.ensures.value c.unsigned_abs-2.ensures.value
    c.unsigned_abs-3.ensures.value c.common_divisor-of_both.ensures c.common_divisor.ensures
