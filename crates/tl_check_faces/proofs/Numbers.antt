-- Signs of numbers of which one is the other by factors above 0, and the order of rational numbers.
use Rattle.std.proofs.Common.{◌≡◌, ℤ, pos, ◌-ℤ◌, ◌*ℤ◌, ◌<ℤ◌, ◌≤ℤ◌, ap, sym, subst, ◌∙◌, arith}
use Rattle.std.proofs.lemmas.Int.{ints}
use Rattle.tl_geom.proofs.Polynomials.{num, ◌⊖◌, ◌⊗◌, same}
use Rattle.tl_geom.proofs.Signs.{mono, mono_lt, cancel_lt, product_above, above_of_product, times_zero, zero_product}

-- ---- a a' is w w', and a and w are above 0

pub above_by : (a t w z : ℤ) → pos 0 <ℤ a → pos 0 <ℤ w → a *ℤ t ≡ w *ℤ z → pos 0 <ℤ t → pos 0 <ℤ z
above_by a t w z h k e above = above_of_product w z (omega (arith, ints, k)) (subst (λ v. pos 0 <ℤ v) e (product_above a t h above))

turned : (a t : ℤ) → a *ℤ (pos 0 -ℤ t) ≡ pos 0 -ℤ a *ℤ t
turned a t = same (num a ⊗ (num (pos 0) ⊖ num t)) (num (pos 0) ⊖ num a ⊗ num t) (omega arith)

pub below_by : (a t w z : ℤ) → pos 0 <ℤ a → pos 0 <ℤ w → a *ℤ t ≡ w *ℤ z → t <ℤ pos 0 → z <ℤ pos 0
below_by a t w z h k e below =
    let f : a *ℤ (pos 0 -ℤ t) ≡ w *ℤ (pos 0 -ℤ z) = turned a t ∙ ap (λ v. pos 0 -ℤ v) e ∙ sym (turned w z) in
    let up : pos 0 <ℤ (pos 0 -ℤ z) = above_by a (pos 0 -ℤ t) w (pos 0 -ℤ z) h k f (omega (arith, ints, below)) in
    omega (arith, ints, up)

pub zero_by : (a t w z : ℤ) → pos 0 <ℤ w → a *ℤ t ≡ w *ℤ z → t ≡ pos 0 → z ≡ pos 0
zero_by a t w z k e none = zero_product w z (λ f. omega (arith, ints, k, f)) (sym e ∙ ap (λ v. a *ℤ v) none ∙ times_zero a)

-- ---- x/d, y/e and z/f

module _ (x d y e z f : ℤ) (d_above : pos 0 <ℤ d) (e_above : pos 0 <ℤ e) (f_above : pos 0 <ℤ f) where
  first : f *ℤ (x *ℤ e) ≡ e *ℤ (x *ℤ f)
  first = same (num f ⊗ (num x ⊗ num e)) (num e ⊗ (num x ⊗ num f)) (omega arith)

  middle : f *ℤ (y *ℤ d) ≡ d *ℤ (y *ℤ f)
  middle = same (num f ⊗ (num y ⊗ num d)) (num d ⊗ (num y ⊗ num f)) (omega arith)

  last : d *ℤ (z *ℤ e) ≡ e *ℤ (z *ℤ d)
  last = same (num d ⊗ (num z ⊗ num e)) (num e ⊗ (num z ⊗ num d)) (omega arith)

  pub le_lt : (x *ℤ e) ≤ℤ (y *ℤ d) → (y *ℤ f) <ℤ (z *ℤ e) → (x *ℤ f) <ℤ (z *ℤ d)
  le_lt h k =
      let one : (f *ℤ (x *ℤ e)) ≤ℤ (f *ℤ (y *ℤ d)) = mono f (x *ℤ e) (y *ℤ d) (omega (arith, ints, f_above)) h in
      let two : (d *ℤ (y *ℤ f)) <ℤ (d *ℤ (z *ℤ e)) = mono_lt d (y *ℤ f) (z *ℤ e) d_above k in
      let a = first in let b = middle in let c = last in
      cancel_lt e (x *ℤ f) (z *ℤ d) (omega (arith, ints, e_above)) (omega (arith, ints, one, two, a, b, c))

  pub lt_le : (x *ℤ e) <ℤ (y *ℤ d) → (y *ℤ f) ≤ℤ (z *ℤ e) → (x *ℤ f) <ℤ (z *ℤ d)
  lt_le h k =
      let one : (f *ℤ (x *ℤ e)) <ℤ (f *ℤ (y *ℤ d)) = mono_lt f (x *ℤ e) (y *ℤ d) f_above h in
      let two : (d *ℤ (y *ℤ f)) ≤ℤ (d *ℤ (z *ℤ e)) = mono d (y *ℤ f) (z *ℤ e) (omega (arith, ints, d_above)) k in
      let a = first in let b = middle in let c = last in
      cancel_lt e (x *ℤ f) (z *ℤ d) (omega (arith, ints, e_above)) (omega (arith, ints, one, two, a, b, c))
