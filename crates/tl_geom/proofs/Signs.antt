-- Signs of products of whole numbers, and what may be cancelled.
--     mono, mono_lt       an order times a number that is not below, or above, 0
--     cancel, cancel_le, cancel_lt       the factor above 0 is taken away again
--     square, square_above       squares
--     sign       a number is below, at or above 0
--     between_product, product_between       to lie between two numbers, as the sign of one product
use Rattle.std.proofs.Common.{◌≡◌, ◌≢◌, ◌⊎◌, inl, inr, ⊎_elim, ◌<◌, ℤ, pos, negsuc, ◌-ℤ◌, ◌*ℤ◌, ◌<ℤ◌, ◌≤ℤ◌, ap, sym, subst, ◌∙◌, arith}
use Rattle.std.proofs.lemmas.Int.{ints, by_lt_z}
use Rattle.std.proofs.Math.Nat.{mul-le-mul_left, mul-lt-mul_of_pos_left}
use borrow.Author.Differences.{product_is, at_most_in, below_in, le_out, lt_out}
use Rattle.tl_geom.specs.Plane.{IsBetween}
use Rattle.tl_geom.proofs.Polynomials.{num, ◌⊖◌, ◌⊗◌, same}

pub mono : (a b c : ℤ) → pos 0 ≤ℤ a → b ≤ℤ c → (a *ℤ b) ≤ℤ (a *ℤ c)
mono (pos n) b c h k =
    at_most_in (pos n *ℤ b) (pos n *ℤ c)
    (omega (arith, product_is (pos n) b, product_is (pos n) c, mul-le-mul_left n (le_out b c k)))
mono (negsuc n) b c h k = absurd (omega (arith, ints, h))

pub mono_lt : (a b c : ℤ) → pos 0 <ℤ a → b <ℤ c → (a *ℤ b) <ℤ (a *ℤ c)
mono_lt (pos n) b c h k =
    let above : 0 < n = omega (arith, ints, h) in
    below_in (pos n *ℤ b) (pos n *ℤ c)
    (omega (arith, product_is (pos n) b, product_is (pos n) c, mul-lt-mul_of_pos_left (lt_out b c k) above))
mono_lt (negsuc n) b c h k = absurd (omega (arith, ints, h))

pub cancel_le : (a b c : ℤ) → pos 0 <ℤ a → (a *ℤ b) ≤ℤ (a *ℤ c) → b ≤ℤ c
cancel_le a b c h k =
    by_lt_z c b (λ below. absurd (let m : (a *ℤ c) <ℤ (a *ℤ b) = mono_lt a c b h below in omega (arith, ints, m, k))) (λ e. e)

pub cancel_lt : (a b c : ℤ) → pos 0 ≤ℤ a → (a *ℤ b) <ℤ (a *ℤ c) → b <ℤ c
cancel_lt a b c h k =
    by_lt_z b c (λ e. e) (λ above. absurd (let m : (a *ℤ c) ≤ℤ (a *ℤ b) = mono a c b h above in omega (arith, ints, m, k)))

pub cancel : (a b c : ℤ) → pos 0 <ℤ a → a *ℤ b ≡ a *ℤ c → b ≡ c
cancel a b c h e =
    let f : b ≤ℤ c = cancel_le a b c h (omega (arith, ints, e)) in
    let g : c ≤ℤ b = cancel_le a c b h (omega (arith, ints, e)) in
    omega (arith, ints, f, g)

pub times_zero : (a : ℤ) → a *ℤ pos 0 ≡ pos 0
times_zero a = same (num a ⊗ num (pos 0)) (num (pos 0)) (omega arith)

pub product_at_least : (a b : ℤ) → pos 0 ≤ℤ a → pos 0 ≤ℤ b → pos 0 ≤ℤ (a *ℤ b)
product_at_least a b h k = let m : (a *ℤ pos 0) ≤ℤ (a *ℤ b) = mono a (pos 0) b h k in omega (arith, ints, m, times_zero a)

pub product_above : (a b : ℤ) → pos 0 <ℤ a → pos 0 <ℤ b → pos 0 <ℤ (a *ℤ b)
product_above a b h k = let m : (a *ℤ pos 0) <ℤ (a *ℤ b) = mono_lt a (pos 0) b h k in omega (arith, ints, m, times_zero a)

-- a number is below, at or above 0
pub sign : (z : ℤ) → (z <ℤ pos 0) ⊎ ((z ≡ pos 0) ⊎ (pos 0 <ℤ z))
sign z = by_lt_z z (pos 0) (λ h. inl h) (λ h. inr (by_lt_z (pos 0) z (λ k. inr k) (λ k. inl (omega (arith, ints, h, k)))))

pub negated : (a b : ℤ) → (pos 0 -ℤ a) *ℤ (pos 0 -ℤ b) ≡ a *ℤ b
negated a b = same ((num (pos 0) ⊖ num a) ⊗ (num (pos 0) ⊖ num b)) (num a ⊗ num b) (omega arith)

pub square_above : (a : ℤ) → a ≢ pos 0 → pos 0 <ℤ (a *ℤ a)
square_above a n =
    ⊎_elim (λ h. subst (λ z. pos 0 <ℤ z) (negated a a) (product_above (pos 0 -ℤ a) (pos 0 -ℤ a) (omega (arith, ints, h)) (omega (arith, ints, h))))
    (λ s. ⊎_elim (λ e. absurd (n e)) (λ h. product_above a a h h) s) (sign a)

pub square : (a : ℤ) → pos 0 ≤ℤ (a *ℤ a)
square a =
    by_lt_z a (pos 0) (λ h. subst (λ z. pos 0 ≤ℤ z) (negated a a) (product_at_least (pos 0 -ℤ a) (pos 0 -ℤ a) (omega (arith, ints, h)) (omega (arith, ints, h))))
    (λ h. product_at_least a a h h)

-- a factor that is not 0 may be cancelled where the product is 0
pub zero_product : (a b : ℤ) → a ≢ pos 0 → a *ℤ b ≡ pos 0 → b ≡ pos 0
zero_product a b n e =
    let p : (a *ℤ a) *ℤ b ≡ (a *ℤ a) *ℤ pos 0 = same (num a ⊗ num a ⊗ num b) (num a ⊗ (num a ⊗ num b)) (omega arith) ∙ ap (λ z. a *ℤ z) e ∙ times_zero a ∙ sym (times_zero (a *ℤ a)) in
    cancel (a *ℤ a) b (pos 0) (square_above a n) p

-- and where the product is 0 at least or above 0, the factor being above 0
pub at_least_of_product : (a b : ℤ) → pos 0 <ℤ a → pos 0 ≤ℤ (a *ℤ b) → pos 0 ≤ℤ b
at_least_of_product a b h k = cancel_le a (pos 0) b h (omega (arith, ints, times_zero a, k))

pub above_of_product : (a b : ℤ) → pos 0 ≤ℤ a → pos 0 <ℤ (a *ℤ b) → pos 0 <ℤ b
above_of_product a b h k = cancel_lt a (pos 0) b h (omega (arith, ints, times_zero a, k))

-- v lies between p and q exactly where (v - p) (q - v) is not below 0
pub between_product : (p q v : ℤ) → IsBetween p q v → pos 0 ≤ℤ ((v -ℤ p) *ℤ (q -ℤ v))
between_product p q v b =
    ⊎_elim (λ h. product_at_least (v -ℤ p) (q -ℤ v) (omega (arith, ints, h.0)) (omega (arith, ints, h.1)))
    (λ h. subst (λ z. pos 0 ≤ℤ z) (negated (v -ℤ p) (q -ℤ v)) (product_at_least (pos 0 -ℤ (v -ℤ p)) (pos 0 -ℤ (q -ℤ v)) (omega (arith, ints, h.1)) (omega (arith, ints, h.0))))
    b

-- where one factor is above 0 and the other below, the product is below 0
product_below : (a b : ℤ) → pos 0 <ℤ a → b <ℤ pos 0 → (a *ℤ b) <ℤ pos 0
product_below a b h k = let m : (a *ℤ b) <ℤ (a *ℤ pos 0) = mono_lt a b (pos 0) h k in omega (arith, ints, m, times_zero a)

pub product_below' : (a b : ℤ) → a <ℤ pos 0 → pos 0 <ℤ b → (a *ℤ b) <ℤ pos 0
product_below' a b h k =
    subst (λ z. z <ℤ pos 0) (negated a b) (let m : ((pos 0 -ℤ b) *ℤ (pos 0 -ℤ a)) ≡ (pos 0 -ℤ a) *ℤ (pos 0 -ℤ b) = same ((num (pos 0) ⊖ num b) ⊗ (num (pos 0) ⊖ num a)) ((num (pos 0) ⊖ num a) ⊗ (num (pos 0) ⊖ num b)) (omega arith) in
    product_below (pos 0 -ℤ a) (pos 0 -ℤ b) (omega (arith, ints, h)) (omega (arith, ints, k)))

pub product_between : (p q v : ℤ) → pos 0 ≤ℤ ((v -ℤ p) *ℤ (q -ℤ v)) → IsBetween p q v
product_between p q v h =
    by_lt_z v p
    (λ low. inr (by_lt_z v q (λ k. absurd (let m : ((v -ℤ p) *ℤ (q -ℤ v)) <ℤ pos 0 = product_below' (v -ℤ p) (q -ℤ v) (omega (arith, ints, low)) (omega (arith, ints, k)) in omega (arith, ints, m, h))) (λ k. k), omega (arith, ints, low)))
    (λ high. by_lt_z q v
    (λ k. by_lt_z p v (λ past. absurd (let m : ((v -ℤ p) *ℤ (q -ℤ v)) <ℤ pos 0 = product_below (v -ℤ p) (q -ℤ v) (omega (arith, ints, past)) (omega (arith, ints, k)) in omega (arith, ints, m, h))) (λ low. inr (omega (arith, ints, k), low)))
    (λ k. inl (high, k)))
