-- The order of directions about a point. Each direction is in the first half of a turn from east, up to west, or in the
-- second; in one half the cross product tells which of two comes first.
--     weights       the directions of one half lie on one side of a line that is nearly level: how far they are from it
--                   weighs the cross products of three directions so that they add up
use Rattle.std.proofs.Common.{◌≡◌, ◌⊎◌, inl, inr, ⊎_elim, suc, ◌+◌, ℤ, pos, negsuc, ◌+ℤ◌, ◌-ℤ◌, ◌*ℤ◌, ◌<ℤ◌, ◌≤ℤ◌, unsigned_abs, ap, sym, subst, ◌∙◌, arith}
use Rattle.std.proofs.lemmas.Int.{ints}
use Rattle.tl_geom.specs.declared.direction.Direction.{Direction}
use Rattle.tl_geom.specs.Turning.{cross_of, dot_of, IsFirstHalf, IsSecondHalf}
use Rattle.tl_geom.proofs.Polynomials.{num, ◌⊕◌, ◌⊖◌, ◌⊗◌, same, same_by}
use Rattle.tl_geom.proofs.Signs.{mono, mono_lt, cancel_lt, product_above, above_of_product, square, square_above, times_zero, sign}

-- ---- the two halves

pub halves : (u : Direction) → IsFirstHalf u ⊎ IsSecondHalf u
halves u =
    ⊎_elim (λ down. inr (inl down))
    (λ s. ⊎_elim (λ level. ⊎_elim (λ west. inr (inr (level, west))) (λ s. ⊎_elim (λ none. absurd (u.nonzero none level)) (λ e. inl (inr (level, e))) s) (sign u.x)) (λ up. inl (inl up)) s)
    (sign u.y)

pub one_half : (u : Direction) → IsFirstHalf u → IsSecondHalf u → ⊥
one_half u f s =
    ⊎_elim (λ up. ⊎_elim (λ down. omega (arith, ints, up, down)) (λ k. omega (arith, ints, up, k.0)) s)
    (λ k. ⊎_elim (λ down. omega (arith, ints, k.0, down)) (λ l. omega (arith, ints, k.1, l.1)) s) f

-- ---- weights

-- how far a direction is above the line through (-k, 1)
abbrev pub height : ℤ → Direction → ℤ
height k u = u.x +ℤ k *ℤ u.y

-- k is above the x of the direction, whatever its sign
abbrev pub IsSteep : ℤ → Direction → Type 0
IsSteep k u = (u.x <ℤ k) × ((pos 0 -ℤ u.x) <ℤ k)

pub steep : (u v w : Direction) → (k : ℤ) × ((IsSteep k u × IsSteep k v) × IsSteep k w)
steep u v w = (
  pos (suc (unsigned_abs u.x + unsigned_abs v.x + unsigned_abs w.x)),
  (((omega (arith, ints), omega (arith, ints)), (omega (arith, ints), omega (arith, ints))), (omega (arith, ints), omega (arith, ints))),
)

pub first_above : (k : ℤ) (u : Direction) → IsSteep k u → IsFirstHalf u → pos 0 <ℤ height k u
first_above k u h =
    ⊎_elim (λ up. let m : (k *ℤ pos 1) ≤ℤ (k *ℤ u.y) = mono k (pos 1) u.y (omega (arith, ints, h.0, h.1)) (omega (arith, ints, up)) in
    let e : k *ℤ pos 1 ≡ k = same (num k ⊗ num (pos 1)) (num k) (omega arith) in
    omega (arith, ints, m, e, h.0, h.1))
    (λ l. let e : k *ℤ u.y ≡ pos 0 = ap (λ z. k *ℤ z) l.0 ∙ times_zero k in omega (arith, ints, e, l.1))

pub second_below : (k : ℤ) (u : Direction) → IsSteep k u → IsSecondHalf u → height k u <ℤ pos 0
second_below k u h =
    ⊎_elim (λ down. let m : (k *ℤ u.y) ≤ℤ (k *ℤ negsuc 0) = mono k u.y (negsuc 0) (omega (arith, ints, h.0, h.1)) (omega (arith, ints, down)) in
    let e : k *ℤ negsuc 0 ≡ pos 0 -ℤ k = same (num k ⊗ num (negsuc 0)) (num (pos 0) ⊖ num k) (omega arith) in
    omega (arith, ints, m, e, h.0, h.1))
    (λ l. let e : k *ℤ u.y ≡ pos 0 = ap (λ z. k *ℤ z) l.0 ∙ times_zero k in omega (arith, ints, e, l.1))

-- the cross products of three directions, weighed by the heights
pub weighed : (k : ℤ) (u v w : Direction) → cross_of u w *ℤ height k v ≡ cross_of v w *ℤ height k u +ℤ cross_of u v *ℤ height k w
weighed k u v w =
    let a = num u.x in let b = num u.y in let c = num v.x in let d = num v.y in let e = num w.x in let f = num w.y in let m = num k in
    same ((a ⊗ f ⊖ b ⊗ e) ⊗ (c ⊕ m ⊗ d)) ((c ⊗ f ⊖ d ⊗ e) ⊗ (a ⊕ m ⊗ b) ⊕ (a ⊗ d ⊖ b ⊗ c) ⊗ (e ⊕ m ⊗ f)) (omega arith)

-- the inner product of two parallel directions, weighed
leaning : (k : ℤ) (u w : Direction) → cross_of u w ≡ pos 0 → height k u *ℤ dot_of u w ≡ height k w *ℤ (u.x *ℤ u.x +ℤ u.y *ℤ u.y)
leaning k u w h =
    let a = num u.x in let b = num u.y in let e = num w.x in let f = num w.y in let m = num k in
    same_by ((a ⊕ m ⊗ b) ⊗ (a ⊗ e ⊕ b ⊗ f)) ((e ⊕ m ⊗ f) ⊗ (a ⊗ a ⊕ b ⊗ b)) (b ⊖ m ⊗ a) (a ⊗ f ⊖ b ⊗ e) (num (pos 0)) h (omega arith)

length_above : (u : Direction) → pos 0 <ℤ (u.x *ℤ u.x +ℤ u.y *ℤ u.y)
length_above u =
    let x : pos 0 ≤ℤ (u.x *ℤ u.x) = square u.x in
    let y : pos 0 ≤ℤ (u.y *ℤ u.y) = square u.y in
    ⊎_elim (λ h. let z : pos 0 <ℤ (u.x *ℤ u.x) = square_above u.x (λ e. absurd (omega (arith, ints, h, e))) in omega (arith, ints, z, y))
    (λ s. ⊎_elim (λ e. let z : pos 0 <ℤ (u.y *ℤ u.y) = square_above u.y (u.nonzero e) in omega (arith, ints, z, x))
    (λ h. let z : pos 0 <ℤ (u.x *ℤ u.x) = square_above u.x (λ e. absurd (omega (arith, ints, h, e))) in omega (arith, ints, z, y)) s)
    (sign u.x)

opposite_factor : (a b : ℤ) → (pos 0 -ℤ a) *ℤ b ≡ pos 0 -ℤ a *ℤ b
opposite_factor a b = same ((num (pos 0) ⊖ num a) ⊗ num b) (num (pos 0) ⊖ num a ⊗ num b) (omega arith)

-- parallel directions of one half are one direction, and of two halves are opposite
abbrev pub AreOneHalf : (u v : Direction) → Type 0
AreOneHalf u v = (IsFirstHalf u × IsFirstHalf v) ⊎ (IsSecondHalf u × IsSecondHalf v)

abbrev pub AreTwoHalves : (u v : Direction) → Type 0
AreTwoHalves u v = (IsFirstHalf u × IsSecondHalf v) ⊎ (IsSecondHalf u × IsFirstHalf v)

dot_one : (h g d n : ℤ) → h *ℤ d ≡ g *ℤ n → pos 0 <ℤ h → pos 0 <ℤ g → pos 0 <ℤ n → pos 0 <ℤ d
dot_one h g d n e hh hg hn = above_of_product h d (omega (arith, ints, hh)) (subst (λ z. pos 0 <ℤ z) (sym e) (product_above g n hg hn))

dot_two : (h g d n : ℤ) → h *ℤ d ≡ g *ℤ n → pos 0 <ℤ h → g <ℤ pos 0 → pos 0 <ℤ n → d <ℤ pos 0
dot_two h g d n e hh hg hn =
    let m : (n *ℤ g) <ℤ (n *ℤ pos 0) = mono_lt n g (pos 0) hn hg in
    let c : g *ℤ n ≡ n *ℤ g = same (num g ⊗ num n) (num n ⊗ num g) (omega arith) in
    cancel_lt h d (pos 0) (omega (arith, ints, hh)) (omega (arith, ints, e, c, m, times_zero n, times_zero h))

pub same_way : (u w : Direction) → AreOneHalf u w → cross_of u w ≡ pos 0 → pos 0 <ℤ dot_of u w
same_way u w one e =
    let s : (k : ℤ) × ((IsSteep k u × IsSteep k w) × IsSteep k w) = steep u w w in
    let k : ℤ = s.0 in
    let m : height k u *ℤ dot_of u w ≡ height k w *ℤ (u.x *ℤ u.x +ℤ u.y *ℤ u.y) = leaning k u w e in
    let o : (pos 0 -ℤ height k u) *ℤ dot_of u w ≡ (pos 0 -ℤ height k w) *ℤ (u.x *ℤ u.x +ℤ u.y *ℤ u.y) =
    opposite_factor (height k u) (dot_of u w) ∙ ap (λ z. pos 0 -ℤ z) m ∙ sym (opposite_factor (height k w) (u.x *ℤ u.x +ℤ u.y *ℤ u.y)) in
    ⊎_elim (λ f. dot_one (height k u) (height k w) (dot_of u w) (u.x *ℤ u.x +ℤ u.y *ℤ u.y) m (first_above k u s.1.0.0 f.0) (first_above k w s.1.0.1 f.1) (length_above u))
    (λ f. let a : height k u <ℤ pos 0 = second_below k u s.1.0.0 f.0 in
    let b : height k w <ℤ pos 0 = second_below k w s.1.0.1 f.1 in
    dot_one (pos 0 -ℤ height k u) (pos 0 -ℤ height k w) (dot_of u w) (u.x *ℤ u.x +ℤ u.y *ℤ u.y) o (omega (arith, ints, a)) (omega (arith, ints, b)) (length_above u)) one

pub other_way : (u w : Direction) → AreTwoHalves u w → cross_of u w ≡ pos 0 → dot_of u w <ℤ pos 0
other_way u w two e =
    let s : (k : ℤ) × ((IsSteep k u × IsSteep k w) × IsSteep k w) = steep u w w in
    let k : ℤ = s.0 in
    let m : height k u *ℤ dot_of u w ≡ height k w *ℤ (u.x *ℤ u.x +ℤ u.y *ℤ u.y) = leaning k u w e in
    let o : (pos 0 -ℤ height k u) *ℤ dot_of u w ≡ (pos 0 -ℤ height k w) *ℤ (u.x *ℤ u.x +ℤ u.y *ℤ u.y) =
    opposite_factor (height k u) (dot_of u w) ∙ ap (λ z. pos 0 -ℤ z) m ∙ sym (opposite_factor (height k w) (u.x *ℤ u.x +ℤ u.y *ℤ u.y)) in
    ⊎_elim (λ f. dot_two (height k u) (height k w) (dot_of u w) (u.x *ℤ u.x +ℤ u.y *ℤ u.y) m (first_above k u s.1.0.0 f.0) (second_below k w s.1.0.1 f.1) (length_above u))
    (λ f. let a : height k u <ℤ pos 0 = second_below k u s.1.0.0 f.0 in
    let b : pos 0 <ℤ height k w = first_above k w s.1.0.1 f.1 in
    dot_two (pos 0 -ℤ height k u) (pos 0 -ℤ height k w) (dot_of u w) (u.x *ℤ u.x +ℤ u.y *ℤ u.y) o (omega (arith, ints, a)) (omega (arith, ints, b)) (length_above u)) two
