-- Where the lines of two segments that are not parallel cross: the shares of the two segments up to that place.
use Rattle.std.proofs.Common.{◌≡◌, ◌≢◌, ⊎_elim, ℤ, pos, ◌+ℤ◌, ◌-ℤ◌, ◌*ℤ◌, neg_ℤ, ◌<ℤ◌, ◌≤ℤ◌, ap, sym, subst, ◌∙◌, arith}
use Rattle.std.proofs.lemmas.Int.{ints, by_lt_z}
use Rattle.tl_geom.specs.declared.rational.Rational.{Rational}
use Rattle.tl_geom.specs.declared.segment.Segment.{Segment}
use Rattle.tl_geom.specs.Plane.{IsBetween, cross, step_cross}
use Rattle.tl_geom.specs.Contact.{IsShared}
use Rattle.tl_geom.specs.Keeping.Lines.{AreShares}
use Rattle.tl_geom.proofs.Polynomials.{num, ◌⊕◌, ◌⊖◌, ◌⊗◌, same, same_by, same_by_two}
use Rattle.tl_geom.proofs.Signs.{mono, mono_lt, cancel_le, times_zero, product_above}
use Rattle.tl_geom.proofs.Places.{some_step}

-- ---- a place on both lines: one through (ax, ay) with the step u, one through (px, py) with the step w

-- (X, Y) is how far the place is from the first line's point, and (E, D) how far that point is from the second line's
eliminated_x : (u v w z X Y E D : ℤ) → cross u v X Y ≡ pos 0 → cross w z (X +ℤ E) (Y +ℤ D) ≡ pos 0 → cross u v w z *ℤ X ≡ cross w z E D *ℤ u
eliminated_x u v w z X Y E D g f =
    same_by_two ((num u ⊗ num z ⊖ num v ⊗ num w) ⊗ num X) ((num w ⊗ num D ⊖ num z ⊗ num E) ⊗ num u)
    (num w) (num u ⊗ num Y ⊖ num v ⊗ num X) (num (pos 0)) (num u) (num (pos 0)) (num w ⊗ (num Y ⊕ num D) ⊖ num z ⊗ (num X ⊕ num E)) g (sym f) (omega arith)

eliminated_y : (u v w z X Y E D : ℤ) → cross u v X Y ≡ pos 0 → cross w z (X +ℤ E) (Y +ℤ D) ≡ pos 0 → cross u v w z *ℤ Y ≡ cross w z E D *ℤ v
eliminated_y u v w z X Y E D g f =
    same_by_two ((num u ⊗ num z ⊖ num v ⊗ num w) ⊗ num Y) ((num w ⊗ num D ⊖ num z ⊗ num E) ⊗ num v)
    (num z) (num u ⊗ num Y ⊖ num v ⊗ num X) (num (pos 0)) (num v) (num (pos 0)) (num w ⊗ (num Y ⊕ num D) ⊖ num z ⊗ (num X ⊕ num E)) g (sym f) (omega arith)

-- what the second line's point is told by, from what the first line's is told by
passed_x : (u v w z E D : ℤ) → cross u v w z *ℤ E +ℤ cross w z E D *ℤ u ≡ cross u v E D *ℤ w
passed_x u v w z E D =
    same ((num u ⊗ num z ⊖ num v ⊗ num w) ⊗ num E ⊕ (num w ⊗ num D ⊖ num z ⊗ num E) ⊗ num u) ((num u ⊗ num D ⊖ num v ⊗ num E) ⊗ num w) (omega arith)

passed_y : (u v w z E D : ℤ) → cross u v w z *ℤ D +ℤ cross w z E D *ℤ v ≡ cross u v E D *ℤ z
passed_y u v w z E D =
    same ((num u ⊗ num z ⊖ num v ⊗ num w) ⊗ num D ⊕ (num w ⊗ num D ⊖ num z ⊗ num E) ⊗ num v) ((num u ⊗ num D ⊖ num v ⊗ num E) ⊗ num z) (omega arith)

-- d times a step
times_step : (w z E D d u : ℤ) → cross w z (d *ℤ E) (d *ℤ D) *ℤ u ≡ d *ℤ (cross w z E D *ℤ u)
times_step w z E D d u = ap (λ k. k *ℤ u) (drawn_out w z E D d) ∙ associated d (cross w z E D) u
  where
    drawn_out : (w z E D d : ℤ) → cross w z (d *ℤ E) (d *ℤ D) ≡ d *ℤ cross w z E D
    drawn_out w z E D d = same (num w ⊗ (num d ⊗ num D) ⊖ num z ⊗ (num d ⊗ num E)) (num d ⊗ (num w ⊗ num D ⊖ num z ⊗ num E)) (omega arith)

    associated : (a b c : ℤ) → (a *ℤ b) *ℤ c ≡ a *ℤ (b *ℤ c)
    associated a b c = same (num a ⊗ num b ⊗ num c) (num a ⊗ (num b ⊗ num c)) (omega arith)

-- how far a place is from one point, by how far it is from another
by_way_of : (x d a p : ℤ) → x -ℤ d *ℤ p ≡ (x -ℤ d *ℤ a) +ℤ d *ℤ (a -ℤ p)
by_way_of x d a p = same (num x ⊖ num d ⊗ num p) ((num x ⊖ num d ⊗ num a) ⊕ num d ⊗ (num a ⊖ num p)) (omega arith)

times_sum : (c a b : ℤ) → c *ℤ (a +ℤ b) ≡ c *ℤ b +ℤ c *ℤ a
times_sum c a b = same (num c ⊗ (num a ⊕ num b)) (num c ⊗ num b ⊕ num c ⊗ num a) (omega arith)

-- the second equation, at the way from the first line's point
second_line : (wx wy ax ay px py x y d : ℤ) → cross wx wy (x -ℤ d *ℤ px) (y -ℤ d *ℤ py) ≡ pos 0 →
    cross wx wy ((x -ℤ d *ℤ ax) +ℤ d *ℤ (ax -ℤ px)) ((y -ℤ d *ℤ ay) +ℤ d *ℤ (ay -ℤ py)) ≡ pos 0
second_line wx wy ax ay px py x y d f =
    subst (λ k. cross wx wy k ((y -ℤ d *ℤ ay) +ℤ d *ℤ (ay -ℤ py)) ≡ pos 0) (by_way_of x d ax px)
    (subst (λ k. cross wx wy (x -ℤ d *ℤ px) k ≡ pos 0) (by_way_of y d ay py) f)

solved_x : (ux uy wx wy ax ay px py x y d : ℤ) → cross ux uy (x -ℤ d *ℤ ax) (y -ℤ d *ℤ ay) ≡ pos 0 → cross wx wy (x -ℤ d *ℤ px) (y -ℤ d *ℤ py) ≡ pos 0 →
    cross ux uy wx wy *ℤ (x -ℤ d *ℤ ax) ≡ d *ℤ (cross wx wy (ax -ℤ px) (ay -ℤ py) *ℤ ux)
solved_x ux uy wx wy ax ay px py x y d g f =
    eliminated_x ux uy wx wy (x -ℤ d *ℤ ax) (y -ℤ d *ℤ ay) (d *ℤ (ax -ℤ px)) (d *ℤ (ay -ℤ py)) g (second_line wx wy ax ay px py x y d f)
    ∙ times_step wx wy (ax -ℤ px) (ay -ℤ py) d ux

solved_y : (ux uy wx wy ax ay px py x y d : ℤ) → cross ux uy (x -ℤ d *ℤ ax) (y -ℤ d *ℤ ay) ≡ pos 0 → cross wx wy (x -ℤ d *ℤ px) (y -ℤ d *ℤ py) ≡ pos 0 →
    cross ux uy wx wy *ℤ (y -ℤ d *ℤ ay) ≡ d *ℤ (cross wx wy (ax -ℤ px) (ay -ℤ py) *ℤ uy)
solved_y ux uy wx wy ax ay px py x y d g f =
    eliminated_y ux uy wx wy (x -ℤ d *ℤ ax) (y -ℤ d *ℤ ay) (d *ℤ (ax -ℤ px)) (d *ℤ (ay -ℤ py)) g (second_line wx wy ax ay px py x y d f)
    ∙ times_step wx wy (ax -ℤ px) (ay -ℤ py) d uy

solved_x' : (ux uy wx wy ax ay px py x y d : ℤ) → cross ux uy (x -ℤ d *ℤ ax) (y -ℤ d *ℤ ay) ≡ pos 0 → cross wx wy (x -ℤ d *ℤ px) (y -ℤ d *ℤ py) ≡ pos 0 →
    cross ux uy wx wy *ℤ (x -ℤ d *ℤ px) ≡ d *ℤ (cross ux uy (ax -ℤ px) (ay -ℤ py) *ℤ wx)
solved_x' ux uy wx wy ax ay px py x y d g f =
    let E : ℤ = d *ℤ (ax -ℤ px) in
    let D : ℤ = d *ℤ (ay -ℤ py) in
    ap (λ k. cross ux uy wx wy *ℤ k) (by_way_of x d ax px) ∙ times_sum (cross ux uy wx wy) (x -ℤ d *ℤ ax) E
    ∙ ap (λ k. cross ux uy wx wy *ℤ E +ℤ k) (eliminated_x ux uy wx wy (x -ℤ d *ℤ ax) (y -ℤ d *ℤ ay) E D g (second_line wx wy ax ay px py x y d f))
    ∙ passed_x ux uy wx wy E D ∙ times_step ux uy (ax -ℤ px) (ay -ℤ py) d wx

solved_y' : (ux uy wx wy ax ay px py x y d : ℤ) → cross ux uy (x -ℤ d *ℤ ax) (y -ℤ d *ℤ ay) ≡ pos 0 → cross wx wy (x -ℤ d *ℤ px) (y -ℤ d *ℤ py) ≡ pos 0 →
    cross ux uy wx wy *ℤ (y -ℤ d *ℤ py) ≡ d *ℤ (cross ux uy (ax -ℤ px) (ay -ℤ py) *ℤ wy)
solved_y' ux uy wx wy ax ay px py x y d g f =
    let E : ℤ = d *ℤ (ax -ℤ px) in
    let D : ℤ = d *ℤ (ay -ℤ py) in
    ap (λ k. cross ux uy wx wy *ℤ k) (by_way_of y d ay py) ∙ times_sum (cross ux uy wx wy) (y -ℤ d *ℤ ay) D
    ∙ ap (λ k. cross ux uy wx wy *ℤ D +ℤ k) (eliminated_y ux uy wx wy (x -ℤ d *ℤ ax) (y -ℤ d *ℤ ay) E D g (second_line wx wy ax ay px py x y d f))
    ∙ passed_y ux uy wx wy E D ∙ times_step ux uy (ax -ℤ px) (ay -ℤ py) d wy

-- both shares lead to one place
moved_over : (c a p s t : ℤ) → c *ℤ (a -ℤ p) +ℤ s ≡ t → c *ℤ a +ℤ s ≡ c *ℤ p +ℤ t
moved_over c a p s t e =
    same_by (num c ⊗ num a ⊕ num s) (num c ⊗ num p ⊕ num t) (num (pos 1)) (num c ⊗ (num a ⊖ num p) ⊕ num s) (num t) e (omega arith)

joined_x : (ux uy wx wy ax ay px py : ℤ) →
    cross ux uy wx wy *ℤ ax +ℤ cross wx wy (ax -ℤ px) (ay -ℤ py) *ℤ ux ≡ cross ux uy wx wy *ℤ px +ℤ cross ux uy (ax -ℤ px) (ay -ℤ py) *ℤ wx
joined_x ux uy wx wy ax ay px py =
    moved_over (cross ux uy wx wy) ax px (cross wx wy (ax -ℤ px) (ay -ℤ py) *ℤ ux) (cross ux uy (ax -ℤ px) (ay -ℤ py) *ℤ wx) (passed_x ux uy wx wy (ax -ℤ px) (ay -ℤ py))

joined_y : (ux uy wx wy ax ay px py : ℤ) →
    cross ux uy wx wy *ℤ ay +ℤ cross wx wy (ax -ℤ px) (ay -ℤ py) *ℤ uy ≡ cross ux uy wx wy *ℤ py +ℤ cross ux uy (ax -ℤ px) (ay -ℤ py) *ℤ wy
joined_y ux uy wx wy ax ay px py =
    moved_over (cross ux uy wx wy) ay py (cross wx wy (ax -ℤ px) (ay -ℤ py) *ℤ uy) (cross ux uy (ax -ℤ px) (ay -ℤ py) *ℤ wy) (passed_y ux uy wx wy (ax -ℤ px) (ay -ℤ py))

-- ---- the shares, whichever sign the cross product of the directions has

opposite : (c v d o u : ℤ) → neg_ℤ c *ℤ v ≡ d *ℤ (neg_ℤ o *ℤ u) → c *ℤ v ≡ d *ℤ (o *ℤ u)
opposite c v d o u e =
    same_by (num c ⊗ num v) (num d ⊗ (num o ⊗ num u)) (num (pos 1)) (num d ⊗ ((num (pos 0) ⊖ num o) ⊗ num u)) ((num (pos 0) ⊖ num c) ⊗ num v)
    (sym (ap (λ z. z *ℤ v) (zero_less c) ∙ e ∙ ap (λ z. d *ℤ (z *ℤ u)) (sym (zero_less o)))) (omega arith)
  where
    zero_less : (z : ℤ) → pos 0 -ℤ z ≡ neg_ℤ z
    zero_less z = omega (arith, ints)

-- the equation of one coordinate, at any shares
turned : (s t : Segment) (d n m : ℤ) → AreShares s t d n m → (v w u : ℤ) →
    step_cross s.a s.b t.a t.b *ℤ v ≡ w *ℤ (step_cross t.a t.b t.a s.a *ℤ u) → d *ℤ v ≡ w *ℤ (n *ℤ u)
turned s t d n m h v w u e =
    ⊎_elim (λ k. ap (λ z. z *ℤ v) k.whole ∙ e ∙ ap (λ z. w *ℤ (z *ℤ u)) (sym k.first))
    (λ k. opposite d v w n u (ap (λ z. z *ℤ v) k.whole ∙ e ∙ ap (λ z. w *ℤ (z *ℤ u)) (sym k.first))) h.measured

turned' : (s t : Segment) (d n m : ℤ) → AreShares s t d n m → (v w u : ℤ) →
    step_cross s.a s.b t.a t.b *ℤ v ≡ w *ℤ (step_cross s.a s.b t.a s.a *ℤ u) → d *ℤ v ≡ w *ℤ (m *ℤ u)
turned' s t d n m h v w u e =
    ⊎_elim (λ k. ap (λ z. z *ℤ v) k.whole ∙ e ∙ ap (λ z. w *ℤ (z *ℤ u)) (sym k.second))
    (λ k. opposite d v w m u (ap (λ z. z *ℤ v) k.whole ∙ e ∙ ap (λ z. w *ℤ (z *ℤ u)) (sym k.second))) h.measured

pub first_x : (s t : Segment) (d n m : ℤ) → AreShares s t d n m → (r : Rational) → IsShared s t r → d *ℤ (r.x -ℤ r.d *ℤ s.a.x) ≡ r.d *ℤ (n *ℤ (s.b.x -ℤ s.a.x))
first_x s t d n m h r k =
    turned s t d n m h (r.x -ℤ r.d *ℤ s.a.x) r.d (s.b.x -ℤ s.a.x)
    (solved_x (s.b.x -ℤ s.a.x) (s.b.y -ℤ s.a.y) (t.b.x -ℤ t.a.x) (t.b.y -ℤ t.a.y) s.a.x s.a.y t.a.x t.a.y r.x r.y r.d k.on_first.straight k.on_second.straight)

pub first_y : (s t : Segment) (d n m : ℤ) → AreShares s t d n m → (r : Rational) → IsShared s t r → d *ℤ (r.y -ℤ r.d *ℤ s.a.y) ≡ r.d *ℤ (n *ℤ (s.b.y -ℤ s.a.y))
first_y s t d n m h r k =
    turned s t d n m h (r.y -ℤ r.d *ℤ s.a.y) r.d (s.b.y -ℤ s.a.y)
    (solved_y (s.b.x -ℤ s.a.x) (s.b.y -ℤ s.a.y) (t.b.x -ℤ t.a.x) (t.b.y -ℤ t.a.y) s.a.x s.a.y t.a.x t.a.y r.x r.y r.d k.on_first.straight k.on_second.straight)

pub second_x : (s t : Segment) (d n m : ℤ) → AreShares s t d n m → (r : Rational) → IsShared s t r → d *ℤ (r.x -ℤ r.d *ℤ t.a.x) ≡ r.d *ℤ (m *ℤ (t.b.x -ℤ t.a.x))
second_x s t d n m h r k =
    turned' s t d n m h (r.x -ℤ r.d *ℤ t.a.x) r.d (t.b.x -ℤ t.a.x)
    (solved_x' (s.b.x -ℤ s.a.x) (s.b.y -ℤ s.a.y) (t.b.x -ℤ t.a.x) (t.b.y -ℤ t.a.y) s.a.x s.a.y t.a.x t.a.y r.x r.y r.d k.on_first.straight k.on_second.straight)

pub second_y : (s t : Segment) (d n m : ℤ) → AreShares s t d n m → (r : Rational) → IsShared s t r → d *ℤ (r.y -ℤ r.d *ℤ t.a.y) ≡ r.d *ℤ (m *ℤ (t.b.y -ℤ t.a.y))
second_y s t d n m h r k =
    turned' s t d n m h (r.y -ℤ r.d *ℤ t.a.y) r.d (t.b.y -ℤ t.a.y)
    (solved_y' (s.b.x -ℤ s.a.x) (s.b.y -ℤ s.a.y) (t.b.x -ℤ t.a.x) (t.b.y -ℤ t.a.y) s.a.x s.a.y t.a.x t.a.y r.x r.y r.d k.on_first.straight k.on_second.straight)

opposite_sum : (c a n u p m w : ℤ) → neg_ℤ c *ℤ a +ℤ neg_ℤ n *ℤ u ≡ neg_ℤ c *ℤ p +ℤ neg_ℤ m *ℤ w → c *ℤ a +ℤ n *ℤ u ≡ c *ℤ p +ℤ m *ℤ w
opposite_sum c a n u p m w e =
    let z = num (pos 0) in
    let f : (pos 0 -ℤ c) *ℤ a +ℤ (pos 0 -ℤ n) *ℤ u ≡ (pos 0 -ℤ c) *ℤ p +ℤ (pos 0 -ℤ m) *ℤ w =
    ap (λ k. k *ℤ a +ℤ (pos 0 -ℤ n) *ℤ u) (zero_less c) ∙ ap (λ k. neg_ℤ c *ℤ a +ℤ k *ℤ u) (zero_less n) ∙ e ∙ ap (λ k. k *ℤ p +ℤ neg_ℤ m *ℤ w) (sym (zero_less c)) ∙ ap (λ k. (pos 0 -ℤ c) *ℤ p +ℤ k *ℤ w) (sym (zero_less m)) in
    same_by (num c ⊗ num a ⊕ num n ⊗ num u) (num c ⊗ num p ⊕ num m ⊗ num w) (num (pos 1))
    ((z ⊖ num c) ⊗ num p ⊕ (z ⊖ num m) ⊗ num w) ((z ⊖ num c) ⊗ num a ⊕ (z ⊖ num n) ⊗ num u) (sym f) (omega arith)
  where
    zero_less : (z : ℤ) → pos 0 -ℤ z ≡ neg_ℤ z
    zero_less z = omega (arith, ints)

pub one_place_x : (s t : Segment) (d n m : ℤ) → AreShares s t d n m → d *ℤ s.a.x +ℤ n *ℤ (s.b.x -ℤ s.a.x) ≡ d *ℤ t.a.x +ℤ m *ℤ (t.b.x -ℤ t.a.x)
one_place_x s t d n m h =
    let u : ℤ = s.b.x -ℤ s.a.x in
    let w : ℤ = t.b.x -ℤ t.a.x in
    let sum : _ = joined_x (s.b.x -ℤ s.a.x) (s.b.y -ℤ s.a.y) (t.b.x -ℤ t.a.x) (t.b.y -ℤ t.a.y) s.a.x s.a.y t.a.x t.a.y in
    ⊎_elim (λ k. subst (λ d. d *ℤ s.a.x +ℤ n *ℤ u ≡ d *ℤ t.a.x +ℤ m *ℤ w) (sym k.whole) (subst (λ n. step_cross s.a s.b t.a t.b *ℤ s.a.x +ℤ n *ℤ u ≡ step_cross s.a s.b t.a t.b *ℤ t.a.x +ℤ m *ℤ w) (sym k.first) (subst (λ m. step_cross s.a s.b t.a t.b *ℤ s.a.x +ℤ step_cross t.a t.b t.a s.a *ℤ u ≡ step_cross s.a s.b t.a t.b *ℤ t.a.x +ℤ m *ℤ w) (sym k.second) sum)))
    (λ k. opposite_sum d s.a.x n u t.a.x m w (subst (λ d. d *ℤ s.a.x +ℤ neg_ℤ n *ℤ u ≡ d *ℤ t.a.x +ℤ neg_ℤ m *ℤ w) (sym k.whole) (subst (λ n. step_cross s.a s.b t.a t.b *ℤ s.a.x +ℤ n *ℤ u ≡ step_cross s.a s.b t.a t.b *ℤ t.a.x +ℤ neg_ℤ m *ℤ w) (sym k.first) (subst (λ m. step_cross s.a s.b t.a t.b *ℤ s.a.x +ℤ step_cross t.a t.b t.a s.a *ℤ u ≡ step_cross s.a s.b t.a t.b *ℤ t.a.x +ℤ m *ℤ w) (sym k.second) sum))))
    h.measured

pub one_place_y : (s t : Segment) (d n m : ℤ) → AreShares s t d n m → d *ℤ s.a.y +ℤ n *ℤ (s.b.y -ℤ s.a.y) ≡ d *ℤ t.a.y +ℤ m *ℤ (t.b.y -ℤ t.a.y)
one_place_y s t d n m h =
    let u : ℤ = s.b.y -ℤ s.a.y in
    let w : ℤ = t.b.y -ℤ t.a.y in
    let sum : _ = joined_y (s.b.x -ℤ s.a.x) (s.b.y -ℤ s.a.y) (t.b.x -ℤ t.a.x) (t.b.y -ℤ t.a.y) s.a.x s.a.y t.a.x t.a.y in
    ⊎_elim (λ k. subst (λ d. d *ℤ s.a.y +ℤ n *ℤ u ≡ d *ℤ t.a.y +ℤ m *ℤ w) (sym k.whole) (subst (λ n. step_cross s.a s.b t.a t.b *ℤ s.a.y +ℤ n *ℤ u ≡ step_cross s.a s.b t.a t.b *ℤ t.a.y +ℤ m *ℤ w) (sym k.first) (subst (λ m. step_cross s.a s.b t.a t.b *ℤ s.a.y +ℤ step_cross t.a t.b t.a s.a *ℤ u ≡ step_cross s.a s.b t.a t.b *ℤ t.a.y +ℤ m *ℤ w) (sym k.second) sum)))
    (λ k. opposite_sum d s.a.y n u t.a.y m w (subst (λ d. d *ℤ s.a.y +ℤ neg_ℤ n *ℤ u ≡ d *ℤ t.a.y +ℤ neg_ℤ m *ℤ w) (sym k.whole) (subst (λ n. step_cross s.a s.b t.a t.b *ℤ s.a.y +ℤ n *ℤ u ≡ step_cross s.a s.b t.a t.b *ℤ t.a.y +ℤ neg_ℤ m *ℤ w) (sym k.first) (subst (λ m. step_cross s.a s.b t.a t.b *ℤ s.a.y +ℤ step_cross t.a t.b t.a s.a *ℤ u ≡ step_cross s.a s.b t.a t.b *ℤ t.a.y +ℤ m *ℤ w) (sym k.second) sum))))
    h.measured

-- ---- how much of a segment a shared point takes

-- upward: x over w lies from a to b, and is n of d parts along
share_up : (d w n v u : ℤ) → pos 0 <ℤ d → pos 0 <ℤ w → pos 0 <ℤ u → d *ℤ v ≡ w *ℤ (n *ℤ u) → pos 0 ≤ℤ v → v ≤ℤ (w *ℤ u) → (pos 0 ≤ℤ n) × (n ≤ℤ d)
share_up d w n v u hd hw hu e low high =
    let wu : pos 0 <ℤ (w *ℤ u) = product_above w u hw hu in
    let f : (w *ℤ u) *ℤ n ≡ d *ℤ v = same (num w ⊗ num u ⊗ num n) (num w ⊗ (num n ⊗ num u)) (omega arith) ∙ sym e in
    let p : (d *ℤ pos 0) ≤ℤ (d *ℤ v) = mono d (pos 0) v (omega (arith, ints, hd)) low in
    let q : (d *ℤ v) ≤ℤ (d *ℤ (w *ℤ u)) = mono d v (w *ℤ u) (omega (arith, ints, hd)) high in
    let g : d *ℤ (w *ℤ u) ≡ (w *ℤ u) *ℤ d = same (num d ⊗ (num w ⊗ num u)) (num w ⊗ num u ⊗ num d) (omega arith) in
    (cancel_le (w *ℤ u) (pos 0) n wu (omega (arith, ints, f, p, times_zero d, times_zero (w *ℤ u))), cancel_le (w *ℤ u) n d wu (omega (arith, ints, f, q, g)))

share_within : (d w n a b x : ℤ) → pos 0 <ℤ d → pos 0 <ℤ w → b -ℤ a ≢ pos 0 → d *ℤ (x -ℤ w *ℤ a) ≡ w *ℤ (n *ℤ (b -ℤ a)) → IsBetween (w *ℤ a) (w *ℤ b) x → (pos 0 ≤ℤ n) × (n ≤ℤ d)
share_within d w n a b x hd hw step e between =
    let across : w *ℤ (b -ℤ a) ≡ w *ℤ b -ℤ w *ℤ a = same (num w ⊗ (num b ⊖ num a)) (num w ⊗ num b ⊖ num w ⊗ num a) (omega arith) in
    let back : w *ℤ (a -ℤ b) ≡ w *ℤ a -ℤ w *ℤ b = same (num w ⊗ (num a ⊖ num b)) (num w ⊗ num a ⊖ num w ⊗ num b) (omega arith) in
    let e' : d *ℤ (w *ℤ a -ℤ x) ≡ w *ℤ (n *ℤ (a -ℤ b)) =
    same_by (num d ⊗ (num w ⊗ num a ⊖ num x)) (num w ⊗ (num n ⊗ (num a ⊖ num b))) (num (pos 1)) (num w ⊗ (num n ⊗ (num b ⊖ num a))) (num d ⊗ (num x ⊖ num w ⊗ num a)) (sym e) (omega arith) in
    ⊎_elim (λ k. by_lt_z (pos 0) (b -ℤ a)
    (λ up. share_up d w n (x -ℤ w *ℤ a) (b -ℤ a) hd hw up e (omega (arith, ints, k.0)) (omega (arith, ints, k.1, across)))
    (λ down. absurd (let m : (w *ℤ (b -ℤ a)) <ℤ (w *ℤ pos 0) = mono_lt w (b -ℤ a) (pos 0) hw (below_zero (b -ℤ a) down step) in omega (arith, ints, m, times_zero w, across, k.0, k.1))))
    (λ k. by_lt_z (pos 0) (a -ℤ b)
    (λ up. share_up d w n (w *ℤ a -ℤ x) (a -ℤ b) hd hw up e' (omega (arith, ints, k.1)) (omega (arith, ints, k.0, back)))
    (λ down. absurd (let m : (w *ℤ (a -ℤ b)) <ℤ (w *ℤ pos 0) = mono_lt w (a -ℤ b) (pos 0) hw (below_zero (a -ℤ b) down (λ z. step (omega (arith, ints, z)))) in omega (arith, ints, m, times_zero w, back, k.0, k.1))))
    between
  where
    below_zero : (z : ℤ) → z ≤ℤ pos 0 → z ≢ pos 0 → z <ℤ pos 0
    below_zero z h n = by_lt_z z (pos 0) (λ k. k) (λ k. absurd (n (omega (arith, ints, h, k))))

pub within_first : (s t : Segment) (d n m : ℤ) → AreShares s t d n m → (r : Rational) → IsShared s t r → (pos 0 ≤ℤ n) × (n ≤ℤ d)
within_first s t d n m h r k =
    ⊎_elim (λ step. share_within d r.d n s.a.x s.b.x r.x h.above_zero r.above_zero step (first_x s t d n m h r k) k.on_first.x_between)
    (λ step. share_within d r.d n s.a.y s.b.y r.y h.above_zero r.above_zero step.1 (first_y s t d n m h r k) k.on_first.y_between)
    (some_step s)

pub within_second : (s t : Segment) (d n m : ℤ) → AreShares s t d n m → (r : Rational) → IsShared s t r → (pos 0 ≤ℤ m) × (m ≤ℤ d)
within_second s t d n m h r k =
    ⊎_elim (λ step. share_within d r.d m t.a.x t.b.x r.x h.above_zero r.above_zero step (second_x s t d n m h r k) k.on_second.x_between)
    (λ step. share_within d r.d m t.a.y t.b.y r.y h.above_zero r.above_zero step.1 (second_y s t d n m h r k) k.on_second.y_between)
    (some_step t)
