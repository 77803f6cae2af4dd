-- The branches of a contact: by the sign of the cross product of the two directions.
use Rattle.std.proofs.Common.{◌≡◌, ◌≢◌, ◌<◌, ◌^◌, unsigned_abs, true, inl, inr, ⊎_elim, ℤ, pos, negsuc, ◌-ℤ◌, ◌*ℤ◌, neg_ℤ, ◌<ℤ◌, ◌≤ℤ◌, Option, Some, None, IfSome, IfNone, ap, sym, subst, ◌∙◌, arith}
use Rattle.std.proofs.lemmas.Int.{ints}
use lib.Signed.{lt_z}
use mir.Syntax.{w128}
use mir.Val.{to_z, of_z}
use Rattle.tl_geom.specs.declared.point.Point.{Point}
use Rattle.tl_geom.specs.declared.rational.Rational.{Rational}
use Rattle.tl_geom.specs.declared.segment.Segment.{Segment}
use Rattle.tl_geom.specs.declared.shared.Contact.{Contact}
use Rattle.tl_geom.specs.declared.shared.Contact.TheVariants.{Crossing}
use Rattle.tl_geom.specs.Plane.{cross, step_cross, whole, place_x, place_y}
use Rattle.tl_geom.specs.Contact.{AreApart, IsTouch, IsCrossing, IsContact}
use Rattle.tl_geom.specs.Keeping.Lines.{AreShares, AreCrosses, AreInLine, IsEndAt, IsInside}
use Rattle.tl_geom.proofs.Fitting.{read_back, above_zero, below_zero}
use Rattle.tl_geom.proofs.Polynomials.{num, ◌⊖◌, ◌⊗◌, same_by_two}
use Rattle.tl_geom.proofs.Signs.{zero_product}
use Rattle.tl_geom.proofs.Places.{some_step}
use Rattle.tl_geom.proofs.Overlaps.{parallel_x, parallel_y}
use Rattle.tl_geom.proofs.Crossings.{proper}

-- the ends as they were read, and the cross products of them
pub record AreRead (s t : Segment) (a b p q : Point) (d n m : ℤ) : Type 0 where
  pub first_a : a ≡ s.a
  pub first_b : b ≡ s.b
  pub second_a : p ≡ t.a
  pub second_b : q ≡ t.b
  pub whole : d ≡ step_cross a b p q
  pub first : n ≡ step_cross p q p a
  pub second : m ≡ step_cross a b p a

crosses : (s t : Segment) (a b p q : Point) (d n m : ℤ) → AreRead s t a b p q d n m → AreCrosses s t d n m
crosses s t a b p q d n m r =
    record {
      whole = r.whole ∙ ap (λ a. step_cross a b p q) r.first_a ∙ ap (λ b. step_cross s.a b p q) r.first_b ∙ ap (λ p. step_cross s.a s.b p q) r.second_a ∙ ap (λ q. step_cross s.a s.b t.a q) r.second_b;
      first = r.first ∙ ap (λ a. step_cross p q p a) r.first_a ∙ ap (λ p. step_cross p q p s.a) r.second_a ∙ ap (λ q. step_cross t.a q t.a s.a) r.second_b;
      second = r.second ∙ ap (λ a. step_cross a b p a) r.first_a ∙ ap (λ b. step_cross s.a b p s.a) r.first_b ∙ ap (λ p. step_cross s.a s.b p s.a) r.second_a;
    }

shares_up : (s t : Segment) (a b p q : Point) (d n m : ℤ) → AreRead s t a b p q d n m → pos 0 <ℤ d → AreShares s t d n m
shares_up s t a b p q d n m r h = record { above_zero = h; measured = inl (crosses s t a b p q d n m r) }

turned : (x y z : ℤ) → x ≡ neg_ℤ y → y ≡ z → neg_ℤ x ≡ z
turned x y z e f = omega (arith, ints, e, f)

shares_down : (s t : Segment) (a b p q : Point) (d n m d' n' m' : ℤ) → AreRead s t a b p q d n m → d <ℤ pos 0 → d' ≡ neg_ℤ d → n' ≡ neg_ℤ n → m' ≡ neg_ℤ m → AreShares s t d' n' m'
shares_down s t a b p q d n m d' n' m' r h e f g =
    let c : AreCrosses s t d n m = crosses s t a b p q d n m r in
    record {
      above_zero = omega (arith, ints, h, e);
      measured =
          inr (record {
            whole = turned d' d (step_cross s.a s.b t.a t.b) e c.whole;
            first = turned n' n (step_cross t.a t.b t.a s.a) f c.first;
            second = turned m' m (step_cross s.a s.b t.a s.a) g c.second;
          });
    }

-- the three cross products stay below 2 ^ 65, and so are the same where they are passed on
abbrev pub AreSmall : (d n m : ℤ) → Type 0
AreSmall d n m = (unsigned_abs d < 2 ^ 65) × (unsigned_abs n < 2 ^ 65) × (unsigned_abs m < 2 ^ 65)

passed_on : (s t : Segment) (d n m : ℤ) → AreSmall d n m → AreShares s t d n m → AreShares s t (to_z w128 (of_z w128 d)) (to_z w128 (of_z w128 n)) (to_z w128 (of_z w128 m))
passed_on s t d n m small h =
    subst (λ d. AreShares s t d (to_z w128 (of_z w128 n)) (to_z w128 (of_z w128 m))) (sym (read_back d small.0))
    (subst (λ n. AreShares s t d n (to_z w128 (of_z w128 m))) (sym (read_back n small.1)) (subst (λ m. AreShares s t d n m) (sym (read_back m small.2)) h))

pub shares_passed_up : (s t : Segment) (a b p q : Point) (d n m : ℤ) → AreRead s t a b p q d n m → AreSmall d n m → lt_z (pos 0) (to_z w128 (of_z w128 d)) ≡ true →
    AreShares s t (to_z w128 (of_z w128 d)) (to_z w128 (of_z w128 n)) (to_z w128 (of_z w128 m))
shares_passed_up s t a b p q d n m r small e = passed_on s t d n m small (shares_up s t a b p q d n m r (above_zero d small.0 e))

pub shares_passed_down : (s t : Segment) (a b p q : Point) (d n m d' n' m' : ℤ) → AreRead s t a b p q d n m → AreSmall d n m → AreSmall d' n' m' →
    lt_z (to_z w128 (of_z w128 d)) (pos 0) ≡ true → d' ≡ neg_ℤ (to_z w128 (of_z w128 d)) → n' ≡ neg_ℤ (to_z w128 (of_z w128 n)) → m' ≡ neg_ℤ (to_z w128 (of_z w128 m)) →
    AreShares s t (to_z w128 (of_z w128 d')) (to_z w128 (of_z w128 n')) (to_z w128 (of_z w128 m'))
shares_passed_down s t a b p q d n m d' n' m' r small small' h e f g =
    passed_on s t d' n' m' small'
    (shares_down s t a b p q d n m d' n' m' r (below_zero d small.0 h) (e ∙ ap neg_ℤ (read_back d small.0)) (f ∙ ap neg_ℤ (read_back n small.1)) (g ∙ ap neg_ℤ (read_back m small.2)))

pub in_line : (s t : Segment) (a b p q : Point) (d n m : ℤ) → AreRead s t a b p q d n m → d ≡ pos 0 → m ≡ pos 0 → AreInLine s t
in_line s t a b p q d n m r e f =
    let c : AreCrosses s t d n m = crosses s t a b p q d n m r in
    record { parallel = sym c.whole ∙ e; on_line = sym c.second ∙ f }

-- ---- parallel, on two lines

gap : (ux uy ax ay px py x y d : ℤ) → cross ux uy (x -ℤ d *ℤ ax) (y -ℤ d *ℤ ay) ≡ pos 0 → cross ux uy (x -ℤ d *ℤ px) (y -ℤ d *ℤ py) ≡ pos 0 → d *ℤ cross ux uy (ax -ℤ px) (ay -ℤ py) ≡ pos 0
gap ux uy ax ay px py x y d h k =
    let u = num ux in let v = num uy in let w = num d in
    same_by_two (w ⊗ (u ⊗ (num ay ⊖ num py) ⊖ v ⊗ (num ax ⊖ num px))) (num (pos 0)) (num (negsuc 0)) (u ⊗ (num y ⊖ w ⊗ num ay) ⊖ v ⊗ (num x ⊖ w ⊗ num ax)) (num (pos 0))
    (num (pos 1)) (u ⊗ (num y ⊖ w ⊗ num py) ⊖ v ⊗ (num x ⊖ w ⊗ num px)) (num (pos 0)) h k (omega arith)

pub beside : (s t : Segment) (a b p q : Point) (d n m : ℤ) → AreRead s t a b p q d n m → d ≡ pos 0 → m ≢ pos 0 → AreApart s t
beside s t a b p q d n m r e apart place shared =
    let c : AreCrosses s t d n m = crosses s t a b p q d n m r in
    let parallel : step_cross s.a s.b t.a t.b ≡ pos 0 = sym c.whole ∙ e in
    let proportion : (s.b.x -ℤ s.a.x) *ℤ (t.b.y -ℤ t.a.y) ≡ (s.b.y -ℤ s.a.y) *ℤ (t.b.x -ℤ t.a.x) = omega (arith, ints, parallel) in
    let along : cross (s.b.x -ℤ s.a.x) (s.b.y -ℤ s.a.y) (place.x -ℤ place.d *ℤ t.a.x) (place.y -ℤ place.d *ℤ t.a.y) ≡ pos 0 =
    ⊎_elim
    (λ step. parallel_x (s.b.x -ℤ s.a.x) (s.b.y -ℤ s.a.y) (t.b.x -ℤ t.a.x) (t.b.y -ℤ t.a.y) (place.x -ℤ place.d *ℤ t.a.x) (place.y -ℤ place.d *ℤ t.a.y) step proportion shared.on_second.straight)
    (λ step. parallel_y (s.b.x -ℤ s.a.x) (s.b.y -ℤ s.a.y) (t.b.x -ℤ t.a.x) (t.b.y -ℤ t.a.y) (place.x -ℤ place.d *ℤ t.a.x) (place.y -ℤ place.d *ℤ t.a.y) step.1 proportion shared.on_second.straight)
    (some_step t) in
    let none : place.d *ℤ step_cross s.a s.b t.a s.a ≡ pos 0 =
    gap (s.b.x -ℤ s.a.x) (s.b.y -ℤ s.a.y) s.a.x s.a.y t.a.x t.a.y place.x place.y place.d shared.on_first.straight along in
    let d_above : pos 0 <ℤ place.d = place.above_zero in
    apart (c.second ∙ zero_product place.d (step_cross s.a s.b t.a s.a) (λ z. absurd (omega (arith, ints, d_above, z))) none)

-- ---- a touch, as the rational point of an end

pub touch : (s t : Segment) (p : Point) (c : Contact) → c ≡ Crossing (whole p) → IsTouch s t (whole p) → IsContact s t c
touch s t p c e k = subst (λ c. IsContact s t c) (sym e) (inr (inl k))

-- ---- the answers for two ends, found or not, where the numbers were passed on

pub some_end : (s : Segment) (d n d' n' : ℤ) (o : Option Point) (p : Point) → d' ≡ d → n' ≡ n → IfSome o (IsEndAt s d' n') → o ≡ Some p → IsEndAt s d n p
some_end s d n d' n' o p e f k is =
    subst (λ d. IsEndAt s d n p) e (subst (λ n. IsEndAt s d' n p) f (let h : IfSome (Some p) (IsEndAt s d' n') = subst (λ o. IfSome o (IsEndAt s d' n')) is k in h))

pub no_end_found : (d n d' n' : ℤ) (o : Option Point) → d' ≡ d → n' ≡ n → IfNone o (IsInside d' n') → o ≡ None → IsInside d n
no_end_found d n d' n' o e f k is =
    subst (λ d. IsInside d n) e (subst (λ n. IsInside d' n) f (let none : Option Point = None in let h : IfNone none (IsInside d' n') = subst (λ o. IfNone o (IsInside d' n')) is k in h))

pub proper_at : (s t : Segment) (d n m : ℤ) (h : AreShares s t d n m) → pos 0 ≤ℤ n → n ≤ℤ d → pos 0 ≤ℤ m → m ≤ℤ d → IsInside d n → IsInside d m →
    (d' n' : ℤ) → d' ≡ d → n' ≡ n → (r : Rational) → r.x ≡ place_x s d' n' → r.y ≡ place_y s d' n' → r.d ≡ d' → IsCrossing s t r
proper_at s t d n m h low high low' high' inner inner' d' n' e f r x y z =
    inr (inr (proper s t d n m h low high low' high' inner.0 inner.1 inner'.0 inner'.1 r
    (x ∙ ap (λ d. place_x s d n') e ∙ ap (λ n. place_x s d n) f) (y ∙ ap (λ d. place_y s d n') e ∙ ap (λ n. place_y s d n) f) (z ∙ e)))
