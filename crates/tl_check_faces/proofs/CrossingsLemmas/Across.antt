-- What one segment adds at a point, told by the ray and by its ends.
use Rattle.std.proofs.Common.{◌≡◌, ◌⊎◌, inl, inr, ⊎_elim, ℤ, pos, neg_ℤ, ◌-ℤ◌, ◌*ℤ◌, ◌<ℤ◌, ◌≤ℤ◌, Bool, true, false, not, ◌&&◌, refl, ap, arith}
use Rattle.std.specs.Prelude.{int_lt}
use Rattle.std.proofs.lemmas.Bool.{false≢true}
use Rattle.std.proofs.lemmas.Int.{ints}
use Rattle.tl_geom.specs.declared.point.Point.{Point}
use Rattle.tl_geom.specs.declared.segment.Segment.{Segment}
use Rattle.tl_geom.specs.Plane.{turn_of, whole}
use Rattle.tl_geom.specs.Ray.{Crosses}
use Rattle.tl_geom.proofs.AtPoints.{parted_by}
use Rattle.tl_geom.proofs.Polynomials.{num, ◌⊖◌, ◌⊗◌, same}
use Rattle.tl_geom.proofs.Rays.{crossed_up, crossed_down}
use Rattle.tl_check_faces.specs.Crossings.Heights.{is_above}
use Rattle.tl_check_faces.specs.Crossings.Rings.{goes_up_across, crossing}
use Rattle.tl_check_faces.proofs.CrossingsLemmas.Telescoping.{bit}
use Rattle.tl_check_faces.proofs.CrossingsLemmas.AtHeight.{crosses_east, crosses_no_east}
use Rattle.tl_check_inside.proofs.Sides.{is_lt as int_lt-true, no_lt as int_lt-false}
use Rattle.tl_check_planar.proofs.ByHeight.Rising.{lt_of, le_of}

-- ---- upward and downward

-- what it is to go up across the ray
abbrev pub IsUpward : (q a b : Point) → Type 0
IsUpward q a b = (a.y ≤ℤ q.y) × (q.y <ℤ b.y) × (pos 0 <ℤ turn_of a b q)

pub upward_of : (q a b : Point) → goes_up_across q a b ≡ true → IsUpward q a b
upward_of q a b = go (is_above q.y a) (is_above q.y b) (int_lt (pos 0) (turn_of a b q)) refl refl refl
  where
    go : (s t u : Bool) → is_above q.y a ≡ s → is_above q.y b ≡ t → int_lt (pos 0) (turn_of a b q) ≡ u → not s && (t && u) ≡ true → IsUpward q a b
    go true t u e f g h = absurd (false≢true h)
    go false false u e f g h = absurd (false≢true h)
    go false true false e f g h = absurd (false≢true h)
    go false true true e f g h = (le_of q.y a.y e, lt_of q.y b.y f, lt_of (pos 0) (turn_of a b q) g)

pub upward_is : (q a b : Point) → IsUpward q a b → goes_up_across q a b ≡ true
upward_is q a b h = rw (int_lt-false q.y a.y h.0, int_lt-true q.y b.y h.1, int_lt-true (pos 0) (turn_of a b q) h.2) refl

pub not_upward : (q a b : Point) → ¬ IsUpward q a b → goes_up_across q a b ≡ false
not_upward q a b never = go (goes_up_across q a b) refl
  where
    go : (s : Bool) → goes_up_across q a b ≡ s → s ≡ false
    go true e = absurd (never (upward_of q a b e))
    go false e = refl

never_both : (q a b : Point) → IsUpward q a b → ¬ IsUpward q b a
never_both q a b h k = let low = h.0 in let high = k.1 in omega (arith, ints, low, high)

pub one_way : (q a b : Point) → goes_up_across q a b ≡ true → goes_up_across q b a ≡ false
one_way q a b e = not_upward q b a (never_both q a b (upward_of q a b e))

pub adds_one : (q a b : Point) → goes_up_across q a b ≡ true → crossing q a b ≡ pos 1
adds_one q a b e = rw e refl

pub takes_one : (q a b : Point) → goes_up_across q b a ≡ true → crossing q a b ≡ neg_ℤ (pos 1)
takes_one q a b e = rw (one_way q b a e, e) refl

pub adds_nothing : (q a b : Point) → goes_up_across q a b ≡ false → goes_up_across q b a ≡ false → crossing q a b ≡ pos 0
adds_nothing q a b e f = rw (e, f) refl

-- ---- by the ray

back_turn : (ax ay bx by qx qy : ℤ) → (ax -ℤ bx) *ℤ (qy -ℤ by) -ℤ (ay -ℤ by) *ℤ (qx -ℤ bx) ≡ pos 0 -ℤ ((bx -ℤ ax) *ℤ (qy -ℤ ay) -ℤ (by -ℤ ay) *ℤ (qx -ℤ ax))
back_turn ax ay bx by qx qy =
    let a = num ax in let b = num ay in let c = num bx in let d = num by in let x = num qx in let y = num qy in
    same ((a ⊖ c) ⊗ (y ⊖ d) ⊖ (b ⊖ d) ⊗ (x ⊖ c)) (num (pos 0) ⊖ ((c ⊖ a) ⊗ (y ⊖ b) ⊖ (d ⊖ b) ⊗ (x ⊖ a))) (omega arith)

pub turned_back : (a b q : Point) → turn_of b a q ≡ pos 0 -ℤ turn_of a b q
turned_back a b q = back_turn a.x a.y b.x b.y q.x q.y

module _ (s : Segment) (q : Point) where
  pub crossed_upward : IsUpward q s.a s.b → Crosses s (whole q)
  crossed_upward h = (crossed_up s q h.0 h.1).0 h.2

  pub crossed_downward : IsUpward q s.b s.a → Crosses s (whole q)
  crossed_downward h =
      let back : turn_of s.b s.a q ≡ pos 0 -ℤ turn_of s.a s.b q = turned_back s.a s.b q in
      let above = h.2 in
      (crossed_down s q h.0 h.1).0 (omega (arith, ints, back, above))

  pub crossed_either : Crosses s (whole q) → IsUpward q s.a s.b ⊎ IsUpward q s.b s.a
  crossed_either c =
      ⊎_elim
      (λ up. inl (up.0, up.1, (crossed_up s q up.0 up.1).1 c))
      (λ down.
      let back : turn_of s.b s.a q ≡ pos 0 -ℤ turn_of s.a s.b q = turned_back s.a s.b q in
      let below : turn_of s.a s.b q <ℤ pos 0 = (crossed_down s q down.0 down.1).1 c in
      inr (down.0, down.1, omega (arith, ints, back, below)))
      (parted_by q s.a s.b c.parted)

  -- a segment that the ray crosses adds 1 where it goes up, and -1 where it doesn't; any other adds 0
  pub crossed_up_adds : Crosses s (whole q) → s.a.y <ℤ s.b.y → crossing q s.a s.b ≡ pos 1
  crossed_up_adds c up =
      ⊎_elim
      (λ h. adds_one q s.a s.b (upward_is q s.a s.b h))
      (λ h. absurd (let low = h.0 in let high = h.1 in omega (arith, ints, up, low, high)))
      (crossed_either c)

  pub crossed_down_adds : Crosses s (whole q) → ¬ (s.a.y <ℤ s.b.y) → crossing q s.a s.b ≡ neg_ℤ (pos 1)
  crossed_down_adds c not_up =
      ⊎_elim
      (λ h. absurd (not_up (let low = h.0 in let high = h.1 in omega (arith, ints, low, high))))
      (λ h. takes_one q s.a s.b (upward_is q s.b s.a h))
      (crossed_either c)

  pub uncrossed_adds : ¬ Crosses s (whole q) → crossing q s.a s.b ≡ pos 0
  uncrossed_adds never =
      adds_nothing q s.a s.b
      (not_upward q s.a s.b (λ h. never (crossed_upward h)))
      (not_upward q s.b s.a (λ h. never (crossed_downward h)))

-- ---- by the ends

segment_of : (q a b : Point) → IsUpward q a b → (s : Segment) × (s.a ≡ a) × (s.b ≡ b)
segment_of q a b h =
    let low = h.0 in
    let high = h.1 in
    (record { a = a; b = b; different = λ e. let level : a.y ≡ b.y = ap (λ (p : Point). p.y) e in omega (arith, ints, low, high, level) }, refl, refl)

-- a segment that is west, south or north of the point adds nothing
module _ (q a b : Point) where
  pub east_adds : a.x <ℤ q.x → b.x <ℤ q.x → crossing q a b ≡ pos 0
  east_adds x y = adds_nothing q a b (not_upward q a b (never a b x y)) (not_upward q b a (never b a y x))
    where
      never : (c d : Point) → c.x <ℤ q.x → d.x <ℤ q.x → ¬ IsUpward q c d
      never c d e f h =
          let s = segment_of q c d h in
          crosses_no_east s.0 q (rw s.1 e) (rw s.2 f) (crossed_upward s.0 q (rw (s.1, s.2) h))

  pub south_adds : q.y <ℤ a.y → q.y <ℤ b.y → crossing q a b ≡ pos 0
  south_adds x y =
      adds_nothing q a b
      (not_upward q a b (λ h. let low = h.0 in omega (arith, ints, x, low)))
      (not_upward q b a (λ h. let low = h.0 in omega (arith, ints, y, low)))

  pub north_adds : a.y <ℤ q.y → b.y <ℤ q.y → crossing q a b ≡ pos 0
  north_adds x y =
      adds_nothing q a b
      (not_upward q a b (λ h. let high = h.1 in omega (arith, ints, y, high)))
      (not_upward q b a (λ h. let high = h.1 in omega (arith, ints, x, high)))

-- one that is east of it adds what is above its height at the one end less what is at the other
upward_east : (q a b : Point) → q.x <ℤ a.x → q.x <ℤ b.x → a.y ≤ℤ q.y → q.y <ℤ b.y → IsUpward q a b
upward_east q a b x y low high =
    let s : Segment = record { a = a; b = b; different = λ e. let level : a.y ≡ b.y = ap (λ (p : Point). p.y) e in omega (arith, ints, low, high, level) } in
    ⊎_elim (λ h. h) (λ h. absurd (let up = h.1 in omega (arith, ints, low, up))) (crossed_either s q (crosses_east s q (inl (low, high)) x y))

pub west_adds : (q a b : Point) → q.x <ℤ a.x → q.x <ℤ b.x → crossing q a b ≡ pos (bit (is_above q.y b)) -ℤ pos (bit (is_above q.y a))
west_adds q a b x y = go (is_above q.y a) (is_above q.y b) refl refl
  where
    go : (s t : Bool) → is_above q.y a ≡ s → is_above q.y b ≡ t → crossing q a b ≡ pos (bit t) -ℤ pos (bit s)
    go true true e f = south_adds q a b (lt_of q.y a.y e) (lt_of q.y b.y f)
    go false false e f =
        let low = le_of q.y a.y e in
        let below = le_of q.y b.y f in
        adds_nothing q a b
        (not_upward q a b (λ h. let high = h.1 in omega (arith, ints, below, high)))
        (not_upward q b a (λ h. let high = h.1 in omega (arith, ints, low, high)))
    go false true e f = adds_one q a b (upward_is q a b (upward_east q a b x y (le_of q.y a.y e) (lt_of q.y b.y f)))
    go true false e f = takes_one q a b (upward_is q b a (upward_east q b a y x (le_of q.y b.y f) (lt_of q.y a.y e)))
