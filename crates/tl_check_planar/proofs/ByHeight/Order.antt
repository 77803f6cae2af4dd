-- Of two lines that rise: where one is west of the other at two heights, it is at each height between.
--     lean       the turn to a place, by heights
--     in_order       the order of the turns to a place, from that of the turns to a point below it and to one above it
--     west_between       and so where one is strictly west of the other
use Rattle.std.proofs.Common.{◌≡◌, ℤ, pos, ◌+ℤ◌, ◌-ℤ◌, ◌*ℤ◌, ◌<ℤ◌, ◌≤ℤ◌, ap₂, sym, subst, ◌∙◌, arith}
use Rattle.std.proofs.lemmas.Int.{ints, by_lt_z}
use Rattle.tl_geom.specs.declared.point.Point.{Point}
use Rattle.tl_geom.specs.declared.rational.Rational.{Rational}
use Rattle.tl_geom.specs.Plane.{whole, turn_of}
use Rattle.tl_geom.proofs.Polynomials.{num, ◌⊕◌, ◌⊖◌, ◌⊗◌, same}
use Rattle.tl_geom.proofs.Signs.{mono, product_at_least, product_above, at_least_of_product, above_of_product}
use Rattle.tl_check_planar.specs.ByHeight.Heights.{height, height_of, turn_at}

-- ---- how heights differ

pub rise : (K : ℤ) (p q : Point) → height K q -ℤ height K p ≡ K *ℤ (q.y -ℤ p.y) -ℤ (q.x -ℤ p.x)
rise K p q =
    let k = num K in
    same ((k ⊗ num q.y ⊖ num q.x) ⊖ (k ⊗ num p.y ⊖ num p.x)) (k ⊗ (num q.y ⊖ num p.y) ⊖ (num q.x ⊖ num p.x)) (omega arith)

pub rise_of : (K : ℤ) (p : Point) (r : Rational) → height_of K r -ℤ r.d *ℤ height K p ≡ K *ℤ (r.y -ℤ r.d *ℤ p.y) -ℤ (r.x -ℤ r.d *ℤ p.x)
rise_of K p r =
    let k = num K in let d = num r.d in
    same ((k ⊗ num r.y ⊖ num r.x) ⊖ d ⊗ (k ⊗ num p.y ⊖ num p.x)) (k ⊗ (num r.y ⊖ d ⊗ num p.y) ⊖ (num r.x ⊖ d ⊗ num p.x)) (omega arith)

lean_by : (K u v X Y : ℤ) → K *ℤ (u *ℤ Y -ℤ v *ℤ X) ≡ u *ℤ (K *ℤ Y -ℤ X) -ℤ (K *ℤ v -ℤ u) *ℤ X
lean_by K u v X Y =
    let k = num K in
    same (k ⊗ (num u ⊗ num Y ⊖ num v ⊗ num X)) (num u ⊗ (k ⊗ num Y ⊖ num X) ⊖ (k ⊗ num v ⊖ num u) ⊗ num X) (omega arith)

-- the turn to a place, by how much higher and how much further east it is than the first point
pub lean : (K : ℤ) (a b : Point) (r : Rational) →
    K *ℤ turn_at a b r ≡ (b.x -ℤ a.x) *ℤ (height_of K r -ℤ r.d *ℤ height K a) -ℤ (height K b -ℤ height K a) *ℤ (r.x -ℤ r.d *ℤ a.x)
lean K a b r =
    lean_by K (b.x -ℤ a.x) (b.y -ℤ a.y) (r.x -ℤ r.d *ℤ a.x) (r.y -ℤ r.d *ℤ a.y)
    ∙ ap₂ (λ g w. (b.x -ℤ a.x) *ℤ g -ℤ w *ℤ (r.x -ℤ r.d *ℤ a.x)) (sym (rise_of K a r)) (sym (rise K a b))

-- ---- the turn to a whole point

whole_by : (u v x y ax ay : ℤ) → u *ℤ (y -ℤ pos 1 *ℤ ay) -ℤ v *ℤ (x -ℤ pos 1 *ℤ ax) ≡ u *ℤ (y -ℤ ay) -ℤ v *ℤ (x -ℤ ax)
whole_by u v x y ax ay =
    let one = num (pos 1) in
    same (num u ⊗ (num y ⊖ one ⊗ num ay) ⊖ num v ⊗ (num x ⊖ one ⊗ num ax)) (num u ⊗ (num y ⊖ num ay) ⊖ num v ⊗ (num x ⊖ num ax)) (omega arith)

pub turn_whole : (a b p : Point) → turn_at a b (whole p) ≡ turn_of a b p
turn_whole a b p = whole_by (b.x -ℤ a.x) (b.y -ℤ a.y) p.x p.y a.x a.y

pub turn_first : (a b : Point) → turn_of a b a ≡ pos 0
turn_first a b =
    let ax = num a.x in let ay = num a.y in
    same ((num b.x ⊖ ax) ⊗ (ay ⊖ ay) ⊖ (num b.y ⊖ ay) ⊗ (ax ⊖ ax)) (num (pos 0)) (omega arith)

pub turn_last : (a b : Point) → turn_of a b b ≡ pos 0
turn_last a b =
    let ux = num b.x ⊖ num a.x in let uy = num b.y ⊖ num a.y in
    same (ux ⊗ uy ⊖ uy ⊗ ux) (num (pos 0)) (omega arith)

-- ---- a number that is linear in a height

mixed : (A B h d l m : ℤ) → (m -ℤ l) *ℤ (A *ℤ h +ℤ B *ℤ d) ≡ (d *ℤ m -ℤ h) *ℤ (A *ℤ l +ℤ B *ℤ pos 1) +ℤ (h -ℤ d *ℤ l) *ℤ (A *ℤ m +ℤ B *ℤ pos 1)
mixed A B h d l m =
    let a = num A in let b = num B in let k = num h in let e = num d in let p = num l in let q = num m in let one = num (pos 1) in
    same ((q ⊖ p) ⊗ (a ⊗ k ⊕ b ⊗ e)) ((e ⊗ q ⊖ k) ⊗ (a ⊗ p ⊕ b ⊗ one) ⊕ (k ⊖ e ⊗ p) ⊗ (a ⊗ q ⊕ b ⊗ one)) (omega arith)

drawn_out : (A B d l : ℤ) → A *ℤ (d *ℤ l) +ℤ B *ℤ d ≡ d *ℤ (A *ℤ l +ℤ B *ℤ pos 1)
drawn_out A B d l =
    let a = num A in let b = num B in let e = num d in let p = num l in
    same (a ⊗ (e ⊗ p) ⊕ b ⊗ e) (e ⊗ (a ⊗ p ⊕ b ⊗ num (pos 1))) (omega arith)

-- where it isn't below 0 at two heights, it isn't between them
linear : (A B h d l m : ℤ) → pos 0 <ℤ d → pos 0 ≤ℤ (A *ℤ l +ℤ B *ℤ pos 1) → pos 0 ≤ℤ (A *ℤ m +ℤ B *ℤ pos 1) → (d *ℤ l) ≤ℤ h → h ≤ℤ (d *ℤ m) → pos 0 ≤ℤ (A *ℤ h +ℤ B *ℤ d)
linear A B h d l m above low high from to =
    by_lt_z l m
    (λ lt.
    let first : pos 0 ≤ℤ ((d *ℤ m -ℤ h) *ℤ (A *ℤ l +ℤ B *ℤ pos 1)) = product_at_least (d *ℤ m -ℤ h) (A *ℤ l +ℤ B *ℤ pos 1) (omega (arith, ints, to)) low in
    let last : pos 0 ≤ℤ ((h -ℤ d *ℤ l) *ℤ (A *ℤ m +ℤ B *ℤ pos 1)) = product_at_least (h -ℤ d *ℤ l) (A *ℤ m +ℤ B *ℤ pos 1) (omega (arith, ints, from)) high in
    at_least_of_product (m -ℤ l) (A *ℤ h +ℤ B *ℤ d) (omega (arith, ints, lt)) (omega (arith, ints, mixed A B h d l m, first, last)))
    (λ le.
    let back : (d *ℤ m) ≤ℤ (d *ℤ l) = mono d m l (omega (arith, ints, above)) le in
    let is : d *ℤ l ≡ h = omega (arith, ints, back, from, to) in
    subst (λ z. pos 0 ≤ℤ (A *ℤ z +ℤ B *ℤ d)) is
    (subst (λ z. pos 0 ≤ℤ z) (sym (drawn_out A B d l)) (product_at_least d (A *ℤ l +ℤ B *ℤ pos 1) (omega (arith, ints, above)) low)))

-- where it is above 0 at two heights, it is between them
linear_above : (A B h d l m : ℤ) → pos 0 <ℤ d → pos 0 <ℤ (A *ℤ l +ℤ B *ℤ pos 1) → pos 0 <ℤ (A *ℤ m +ℤ B *ℤ pos 1) → (d *ℤ l) ≤ℤ h → h ≤ℤ (d *ℤ m) → pos 0 <ℤ (A *ℤ h +ℤ B *ℤ d)
linear_above A B h d l m above low high from to =
    by_lt_z (d *ℤ l) h
    (λ beyond.
    let rising : l <ℤ m = by_lt_z l m (λ lt. lt) (λ le. absurd (let back : (d *ℤ m) ≤ℤ (d *ℤ l) = mono d m l (omega (arith, ints, above)) le in omega (arith, ints, back, beyond, to))) in
    let first : pos 0 ≤ℤ ((d *ℤ m -ℤ h) *ℤ (A *ℤ l +ℤ B *ℤ pos 1)) = product_at_least (d *ℤ m -ℤ h) (A *ℤ l +ℤ B *ℤ pos 1) (omega (arith, ints, to)) (omega (arith, ints, low)) in
    let last : pos 0 <ℤ ((h -ℤ d *ℤ l) *ℤ (A *ℤ m +ℤ B *ℤ pos 1)) = product_above (h -ℤ d *ℤ l) (A *ℤ m +ℤ B *ℤ pos 1) (omega (arith, ints, beyond)) high in
    above_of_product (m -ℤ l) (A *ℤ h +ℤ B *ℤ d) (omega (arith, ints, rising)) (omega (arith, ints, mixed A B h d l m, first, last)))
    (λ le.
    let is : d *ℤ l ≡ h = omega (arith, ints, le, from) in
    subst (λ z. pos 0 <ℤ (A *ℤ z +ℤ B *ℤ d)) is
    (subst (λ z. pos 0 <ℤ z) (sym (drawn_out A B d l)) (product_above d (A *ℤ l +ℤ B *ℤ pos 1) above low)))

-- ---- two lines

pub joined : (U W u w ha hc ax cx h x d : ℤ) →
    U *ℤ (w *ℤ (h -ℤ d *ℤ hc) -ℤ W *ℤ (x -ℤ d *ℤ cx)) -ℤ W *ℤ (u *ℤ (h -ℤ d *ℤ ha) -ℤ U *ℤ (x -ℤ d *ℤ ax))
    ≡ (U *ℤ w -ℤ W *ℤ u) *ℤ h +ℤ (U *ℤ (W *ℤ cx -ℤ w *ℤ hc) -ℤ W *ℤ (U *ℤ ax -ℤ u *ℤ ha)) *ℤ d
joined U W u w ha hc ax cx h x d =
    let U' = num U in let W' = num W in let u' = num u in let w' = num w in let k = num h in let e = num d in
    same (U' ⊗ (w' ⊗ (k ⊖ e ⊗ num hc) ⊖ W' ⊗ (num x ⊖ e ⊗ num cx)) ⊖ W' ⊗ (u' ⊗ (k ⊖ e ⊗ num ha) ⊖ U' ⊗ (num x ⊖ e ⊗ num ax)))
    ((U' ⊗ w' ⊖ W' ⊗ u') ⊗ k ⊕ (U' ⊗ (W' ⊗ num cx ⊖ w' ⊗ num hc) ⊖ W' ⊗ (U' ⊗ num ax ⊖ u' ⊗ num ha)) ⊗ e) (omega arith)

pub factored : (K U W t v : ℤ) → K *ℤ (U *ℤ v -ℤ W *ℤ t) ≡ U *ℤ (K *ℤ v) -ℤ W *ℤ (K *ℤ t)
factored K U W t v =
    let k = num K in
    same (k ⊗ (num U ⊗ num v ⊖ num W ⊗ num t)) (num U ⊗ (k ⊗ num v) ⊖ num W ⊗ (k ⊗ num t)) (omega arith)

-- a line rises from a to b, and another from c to e
module _ (K : ℤ) (a b c e : Point) where
  -- how much each rises
  abbrev pub first_rise : ℤ
  first_rise = height K b -ℤ height K a

  abbrev pub last_rise : ℤ
  last_rise = height K e -ℤ height K c

  abbrev slope : ℤ
  slope = first_rise *ℤ (e.x -ℤ c.x) -ℤ last_rise *ℤ (b.x -ℤ a.x)

  abbrev start : ℤ
  start = first_rise *ℤ (last_rise *ℤ c.x -ℤ (e.x -ℤ c.x) *ℤ height K c) -ℤ last_rise *ℤ (first_rise *ℤ a.x -ℤ (b.x -ℤ a.x) *ℤ height K a)

  -- how far the first is west of the second, at the height of a place
  lead : (r : Rational) → K *ℤ (first_rise *ℤ turn_at c e r -ℤ last_rise *ℤ turn_at a b r) ≡ slope *ℤ height_of K r +ℤ start *ℤ r.d
  lead r =
      factored K first_rise last_rise (turn_at a b r) (turn_at c e r)
      ∙ ap₂ (λ s t. first_rise *ℤ t -ℤ last_rise *ℤ s) (lean K a b r) (lean K c e r)
      ∙ joined first_rise last_rise (b.x -ℤ a.x) (e.x -ℤ c.x) (height K a) (height K c) a.x c.x (height_of K r) r.x r.d

  -- the first isn't east of the second there
  abbrev pub AreInOrder : Rational → Type 0
  AreInOrder r = (last_rise *ℤ turn_at a b r) ≤ℤ (first_rise *ℤ turn_at c e r)

  -- the first is west of the second there
  abbrev pub IsWestAt : Rational → Type 0
  IsWestAt r = (last_rise *ℤ turn_at a b r) <ℤ (first_rise *ℤ turn_at c e r)

  module _ (above : pos 0 <ℤ K) where
    gap : (r : Rational) → AreInOrder r → pos 0 ≤ℤ (slope *ℤ height_of K r +ℤ start *ℤ r.d)
    gap r o =
        subst (λ z. pos 0 ≤ℤ z) (lead r)
        (product_at_least K (first_rise *ℤ turn_at c e r -ℤ last_rise *ℤ turn_at a b r) (omega (arith, ints, above)) (omega (arith, ints, o)))

    pub in_order : (p q : Point) (r : Rational) → AreInOrder (whole p) → AreInOrder (whole q) → (r.d *ℤ height K p) ≤ℤ height_of K r → height_of K r ≤ℤ (r.d *ℤ height K q) → AreInOrder r
    in_order p q r low high from to =
        let far : pos 0 ≤ℤ (slope *ℤ height_of K r +ℤ start *ℤ r.d) =
        linear slope start (height_of K r) r.d (height K p) (height K q) r.above_zero (gap (whole p) low) (gap (whole q) high) from to in
        let more : pos 0 ≤ℤ (first_rise *ℤ turn_at c e r -ℤ last_rise *ℤ turn_at a b r) =
        at_least_of_product K (first_rise *ℤ turn_at c e r -ℤ last_rise *ℤ turn_at a b r) above (subst (λ z. pos 0 ≤ℤ z) (sym (lead r)) far) in
        omega (arith, ints, more)

    gap_above : (r : Rational) → IsWestAt r → pos 0 <ℤ (slope *ℤ height_of K r +ℤ start *ℤ r.d)
    gap_above r o =
        subst (λ z. pos 0 <ℤ z) (lead r)
        (product_above K (first_rise *ℤ turn_at c e r -ℤ last_rise *ℤ turn_at a b r) above (omega (arith, ints, o)))

    pub west_between : (p q : Point) (r : Rational) → IsWestAt (whole p) → IsWestAt (whole q) → (r.d *ℤ height K p) ≤ℤ height_of K r → height_of K r ≤ℤ (r.d *ℤ height K q) → IsWestAt r
    west_between p q r low high from to =
        let far : pos 0 <ℤ (slope *ℤ height_of K r +ℤ start *ℤ r.d) =
        linear_above slope start (height_of K r) r.d (height K p) (height K q) r.above_zero (gap_above (whole p) low) (gap_above (whole q) high) from to in
        let more : pos 0 <ℤ (first_rise *ℤ turn_at c e r -ℤ last_rise *ℤ turn_at a b r) =
        above_of_product K (first_rise *ℤ turn_at c e r -ℤ last_rise *ℤ turn_at a b r) (omega (arith, ints, above)) (subst (λ z. pos 0 <ℤ z) (sym (lead r)) far) in
        omega (arith, ints, more)
