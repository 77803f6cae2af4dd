-- Segments that face one another along a line within a slab are neighbours of the slab's list; the first of the list is the one that
-- faces nothing to the west, and the last the one that faces nothing to the east.
use Rattle.std.proofs.Common.{◌≡◌, inl, ⊎_elim, ℕ, ℤ, pos, ◌+ℤ◌, ◌-ℤ◌, ◌*ℤ◌, ◌<ℤ◌, List, [], ◌∷◌, ◌++◌, length, refl, sym, ap, subst, ◌∙◌, arith}
use Rattle.std.proofs.lemmas.Int.{ints}
use Rattle.tl_geom.specs.declared.rational.Rational.{Rational}
use Rattle.tl_geom.specs.declared.segment.Segment.{Segment}
use Rattle.tl_geom.specs.Plane.{IsOn}
use Rattle.tl_geom.proofs.Polynomials.{num, ◌⊕◌, ◌⊖◌, ◌⊗◌, same, same_by, same_by_two}
use Rattle.tl_geom.proofs.Signs.{cancel, above_of_product}
use Rattle.tl_map_county.specs.TheMap.{MapChain}
use Rattle.tl_map_county.specs.Segments.{segments_before}
use Rattle.tl_check_planar.specs.Planar.{IsPlanar}
use Rattle.tl_check_planar.specs.ByHeight.Heights.{height_of}
use Rattle.tl_check_planar.specs.ByHeight.Neighbours.{IsNumbered}
use Rattle.tl_check_planar.specs.ByHeight.Slabs.{IsListOf}
use Rattle.tl_check_planar.proofs.ByHeight.Numbered.{one_segment, on_same}
use Rattle.tl_check_faces.specs.Facing.{IsOff, IsStrictlyBetween, IsOnRay, IsClearBetween, IsClearFrom, step_x}
use Rattle.tl_check_faces.specs.Lists.{AreAllNear}
use Rattle.tl_check_faces.specs.Disagreements.{IsInSlab, HaveOneHeight}
use Rattle.tl_check_faces.proofs.Numbers.{le_lt, lt_le}
use Rattle.tl_check_faces.proofs.Lines.{AreLevel, IsWestward, level_with}
use Rattle.tl_check_faces.proofs.Items.{Item, IsLine, numbered, spanned_by, one_longitude}
use Rattle.tl_check_faces.proofs.Sorting.{Has, IsSorted, IsListed, IsFound, IsSplit, split, numbers, has_or, sorted_back}
use Rattle.tl_check_faces.proofs.Along.{item_of}
use Rattle.tl_check_faces.proofs.Neighbours.{on_line, items, items_are, listed, numbers-both, above_zero}

-- ---- places of one height: between two of them, and on the rays from one

between_x : (px pd bx bd qx qd : ℤ) →
    bx *ℤ ((qx *ℤ bd -ℤ bx *ℤ qd) *ℤ pd +ℤ (bx *ℤ pd -ℤ px *ℤ bd) *ℤ qd) ≡ ((qx *ℤ bd -ℤ bx *ℤ qd) *ℤ px +ℤ (bx *ℤ pd -ℤ px *ℤ bd) *ℤ qx) *ℤ bd
between_x px pd bx bd qx qd =
    let x = num px in let d = num pd in let y = num bx in let e = num bd in let z = num qx in let f = num qd in
    same (y ⊗ ((z ⊗ e ⊖ y ⊗ f) ⊗ d ⊕ (y ⊗ d ⊖ x ⊗ e) ⊗ f)) (((z ⊗ e ⊖ y ⊗ f) ⊗ x ⊕ (y ⊗ d ⊖ x ⊗ e) ⊗ z) ⊗ e) (omega arith)

-- by heights, h over the number of parts
heights_by : (K m n px py pd hb bd qx qy qd : ℤ) → (K *ℤ py -ℤ px) *ℤ bd ≡ hb *ℤ pd → (K *ℤ qy -ℤ qx) *ℤ bd ≡ hb *ℤ qd →
    K *ℤ ((m *ℤ py +ℤ n *ℤ qy) *ℤ bd) ≡ hb *ℤ (m *ℤ pd +ℤ n *ℤ qd) +ℤ (m *ℤ px +ℤ n *ℤ qx) *ℤ bd
heights_by K m n px py pd hb bd qx qy qd one other =
    let k = num K in let M = num m in let N = num n in let e = num bd in
    same_by_two (k ⊗ ((M ⊗ num py ⊕ N ⊗ num qy) ⊗ e)) (num hb ⊗ (M ⊗ num pd ⊕ N ⊗ num qd) ⊕ (M ⊗ num px ⊕ N ⊗ num qx) ⊗ e)
    M ((k ⊗ num py ⊖ num px) ⊗ e) (num hb ⊗ num pd) N ((k ⊗ num qy ⊖ num qx) ⊗ e) (num hb ⊗ num qd) one other (omega arith)

parts_of : (K y x d : ℤ) → (K *ℤ y -ℤ x) *ℤ d ≡ K *ℤ (y *ℤ d) -ℤ x *ℤ d
parts_of K y x d = same ((num K ⊗ num y ⊖ num x) ⊗ num d) (num K ⊗ (num y ⊗ num d) ⊖ num x ⊗ num d) (omega arith)

-- how much further north the one is, K times, is how much further east it is
lead : (K bx by bd px py pd : ℤ) → (K *ℤ by -ℤ bx) *ℤ pd ≡ (K *ℤ py -ℤ px) *ℤ bd → K *ℤ (by *ℤ pd -ℤ py *ℤ bd) ≡ bx *ℤ pd -ℤ px *ℤ bd
lead K bx by bd px py pd level =
    let k = num K in
    same_by (k ⊗ (num by ⊗ num pd ⊖ num py ⊗ num bd)) (num bx ⊗ num pd ⊖ num px ⊗ num bd) (num (pos 1))
    ((k ⊗ num by ⊖ num bx) ⊗ num pd) ((k ⊗ num py ⊖ num px) ⊗ num bd) level (omega arith)

ray_x : (K bx bd px pd n : ℤ) → K *ℤ n ≡ bx *ℤ pd -ℤ px *ℤ bd → bx *ℤ (bd *ℤ pd) ≡ (bd *ℤ px +ℤ n *ℤ K) *ℤ bd
ray_x K bx bd px pd n e =
    same_by (num bx ⊗ (num bd ⊗ num pd)) ((num bd ⊗ num px ⊕ num n ⊗ num K) ⊗ num bd)
    (num bd) (num bx ⊗ num pd ⊖ num px ⊗ num bd) (num K ⊗ num n) (sym e) (omega arith)

ray_x_west : (K bx bd px pd n : ℤ) → K *ℤ n ≡ px *ℤ bd -ℤ bx *ℤ pd → bx *ℤ (bd *ℤ pd) ≡ (bd *ℤ px +ℤ n *ℤ (pos 0 -ℤ K)) *ℤ bd
ray_x_west K bx bd px pd n e =
    same_by (num bx ⊗ (num bd ⊗ num pd)) ((num bd ⊗ num px ⊕ num n ⊗ (num (pos 0) ⊖ num K)) ⊗ num bd)
    (num bd) (num K ⊗ num n) (num px ⊗ num bd ⊖ num bx ⊗ num pd) e (omega arith)

ray_y : (by bd py pd : ℤ) → by *ℤ (bd *ℤ pd) ≡ (bd *ℤ py +ℤ (by *ℤ pd -ℤ py *ℤ bd) *ℤ pos 1) *ℤ bd
ray_y by bd py pd =
    same (num by ⊗ (num bd ⊗ num pd)) ((num bd ⊗ num py ⊕ (num by ⊗ num pd ⊖ num py ⊗ num bd) ⊗ num (pos 1)) ⊗ num bd) (omega arith)

ray_y_west : (by bd py pd : ℤ) → by *ℤ (bd *ℤ pd) ≡ (bd *ℤ py +ℤ (py *ℤ bd -ℤ by *ℤ pd) *ℤ (pos 0 -ℤ pos 1)) *ℤ bd
ray_y_west by bd py pd =
    same (num by ⊗ (num bd ⊗ num pd)) ((num bd ⊗ num py ⊕ (num py ⊗ num bd ⊖ num by ⊗ num pd) ⊗ (num (pos 0) ⊖ num (pos 1))) ⊗ num bd) (omega arith)

module _ (K : ℤ) (above : pos 0 <ℤ K) (p b : Rational) (level : AreLevel K b p) where
  between : (q : Rational) → AreLevel K b q → IsWestward p b → IsWestward b q → IsStrictlyBetween p q b
  between q level' west east = record {
    m = m;
    n = n;
    some_p = omega (arith, ints, east);
    some_q = omega (arith, ints, west);
    x = across;
    y = cancel K (b.y *ℤ (m *ℤ p.d +ℤ n *ℤ q.d)) ((m *ℤ p.y +ℤ n *ℤ q.y) *ℤ b.d) above
        (let all = heights_by K m n p.x p.y p.d (height_of K b) b.d q.x q.y q.d (sym level.is) (sym level'.is) in
        let parts = parts_of K b.y b.x (m *ℤ p.d +ℤ n *ℤ q.d) in
        let e = across in omega (arith, ints, all, parts, e));
  }
    where
      m : ℤ
      m = q.x *ℤ b.d -ℤ b.x *ℤ q.d

      n : ℤ
      n = b.x *ℤ p.d -ℤ p.x *ℤ b.d

      across : b.x *ℤ (m *ℤ p.d +ℤ n *ℤ q.d) ≡ (m *ℤ p.x +ℤ n *ℤ q.x) *ℤ b.d
      across = between_x p.x p.d b.x b.d q.x q.d

  on_east_ray : IsWestward p b → IsOnRay p K (pos 1) b
  on_east_ray west =
      let e = lead K b.x b.y b.d p.x p.y p.d level.is in
      record {
        m = b.d;
        n = b.y *ℤ p.d -ℤ p.y *ℤ b.d;
        some_m = b.above_zero;
        some_n = above_of_product K (b.y *ℤ p.d -ℤ p.y *ℤ b.d) (omega (arith, ints, above)) (omega (arith, ints, e, west));
        at_x = ray_x K b.x b.d p.x p.d (b.y *ℤ p.d -ℤ p.y *ℤ b.d) e;
        at_y = ray_y b.y b.d p.y p.d;
      }

  on_west_ray : IsWestward b p → IsOnRay p (pos 0 -ℤ K) (pos 0 -ℤ pos 1) b
  on_west_ray west =
      let e = lead K p.x p.y p.d b.x b.y b.d (sym level.is) in
      record {
        m = b.d;
        n = p.y *ℤ b.d -ℤ b.y *ℤ p.d;
        some_m = b.above_zero;
        some_n = above_of_product K (p.y *ℤ b.d -ℤ b.y *ℤ p.d) (omega (arith, ints, above)) (omega (arith, ints, e, west));
        at_x = ray_x_west K b.x b.d p.x p.d (p.y *ℤ b.d -ℤ b.y *ℤ p.d) e;
        at_y = ray_y_west b.y b.d p.y p.d;
      }

-- ---- on the line through a place of a segment

module _ (K : ℤ) (above : pos 0 <ℤ K) (chains : List MapChain) (near : AreAllNear K chains) (planar : IsPlanar chains) (n : ℤ)
    (list : List ℕ) (of : IsListOf K n chains list) (s : ℕ) (u : Segment) (is : IsNumbered chains s u)
    (p : Rational) (on : IsOn u p) (inside : IsInSlab K n p) where
  abbrev through : IsLine K chains p
  through = on_line K above chains near planar n p inside

  abbrev xs : List (Item K chains p)
  xs = items K above chains near planar n p inside list of.active

  are : numbers K chains p xs ≡ list
  are = items_are K above chains near planar n p inside list of.active

  all : IsListed K chains p (segments_before chains (length chains)) xs
  all = listed K above chains near planar n p inside list of xs are

  itself : AreLevel K p p
  itself = record { is = refl }

  -- the item of a segment stands at the place of the segment that has the line's height
  module _ (t : ℕ) (w : Segment) (is' : IsNumbered chains t w) (q : Rational) (on' : IsOn w q) (level : AreLevel K q p) where
    item_there : IsFound K chains p t xs
    item_there = item_of K chains p through xs all t w is' (spanned_by K chains p through t w is' q on' level)

    same_point : (y : Item K chains p) → t ≡ y.s → q.x *ℤ y.at.place.d ≡ y.at.place.x *ℤ q.d
    same_point y e =
        let own : IsNumbered chains t y.segment = subst (λ m. IsNumbered chains m y.segment) (sym e) (numbered K chains p y) in
        let here : IsOn y.segment q = on_same w y.segment q (one_segment chains t w y.segment is' own) on' in
        one_longitude K chains p through t y.segment own q y.at.place here y.at.on (level_with K q y.at.place p level y.at.level)

    -- what is west or east of the item is so of the place
    to_west : (y z : Item K chains p) → t ≡ y.s → IsWestward z.at.place y.at.place → IsWestward z.at.place q
    to_west y z e west =
        let a : Rational = z.at.place in let b : Rational = y.at.place in let f = same_point y e in
        lt_le a.x a.d b.x b.d q.x q.d a.above_zero b.above_zero q.above_zero west (omega (arith, ints, f))

    to_east : (y z : Item K chains p) → t ≡ y.s → IsWestward y.at.place z.at.place → IsWestward q z.at.place
    to_east y z e west =
        let a : Rational = z.at.place in let b : Rational = y.at.place in let f = same_point y e in
        le_lt q.x q.d b.x b.d a.x a.d q.above_zero b.above_zero a.above_zero (omega (arith, ints, f)) west

  own : IsFound K chains p s xs
  own = item_there s u is p on itself

  abbrev x : Item K chains p
  x = own.item

  parted : IsSplit K chains p x xs
  parted = split K chains p x xs all.sorted own.has

  -- the place of an item is on a chain
  never_off : (z : Item K chains p) → ¬ IsOff chains z.at.place
  never_off z off = off z.c z.chain z.is (z.k, record { segment = z.segment; from = z.from; to = z.to; on = z.at.on })

  list_is : list ≡ numbers K chains p parted.front ++ (s ∷ numbers K chains p parted.back)
  list_is =
      sym are ∙ ap (numbers K chains p) parted.are ∙ numbers-both K chains p parted.front (x ∷ parted.back)
      ∙ ap (λ i. numbers K chains p parted.front ++ (i ∷ numbers K chains p parted.back)) (sym own.is)

  -- nothing to the west
  pub is_first : IsClearFrom chains p (pos 0 -ℤ K) (pos 0 -ℤ pos 1) → (back : List ℕ) × (list ≡ s ∷ back)
  is_first clear = (
    numbers K chains p parted.back,
    list_is ∙ ap (λ l. numbers K chains p l ++ (s ∷ numbers K chains p parted.back)) (none parted.front parted.west),
  )
    where
      none : (front : List (Item K chains p)) → ((y : Item K chains p) → Has K chains p y front → IsWestward y.at.place x.at.place) → front ≡ []
      none [] west = refl
      none (z ∷ front) west =
          absurd (never_off z (clear z.at.place (on_west_ray K above p z.at.place z.at.level (to_west s u is p on itself x z own.is (west z (inl refl))))))

  -- nothing to the east
  pub is_last : IsClearFrom chains p K (pos 1) → (front : List ℕ) × (list ≡ front ++ (s ∷ []))
  is_last clear = (
    numbers K chains p parted.front,
    list_is ∙ ap (λ l. numbers K chains p parted.front ++ (s ∷ numbers K chains p l)) (none parted.back parted.east),
  )
    where
      none : (back : List (Item K chains p)) → ((y : Item K chains p) → Has K chains p y back → IsWestward x.at.place y.at.place) → back ≡ []
      none [] east = refl
      none (z ∷ back) east =
          absurd (never_off z (clear z.at.place (on_east_ray K above p z.at.place z.at.level (to_east s u is p on itself x z own.is (east z (inl refl))))))

  -- nothing between this segment and another one, east of it
  module _ (t : ℕ) (w : Segment) (is' : IsNumbered chains t w) (q : Rational) (on' : IsOn w q) (level : AreLevel K q p)
      (west : IsWestward p q) (clear : IsClearBetween chains p q) where
    other : IsFound K chains p t xs
    other = item_there t w is' q on' level

    abbrev y : Item K chains p
    y = other.item

    -- the other isn't this one, nor west of it
    not_here : ¬ (y ≡ x)
    not_here e =
        let here = same_point s u is p on itself x own.is in
        let there : q.x *ℤ x.at.place.d ≡ x.at.place.x *ℤ q.d =
        subst (λ (z : Item K chains p). q.x *ℤ z.at.place.d ≡ z.at.place.x *ℤ q.d) e (same_point t w is' q on' level y other.is) in
        let a : Rational = x.at.place in
        let less : (p.x *ℤ a.d) <ℤ (a.x *ℤ p.d) = lt_le p.x p.d q.x q.d a.x a.d p.above_zero q.above_zero a.above_zero west (omega (arith, ints, there)) in
        omega (arith, ints, less, here)

    not_west : ¬ IsWestward y.at.place x.at.place
    not_west back =
        let one : IsWestward y.at.place p = to_west s u is p on itself x y own.is back in
        let b : Rational = y.at.place in
        let two : (b.x *ℤ q.d) <ℤ (q.x *ℤ b.d) = le_lt b.x b.d p.x p.d q.x q.d b.above_zero p.above_zero q.above_zero (omega (arith, ints, one)) west in
        let same_there = same_point t w is' q on' level y other.is in
        omega (arith, ints, two, same_there)

    behind : Has K chains p y parted.back
    behind =
        ⊎_elim (λ before. absurd (not_west (parted.west y before)))
        (λ h. ⊎_elim (λ e. absurd (not_here e)) (λ later. later) h)
        (has_or K chains p y parted.front (x ∷ parted.back) (subst (Has K chains p y) parted.are other.has))

    sorted_behind : IsSorted K chains p parted.back
    sorted_behind = (sorted_back K chains p parted.front (x ∷ parted.back) (subst (IsSorted K chains p) parted.are all.sorted)).1

    -- it is the first behind this one
    next : (back : List (Item K chains p)) → ((z : Item K chains p) → Has K chains p z back → IsWestward x.at.place z.at.place) →
        IsSorted K chains p back → Has K chains p y back →
        (rest : List ℕ) × (numbers K chains p back ≡ t ∷ rest)
    next [] east sorted has = absurd has
    next (z ∷ back) east sorted has =
        ⊎_elim
        (λ e. (numbers K chains p back, ap (λ i. i ∷ numbers K chains p back) (ap (λ (v : Item K chains p). v.s) (sym e) ∙ sym other.is)))
        (λ later. absurd (
        let one : IsWestward p z.at.place = to_east s u is p on itself x z own.is (east z (inl refl)) in
        let two : IsWestward z.at.place q = to_west t w is' q on' level y z other.is (sorted.0 y later) in
        never_off z (clear z.at.place (between K above p z.at.place z.at.level q (level_with K z.at.place q p z.at.level level) one two))))
        has

    pub are_neighbours : (front : List ℕ) × (back : List ℕ) × (list ≡ front ++ (s ∷ (t ∷ back)))
    are_neighbours =
        let rest : (rest : List ℕ) × (numbers K chains p parted.back ≡ t ∷ rest) = next parted.back parted.east sorted_behind behind in
        (numbers K chains p parted.front, rest.0, list_is ∙ ap (λ l. numbers K chains p parted.front ++ (s ∷ l)) rest.1)

-- ---- at places of the segments within the slab

module _ (K n : ℤ) (chains : List MapChain) (list : List ℕ) (near : AreAllNear K chains) (planar : IsPlanar chains) (of : IsListOf K n chains list)
    (s : ℕ) (u : Segment) (is : IsNumbered chains s u) (p : Rational) (on : IsOn u p) (inside : IsInSlab K n p) where
  above : pos 0 <ℤ K
  above = above_zero K chains near s u is

  pub neighbours : (t : ℕ) (w : Segment) → IsNumbered chains t w → (q : Rational) → IsOn w q → HaveOneHeight K p q →
      pos 0 <ℤ step_x p q → IsClearBetween chains p q →
      (front : List ℕ) × (back : List ℕ) × (list ≡ front ++ (s ∷ (t ∷ back)))
  neighbours t w is' q on' level west clear =
      are_neighbours K above chains near planar n list of s u is p on inside t w is' q on' (record { is = sym level }) (omega (arith, ints, west)) clear

  pub first : IsClearFrom chains p (pos 0 -ℤ K) (pos 0 -ℤ pos 1) → (back : List ℕ) × (list ≡ s ∷ back)
  first clear = is_first K above chains near planar n list of s u is p on inside clear

  pub last : IsClearFrom chains p K (pos 1) → (front : List ℕ) × (list ≡ front ++ (s ∷ []))
  last clear = is_last K above chains near planar n list of s u is p on inside clear
