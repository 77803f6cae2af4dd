-- Each side of each segment names what lies there.
use Rattle.std.proofs.Common.{◌≡◌, ◌⊎◌, inl, inr, ⊎_elim, ℕ, ◌+◌, ℤ, pos, ◌+ℤ◌, ◌-ℤ◌, ◌*ℤ◌, ◌<ℤ◌, ◌≤ℤ◌, Bool, true, false, if◌then◌else◌, Some, List, ◌∷◌, ◌++◌, length, refl, sym, ap, subst, ◌∙◌, arith}
use Rattle.std.specs.Prelude.{int_lt, slice_get}
use Rattle.std.proofs.lemmas.Int.{ints, by_lt_z}
use Rattle.std.proofs.lemmas.Option.{slice_get_within}
use Rattle.tl_geom.specs.declared.point.Point.{Point}
use Rattle.tl_geom.specs.declared.rational.Rational.{Rational}
use Rattle.tl_geom.specs.declared.segment.Segment.{Segment}
use Rattle.tl_geom.specs.Plane.{IsSame, whole}
use Rattle.tl_geom.proofs.Signs.{product_above}
use Rattle.tl_map_county.specs.declared.sides.Side.{Side}
use Rattle.tl_map_county.specs.declared.sides.Side.TheVariants.{Outside}
use Rattle.tl_map_county.specs.TheMap.{MapChain}
use Rattle.tl_map_county.specs.Segments.{segments_before}
use Rattle.tl_tree_index.specs.Hits.{times}
use Rattle.tl_tree_index.proofs.Times.{same_or, times-same, times-other}
use Rattle.tl_check_planar.specs.Planar.{IsPlanar}
use Rattle.tl_check_planar.specs.Keeping.Apart.{one_found}
use Rattle.tl_check_planar.proofs.Numbering.{below_total, one_chain, HaveSameEnds}
use Rattle.tl_check_planar.specs.ByHeight.Heights.{height, low_end, high_end, turn_at}
use Rattle.tl_check_planar.specs.ByHeight.Neighbours.{IsNumbered}
use Rattle.tl_check_planar.proofs.ByHeight.Lying.{heights_of, turned}
use Rattle.tl_check_planar.proofs.ByHeight.Numbered.{one_segment, on_same}
use Rattle.tl_check_inside.specs.Inside.{IsCountAt}
use Rattle.tl_check_faces.specs.Facing.{IsOfChain, IsOff, IsStrictlyOn, step_y}
use Rattle.tl_check_faces.specs.Truth.{LiesAt, IsNearer, IsTrueAbout, AreSidesTrue, turn_about}
use Rattle.tl_check_faces.proofs.Numbers.{le_lt, lt_le}
use Rattle.tl_check_faces.proofs.Crossing.{IsEast}
use Rattle.tl_check_faces.proofs.Bounds.{AreBounded, IsSteep, some_bound, some_steepness}
use Rattle.tl_check_faces.proofs.Ends as chain_ends
use Rattle.tl_check_faces.proofs.Items.{Item, numbered, ends_of_item, spanned_by, one_longitude, IsLine, steep_line}
use Rattle.tl_check_faces.proofs.Sorting.{Has, IsListed, IsFound, IsSplit, split, numbers, times-both, no_times}
use Rattle.tl_check_faces.proofs.Toward.{near_side, far_side}
use Rattle.tl_check_faces.proofs.Along.{AreFacing, IsFacedOn, AreFaced, item_of}
use Rattle.tl_check_faces.proofs.Sums.{number_of, total, total-both, total_is, facing_back, AreSlanted, balance_is}
use Rattle.tl_check_faces.proofs.Alone.{no_end_within}
use Rattle.tl_check_faces.proofs.OnePolygon.{IsEastHit, IsWestHit, counted_by, east_slanted, west_slanted, turn, level_self, turn_east, turn_west, turn_same, AreWestward, AreEastward, east_item, west_item, east_number, west_number, east_of, west_of, IsListOf, are_hits, east_are_slanted, west_are_slanted, west_count, lies_by, no_end_off}
use Rattle.tl_check_faces.proofs.Others.{nearness, widest_of, east_hit_from, east_hit_to, west_hit_from, west_hit_to}
use Rattle.tl_check_faces.proofs.Own.{east_of_west_side, no_east_of_east_side, west_of_east_side, no_west_of_west_side}

-- ---- about a place strictly within the segment of an item

module _ (chains : List MapChain) (planar : IsPlanar chains) (faced : AreFaced chains) (n : ℕ) (bounded : AreBounded n chains) (K : ℤ) (r : Rational) (steep : IsSteep K chains r) (line : IsLine K chains r)
    (x : Item K chains r) (on : IsStrictlyOn x.segment r) (front back : List (Item K chains r)) (listed : IsListed K chains r (segments_before chains (length chains)) (front ++ (x ∷ back))) (along : AreFacing K chains r line Outside (front ++ (x ∷ back)))
    (west : AreWestward K chains r steep line front) (east : AreEastward K chains r steep line back) where
  abbrev near_of : Side
  near_of = near_side K chains r line x

  abbrev far_of : Side
  far_of = far_side K chains r line x

  own : IsNumbered chains x.s x.segment
  own = numbered K chains r x

  no_turn : turn K chains r steep line x ≡ pos 0
  no_turn = (heights_of K x.segment (low_end K x.segment) (high_end K x.segment) (ends_of_item K chains r line x) r on.on).0

  -- no other item has its number
  other_number : (y : Item K chains r) → (turn K chains r steep line y <ℤ pos 0) ⊎ (pos 0 <ℤ turn K chains r steep line y) → ¬ (x.s ≡ y.s)
  other_number y which e =
      let same : turn K chains r steep line y ≡ turn K chains r steep line x = turn_same K chains r steep line y x.segment (subst (λ k. IsNumbered chains k x.segment) e own) in
      let zero = no_turn in
      ⊎_elim (λ h. omega (arith, ints, h, same, zero)) (λ h. omega (arith, ints, h, same, zero)) which

  -- ---- what the two parts count

  module _ (S : Side → Bool) (none : S Outside ≡ false) where
    back_total : total K chains r line S back ≡ number_of (S far_of)
    back_total =
        let behind : (side : Side) × AreFacing K chains r line side (x ∷ back) = facing_back K chains r line S none Outside front (x ∷ back) along in
        total_is K chains r line S none far_of back behind.1.1

    front_total : total K chains r line S front ≡ pos 0 -ℤ number_of (S near_of)
    front_total =
        let whole = total_is K chains r line S none Outside (front ++ (x ∷ back)) along in
        let zero : number_of (S Outside) ≡ pos 0 = ap number_of none in
        let both = total-both K chains r line S front (x ∷ back) in
        let last = back_total in
        omega (arith, ints, whole, zero, both, last)

  -- ---- of hits that are, but for the segment itself, the one part

  module _ (hit : ℕ → Type 0) (part : List (Item K chains r)) (once : (t : ℕ) → ¬ (x.s ≡ t) → hit t → times t (numbers K chains r part) ≡ 1) (hits : (y : Item K chains r) → Has K chains r y part → hit y.s)
      (differ : (y : Item K chains r) → Has K chains r y part → ¬ (x.s ≡ y.s)) where
    with_own : hit x.s → IsListOf K chains r steep line hit (x ∷ part)
    with_own own_hit = record {
      once = λ t h. same_or t x.s
          (λ e.
          let none : times t (numbers K chains r part) ≡ 0 = no_times K chains r t part (λ y has f. differ y has (sym e ∙ f)) in
          let one = times-same t x.s (numbers K chains r part) e in
          omega (arith, none, one))
          (λ ne. times-other t x.s (numbers K chains r part) ne ∙ once t (λ e. ne (sym e)) h);
      hits = λ y has. ⊎_elim (λ e. subst (λ (w : Item K chains r). hit w.s) (sym e) own_hit) (λ later. hits y later) has;
    }

    without_own : ¬ hit x.s → IsListOf K chains r steep line hit part
    without_own out = record {
      once = λ t h. once t (λ e. out (subst hit (sym e) h)) h;
      hits = hits;
    }

  times_three : (t : ℕ) (u : Segment) → IsNumbered chains t u → ¬ (x.s ≡ t) → times t (numbers K chains r (front ++ (x ∷ back))) ≡ 1 → times t (numbers K chains r front) + times t (numbers K chains r back) ≡ 1
  times_three t u is ne one =
      let both = times-both K chains r t front (x ∷ back) in
      let less = times-other t x.s (numbers K chains r back) (λ e. ne (sym e)) in
      omega (arith, one, both, less)

  module _ (q : Rational) (near : IsNearer (nearness r n) r q) (off : IsOff chains q) where
    abbrev own_turn : ℤ
    own_turn = turn_at (low_end K x.segment) (high_end K x.segment) q

    -- ---- where q isn't south of r, by the ray to the east

    module _ (north : pos 0 ≤ℤ step_y r q) where
      east_once : (t : ℕ) → ¬ (x.s ≡ t) → IsEastHit chains q t → times t (numbers K chains r back) ≡ 1
      east_once t ne h =
          let k : IsEastHit chains r t = east_hit_from chains planar n bounded K r steep x.s x.segment own on q near north t ne h in
          let lt = below_total chains t k.is.c k.is.k k.is.number in
          let all_once = listed.once t k.segment lt k.is (east_of K chains r steep line t k.segment k.is k.east).0 in
          let three = times_three t k.segment k.is ne all_once in
          let none : times t (numbers K chains r front) ≡ 0 = no_times K chains r t front (λ y has e.
          let less = west y has in
          let more = east_number K chains r steep line y (subst (IsEastHit chains r) e k) in
          omega (arith, ints, less, more)) in
          omega (arith, three, none)

      east_hits : (y : Item K chains r) → Has K chains r y back → IsEastHit chains q y.s
      east_hits y has =
          east_hit_to chains planar n bounded K r steep x.s x.segment own on q near north y.s (other_number y (inr (east y has)))
          (record { segment = y.segment; is = numbered K chains r y; east = east_item K chains r steep line y (east y has) })

      differ : (y : Item K chains r) → Has K chains r y back → ¬ (x.s ≡ y.s)
      differ y has = other_number y (inr (east y has))

      by_list : (S : Side → Bool) (side : Side) (xs : List (Item K chains r)) → IsListOf K chains r steep line (IsEastHit chains q) xs → AreSlanted K chains r line S xs → total K chains r line S xs ≡ number_of (S side) → IsCountAt chains q S (number_of (S side))
      by_list S side xs are slanted is =
          counted_by chains q S (number_of (S side)) (numbers K chains r xs) (are_hits K chains r steep line (IsEastHit chains q) xs are) (sym (balance_is K chains r line S xs slanted ∙ is))

      north_west : pos 0 <ℤ own_turn → (S : Side → Bool) → S Outside ≡ false → IsCountAt chains q S (number_of (S near_of))
      north_west t S none =
          let h : IsEastHit chains q x.s = east_of_west_side chains n K r steep x.s x.segment own x.spanned no_turn q near north t in
          let h' : IsEast h.segment q = h.east in
          by_list S near_of (x ∷ back) (with_own (IsEastHit chains q) back east_once east_hits differ h) (slanted h)
          (let last = back_total S none in omega (arith, ints, last))
        where
          slanted : IsEastHit chains q x.s → AreSlanted K chains r line S (x ∷ back)
          slanted h y has = ⊎_elim
              (λ e. subst (λ (w : Item K chains r). (w.segment.a.y <ℤ w.segment.b.y) ⊎ (w.segment.b.y <ℤ w.segment.a.y)) (sym e) (own_slanted (one_segment chains x.s h.segment x.segment h.is own) (east_slanted h.segment q h.east)))
              (λ later. east_are_slanted K chains r steep line S back east y later) has
            where
              own_slanted : HaveSameEnds h.segment x.segment → (h.segment.a.y <ℤ h.segment.b.y) ⊎ (h.segment.b.y <ℤ h.segment.a.y) → (x.segment.a.y <ℤ x.segment.b.y) ⊎ (x.segment.b.y <ℤ x.segment.a.y)
              own_slanted e = subst (λ (z : Point). (z.y <ℤ h.segment.b.y) ⊎ (h.segment.b.y <ℤ z.y) → (x.segment.a.y <ℤ x.segment.b.y) ⊎ (x.segment.b.y <ℤ x.segment.a.y)) (sym e.first)
                  (subst (λ (z : Point). (x.segment.a.y <ℤ z.y) ⊎ (z.y <ℤ x.segment.a.y) → (x.segment.a.y <ℤ x.segment.b.y) ⊎ (x.segment.b.y <ℤ x.segment.a.y)) (sym e.last) (λ k. k))

      north_east : own_turn <ℤ pos 0 → (S : Side → Bool) → S Outside ≡ false → IsCountAt chains q S (number_of (S far_of))
      north_east t S none =
          by_list S far_of back
          (without_own (IsEastHit chains q) back east_once east_hits differ (no_east_of_east_side chains n K r steep x.s x.segment own x.spanned no_turn q near t))
          (east_are_slanted K chains r steep line S back east) (back_total S none)

    -- ---- where it is south of r, by the ray to the west

    module _ (south : step_y r q <ℤ pos 0) where
      west_once : (t : ℕ) → ¬ (x.s ≡ t) → IsWestHit chains q t → times t (numbers K chains r front) ≡ 1
      west_once t ne h =
          let k : IsWestHit chains r t = west_hit_from chains planar n bounded K r steep x.s x.segment own on q near south t ne h in
          let lt = below_total chains t k.is.c k.is.k k.is.number in
          let all_once = listed.once t k.segment lt k.is (west_of K chains r steep line t k.segment k.is k.west).0 in
          let three = times_three t k.segment k.is ne all_once in
          let none : times t (numbers K chains r back) ≡ 0 = no_times K chains r t back (λ y has e.
          let more = east y has in
          let less = west_number K chains r steep line y (subst (IsWestHit chains r) e k) in
          omega (arith, ints, less, more)) in
          omega (arith, three, none)

      west_hits : (y : Item K chains r) → Has K chains r y front → IsWestHit chains q y.s
      west_hits y has =
          west_hit_to chains planar n bounded K r steep x.s x.segment own on q near south y.s (other_number y (inl (west y has)))
          (record { segment = y.segment; is = numbered K chains r y; west = west_item K chains r steep line y (west y has) })

      west_differ : (y : Item K chains r) → Has K chains r y front → ¬ (x.s ≡ y.s)
      west_differ y has = other_number y (inl (west y has))

      by_west : (S : Side → Bool) (side : Side) (xs : List (Item K chains r)) → S Outside ≡ false → IsListOf K chains r steep line (IsWestHit chains q) xs → AreSlanted K chains r line S xs → total K chains r line S xs ≡ pos 0 -ℤ number_of (S side) → IsCountAt chains q S (number_of (S side))
      by_west S side xs none are slanted is =
          let k : (L : ℤ) × IsSteep L chains q = some_steepness chains q in
          let balanced = balance_is K chains r line S xs slanted in
          west_count k.0 chains q k.1 (steep_line k.0 chains q k.1 (no_end_off chains q off)) faced off S (number_of (S side)) (numbers K chains r xs) none (are_hits K chains r steep line (IsWestHit chains q) xs are)
          (omega (arith, ints, balanced, is))

      south_west : pos 0 <ℤ own_turn → (S : Side → Bool) → S Outside ≡ false → IsCountAt chains q S (number_of (S near_of))
      south_west t S none =
          by_west S near_of front none
          (without_own (IsWestHit chains q) front west_once west_hits west_differ (no_west_of_west_side chains n K r steep x.s x.segment own x.spanned no_turn q near t))
          (west_are_slanted K chains r steep line S front west) (front_total S none)

      south_east : own_turn <ℤ pos 0 → (S : Side → Bool) → S Outside ≡ false → IsCountAt chains q S (number_of (S far_of))
      south_east t S none =
          let h : IsWestHit chains q x.s = west_of_east_side chains n K r steep x.s x.segment own x.spanned no_turn q near south t in
          by_west S far_of (x ∷ front) none (with_own (IsWestHit chains q) front west_once west_hits west_differ h) (slanted h)
          (let first = front_total S none in omega (arith, ints, first))
        where
          slanted : IsWestHit chains q x.s → AreSlanted K chains r line S (x ∷ front)
          slanted h y has = ⊎_elim
              (λ e. subst (λ (w : Item K chains r). (w.segment.a.y <ℤ w.segment.b.y) ⊎ (w.segment.b.y <ℤ w.segment.a.y)) (sym e) (own_slanted (one_segment chains x.s h.segment x.segment h.is own) (west_slanted h.segment q h.west)))
              (λ later. west_are_slanted K chains r steep line S front west y later) has
            where
              own_slanted : HaveSameEnds h.segment x.segment → (h.segment.a.y <ℤ h.segment.b.y) ⊎ (h.segment.b.y <ℤ h.segment.a.y) → (x.segment.a.y <ℤ x.segment.b.y) ⊎ (x.segment.b.y <ℤ x.segment.a.y)
              own_slanted e = subst (λ (z : Point). (z.y <ℤ h.segment.b.y) ⊎ (h.segment.b.y <ℤ z.y) → (x.segment.a.y <ℤ x.segment.b.y) ⊎ (x.segment.b.y <ℤ x.segment.a.y)) (sym e.first)
                  (subst (λ (z : Point). (x.segment.a.y <ℤ z.y) ⊎ (z.y <ℤ x.segment.a.y) → (x.segment.a.y <ℤ x.segment.b.y) ⊎ (x.segment.b.y <ℤ x.segment.a.y)) (sym e.last) (λ k. k))

    -- ---- both

    lies_near : pos 0 <ℤ own_turn → LiesAt chains q near_of
    lies_near t = lies_by chains q near_of (λ S none. by_lt_z (step_y r q) (pos 0) (λ south. south_west south t S none) (λ north. north_west north t S none))

    lies_far : own_turn <ℤ pos 0 → LiesAt chains q far_of
    lies_far t = lies_by chains q far_of (λ S none. by_lt_z (step_y r q) (pos 0) (λ south. south_east south t S none) (λ north. north_east north t S none))

    -- on the left and on the right of the segment
    by_sides : (pos 0 <ℤ turn_about x.segment q → LiesAt chains q x.chain.left) × (turn_about x.segment q <ℤ pos 0 → LiesAt chains q x.chain.right)
    by_sides = go (int_lt (height K x.segment.a) (height K x.segment.b)) lies_near lies_far
      where
        go : (t : Bool) → (pos 0 <ℤ turn_at (if t then x.segment.a else x.segment.b) (if t then x.segment.b else x.segment.a) q → LiesAt chains q (if t then x.chain.left else x.chain.right)) →
            (turn_at (if t then x.segment.a else x.segment.b) (if t then x.segment.b else x.segment.a) q <ℤ pos 0 → LiesAt chains q (if t then x.chain.right else x.chain.left)) →
            (pos 0 <ℤ turn_about x.segment q → LiesAt chains q x.chain.left) × (turn_about x.segment q <ℤ pos 0 → LiesAt chains q x.chain.right)
        go true near_lies far_lies = (near_lies, far_lies)
        go false near_lies far_lies =
            let back = turned x.segment.a x.segment.b q in
            ((λ h. far_lies (omega (arith, ints, back, h))), (λ h. near_lies (omega (arith, ints, back, h))))

  about : IsTrueAbout chains x.chain x.segment r (nearness r n)
  about = record {
    some = product_above r.d (widest_of n +ℤ widest_of n +ℤ pos 1) r.above_zero (omega (arith, ints));
    left = λ q near off h. (by_sides q near off).0 h;
    right = λ q near off h. (by_sides q near off).1 h;
  }

-- ---- of any segment of a chain

module _ (chains : List MapChain) (planar : IsPlanar chains) (faced : AreFaced chains) (r : Rational) where
  same_about : (chain chain' : MapChain) (u w : Segment) (e : ℤ) → chain ≡ chain' → HaveSameEnds u w → IsTrueAbout chains chain u r e → IsTrueAbout chains chain' w r e
  same_about chain chain' u w e one same about = record {
    some = about.some;
    left = λ q near off h. subst (λ (z : MapChain). LiesAt chains q z.left) one (about.left q near off (subst (λ z. pos 0 <ℤ z) (sides q) h));
    right = λ q near off h. subst (λ (z : MapChain). LiesAt chains q z.right) one (about.right q near off (subst (λ z. z <ℤ pos 0) (sides q) h));
  }
    where
      sides : (q : Rational) → turn_about w q ≡ turn_about u q
      sides q = rw (same.first, same.last) refl

  same_strictly : (u w : Segment) → HaveSameEnds u w → IsStrictlyOn u r → IsStrictlyOn w r
  same_strictly u w e on = record {
    on = on_same u w r e on.on;
    no_end = λ end. on.no_end (⊎_elim (λ k. inl (subst (λ z. IsSame r (whole z)) (sym e.first) k)) (λ k. inr (subst (λ z. IsSame r (whole z)) (sym e.last) k)) end);
  }

  pub sides_are_true : (chain : MapChain) (u : Segment) → IsOfChain chains chain u → IsStrictlyOn u r → (e : ℤ) × IsTrueAbout chains chain u r e
  sides_are_true chain u of on = (nearness r bound.0, by_split (split k.0 chains r x list.items list.listed.sorted found_x.has))
    where
      s : ℕ
      s = segments_before chains of.c + of.k

      is : IsNumbered chains s u
      is = chain_ends.numbered chains of.c chain of.is of.k u of.from of.to

      bound : (n : ℕ) × AreBounded n chains
      bound = some_bound chains

      k : (K : ℤ) × IsSteep K chains r
      k = some_steepness chains r

      line : IsLine k.0 chains r
      line = steep_line k.0 chains r k.1 (no_end_within chains planar s u r is on)

      list : IsFacedOn k.0 chains r line
      list = faced k.0 r k.1 line

      found_x : IsFound k.0 chains r s list.items
      found_x = item_of k.0 chains r line list.items list.listed s u is (spanned_by k.0 chains r line s u is r on.on (level_self k.0 chains r k.1 line))

      x : Item k.0 chains r
      x = found_x.item

      of_x : IsNumbered chains s x.segment
      of_x = subst (λ m. IsNumbered chains m x.segment) (sym found_x.is) (numbered k.0 chains r x)

      ends : HaveSameEnds u x.segment
      ends = one_segment chains s u x.segment is of_x

      on_x : IsStrictlyOn x.segment r
      on_x = same_strictly u x.segment ends on

      one : x.chain ≡ chain
      one =
          let own : IsNumbered chains x.s x.segment = numbered k.0 chains r x in
          let c : x.c ≡ of.c = one_chain chains x.s x.c x.k of.c of.k (record { chain = x.chain; is = x.is; place = x.inside; number = x.number })
          (record { chain = chain; is = of.is; place = slice_get_within chain.points (of.k + 1) u.b of.to; number = sym found_x.is }) in
          one_found x.chain chain (slice_get chains of.c) (subst (λ m. slice_get chains m ≡ Some x.chain) c x.is) of.is

      same_point : (y : Item k.0 chains r) → x.at.place.x *ℤ r.d ≡ r.x *ℤ x.at.place.d
      same_point y = one_longitude k.0 chains r line x.s x.segment (numbered k.0 chains r x) x.at.place r x.at.on on_x.on x.at.level

      by_split : IsSplit k.0 chains r x list.items → IsTrueAbout chains chain u r (nearness r bound.0)
      by_split p =
          same_about x.chain chain x.segment u (nearness r bound.0) one (record { first = sym ends.first; last = sym ends.last })
          (about chains planar faced bound.0 bound.1 k.0 r k.1 line x on_x p.front p.back
          (subst (IsListed k.0 chains r (segments_before chains (length chains))) p.are list.listed) (subst (AreFacing k.0 chains r line Outside) p.are list.along)
          (λ y has. turn_east k.0 chains r k.1 line y
          (let w = p.west y has in let t : Rational = x.at.place in let v : Rational = y.at.place in let e = same_point y in
          lt_le v.x v.d t.x t.d r.x r.d v.above_zero t.above_zero r.above_zero w (omega (arith, ints, e))))
          (λ y has. turn_west k.0 chains r k.1 line y
          (let w = p.east y has in let t : Rational = x.at.place in let v : Rational = y.at.place in let e = same_point y in
          le_lt r.x r.d t.x t.d v.x v.d r.above_zero t.above_zero v.above_zero (omega (arith, ints, e)) w)))

pub true_sides : (chains : List MapChain) → IsPlanar chains → AreFaced chains → AreSidesTrue chains
true_sides chains planar faced chain u r of on = sides_are_true chains planar faced r chain u of on
