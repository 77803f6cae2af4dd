-- Where faces agree, along a line the far side of each segment that meets it is the near side of the next, from the outside to the
-- outside.
use Rattle.std.proofs.Common.{◌≡◌, ◌⊎◌, inl, inr, ⊎_elim, ℕ, ◌+◌, ℤ, pos, ◌-ℤ◌, ◌*ℤ◌, ◌≤ℤ◌, Some, List, [], ◌∷◌, ◌++◌, length, append_assoc, refl, sym, subst, arith}
use Rattle.std.specs.Prelude.{slice_get}
use Rattle.std.proofs.lemmas.Int.{ints}
use Rattle.tl_geom.specs.declared.rational.Rational.{Rational}
use Rattle.tl_geom.specs.declared.segment.Segment.{Segment}
use Rattle.tl_geom.specs.Plane.{IsOn}
use Rattle.tl_geom.proofs.Polynomials.{num, ◌⊖◌, ◌⊗◌, same}
use Rattle.tl_map_county.specs.declared.sides.Side.{Side}
use Rattle.tl_map_county.specs.declared.sides.Side.TheVariants.{Outside}
use Rattle.tl_map_county.specs.TheMap.{MapChain}
use Rattle.tl_map_county.specs.Segments.{segments_before}
use Rattle.tl_check_planar.specs.Planar.{IsOnSegment, IsOnChain, IsPlanar}
use Rattle.tl_check_planar.proofs.Numbering.{below_total}
use Rattle.tl_check_planar.specs.ByHeight.Neighbours.{IsNumbered}
use Rattle.tl_check_planar.proofs.ByHeight.Numbered.{one_segment, on_same}
use Rattle.tl_check_faces.specs.Facing.{IsStrictlyOn, IsClearBetween, IsClearFrom, IsSideToward, FacesAgree, step_x, step_y}
use Rattle.tl_check_faces.proofs.Steep.{IsSpanned}
use Rattle.tl_check_faces.proofs.Bounds.{IsSteep}
use Rattle.tl_check_faces.proofs.Numbers.{le_lt, lt_le}
use Rattle.tl_check_faces.proofs.Lines.{AreLevel, IsWestward, level_with, level_back}
use Rattle.tl_check_faces.proofs.Ends as chain_ends
use Rattle.tl_check_faces.proofs.Items.{Item, numbered, of_chain, no_end_of, spanned_by, one_longitude, IsLine}
use Rattle.tl_check_faces.proofs.Sorting.{Has, IsSorted, IsListed, IsFound, has_or, sorted_back, sorted_front, found, all}
use Rattle.tl_check_faces.proofs.Toward.{near_side, far_side, toward_east, toward_west, step_along, between_level, between_first, between_last, ray_level, ray_east, ray_west}

module _ (K : ℤ) (chains : List MapChain) (r : Rational) (line : IsLine K chains r) where
  abbrev near_of : Item K chains r → Side
  near_of x = near_side K chains r line x

  abbrev far_of : Item K chains r → Side
  far_of x = far_side K chains r line x

  -- facing sides agree along a list that begins at one side and ends at the outside
  abbrev pub AreFacing : Side → List (Item K chains r) → Type 0
  AreFacing west [] = west ≡ Outside
  AreFacing west (x ∷ xs) = (west ≡ near_of x) × AreFacing (far_of x) xs

  -- ---- what lies on the line is one of its items

  -- the item that has a place
  pub record IsAt (q : Rational) (y : Item K chains r) : Type 0 where
    pub same : q.x *ℤ y.at.place.d ≡ y.at.place.x *ℤ q.d

  module _ (xs : List (Item K chains r)) (listed : IsListed K chains r (segments_before chains (length chains)) xs) where
    pub item_of : (s : ℕ) (u : Segment) → IsNumbered chains s u → IsSpanned K u r → IsFound K chains r s xs
    item_of s u is spanned =
        let below = below_total chains s is.c is.k is.number in
        let once = listed.once s u below is spanned in
        found K chains r s xs (omega (arith, once))

    item_at : (c : ℕ) (chain : MapChain) (q : Rational) → slice_get chains c ≡ Some chain → IsOnChain chain.points q → AreLevel K q r → (y : Item K chains r) × Has K chains r y xs × IsAt q y
    item_at c chain q is on level =
        let o : IsOnSegment chain.points on.0 q = on.1 in
        let s : ℕ = segments_before chains c + on.0 in
        let number : IsNumbered chains s o.segment = chain_ends.numbered chains c chain is on.0 o.segment o.from o.to in
        let spanned : IsSpanned K o.segment r = spanned_by K chains r line s o.segment number q o.on level in
        let f : IsFound K chains r s xs = item_of s o.segment number spanned in
        let y : Item K chains r = f.item in
        let own : IsNumbered chains s y.segment = subst (λ n. IsNumbered chains n y.segment) (sym f.is) (numbered K chains r y) in
        let here : IsOn y.segment q = on_same o.segment y.segment q (one_segment chains s o.segment y.segment number own) o.on in (
          y,
          f.has,
          record { same = one_longitude K chains r line s y.segment own q y.at.place here y.at.on (level_with K q y.at.place r level y.at.level) },
        )

  -- ---- along the line

  -- each place of a chain on the line isn't east of x, or is that of one of these
  Covers : Item K chains r → List (Item K chains r) → Type 0
  Covers x rest =
      (c : ℕ) (chain : MapChain) (q : Rational) → slice_get chains c ≡ Some chain → IsOnChain chain.points q → AreLevel K q r →
      ((q.x *ℤ x.at.place.d) ≤ℤ (x.at.place.x *ℤ q.d)) ⊎ ((y : Item K chains r) × Has K chains r y rest × IsAt q y)

  pub strictly_on : (x : Item K chains r) → IsStrictlyOn x.segment x.at.place
  strictly_on x = record { on = x.at.on; no_end = no_end_of K chains r line x.s x.segment (numbered K chains r x) x.at.place x.at.level }

  times_one : (z : ℤ) → z *ℤ pos 1 ≡ z
  times_one z = same (num z ⊗ num (pos 1)) (num z) (omega arith)

  times_minus : (z : ℤ) → z *ℤ (pos 0 -ℤ pos 1) ≡ pos 0 -ℤ z
  times_minus z = same (num z ⊗ (num (pos 0) ⊖ num (pos 1))) (num (pos 0) ⊖ num z) (omega arith)

  -- each place of a chain on the line is at x or east of it
  IsFirst : Item K chains r → Type 0
  IsFirst x =
      (c : ℕ) (chain : MapChain) (q : Rational) → slice_get chains c ≡ Some chain → IsOnChain chain.points q → AreLevel K q r →
      (x.at.place.x *ℤ q.d) ≤ℤ (q.x *ℤ x.at.place.d)

  clear_east : (x : Item K chains r) → Covers x [] → IsClearFrom chains x.at.place K (pos 1)
  unfolding Covers
  clear_east x covers t o c chain is on =
      let p : Rational = x.at.place in
      let past : IsWestward p t = ray_east K p t K (pos 1) (times_one K) o line.above in
      let level : AreLevel K t r = level_with K t r p (ray_level K p t K (pos 1) (times_one K) o) (level_back K p r x.at.level) in
      ⊎_elim (λ le. omega (arith, ints, le, past)) (λ k. k.1) (covers c chain t is on level)

  clear_west : (x : Item K chains r) → IsFirst x → IsClearFrom chains x.at.place (pos 0 -ℤ K) (pos 0 -ℤ pos 1)
  unfolding IsFirst
  clear_west x first t o c chain is on =
      let p : Rational = x.at.place in
      let past : IsWestward t p = ray_west K p t (pos 0 -ℤ K) (pos 0 -ℤ pos 1) (times_minus K) o (let h = line.above in omega (arith, ints, h)) in
      let level : AreLevel K t r = level_with K t r p (ray_level K p t (pos 0 -ℤ K) (pos 0 -ℤ pos 1) (times_minus K) o) (level_back K p r x.at.level) in
      let le = first c chain t is on level in
      omega (arith, ints, le, past)

  clear_next : (x y : Item K chains r) (rest : List (Item K chains r)) → IsSorted K chains r (x ∷ (y ∷ rest)) → Covers x (y ∷ rest) →
      IsClearBetween chains x.at.place y.at.place
  unfolding Covers
  clear_next x y rest sorted covers t b c chain is on =
      let p : Rational = x.at.place in let q : Rational = y.at.place in
      let west : IsWestward p q = sorted.0 y (inl refl) in
      let level : AreLevel K p q = level_with K p q r x.at.level y.at.level in
      let first : IsWestward p t = between_first K p q t level west b in
      let last : IsWestward t q = between_last K p q t level west b in
      let here : AreLevel K t r = level_with K t r p (between_level K p q t level west b) (level_back K p r x.at.level) in
      ⊎_elim (λ le. omega (arith, ints, le, first))
      (λ k.
      let z : Item K chains r = k.0 in
      let e : t.x *ℤ z.at.place.d ≡ z.at.place.x *ℤ t.d = k.2.same in
      ⊎_elim
      (λ one.
      let f : t.x *ℤ q.d ≡ q.x *ℤ t.d = subst (λ (w : Item K chains r). t.x *ℤ w.at.place.d ≡ w.at.place.x *ℤ t.d) one e in
      omega (arith, ints, f, last))
      (λ later.
      let beyond : IsWestward q z.at.place = sorted.1.0 z later in
      let v : Rational = z.at.place in
      let past : IsWestward t v = le_lt t.x t.d q.x q.d v.x v.d t.above_zero q.above_zero v.above_zero (omega (arith, ints, last)) beyond in
      omega (arith, ints, past, e))
      k.1)
      (covers c chain t is on here)

  -- ---- of the items of a list of all

  at_west : (q : Rational) (y x : Item K chains r) → IsAt q y → IsWestward y.at.place x.at.place → IsWestward q x.at.place
  at_west q y x at west =
      let p : Rational = y.at.place in let t : Rational = x.at.place in let e = at.same in
      le_lt q.x q.d p.x p.d t.x t.d q.above_zero p.above_zero t.above_zero (omega (arith, ints, e)) west

  at_east : (q : Rational) (y x : Item K chains r) → IsAt q y → IsWestward x.at.place y.at.place → IsWestward x.at.place q
  at_east q y x at west =
      let p : Rational = y.at.place in let t : Rational = x.at.place in let e = at.same in
      lt_le t.x t.d p.x p.d q.x q.d t.above_zero p.above_zero q.above_zero west (omega (arith, ints, e))

  at_itself : (q : Rational) (y x : Item K chains r) → y ≡ x → IsAt q y → q.x *ℤ x.at.place.d ≡ x.at.place.x *ℤ q.d
  at_itself q y x one at = subst (λ (w : Item K chains r). q.x *ℤ w.at.place.d ≡ w.at.place.x *ℤ q.d) one at.same

  abbrev IsAll : List (Item K chains r) → Type 0
  IsAll xs = IsListed K chains r (segments_before chains (length chains)) xs

  covered : (front : List (Item K chains r)) (x : Item K chains r) (rest : List (Item K chains r)) → IsAll (front ++ (x ∷ rest)) → Covers x rest
  unfolding Covers
  covered front x rest listed c chain q is on level =
      let k = item_at (front ++ (x ∷ rest)) listed c chain q is on level in
      ⊎_elim
      (λ before. inl (let lt = at_west q k.0 x k.2 (sorted_front K chains r front (x ∷ rest) listed.sorted k.0 x before (inl refl)) in omega (arith, ints, lt)))
      (λ h. ⊎_elim (λ one. inl (let e = at_itself q k.0 x one k.2 in omega (arith, ints, e))) (λ later. inr (k.0, later, k.2)) h)
      (has_or K chains r k.0 front (x ∷ rest) k.1)

  first_of_all : (x : Item K chains r) (rest : List (Item K chains r)) → IsAll (x ∷ rest) → IsFirst x
  unfolding IsFirst
  first_of_all x rest listed c chain q is on level =
      let k = item_at (x ∷ rest) listed c chain q is on level in
      ⊎_elim (λ one. let e = at_itself q k.0 x one k.2 in omega (arith, ints, e))
      (λ later. let lt = at_east q k.0 x k.2 (listed.sorted.0 k.0 later) in omega (arith, ints, lt)) k.1

  -- nothing lies between two that follow one another, west of the first and east of the last
  pub clear_between : (front : List (Item K chains r)) (x y : Item K chains r) (back : List (Item K chains r)) → IsAll (front ++ (x ∷ (y ∷ back))) →
      IsClearBetween chains x.at.place y.at.place
  clear_between front x y back listed =
      clear_next x y back (sorted_back K chains r front (x ∷ (y ∷ back)) listed.sorted) (covered front x (y ∷ back) listed)

  pub clear_to_west : (x : Item K chains r) (back : List (Item K chains r)) → IsAll (x ∷ back) → IsClearFrom chains x.at.place (pos 0 -ℤ K) (pos 0 -ℤ pos 1)
  clear_to_west x back listed = clear_west x (first_of_all x back listed)

  pub clear_to_east : (front : List (Item K chains r)) (x : Item K chains r) → IsAll (front ++ (x ∷ [])) → IsClearFrom chains x.at.place K (pos 1)
  clear_to_east front x listed = clear_east x (covered front x [] listed)

  -- ---- and the sides toward those lines

  module _ (x y : Item K chains r) (west : IsWestward x.at.place y.at.place) where
    level : AreLevel K x.at.place y.at.place
    level = level_with K x.at.place y.at.place r x.at.level y.at.level

    pub side_to_next : IsSideToward x.chain x.segment (step_x x.at.place y.at.place) (step_y x.at.place y.at.place) (far_of x)
    side_to_next =
        let p : Rational = x.at.place in let q : Rational = y.at.place in
        toward_east K chains r line x (step_x p q) (step_y p q) (step_along K p q level) (omega (arith, ints, west))

    pub side_to_last : IsSideToward y.chain y.segment (step_x y.at.place x.at.place) (step_y y.at.place x.at.place) (near_of y)
    side_to_last =
        let p : Rational = x.at.place in let q : Rational = y.at.place in
        toward_west K chains r line y (step_x q p) (step_y q p) (step_along K q p (level_back K p q level)) (omega (arith, ints, west))

  pub side_to_east : (x : Item K chains r) → IsSideToward x.chain x.segment K (pos 1) (far_of x)
  side_to_east x = toward_east K chains r line x K (pos 1) (times_one K) line.above

  pub side_to_west : (x : Item K chains r) → IsSideToward x.chain x.segment (pos 0 -ℤ K) (pos 0 -ℤ pos 1) (near_of x)
  side_to_west x = toward_west K chains r line x (pos 0 -ℤ K) (pos 0 -ℤ pos 1) (times_minus K) (let h = line.above in omega (arith, ints, h))

  -- ---- so where faces agree

  module _ (agree : FacesAgree chains) where
    from_item : (front : List (Item K chains r)) (x : Item K chains r) (rest : List (Item K chains r)) → IsAll (front ++ (x ∷ rest)) → AreFacing (far_of x) rest
    from_item front x [] listed =
        agree.outward x.chain x.segment x.at.place K (pos 1) (far_of x) (of_chain K chains r x) (strictly_on x) (clear_to_east front x listed) (side_to_east x)
    from_item front x (y ∷ rest) listed =
        let west : IsWestward x.at.place y.at.place = (sorted_back K chains r front (x ∷ (y ∷ rest)) listed.sorted).0 y (inl refl) in (
          agree.facing x.chain y.chain x.segment y.segment x.at.place y.at.place (far_of x) (near_of y) (of_chain K chains r x) (of_chain K chains r y)
              (strictly_on x) (strictly_on y) (clear_between front x y rest listed) (side_to_next x y west) (side_to_last x y west),
          from_item (front ++ (x ∷ [])) y rest (subst IsAll (sym (append_assoc front (x ∷ []) (y ∷ rest))) listed),
        )

    -- along the whole line
    pub facing : (xs : List (Item K chains r)) → IsAll xs → AreFacing Outside xs
    facing [] listed = refl
    facing (x ∷ xs) listed = (
      sym (agree.outward x.chain x.segment x.at.place (pos 0 -ℤ K) (pos 0 -ℤ pos 1) (near_of x) (of_chain K chains r x) (strictly_on x)
          (clear_to_west x xs listed) (side_to_west x)),
      from_item [] x xs listed,
    )

-- ---- lists along which facing sides agree

-- all that meets the line, from west to east, and facing sides agree along it
pub record IsFacedOn (K : ℤ) (chains : List MapChain) (r : Rational) (line : IsLine K chains r) : Type 0 where
  pub items : List (Item K chains r)
  pub listed : IsListed K chains r (segments_before chains (length chains)) items
  pub along : AreFacing K chains r line Outside items

-- there is such a list on each line that is steep enough
abbrev pub AreFaced : List MapChain → Type 0
AreFaced chains = (K : ℤ) (r : Rational) → IsSteep K chains r → (line : IsLine K chains r) → IsFacedOn K chains r line

pub on_line : (chains : List MapChain) → IsPlanar chains → FacesAgree chains → (K : ℤ) (r : Rational) (line : IsLine K chains r) → IsFacedOn K chains r line
on_line chains planar agree K r line =
    let list : (xs : List (Item K chains r)) × IsListed K chains r (segments_before chains (length chains)) xs = all K chains r line planar in
    record { items = list.0; listed = list.1; along = facing K chains r line agree list.0 list.1 }

pub by_faces : (chains : List MapChain) → IsPlanar chains → FacesAgree chains → AreFaced chains
by_faces chains planar agree K r steep line = on_line chains planar agree K r line
