-- A place on no chain lies in one polygon, or in the outside.
use Rattle.std.proofs.Common.{◌≡◌, ◌⊎◌, inl, inr, ⊎_elim, ℕ, ◌<◌, ℤ, pos, ◌-ℤ◌, ◌*ℤ◌, ◌<ℤ◌, ◌≤ℤ◌, Bool, true, false, List, [], ◌∷◌, ◌++◌, length, map, refl, sym, ap, subst, ◌∙◌, arith}
use Rattle.std.proofs.lemmas.Bool.Decides.{nat_tests}
use Rattle.std.proofs.lemmas.Int.{ints}
use Rattle.tl_geom.specs.declared.point.Point.{Point}
use Rattle.tl_geom.specs.declared.rational.Rational.{Rational}
use Rattle.tl_geom.specs.declared.segment.Segment.{Segment}
use Rattle.tl_geom.specs.Plane.{IsOn, whole}
use Rattle.tl_geom.proofs.Signs.{cancel_lt, sign}
use Rattle.tl_geom.proofs.Places as places
use Rattle.tl_map_county.specs.declared.sides.Side.{Side}
use Rattle.tl_map_county.specs.declared.sides.Side.TheVariants.{Outside, Polygon}
use Rattle.tl_map_county.specs.TheMap.{MapChain}
use Rattle.tl_map_county.specs.Segments.{segments_before}
use Rattle.tl_tree_index.specs.Hits.{times, AreHits}
use Rattle.tl_check_planar.proofs.Numbering.{below_total, HaveSameEnds}
use Rattle.tl_check_inside.specs.Inside.{flanks_at, balance, is_polygon, IsCrossedAt, IsCountAt}
use Rattle.tl_check_planar.specs.ByHeight.Heights.{low_end, high_end, turn_at}
use Rattle.tl_check_planar.specs.ByHeight.Neighbours.{IsNumbered}
use Rattle.tl_check_planar.proofs.ByHeight.Lying.{heights_of, lies_on}
use Rattle.tl_check_planar.proofs.ByHeight.Numbered.{one_segment}
use Rattle.tl_check_faces.specs.Facing.{IsOff}
use Rattle.tl_check_faces.specs.Truth.{LiesAt, HasOnePolygon}
use Rattle.tl_check_faces.proofs.Numbers.{le_lt}
use Rattle.tl_check_faces.proofs.Crossing.{IsEast, IsWest, east_of_crossed, crossed_of_east}
use Rattle.tl_check_faces.proofs.Steep.{IsSpanned, spanned_east, spanned_west, east_spanned, west_spanned}
use Rattle.tl_check_faces.proofs.Bounds.{IsSteep, some_steepness}
use Rattle.tl_check_faces.proofs.Lines.{AreLevel, IsWestward, west_of_turn, east_of_turn, turn_of_west, turn_of_east}
use Rattle.tl_check_faces.proofs.Hits.{one_balance}
use Rattle.tl_check_faces.proofs.Items.{Item, IsNoEnd, numbered, ends_of_item, IsLine, steep_line}
use Rattle.tl_check_faces.proofs.Sorting.{Has, IsSorted, IsListed, numbers, times-both, no_times}
use Rattle.tl_check_faces.proofs.Along.{AreFacing, IsFacedOn, AreFaced}
use Rattle.tl_check_faces.proofs.Sums.{number_of, total-both, total_is, facing_back, AreSlanted, balance_is}

-- ---- hits of the ray to the east and of the ray to the west

-- segment s passes q on the east, or on the west
pub record IsEastHit (chains : List MapChain) (q : Rational) (s : ℕ) : Type 0 where
  pub segment : Segment
  pub is : IsNumbered chains s segment
  pub east : IsEast segment q

pub record IsWestHit (chains : List MapChain) (q : Rational) (s : ℕ) : Type 0 where
  pub segment : Segment
  pub is : IsNumbered chains s segment
  pub west : IsWest segment q

pub east_hit : (chains : List MapChain) (q : Rational) (s : ℕ) → IsCrossedAt chains q s → IsEastHit chains q s
east_hit chains q s c = record { segment = c.segment; is = record { c = c.c; k = c.k; number = c.number; joins = c.joins }; east = east_of_crossed c.segment q c.crosses }

pub crossed_hit : (chains : List MapChain) (q : Rational) (s : ℕ) → IsEastHit chains q s → IsCrossedAt chains q s
crossed_hit chains q s h = record { c = h.is.c; k = h.is.k; segment = h.segment; number = h.is.number; joins = h.is.joins; crosses = crossed_of_east h.segment q h.east }

-- a count, by the hits of the ray to the east
pub counted_by : (chains : List MapChain) (q : Rational) (S : Side → Bool) (n : ℤ) (hits : List ℕ) → AreHits (segments_before chains (length chains)) (IsEastHit chains q) hits → n ≡ balance S (map (flanks_at chains) hits) → IsCountAt chains q S n
counted_by chains q S n hits are e = record {
  crossed = hits;
  are = record {
    once = λ i lt c. are.once i lt (east_hit chains q i c);
    others = λ i no. are.others i (λ h. no (crossed_hit chains q i h));
    known = are.known;
  };
  counted = e;
}

-- a segment that a ray crosses isn't level
latitudes_part : (q : Rational) (a b : Point) → (q.d *ℤ a.y) ≤ℤ q.y → q.y ≤ℤ (q.d *ℤ b.y) → ((q.d *ℤ a.y) <ℤ q.y) ⊎ (q.y <ℤ (q.d *ℤ b.y)) → a.y <ℤ b.y
latitudes_part q a b low high strict =
    let d : pos 0 <ℤ q.d = q.above_zero in
    let lt : (q.d *ℤ a.y) <ℤ (q.d *ℤ b.y) = ⊎_elim (λ h. omega (arith, ints, h, high)) (λ h. omega (arith, ints, h, low)) strict in
    cancel_lt q.d a.y b.y (omega (arith, ints, d)) lt

pub east_slanted : (u : Segment) (q : Rational) → IsEast u q → (u.a.y <ℤ u.b.y) ⊎ (u.b.y <ℤ u.a.y)
east_slanted u q = ⊎_elim
    (λ k. let h = k.high in inl (latitudes_part q u.a u.b k.low (omega (arith, ints, h)) (inr h)))
    (λ k. let h = k.high in inr (latitudes_part q u.b u.a k.low (omega (arith, ints, h)) (inr h)))

pub west_slanted : (u : Segment) (q : Rational) → IsWest u q → (u.a.y <ℤ u.b.y) ⊎ (u.b.y <ℤ u.a.y)
west_slanted u q = ⊎_elim
    (λ k. let h = k.low in inl (latitudes_part q u.a u.b (omega (arith, ints, h)) k.high (inl h)))
    (λ k. let h = k.low in inr (latitudes_part q u.b u.a (omega (arith, ints, h)) k.high (inl h)))

-- ---- parts of a list

module _ (K : ℤ) (chains : List MapChain) (r : Rational) (steep : IsSteep K chains r) (line : IsLine K chains r) where
  abbrev pub turn : Item K chains r → ℤ
  turn x = turn_at (low_end K x.segment) (high_end K x.segment) r

  pub level_self : AreLevel K r r
  level_self = record { is = refl }

  line_turn : (x : Item K chains r) → turn_at (low_end K x.segment) (high_end K x.segment) x.at.place ≡ pos 0
  line_turn x = (heights_of K x.segment (low_end K x.segment) (high_end K x.segment) (ends_of_item K chains r line x) x.at.place x.at.on).0

  pub turn_east : (x : Item K chains r) → IsWestward x.at.place r → turn x <ℤ pos 0
  turn_east x west = let e = ends_of_item K chains r line x in turn_of_east K steep.above (low_end K x.segment) (high_end K x.segment) e.rising x.at.place r (line_turn x) x.at.level west

  pub turn_west : (x : Item K chains r) → IsWestward r x.at.place → pos 0 <ℤ turn x
  turn_west x west = let e = ends_of_item K chains r line x in turn_of_west K steep.above (low_end K x.segment) (high_end K x.segment) e.rising x.at.place r (line_turn x) x.at.level west

  pub place_east : (x : Item K chains r) → turn x <ℤ pos 0 → IsWestward x.at.place r
  place_east x t = let e = ends_of_item K chains r line x in east_of_turn K steep.above (low_end K x.segment) (high_end K x.segment) e.rising x.at.place r (line_turn x) x.at.level t

  pub place_west : (x : Item K chains r) → pos 0 <ℤ turn x → IsWestward r x.at.place
  place_west x t = let e = ends_of_item K chains r line x in west_of_turn K steep.above (low_end K x.segment) (high_end K x.segment) e.rising x.at.place r (line_turn x) x.at.level t

  -- items to the west of r, and those to the east of it
  abbrev pub AreWestward : List (Item K chains r) → Type 0
  AreWestward xs = (y : Item K chains r) → Has K chains r y xs → turn y <ℤ pos 0

  abbrev pub AreEastward : List (Item K chains r) → Type 0
  AreEastward xs = (y : Item K chains r) → Has K chains r y xs → pos 0 <ℤ turn y

  -- ---- what they are to the rays of r

  pub east_item : (x : Item K chains r) → pos 0 <ℤ turn x → IsEast x.segment r
  east_item x t = let n = numbered K chains r x in east_spanned K r x.segment (steep.ends x.s x.segment n) (steep.first x.s x.segment n) (steep.last x.s x.segment n) x.spanned t

  pub west_item : (x : Item K chains r) → turn x <ℤ pos 0 → IsWest x.segment r
  west_item x t = let n = numbered K chains r x in west_spanned K r x.segment (steep.ends x.s x.segment n) (steep.first x.s x.segment n) (steep.last x.s x.segment n) x.spanned t

  -- the turn by any segment of a number
  pub turn_same : (x : Item K chains r) (u : Segment) → IsNumbered chains x.s u → turn x ≡ turn_at (low_end K u) (high_end K u) r
  turn_same x u is = go (one_segment chains x.s x.segment u (numbered K chains r x) is)
    where
      go : HaveSameEnds x.segment u → turn x ≡ turn_at (low_end K u) (high_end K u) r
      go e = rw (e.first, e.last) refl

  pub east_of : (s : ℕ) (u : Segment) → IsNumbered chains s u → IsEast u r → IsSpanned K u r × (pos 0 <ℤ turn_at (low_end K u) (high_end K u) r)
  east_of s u is h = spanned_east K r u (steep.ends s u is) (steep.first s u is) (steep.last s u is) h

  pub west_of : (s : ℕ) (u : Segment) → IsNumbered chains s u → IsWest u r → IsSpanned K u r × (turn_at (low_end K u) (high_end K u) r <ℤ pos 0)
  west_of s u is h = spanned_west K r u (steep.ends s u is) (steep.first s u is) (steep.last s u is) h

  pub east_number : (x : Item K chains r) → IsEastHit chains r x.s → pos 0 <ℤ turn x
  east_number x h = let at = (east_of x.s h.segment h.is h.east).1 in let e = turn_same x h.segment h.is in omega (arith, ints, at, e)

  pub west_number : (x : Item K chains r) → IsWestHit chains r x.s → turn x <ℤ pos 0
  west_number x h = let at = (west_of x.s h.segment h.is h.west).1 in let e = turn_same x h.segment h.is in omega (arith, ints, at, e)

  item_below : (x : Item K chains r) → x.s < segments_before chains (length chains)
  item_below x = let n = numbered K chains r x in below_total chains x.s n.c n.k n.number

  -- a list of items holds each hit once, and nothing but hits
  pub record IsListOf (hit : ℕ → Type 0) (xs : List (Item K chains r)) : Type 0 where
    pub once : (s : ℕ) → hit s → times s (numbers K chains r xs) ≡ 1
    pub hits : (y : Item K chains r) → Has K chains r y xs → hit y.s

  pub are_hits : (hit : ℕ → Type 0) (xs : List (Item K chains r)) → IsListOf hit xs → AreHits (segments_before chains (length chains)) hit (numbers K chains r xs)
  are_hits hit xs are = record {
    once = λ i lt h. are.once i h;
    others = λ i no. no_times K chains r i xs (λ y has e. no (subst hit (sym e) (are.hits y has)));
    known = λ i le. no_times K chains r i xs (λ y has e. let lt = item_below y in omega (arith, le, lt, e));
  }

  module _ (front back : List (Item K chains r)) (listed : IsListed K chains r (segments_before chains (length chains)) (front ++ back)) where
    pub east_once : AreWestward front → (s : ℕ) → IsEastHit chains r s → times s (numbers K chains r back) ≡ 1
    east_once west s h =
        let lt = below_total chains s h.is.c h.is.k h.is.number in
        let once = listed.once s h.segment lt h.is (east_of s h.segment h.is h.east).0 in
        let none : times s (numbers K chains r front) ≡ 0 = no_times K chains r s front (λ y has e.
        let t = west y has in
        let u = east_number y (subst (IsEastHit chains r) e h) in
        omega (arith, ints, t, u)) in
        let both = times-both K chains r s front back in
        omega (arith, once, none, both)

    pub west_once : AreEastward back → (s : ℕ) → IsWestHit chains r s → times s (numbers K chains r front) ≡ 1
    west_once east s h =
        let lt = below_total chains s h.is.c h.is.k h.is.number in
        let once = listed.once s h.segment lt h.is (west_of s h.segment h.is h.west).0 in
        let none : times s (numbers K chains r back) ≡ 0 = no_times K chains r s back (λ y has e.
        let t = east y has in
        let u = west_number y (subst (IsWestHit chains r) e h) in
        omega (arith, ints, t, u)) in
        let both = times-both K chains r s front back in
        omega (arith, once, none, both)

    pub east_list : AreWestward front → AreEastward back → IsListOf (IsEastHit chains r) back
    east_list west east = record {
      once = east_once west;
      hits = λ y has. record { segment = y.segment; is = numbered K chains r y; east = east_item y (east y has) };
    }

    pub west_list : AreWestward front → AreEastward back → IsListOf (IsWestHit chains r) front
    west_list west east = record {
      once = west_once east;
      hits = λ y has. record { segment = y.segment; is = numbered K chains r y; west = west_item y (west y has) };
    }

  pub east_are_slanted : (S : Side → Bool) (xs : List (Item K chains r)) → AreEastward xs → AreSlanted K chains r line S xs
  east_are_slanted S xs east y has = east_slanted y.segment r (east_item y (east y has))

  pub west_are_slanted : (S : Side → Bool) (xs : List (Item K chains r)) → AreWestward xs → AreSlanted K chains r line S xs
  west_are_slanted S xs west y has = west_slanted y.segment r (west_item y (west y has))

  -- ---- a place on no chain between the two parts of its list

  pub record IsParted (xs : List (Item K chains r)) : Type 0 where
    pub front : List (Item K chains r)
    pub back : List (Item K chains r)
    pub are : xs ≡ front ++ back
    pub west : AreWestward front
    pub east : AreEastward back

  parted : (xs : List (Item K chains r)) → IsSorted K chains r xs → ((y : Item K chains r) → Has K chains r y xs → (turn y <ℤ pos 0) ⊎ (pos 0 <ℤ turn y)) → IsParted xs
  parted [] sorted off = record { front = []; back = []; are = refl; west = λ y h. absurd h; east = λ y h. absurd h }
  parted (x ∷ xs) sorted off = ⊎_elim
      (λ west.
      let rest : IsParted xs = parted xs sorted.1 (λ y h. off y (inr h)) in
      record {
        front = x ∷ rest.front;
        back = rest.back;
        are = ap (λ l. x ∷ l) rest.are;
        west = λ y h. ⊎_elim (λ e. subst (λ (w : Item K chains r). turn w <ℤ pos 0) (sym e) west) (λ later. rest.west y later) h;
        east = rest.east;
      })
      (λ east. record {
        front = [];
        back = x ∷ xs;
        are = refl;
        west = λ y h. absurd h;
        east = λ y h. ⊎_elim (λ e. subst (λ (w : Item K chains r). pos 0 <ℤ turn w) (sym e) east)
            (λ later.
            let p : Rational = x.at.place in let q : Rational = y.at.place in
            let first : IsWestward r p = place_west x east in
            turn_west y (le_lt r.x r.d p.x p.d q.x q.d r.above_zero p.above_zero q.above_zero (omega (arith, ints, first)) (sorted.0 y later))) h;
      })
      (off x (inl refl))

  module _ (faced : AreFaced chains) (off : IsOff chains r) where
    item_off : (y : Item K chains r) → (turn y <ℤ pos 0) ⊎ (pos 0 <ℤ turn y)
    item_off y = ⊎_elim (λ h. inl h)
        (⊎_elim
        (λ zero.
        let from = y.spanned.from in let to = y.spanned.to in
        let on : IsOn y.segment r = lies_on K y.segment (low_end K y.segment) (high_end K y.segment) (ends_of_item K chains r line y) r zero (omega (arith, ints, from)) (omega (arith, ints, to)) in
        absurd (off y.c y.chain y.is (y.k, record { segment = y.segment; from = y.from; to = y.to; on = on })))
        (λ h. inr h))
        (sign (turn y))

    -- the list on the line, parted by r, and the side that r sees
    pub record IsSeen (side : Side) : Type 0 where
      pub front : List (Item K chains r)
      pub back : List (Item K chains r)
      pub listed : IsListed K chains r (segments_before chains (length chains)) (front ++ back)
      pub west : AreWestward front
      pub east : AreEastward back
      pub whole_list : AreFacing K chains r line Outside (front ++ back)
      pub facing_east : AreFacing K chains r line side back

    pub seen : (side : Side) × IsSeen side
    seen =
        let on : IsFacedOn K chains r line = faced K r steep line in
        by_list on.items on.listed on.along (parted on.items on.listed.sorted (λ y h. item_off y))
      where
        by_list : (xs : List (Item K chains r)) → IsListed K chains r (segments_before chains (length chains)) xs → AreFacing K chains r line Outside xs → IsParted xs → (side : Side) × IsSeen side
        by_list xs listed facing p =
            let listed' : IsListed K chains r (segments_before chains (length chains)) (p.front ++ p.back) = subst (IsListed K chains r (segments_before chains (length chains))) p.are listed in
            let along : AreFacing K chains r line Outside (p.front ++ p.back) = subst (AreFacing K chains r line Outside) p.are facing in
            let none : Side → Bool = λ s. false in
            let behind : (side : Side) × AreFacing K chains r line side p.back = facing_back K chains r line none refl Outside p.front p.back along in (
              behind.0,
              record { front = p.front; back = p.back; listed = listed'; west = p.west; east = p.east; whole_list = along; facing_east = behind.1 },
            )

    pub count : (side : Side) (S : Side → Bool) → S Outside ≡ false → IsSeen side → IsCountAt chains r S (number_of (S side))
    count side S none s =
        counted_by chains r S (number_of (S side)) (numbers K chains r s.back) (are_hits (IsEastHit chains r) s.back (east_list s.front s.back s.listed s.west s.east))
        (sym (balance_is K chains r line S s.back (east_are_slanted S s.back s.east) ∙ total_is K chains r line S none side s.back s.facing_east))

    -- and by the hits of the ray to the west
    pub west_count : (S : Side → Bool) (n : ℤ) (hits : List ℕ) → S Outside ≡ false → AreHits (segments_before chains (length chains)) (IsWestHit chains r) hits → n ≡ pos 0 -ℤ balance S (map (flanks_at chains) hits) → IsCountAt chains r S n
    west_count S n hits none are e = go seen
      where
        go : (side : Side) × IsSeen side → IsCountAt chains r S n
        go (side, s) =
            let own : AreHits (segments_before chains (length chains)) (IsWestHit chains r) (numbers K chains r s.front) = are_hits (IsWestHit chains r) s.front (west_list s.front s.back s.listed s.west s.east) in
            let one = one_balance chains (segments_before chains (length chains)) (IsWestHit chains r) S hits (numbers K chains r s.front) are own in
            let front = balance_is K chains r line S s.front (west_are_slanted S s.front s.west) in
            let back = total_is K chains r line S none side s.back s.facing_east in
            let whole = total_is K chains r line S none Outside (s.front ++ s.back) s.whole_list in
            let zero : number_of (S Outside) ≡ pos 0 = ap number_of none in
            let both = total-both K chains r line S s.front s.back in
            let is : number_of (S side) ≡ n = omega (arith, ints, e, one, front, back, whole, zero, both) in
            subst (IsCountAt chains r S) is (count side S none s)

-- ---- what lies there

pub polygon_itself : (p : ℕ) → is_polygon p (Polygon p) ≡ true
polygon_itself p = grind (arith, nat_tests)

pub polygon_other : (p other : ℕ) → ¬ (other ≡ p) → is_polygon other (Polygon p) ≡ false
polygon_other p other ne = grind (arith, nat_tests)

pub lies_by : (chains : List MapChain) (q : Rational) (side : Side) → ((S : Side → Bool) → S Outside ≡ false → IsCountAt chains q S (number_of (S side))) → LiesAt chains q side
lies_by chains q Outside count = λ p. count (is_polygon p) refl
lies_by chains q (Polygon p) count = (
  subst (λ b. IsCountAt chains q (is_polygon p) (number_of b)) (polygon_itself p) (count (is_polygon p) refl),
  λ other ne. subst (λ b. IsCountAt chains q (is_polygon other) (number_of b)) (polygon_other p other ne) (count (is_polygon other) refl),
)

-- a place on no chain is no end
pub no_end_off : (chains : List MapChain) (q : Rational) → IsOff chains q → IsNoEnd chains q
no_end_off chains q off s u is end =
    let on : IsOn u q = ⊎_elim (λ k. places.on_same u (whole u.a) q (places.same_sym q (whole u.a) k) (places.a_on u)) (λ k. places.on_same u (whole u.b) q (places.same_sym q (whole u.b) k) (places.b_on u)) end in
    off is.c is.joins.chain is.joins.is (is.k, record { segment = u; from = is.joins.from; to = is.joins.to; on = on })

-- ---- counts by the ray to the west, at a place on no chain

pub some_west : (chains : List MapChain) → AreFaced chains → (p : Rational) → IsOff chains p →
    (list : List ℕ) × AreHits (segments_before chains (length chains)) (IsWestHit chains p) list
some_west chains faced p off =
    let k : (K : ℤ) × IsSteep K chains p = some_steepness chains p in
    let line : IsLine k.0 chains p = steep_line k.0 chains p k.1 (no_end_off chains p off) in
    let s : (side : Side) × IsSeen k.0 chains p k.1 line faced off side = seen k.0 chains p k.1 line faced off in (
      numbers k.0 chains p s.1.front,
      are_hits k.0 chains p k.1 line (IsWestHit chains p) s.1.front (west_list k.0 chains p k.1 line s.1.front s.1.back s.1.listed s.1.west s.1.east),
    )

pub west_counted : (chains : List MapChain) → AreFaced chains → (p : Rational) → IsOff chains p → (S : Side → Bool) (n : ℤ) (hits : List ℕ) →
    S Outside ≡ false → AreHits (segments_before chains (length chains)) (IsWestHit chains p) hits → n ≡ pos 0 -ℤ balance S (map (flanks_at chains) hits) →
    IsCountAt chains p S n
west_counted chains faced p off S n hits none are e =
    let k : (K : ℤ) × IsSteep K chains p = some_steepness chains p in
    west_count k.0 chains p k.1 (steep_line k.0 chains p k.1 (no_end_off chains p off)) faced off S n hits none are e

pub one_polygon : (chains : List MapChain) → AreFaced chains → HasOnePolygon chains
one_polygon chains faced q off =
    let k : (K : ℤ) × IsSteep K chains q = some_steepness chains q in
    let line : IsLine k.0 chains q = steep_line k.0 chains q k.1 (no_end_off chains q off) in
    let s : (side : Side) × IsSeen k.0 chains q k.1 line faced off side = seen k.0 chains q k.1 line faced off in
    (s.0, lies_by chains q s.0 (λ S none. count k.0 chains q k.1 line faced off s.0 S none s.1))
