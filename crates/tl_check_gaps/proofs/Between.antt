-- What the ray to the east crosses of a point between two neighbours of the list at its height: all that stands east of it.
use Rattle.std.proofs.Common.{◌≡◌, ◌⊎◌, inl, inr, ⊎_elim, ℕ, ◌+◌, ◌<◌, ℤ, pos, ◌+ℤ◌, ◌-ℤ◌, ◌*ℤ◌, ◌<ℤ◌, ◌≤ℤ◌, Bool, true, false, if◌then◌else◌, List, [], ◌∷◌, ◌++◌, length, get_or, refl, sym, ap, subst, ◌∙◌, arith}
use Rattle.std.proofs.lemmas.Bool.Decides.{nat_tests}
use Rattle.std.proofs.lemmas.Int.{ints, by_lt_z}
use Rattle.std.proofs.lemmas.Option.{slice_get_within}
use Rattle.tl_geom.specs.declared.point.Point.{Point}
use Rattle.tl_geom.specs.declared.segment.Segment.{Segment}
use Rattle.tl_geom.specs.Plane.{IsOn, whole, turn_of}
use Rattle.tl_geom.proofs.Polynomials.{num, ◌⊕◌, ◌⊖◌, ◌⊗◌, same}
use Rattle.tl_geom.proofs.Signs.{product_at_least, times_zero}
use Rattle.tl_map_county.specs.declared.sides.Side.{Side}
use Rattle.tl_map_county.specs.declared.sides.Side.TheVariants.{Outside, Polygon}
use Rattle.tl_map_county.specs.TheMap.{TheMap, MapChain}
use Rattle.tl_map_county.specs.Segments.{segments_before}
use Rattle.tl_check_planar.specs.Planar.{IsOnSegment}
use Rattle.tl_check_planar.proofs.Numbering.{below_total, HaveSameEnds}
use Rattle.tl_tree_index.specs.Hits.{times}
use Rattle.tl_tree_index.proofs.Times.{same_or, times-other, times-append}
use Rattle.tl_check_inside.specs.Inside.{AreCrossed, IsCrossed, IsCount, is_polygon}
use Rattle.tl_check_inside.specs.Places.{IsOffChains}
use Rattle.tl_check_inside.specs.Placed.{IsPlacedIn}
use Rattle.tl_check_planar.specs.ByHeight.Heights.{height, AreNear, low_end, high_end, turn_to, turn_at, Spans}
use Rattle.tl_check_planar.specs.ByHeight.Neighbours.{IsNumbered, IsWide, AreTested, EachTwo, IsWestOf}
use Rattle.tl_check_planar.specs.ByHeight.Slabs.{IsActive}
use Rattle.tl_check_gaps.specs.Beside.{IsNoVertex, IsEastOf, IsWestOfIt, IsEastOfLast, IsWestOfFirst, IsBetween, AreFacing, seen_side}
use Rattle.tl_check_planar.proofs.ByHeight.Order.{turn_whole}
use Rattle.tl_check_planar.proofs.ByHeight.Rising.{AreEndsOf, ends_of, one_higher, higher, higher_west}
use Rattle.tl_check_faces.specs.Lists.{RunsWest}
use Rattle.tl_check_planar.proofs.ByHeight.Lying.{heights_of}
use Rattle.tl_check_planar.proofs.ByHeight.Transport.{strictly_west, strictly_east}
use Rattle.tl_check_planar.proofs.ByHeight.Numbered.{one_segment}
use Rattle.tl_check_planar.proofs.ByHeight.Walking.{IsIn, in_by_times, all_head, all_tail, two_front, two_back, spans_of}
use Rattle.tl_check_gaps.proofs.Crossed.{IsPassed, passed, crosses}
use Rattle.tl_check_gaps.proofs.Flanked.{balance_is}
use Rattle.tl_check_faces.proofs.OnePolygon.{polygon_itself, polygon_other}
use Rattle.tl_check_inside.proofs.Sides.{is_lt}

-- ---- lists

no_times : (s : ℕ) (xs : List ℕ) → ¬ IsIn s xs → times s xs ≡ 0
no_times s [] out = refl
no_times s (x ∷ xs) out = same_or s x (λ e. absurd (out (inl e))) (λ ne. times-other s x xs ne ∙ no_times s xs (λ i. out (inr i)))

pub in_front : (s : ℕ) (xs ys : List ℕ) → IsIn s xs → IsIn s (xs ++ ys)
in_front s [] ys i = absurd i
in_front s (x ∷ xs) ys i = ⊎_elim (λ e. inl e) (λ later. inr (in_front s xs ys later)) i

pub in_back : (s : ℕ) (xs ys : List ℕ) → IsIn s ys → IsIn s (xs ++ ys)
in_back s [] ys i = i
in_back s (x ∷ xs) ys i = inr (in_back s xs ys i)

in_either : (s : ℕ) (xs ys : List ℕ) → IsIn s (xs ++ ys) → IsIn s xs ⊎ IsIn s ys
in_either s [] ys i = inr i
in_either s (x ∷ xs) ys i = ⊎_elim (λ e. inl (inl e)) (λ later. ⊎_elim (λ k. inl (inr k)) (λ k. inr k) (in_either s xs ys later)) i

pub in_all : (P : ℕ → Type 0) (s : ℕ) (xs : List ℕ) → ((k d : ℕ) → k < length xs → P (get_or xs k d)) → IsIn s xs → P s
in_all P s [] all i = absurd i
in_all P s (x ∷ xs) all i = ⊎_elim (λ e. subst P (sym e) (all_head P x xs all)) (λ later. in_all P s xs (all_tail P x xs all) later) i

-- ---- about a point

times_one : (z : ℤ) → pos 1 *ℤ z ≡ z
times_one z = same (num (pos 1) ⊗ num z) (num z) (omega arith)

pub turn_same : (K : ℤ) (q : Point) (u w : Segment) → HaveSameEnds u w → turn_to K u q ≡ turn_to K w q
turn_same K q u w e = rw (e.first, e.last) refl

-- by a step that runs level to the west, what lies no further south lies on no left side
no_turn : (a b q : Point) → a.y ≡ b.y → b.x <ℤ a.x → a.y ≤ℤ q.y → ¬ (pos 0 <ℤ turn_of a b q)
no_turn a b q level west north turned =
    let product : pos 0 ≤ℤ ((a.x -ℤ b.x) *ℤ (q.y -ℤ a.y)) =
    product_at_least (a.x -ℤ b.x) (q.y -ℤ a.y) (omega (arith, ints, west)) (omega (arith, ints, north)) in
    let none : a.y -ℤ b.y ≡ pos 0 = omega (arith, ints, level) in
    let sum : turn_of a b q +ℤ (a.x -ℤ b.x) *ℤ (q.y -ℤ a.y) ≡ (q.x -ℤ a.x) *ℤ (a.y -ℤ b.y) =
    same ((num b.x ⊖ num a.x) ⊗ (num q.y ⊖ num a.y) ⊖ (num b.y ⊖ num a.y) ⊗ (num q.x ⊖ num a.x) ⊕ (num a.x ⊖ num b.x) ⊗ (num q.y ⊖ num a.y))
    ((num q.x ⊖ num a.x) ⊗ (num a.y ⊖ num b.y)) (omega arith) in
    let zero : (q.x -ℤ a.x) *ℤ (a.y -ℤ b.y) ≡ pos 0 = ap (λ z. (q.x -ℤ a.x) *ℤ z) none ∙ times_zero (q.x -ℤ a.x) in
    omega (arith, ints, product, sum, zero, turned)

module _ (K : ℤ) (chains : List MapChain) (wide : IsWide K chains) (q : Point) (clear : IsNoVertex K chains q) where
  spans : (s : ℕ) (a : IsActive K (height K q) chains s) → Spans K a.segment (whole q)
  spans s a =
      let one = times_one (height K q) in
      let more = times_one (height K q +ℤ pos 1) in
      spans_of K (height K q) chains wide (whole q) (omega (arith, ints, one)) (omega (arith, ints, more)) s a

  near_of : (s : ℕ) (a : IsActive K (height K q) chains s) → AreNear K a.segment.a a.segment.b
  near_of s a = wide s a.segment a.is

  west_of : (s t : ℕ) → AreTested K chains s t → (a : IsActive K (height K q) chains s) (b : IsActive K (height K q) chains t) → IsWestOf K a.segment b.segment
  west_of s t tested a b = tested.west a.segment b.segment a.is b.is

  -- the side of one segment tells that of its neighbour
  further_west : (s t : ℕ) → AreTested K chains s t → IsActive K (height K q) chains s → IsActive K (height K q) chains t → IsWestOfIt K chains q s → IsWestOfIt K chains q t
  further_west s t tested a b west w is =
      let h : pos 0 <ℤ turn_at (low_end K a.segment) (high_end K a.segment) (whole q) = subst (λ z. pos 0 <ℤ z) (sym (turn_whole (low_end K a.segment) (high_end K a.segment) q)) (west a.segment a.is) in
      let k : pos 0 <ℤ turn_at (low_end K b.segment) (high_end K b.segment) (whole q) =
      strictly_west K a.segment b.segment (near_of s a) (near_of t b) (west_of s t tested a b) (whole q) (spans s a) (spans t b) h in
      subst (λ z. pos 0 <ℤ z) (turn_whole (low_end K b.segment) (high_end K b.segment) q ∙ turn_same K q b.segment w (one_segment chains t b.segment w b.is is)) k

  further_east : (s t : ℕ) → AreTested K chains s t → IsActive K (height K q) chains s → IsActive K (height K q) chains t → IsEastOf K chains q t → IsEastOf K chains q s
  further_east s t tested a b east u is =
      let h : turn_at (low_end K b.segment) (high_end K b.segment) (whole q) <ℤ pos 0 = subst (λ z. z <ℤ pos 0) (sym (turn_whole (low_end K b.segment) (high_end K b.segment) q)) (east b.segment b.is) in
      let k : turn_at (low_end K a.segment) (high_end K a.segment) (whole q) <ℤ pos 0 =
      strictly_east K a.segment b.segment (near_of s a) (near_of t b) (west_of s t tested a b) (whole q) (spans s a) (spans t b) h in
      subst (λ z. z <ℤ pos 0) (turn_whole (low_end K a.segment) (high_end K a.segment) q ∙ turn_same K q a.segment u (one_segment chains s a.segment u a.is is)) k

  -- so q is strictly west of all that stands behind one, and strictly east of all that stands before one
  all_west : (list : List ℕ) → ((t : ℕ) → IsIn t list → IsActive K (height K q) chains t) → EachTwo (AreTested K chains) list → IsWestOfFirst K chains q list → (t : ℕ) → IsIn t list → IsWestOfIt K chains q t
  all_west [] active two west t i = absurd i
  all_west (s ∷ []) active two west t i = ⊎_elim (λ e. subst (IsWestOfIt K chains q) (sym e) west) (λ later. absurd later) i
  all_west (s ∷ (y ∷ rest)) active two west t i =
      ⊎_elim (λ e. subst (IsWestOfIt K chains q) (sym e) west)
      (λ later. all_west (y ∷ rest) (λ k j. active k (inr j)) two.1 (further_west s y two.0 (active s (inl refl)) (active y (inr (inl refl))) west) t later) i

  all_east : (list : List ℕ) → ((t : ℕ) → IsIn t list → IsActive K (height K q) chains t) → EachTwo (AreTested K chains) list → IsEastOfLast K chains q list → (t : ℕ) → IsIn t list → IsEastOf K chains q t
  all_east [] active two east t i = absurd i
  all_east (s ∷ []) active two east t i = ⊎_elim (λ e. subst (IsEastOf K chains q) (sym e) east) (λ later. absurd later) i
  all_east (s ∷ (y ∷ rest)) active two east t i =
      let rest_east : (k : ℕ) → IsIn k (y ∷ rest) → IsEastOf K chains q k = all_east (y ∷ rest) (λ k j. active k (inr j)) two.1 east in
      ⊎_elim (λ e. subst (IsEastOf K chains q) (sym e) (further_east s y two.0 (active s (inl refl)) (active y (inr (inl refl))) (rest_east y (inl refl))))
      (λ later. rest_east t later) i

  -- a segment that the ray crosses is active, with q to its west
  crossed_active : (s : ℕ) → IsCrossed chains q s → IsActive K (height K q) chains s × ((u : Segment) × IsNumbered chains s u × (pos 0 <ℤ turn_to K u q))
  crossed_active s c =
      let is : IsNumbered chains s c.segment = record { c = c.c; k = c.k; number = c.number; joins = c.joins } in
      let p : IsPassed K c.segment q = passed K c.segment q (wide s c.segment is) (clear.near_first s c.segment is) (clear.near_last s c.segment is) c.crosses in
      let from = p.from in
      (record { segment = c.segment; is = is; begun = omega (arith, ints, from); lasting = p.to }, (c.segment, is, p.west))

  active_crossed : (s : ℕ) → IsActive K (height K q) chains s → IsWestOfIt K chains q s → IsCrossed chains q s
  active_crossed s a west = record {
    c = a.is.c;
    k = a.is.k;
    segment = a.segment;
    number = a.is.number;
    joins = a.is.joins;
    crosses = crosses K a.segment q (near_of s a) (clear.near_first s a.segment a.is) (clear.near_last s a.segment a.is) a.begun a.lasting (west a.segment a.is);
  }

  -- a segment that holds q is active, and there is no turn to q
  held_active : (s : ℕ) (u : Segment) → IsNumbered chains s u → IsOn u (whole q) → IsActive K (height K q) chains s × (turn_to K u q ≡ pos 0)
  held_active s u is on =
      let ends : AreEndsOf K u (low_end K u) (high_end K u) = ends_of K u (wide s u is) in
      let at = heights_of K u (low_end K u) (high_end K u) ends (whole q) on in
      let from : (pos 1 *ℤ height K (low_end K u)) ≤ℤ height K q = at.1 in
      let to : height K q ≤ℤ (pos 1 *ℤ height K (high_end K u)) = at.2 in
      let one = times_one (height K (low_end K u)) in
      let more = times_one (height K (high_end K u)) in
      let apart : (height K q <ℤ height K (high_end K u)) ⊎ (height K (high_end K u) <ℤ height K q) =
      ⊎_elim
      (λ k. subst (λ p. (height K q <ℤ height K p) ⊎ (height K p <ℤ height K q)) (sym k.1) (one_higher K q u.b (clear.near_last s u is) (clear.no_last s u is)))
      (λ k. subst (λ p. (height K q <ℤ height K p) ⊎ (height K p <ℤ height K q)) (sym k.1) (one_higher K q u.a (clear.near_first s u is) (clear.no_first s u is)))
      ends.are in
      let lasting : height K q <ℤ height K (high_end K u) = ⊎_elim (λ lt. lt) (λ lt. omega (arith, ints, lt, to, more)) apart in (
        record { segment = u; is = is; begun = omega (arith, ints, from, one); lasting = lasting },
        sym (turn_whole (low_end K u) (high_end K u) q) ∙ at.0,
      )

  -- ---- a point between two parts of the list

  module _ (front back : List ℕ) (between : IsBetween K chains q front back) where
    active_in : (t : ℕ) → IsIn t (front ++ back) → IsActive K (height K q) chains t
    active_in t i = in_all (IsActive K (height K q) chains) t (front ++ back) between.listed.active i

    east_in : (t : ℕ) → IsIn t front → IsEastOf K chains q t
    east_in = all_east front (λ t i. active_in t (in_front t front back i)) (two_front (AreTested K chains) front back between.listed.tested) between.east

    west_in : (t : ℕ) → IsIn t back → IsWestOfIt K chains q t
    west_in = all_west back (λ t i. active_in t (in_back t front back i)) (two_back (AreTested K chains) front back between.listed.tested) between.west

    one_part : (s : ℕ) → IsActive K (height K q) chains s → IsIn s front ⊎ IsIn s back
    one_part s a = in_either s front back (in_by_times s (front ++ back) (let once = between.listed.once s a in omega (arith, once)))

    pub active_behind : (t : ℕ) → IsIn t back → IsActive K (height K q) chains t
    active_behind t i = active_in t (in_back t front back i)

    -- none of those behind it runs level to the west
    pub not_west : (t : ℕ) (i : IsIn t back) (a : IsActive K (height K q) chains t) → ¬ RunsWest a.segment
    not_west t i a runs =
        let rises = higher_west K a.segment.a a.segment.b (near_of t a) runs.level runs.west in
        let test = is_lt (height K a.segment.a) (height K a.segment.b) rises in
        let low : low_end K a.segment ≡ a.segment.a = ap (λ (b : Bool). if b then a.segment.a else a.segment.b) test in
        let high : high_end K a.segment ≡ a.segment.b = ap (λ (b : Bool). if b then a.segment.b else a.segment.a) test in
        let begun : height K a.segment.a ≤ℤ height K q = subst (λ (p : Point). height K p ≤ℤ height K q) low a.begun in
        let north : a.segment.a.y ≤ℤ q.y =
        by_lt_z q.y a.segment.a.y
        (λ south. absurd (let h = higher K q a.segment.a (clear.near_first t a.segment a.is) south in omega (arith, ints, h, begun))) (λ le. le) in
        let turned : pos 0 <ℤ turn_of a.segment.a a.segment.b q =
        subst (λ (p : Point). pos 0 <ℤ turn_of p a.segment.b q) low
        (subst (λ (p : Point). pos 0 <ℤ turn_of (low_end K a.segment) p q) high (west_in t i a.segment a.is)) in
        no_turn a.segment.a a.segment.b q runs.level runs.west north turned

    pub off_chains : IsOffChains chains q
    off_chains c held =
        let o : IsOnSegment held.chain.points held.on.0 (whole q) = held.on.1 in
        let u : Segment = o.segment in
        let s : ℕ = segments_before chains c + held.on.0 in
        let is : IsNumbered chains s o.segment = record {
          c = c;
          k = held.on.0;
          number = record { chain = held.chain; is = held.is; place = slice_get_within held.chain.points (held.on.0 + 1) o.segment.b o.to; number = refl };
          joins = record { chain = held.chain; is = held.is; from = o.from; to = o.to };
        } in
        let at : IsActive K (height K q) chains s × (turn_to K o.segment q ≡ pos 0) = held_active s o.segment is o.on in
        let zero : turn_to K o.segment q ≡ pos 0 = at.1 in
        ⊎_elim (λ i. let east = east_in s i o.segment is in omega (arith, ints, east, zero)) (λ i. let west = west_in s i o.segment is in omega (arith, ints, west, zero)) (one_part s at.0)

    crossed_once : (s : ℕ) → IsCrossed chains q s → times s back ≡ 1
    crossed_once s c =
        let at = crossed_active s c in
        let west = at.1.2 in
        let once = between.listed.once s at.0 in
        let none : times s front ≡ 0 = no_times s front (λ i. let east = east_in s i at.1.0 at.1.1 in omega (arith, ints, east, west)) in
        let both = times-append s front back in
        omega (arith, once, none, both)

    pub crossed : AreCrossed chains q back
    crossed = record {
      once = λ s lt c. crossed_once s c;
      others = λ s out. no_times s back (λ i. out (active_crossed s (active_in s (in_back s front back i)) (west_in s i)));
      known = λ s le. no_times s back (λ i.
          let a : IsActive K (height K q) chains s = active_in s (in_back s front back i) in
          let below : s < segments_before chains (length chains) = below_total chains s a.is.c a.is.k a.is.number in
          omega (arith, below, le));
    }

    pub counted : AreFacing chains back → (S : Side → Bool) → S Outside ≡ false → IsCount chains q S (if S (seen_side chains back) then pos 1 else pos 0)
    counted facing S none = record { crossed = back; are = crossed; counted = balance_is chains S none back facing }

-- ---- in a map

pub placed : (K : ℤ) (m : TheMap) (q : Point) (front back : List ℕ) (p : ℕ) → IsWide K m.chains → IsNoVertex K m.chains q → IsBetween K m.chains q front back → AreFacing m.chains back → seen_side m.chains back ≡ Polygon p → IsPlacedIn m q p
placed K m q front back p wide clear between facing sees = record {
  off = off_chains K m.chains wide q clear front back between;
  inside =
      subst (λ n. IsCount m.chains q (is_polygon p) n) (ap (λ (b : Bool). if b then pos 1 else pos 0) (ap (is_polygon p) sees ∙ polygon_itself p))
      (counted K m.chains wide q clear front back between facing (is_polygon p) refl);
  clear = λ other lt ne.
      subst (λ n. IsCount m.chains q (is_polygon other) n) (ap (λ (b : Bool). if b then pos 1 else pos 0) (ap (is_polygon other) sees ∙ polygon_other p other ne))
      (counted K m.chains wide q clear front back between facing (is_polygon other) refl);
}
