-- Polygons' points are placed exactly where no fault is listed.
use Rattle.std.proofs.Common.{◌≡◌, ◌↔◌, ℕ, ℤ, pos, List, [], ◌∷◌, get_or, Contains, refl, subst, arith}
use Rattle.std.proofs.lemmas.Int.{ints, by_lt_z}
use Rattle.std.proofs.lemmas.Option.{slice_get_within, slice_get-get_or}
use Rattle.tl_geom.specs.declared.point.Point.{Point}
use Rattle.tl_map_county.specs.declared.polygons.Polygon.{Polygon}
use Rattle.tl_map_county.specs.TheMap.{TheMap, MapChain}
use Rattle.tl_check_inside.specs.declared.misplaced.Misplaced.{Misplaced}
use Rattle.tl_check_inside.specs.declared.misplaced.Misplaced.TheVariants.{OnChain, Outside, InOther}
use Rattle.tl_check_inside.specs.Inside.{is_polygon, IsPolygonCount}
use Rattle.tl_check_inside.specs.Placed.{ArePlaced, IsTrueMisplaced}
use Rattle.tl_check_points.specs.Listing.AllMisplaced.{AreAllMisplaced, NoneHidden}
use Rattle.tl_check_inside.proofs.Counting.{one_count}
use Rattle.tl_check_points.proofs.ListingLemmas.Crossing.{polygon_count}
use Rattle.tl_check_points.proofs.ListingLemmas.Wholes.{place_of}

-- where the points are placed, nothing is true
none_true : (m : TheMap) (fault : Misplaced) → ArePlaced m → IsTrueMisplaced m fault → ⊥
none_true m (OnChain key tlid) placed t = (placed t.p (record { key = key; point = t.point }) t.of).off t.c t.held
none_true m (Outside key) placed t = t.outside (placed t.p (record { key = key; point = t.point }) t.of).inside
none_true m (InOther key other) placed t = t.within ((placed t.p (record { key = key; point = t.point }) t.of).clear t.q
    (slice_get_within m.polygons t.q (record { key = other; point = t.other_point }) t.other_of) t.two)

empty : (m : TheMap) (found : List Misplaced) → AreAllMisplaced NoneHidden m found → ArePlaced m → found ≡ []
empty m [] all placed = refl
empty m (fault ∷ found) all placed = absurd (none_true m fault placed (all.each 0 fault (omega arith)))

-- the count is this one, or it isn't
count_is : (chains : List MapChain) (q : Point) (p : ℕ) (n : ℤ) → ¬ (¬ IsPolygonCount chains q p n) → IsPolygonCount chains q p n
count_is chains q p n not_not =
    let has = polygon_count chains q p in
    by_lt_z has.n n
    (λ less. absurd (not_not (λ other. omega (arith, ints, less, one_count chains q (is_polygon p) has.n n has.count other))))
    (λ ge. by_lt_z n has.n
    (λ more. absurd (not_not (λ other. omega (arith, ints, more, one_count chains q (is_polygon p) has.n n has.count other))))
    (λ le. let same : has.n ≡ n = omega (arith, ints, ge, le) in subst (IsPolygonCount chains q p) same has.count))

placed : (m : TheMap) → ((fault : Misplaced) → ¬ IsTrueMisplaced m fault) → ArePlaced m
placed m never p polygon is = record {
  off = λ c held. never (OnChain polygon.key held.chain.tlid) (record { p = p; point = polygon.point; of = is; c = c; held = held; tlid_is = refl });
  inside = count_is m.chains polygon.point p (pos 1) (λ out. never (Outside polygon.key) (record { p = p; point = polygon.point; of = is; outside = out }));
  clear = λ n lt two.
      let other : Polygon = get_or m.polygons n polygon in
      count_is m.chains polygon.point n (pos 0) (λ within. never (InOther polygon.key other.key) (record {
        p = p;
        point = polygon.point;
        of = is;
        q = n;
        other_point = other.point;
        other_of = slice_get-get_or m.polygons n polygon lt;
        two = two;
        within = within;
      }));
}

pub placed_where_none : (m : TheMap) (found : List Misplaced) → AreAllMisplaced NoneHidden m found → ArePlaced m ↔ (found ≡ [])
placed_where_none m found all = (
  empty m found all,
  λ none. placed m (λ fault true_one.
      let at = place_of m fault true_one in
      let named = subst (λ fs. Contains fs fault) none (all.every at.at fault (record { own = λ e h. h; other = λ e h. h }) at.is) in
      let lt = named.1 in
      omega (arith, lt)),
)
