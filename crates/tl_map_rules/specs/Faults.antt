-- Each fault of the records as a statement about the whole list of them.
use Rattle.std.specs.Prelude.{◌≡◌, ℕ, ◌<◌, ◌≤◌, ◌==◌, ◌⊎◌, ⊤, true, Some, List, length, map, count_by, Any, Contains, slice_get}
use Rattle.tl_geom.specs.declared.point.Point.{Point}
use Rattle.tl_record_key.specs.declared.key.PolyKey.{PolyKey}
use Rattle.tl_record.specs.declared.record.Record.{Record}
use Rattle.tl_record.specs.declared.record.Record.TheVariants.{Chain}
use Rattle.tl_map_rules.specs.declared.fault.Limited.{Limited}
use Rattle.tl_map_rules.specs.declared.fault.Limited.TheVariants.{Chains, Segments, Polygons, Landmarks}
use Rattle.tl_map_rules.specs.declared.fault.RecordFault.{RecordFault}
use Rattle.tl_map_rules.specs.declared.fault.RecordFault.TheVariants.{DuplicateChain, ShapeWithoutChain, ShapeSequence, ShapeGap, ChainWithoutSides, SidesWithoutChain, DuplicateSides, DuplicatePolygon, SideWithoutPolygon, LinkWithoutLandmark, LinkWithoutPolygon, DegenerateChain, TooMany}
use Rattle.tl_map_rules.specs.ChainsOf.{is_chain, is_shape_at, shape_count, pairs_of, has_gap, points_between, segments_of, chain_count}
use Rattle.tl_map_rules.specs.declared.entry.SidesEntry.{SidesEntry}
use Rattle.tl_map_rules.specs.MapOf.{sides_in, polygons_in, landmarks_in, links_in, keys, first_landmarks}
use Rattle.tl_map_county.specs.Limits.{most_chains, most_segments, most_polygons, most_landmarks}

-- two type 1 records have TLID t
abbrev pub IsChainRepeated : List Record → ℕ → Type 0
IsChainRepeated rs t = 2 ≤ count_by (is_chain t) rs

-- a type 2 record has TLID t, and no type 1 record has
abbrev pub IsStray : List Record → ℕ → Type 0
IsStray rs t = (1 ≤ shape_count rs t) × (count_by (is_chain t) rs ≡ 0)

-- the RTSQ of the type 2 records of TLID t are 1 to their number, each once
abbrev pub AreShapesNumbered : List Record → ℕ → Type 0
AreShapesNumbered rs t = (n : ℕ) → 1 ≤ n → n ≤ shape_count rs t → count_by (is_shape_at t n) rs ≡ 1

-- they are, and a used pair comes after an unused one
pub record IsBroken (rs : List Record) (t : ℕ) : Type 0 where
  pub numbered : AreShapesNumbered rs t
  pub gap : has_gap (pairs_of rs t) ≡ true

-- TLID t has a chain, and all its points are one point
pub record IsDegenerate (rs : List Record) (t : ℕ) : Type 0 where
  pub once : ¬ IsChainRepeated rs t
  pub numbered : AreShapesNumbered rs t
  pub no_gap : ¬ IsBroken rs t
  pub from : Point
  pub to : Point
  pub record_of_it : Contains rs (Chain t from to)
  pub one_point : length (points_between from (pairs_of rs t) to) ≡ 1

-- no type 1 record stands twice, and each type 2 record has its place in a chain
pub record AreJoined (rs : List Record) : Type 0 where
  pub once : (t : ℕ) → ¬ IsChainRepeated rs t
  pub no_stray : (t : ℕ) → ¬ IsStray rs t
  pub numbered : (t : ℕ) → AreShapesNumbered rs t
  pub no_gap : (t : ℕ) → ¬ IsBroken rs t

-- a type 1 record has TLID t
abbrev pub HasChain : List Record → ℕ → Type 0
HasChain rs t = (from : Point) × (to : Point) × Contains rs (Chain t from to)

-- a type I record has TLID t
abbrev pub HasSides : List Record → ℕ → Type 0
HasSides rs t = Contains (map (λ s. s.tlid) (sides_in rs)) t

-- a type P record has key k
abbrev pub HasPolygon : List Record → PolyKey → Type 0
HasPolygon rs k = Contains (keys (polygons_in rs)) k

-- a type 7 record has LAND n
abbrev pub HasLandmark : List Record → ℕ → Type 0
HasLandmark rs n = Contains (map (λ e. e.land) (landmarks_in rs)) n

-- two places of the list hold the same
abbrev pub StandsTwice : {X : Type 0} → List X → X → Type 0
StandsTwice xs x = (i : ℕ) × (j : ℕ) × (i < j) × (slice_get xs i ≡ Some x) × (slice_get xs j ≡ Some x)

-- a side of the type I record names key k
abbrev pub Names : SidesEntry → PolyKey → Type 0
Names s k = (s.left ≡ Some k) ⊎ (s.right ≡ Some k)

-- there are more than the limit
abbrev pub IsTooMany : List Record → Limited → Type 0
IsTooMany rs Chains = most_chains < chain_count rs
IsTooMany rs Segments = AreJoined rs × (most_segments < segments_of rs)
IsTooMany rs Polygons = most_polygons < length (polygons_in rs)
IsTooMany rs Landmarks = most_landmarks < length (first_landmarks rs)

-- the fault is true of the records
abbrev pub IsTrueOf : List Record → RecordFault → Type 0
IsTrueOf rs (DuplicateChain t) = IsChainRepeated rs t
IsTrueOf rs (ShapeWithoutChain t) = IsStray rs t
IsTrueOf rs (ShapeSequence t) = ¬ AreShapesNumbered rs t
IsTrueOf rs (ShapeGap t) = IsBroken rs t
IsTrueOf rs (ChainWithoutSides t) = HasChain rs t × ¬ HasSides rs t
IsTrueOf rs (SidesWithoutChain t) = HasSides rs t × ¬ HasChain rs t
IsTrueOf rs (DuplicateSides t) = 2 ≤ count_by (λ s. s.tlid == t) (sides_in rs)
IsTrueOf rs (DuplicatePolygon k) = StandsTwice (keys (polygons_in rs)) k
IsTrueOf rs (SideWithoutPolygon t k) = Any (λ s. (s.tlid ≡ t) × Names s k) (sides_in rs) × ¬ HasPolygon rs k
IsTrueOf rs (LinkWithoutLandmark n) = Any (λ l. l.land ≡ n) (links_in rs) × ¬ HasLandmark rs n
IsTrueOf rs (LinkWithoutPolygon k n) = Any (λ l. (l.key ≡ k) × (l.land ≡ n)) (links_in rs) × ¬ HasPolygon rs k
IsTrueOf rs (DegenerateChain t) = IsDegenerate rs t
IsTrueOf rs (TooMany what) = IsTooMany rs what

-- there are too many of the chains or of their segments
abbrev pub IsOfChains : Limited → Type 0
IsOfChains Chains = ⊤
IsOfChains Segments = ⊤
IsOfChains Polygons = ⊥
IsOfChains Landmarks = ⊥

-- the fault is one of the chains: of records of the types 1 and 2 alone, or of the number of chains or of segments
abbrev pub IsFaultOfChains : RecordFault → Type 0
IsFaultOfChains (DuplicateChain t) = ⊤
IsFaultOfChains (ShapeWithoutChain t) = ⊤
IsFaultOfChains (ShapeSequence t) = ⊤
IsFaultOfChains (ShapeGap t) = ⊤
IsFaultOfChains (ChainWithoutSides t) = ⊥
IsFaultOfChains (SidesWithoutChain t) = ⊥
IsFaultOfChains (DuplicateSides t) = ⊥
IsFaultOfChains (DuplicatePolygon k) = ⊥
IsFaultOfChains (SideWithoutPolygon t k) = ⊥
IsFaultOfChains (LinkWithoutLandmark n) = ⊥
IsFaultOfChains (LinkWithoutPolygon k n) = ⊥
IsFaultOfChains (DegenerateChain t) = ⊤
IsFaultOfChains (TooMany what) = IsOfChains what

-- no fault of the chains is true of the records
pub record HaveNoChainFault (rs : List Record) : Type 0 where
  pub once : (t : ℕ) → ¬ IsTrueOf rs (DuplicateChain t)
  pub no_stray : (t : ℕ) → ¬ IsTrueOf rs (ShapeWithoutChain t)
  pub in_sequence : (t : ℕ) → ¬ IsTrueOf rs (ShapeSequence t)
  pub no_gap : (t : ℕ) → ¬ IsTrueOf rs (ShapeGap t)
  pub not_degenerate : (t : ℕ) → ¬ IsTrueOf rs (DegenerateChain t)
  pub few_chains : ¬ IsTrueOf rs (TooMany Chains)
  pub few_segments : ¬ IsTrueOf rs (TooMany Segments)

-- no fault is true of the records
abbrev pub HaveNoFault : List Record → Type 0
HaveNoFault rs = (fault : RecordFault) → ¬ IsTrueOf rs fault
