-- The chains that a list of records draws: each chain's points, and all chains by rising TLID.
use Rattle.std.specs.Prelude.{◌≡◌, ℕ, zero, suc, ◌-◌, Bool, true, false, ◌&&◌, ◌==◌, if◌then◌else◌, Option, Some, None, List, [], ◌∷◌, ◌++◌, length, sum_by, count_by, All, Contains}
use Rattle.tl_record.specs.Joining.{same_point}
use Rattle.std.specs.List.{dedup}
use Rattle.std.specs.List.Sorted.{IsStrictlyIncreasing}
use Rattle.tl_geom.specs.declared.point.Point.{Point}
use Rattle.tl_map_county.specs.Chains.{CompleteChain, tlids, segment_count}
use Rattle.tl_record.specs.declared.record.Record.{Record}
use Rattle.tl_record.specs.declared.record.Record.TheVariants.{Chain, Shape}

-- is this a type 1 record with TLID t
abbrev pub is_chain : ℕ → Record → Bool
is_chain t (Chain u from to) = u == t
is_chain t other = false

-- is this a type 1 record
abbrev pub is_any_chain : Record → Bool
is_any_chain (Chain u from to) = true
is_any_chain other = false

-- is this a type 2 record with TLID t
abbrev pub is_shape : ℕ → Record → Bool
is_shape t (Shape u k pairs) = u == t
is_shape t other = false

-- is this a type 2 record with TLID t and RTSQ n
abbrev pub is_shape_at : ℕ → ℕ → Record → Bool
is_shape_at t n (Shape u k pairs) = (u == t) && (k == n)
is_shape_at t n other = false

-- how many type 2 records have TLID t
abbrev pub shape_count : List Record → ℕ → ℕ
shape_count rs t = count_by (is_shape t) rs

-- the pairs of the first type 2 record with TLID t and RTSQ n
abbrev pub pairs_at : List Record → ℕ → ℕ → List (Option Point)
pairs_at [] t n = []
pairs_at (Shape u k pairs ∷ rs) t n = if (u == t) && (k == n) then pairs else pairs_at rs t n
pairs_at (other ∷ rs) t n = pairs_at rs t n

-- the pairs of TLID t by rising RTSQ, from 1 to n
abbrev pub pairs_up_to : List Record → ℕ → ℕ → List (Option Point)
pairs_up_to rs t zero = []
pairs_up_to rs t (suc n) = pairs_up_to rs t n ++ pairs_at rs t (suc n)

-- all pairs of TLID t by rising RTSQ
abbrev pub pairs_of : List Record → ℕ → List (Option Point)
pairs_of rs t = pairs_up_to rs t (shape_count rs t)

-- the points of the used pairs
abbrev pub used : List (Option Point) → List Point
used [] = []
used (None ∷ pairs) = used pairs
used (Some p ∷ pairs) = p ∷ used pairs

-- is one of the pairs used
abbrev pub some_used : List (Option Point) → Bool
some_used [] = false
some_used (None ∷ pairs) = some_used pairs
some_used (Some p ∷ pairs) = true

-- does a used pair come after an unused one
abbrev pub has_gap : List (Option Point) → Bool
has_gap [] = false
has_gap (None ∷ pairs) = some_used pairs
has_gap (Some p ∷ pairs) = has_gap pairs

-- the start, the used pairs and the end, where a run of equal neighbours is kept once
abbrev pub points_between : Point → List (Option Point) → Point → List Point
points_between from pairs to = dedup same_point (from ∷ (used pairs ++ to ∷ []))

-- how many segments a type 1 record's chain has
abbrev pub segments_by : List Record → Record → ℕ
segments_by rs (Chain t from to) = length (points_between from (pairs_of rs t) to) - 1
segments_by rs other = 0

-- how many segments the chains of the records have
abbrev pub segments_of : List Record → ℕ
segments_of rs = sum_by (segments_by rs) rs

-- how many type 1 records there are
abbrev pub chain_count : List Record → ℕ
chain_count rs = count_by is_any_chain rs

-- a type 1 record draws the chain
pub record IsDrawn (rs : List Record) (c : CompleteChain) : Type 0 where
  pub from : Point
  pub to : Point
  pub record_of_it : Contains rs (Chain c.tlid from to)
  pub points : c.points ≡ points_between from (pairs_of rs c.tlid) to

-- the chains that the records draw, by rising TLID
pub record AreChainsOf (rs : List Record) (chains : List CompleteChain) : Type 0 where
  pub rising : IsStrictlyIncreasing (tlids chains)
  pub drawn : All (IsDrawn rs) chains
  pub complete : (t : ℕ) (from to : Point) → Contains rs (Chain t from to) → Contains (tlids chains) t
  pub segments : segment_count chains ≡ segments_of rs
