-- Kept on the way: entries of type 1 and type 2 records, and their order.
use Rattle.std.specs.Prelude.{◌≡◌, ℕ, ◌+◌, ◌<◌, ◌≤◌, nat_lt, Bool, true, ◌&&◌, ◌==◌, Option, List, [], ◌∷◌, ◌++◌, length, take, filter, sum_by, count_by, All, Contains, slice_index_or}
use Rattle.std.specs.List.{dedup, flat_map}
use Rattle.tl_geom.specs.declared.point.Point.{Point}
use Rattle.tl_record.specs.declared.record.Record.{Record}
use Rattle.tl_record.specs.declared.record.Record.TheVariants.{Chain, Shape}
use Rattle.tl_map_rules.specs.declared.entry.ChainEntry.{ChainEntry}
use Rattle.tl_map_rules.specs.declared.entry.ShapeEntry.{ShapeEntry}
use Rattle.tl_map_rules.specs.declared.entry.Fill.{Fill}
use Rattle.tl_map_rules.specs.declared.entry.Fill.TheVariants.{Full, Ended, Gap}
use Rattle.tl_map_rules.specs.ChainsOf.{used}
use Rattle.tl_record.specs.Joining.{same_point}
use Rattle.tl_map_county.specs.Chains.{CompleteChain}
use Rattle.tl_map_rules.specs.Listing.Shapes.{fill_of, entry_points, IsInside}

-- a number for each type 1 record, and 0 for others
abbrev pub by_chain : (ℕ → Point → Point → ℕ) → Record → ℕ
by_chain f (Chain t from to) = f t from to
by_chain f other = 0

-- a number for each type 2 record by its TLID and RTSQ, and 0 for others
abbrev pub by_shape : (ℕ → ℕ → ℕ) → Record → ℕ
by_shape f (Shape t n pairs) = f t n
by_shape f other = 0

-- the entries stand for the type 1 records: sums over both are equal, and each entry is one of them
pub record AreChainEntries (rs : List Record) (entries : List ChainEntry) : Type 0 where
  pub sums : (f : ℕ → Point → Point → ℕ) → sum_by (λ c. f c.tlid c.from c.to) entries ≡ sum_by (by_chain f) rs
  pub each : All (λ c. Contains rs (Chain c.tlid c.from c.to)) entries

-- the entry stands for a type 2 record
pub record IsShapeEntry (rs : List Record) (pool : List Point) (s : ShapeEntry) : Type 0 where
  pub pairs : List (Option Point)
  pub record_of_it : Contains rs (Shape s.tlid s.rtsq pairs)
  pub inside : IsInside pool s
  pub points : entry_points pool s ≡ used pairs
  pub fill : s.fill ≡ fill_of pairs

-- the entries stand for the type 2 records: sums over both are equal, and each entry is one of them
pub record AreShapeEntries (rs : List Record) (pool : List Point) (entries : List ShapeEntry) : Type 0 where
  pub sums : (f : ℕ → ℕ → ℕ) → sum_by (λ s. f s.tlid s.rtsq) entries ≡ sum_by (by_shape f) rs
  pub each : All (IsShapeEntry rs pool) entries

-- how many chain entries have TLID t
abbrev pub chains_with : ℕ → List ChainEntry → ℕ
chains_with t entries = count_by (λ c. c.tlid == t) entries

-- by strictly rising TLID
abbrev pub AreEntriesRising : List ChainEntry → Type 0
AreEntriesRising entries = (i j : ℕ) (d : ChainEntry) → i < j → j < length entries → (slice_index_or entries i d).tlid < (slice_index_or entries j d).tlid

-- is the entry one of TLID t
abbrev pub has_tlid : ℕ → ShapeEntry → Bool
has_tlid t s = s.tlid == t

-- how many shape entries have TLID t
abbrev pub shapes_with : ℕ → List ShapeEntry → ℕ
shapes_with t entries = count_by (has_tlid t) entries

-- how many shape entries have TLID t and RTSQ n
abbrev pub shapes_at : ℕ → ℕ → List ShapeEntry → ℕ
shapes_at t n entries = count_by (λ s. (s.tlid == t) && (s.rtsq == n)) entries

-- x stands no later than y by TLID, and within one TLID by RTSQ
pub record Precedes (x y : ShapeEntry) : Type 0 where
  pub by_tlid : x.tlid ≤ y.tlid
  pub by_rtsq : x.tlid ≡ y.tlid → x.rtsq ≤ y.rtsq

-- by rising TLID, and within one TLID by rising RTSQ
abbrev pub AreInOrder : List ShapeEntry → Type 0
AreInOrder entries = (i j : ℕ) (d : ShapeEntry) → i < j → j < length entries → Precedes (slice_index_or entries i d) (slice_index_or entries j d)

-- the RTSQ of the i-th entry is the number of entries of its TLID up to it
abbrev pub IsPlaced : List ShapeEntry → ℕ → Type 0
IsPlaced entries i = (d : ShapeEntry) → (slice_index_or entries i d).rtsq ≡ shapes_with (slice_index_or entries i d).tlid (take i entries) + 1

-- within each TLID the RTSQ count up from 1
abbrev pub ArePlaced : List ShapeEntry → Type 0
ArePlaced entries = (i : ℕ) → i < length entries → IsPlaced entries i

-- for each n from 1 to their number, one entry of TLID t has RTSQ n
abbrev pub AreNumbered : List ShapeEntry → ℕ → Type 0
AreNumbered entries t = (n : ℕ) → 1 ≤ n → n ≤ shapes_with t entries → shapes_at t n entries ≡ 1

-- does a used pair of the entry come after an unused one, of its own or, where ended says so, of an earlier entry
abbrev pub late_by : Fill → Bool → ℕ → Bool
late_by Full ended n = ended && nat_lt 0 n
late_by Ended ended n = ended && nat_lt 0 n
late_by Gap ended n = true

abbrev pub late_after : Bool → ShapeEntry → Bool
late_after ended s = late_by s.fill ended s.used

-- is a pair unused, of the entry or, where ended says so, of an earlier one
abbrev pub ended_by : Fill → Bool → Bool
ended_by Full ended = ended
ended_by Ended ended = true
ended_by Gap ended = true

abbrev pub ended_after : Bool → ShapeEntry → Bool
ended_after ended s = ended_by s.fill ended

-- the chain of an entry, with the points of the shape entries of its TLID
abbrev pub joined : List Point → List ShapeEntry → ChainEntry → CompleteChain
joined pool shapes c = record {
  tlid = c.tlid;
  points = dedup same_point (c.from ∷ (flat_map (entry_points pool) (filter (has_tlid c.tlid) shapes) ++ c.to ∷ []));
}
