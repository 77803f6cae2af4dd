-- What is kept of a type 2 record: how its pairs are filled, and how many steps their points make.
use Rattle.std.specs.Prelude.{ℕ, ◌+◌, ◌≤◌, ◌^◌, ◌-◌, min, Bool, true, false, if◌then◌else◌, Option, Some, None, List, length, take, drop, fold}
use Rattle.tl_geom.specs.declared.point.Point.{Point}
use Rattle.tl_map_rules.specs.declared.entry.Fill.{Fill}
use Rattle.tl_map_rules.specs.declared.entry.Fill.TheVariants.{Full, Ended, Gap}
use Rattle.tl_map_rules.specs.declared.entry.ShapeEntry.{ShapeEntry}
use Rattle.tl_map_rules.specs.ChainsOf.{used, has_gap}
use Rattle.tl_record.specs.Joining.{same_point}
use Rattle.tl_map_rules.specs.Keeping.Pairs.{some_unused}
use Rattle.tl_map_rules.specs.declared.listing.shape.Trace.{Trace}
use Rattle.tl_map_rules.specs.declared.listing.shape.Seen.{Seen}
use Rattle.tl_map_rules.specs.declared.listing.shape.ShapeSummary.{ShapeSummary}

-- the steps with one more, which are counted up to a greatest number
abbrev pub more_steps : ℕ → ℕ → ℕ
more_steps m n = min (m + n) (2 ^ 32 - 1)

-- the used points with one more
abbrev pub traced : Option Trace → Point → Trace
traced None p = record { first = p; last = p; steps = 0 }
traced (Some t) p = if same_point p t.last then t else record { first = t.first; last = p; steps = more_steps t.steps 1 }

-- the used points with more of them
abbrev pub traces : Option Trace → List Point → Option Trace
traces o ps = fold (λ t p. Some (traced t p)) o ps

-- what is seen of pairs
abbrev pub seen_in : List (Option Point) → Seen
seen_in pairs = record { trace = traces None (used pairs); gap = has_gap pairs; unused = some_unused pairs }

-- nothing is seen yet
abbrev pub start : Seen
start = record { trace = None; gap = false; unused = false }

-- how the pairs are filled
abbrev pub fill_of : List (Option Point) → Fill
fill_of pairs = if has_gap pairs then Gap else (if some_unused pairs then Ended else Full)

-- does a used pair come after an unused one, and is one unused
abbrev pub has_late : Fill → Bool
has_late Full = false
has_late Ended = false
has_late Gap = true

abbrev pub has_unused : Fill → Bool
has_unused Full = false
has_unused Ended = true
has_unused Gap = true

-- the same of the used points of pairs that are filled like this
abbrev pub seen_by : List Point → Fill → Seen
seen_by points fill = record { trace = traces None points; gap = has_late fill; unused = has_unused fill }

-- the points of an entry in the list of all used points
abbrev pub entry_points : List Point → ShapeEntry → List Point
entry_points pool s = take s.used (drop s.first pool)

-- the entry's points lie within that list
abbrev pub IsInside : List Point → ShapeEntry → Type 0
IsInside pool s = s.first + s.used ≤ length pool

-- what is kept of an entry
abbrev pub summary_in : List Point → ShapeEntry → ShapeSummary
summary_in pool s = record { tlid = s.tlid; seen = seen_by (entry_points pool s) s.fill; rtsq = s.rtsq }
