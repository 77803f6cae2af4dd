-- Which records of a chain hold the ends of one of its segments. `lines` are the records of types 1 and 2 of the chain.
use Rattle.std.specs.Prelude.{ℕ, zero, suc, ◌+◌, ◌-◌, ◌==◌, min, nat_lt, Bool, true, false, List, [], ◌∷◌, ◌++◌, length, Option, None, Some, option_map, slice_get, if◌then◌else◌}
use Rattle.tl_geom.specs.declared.point.Point.{Point}
use Rattle.tl_record.specs.declared.record.Record.{Record}
use Rattle.tl_record.specs.declared.record.Record.TheVariants.{Chain, Shape}
use Rattle.tl_map_county.specs.TheMap.{MapChain}
use Rattle.tl_record.specs.Joining.{same_point}
use Rattle.tigertopo_faults.specs.declared.records.line.RecordLine.{RecordLine}
use Rattle.tigertopo_faults.specs.declared.records.line.Part.{Part}
use Rattle.tigertopo_faults.specs.declared.records.line.Part.TheVariants.{Start, Pair, End}
use Rattle.tigertopo_faults.specs.declared.records.walk.HeldPoint.{HeldPoint}
use Rattle.tigertopo_faults.specs.declared.records.walk.HeldSegment.{HeldSegment}

-- the number of a segment's chain, and the segment's number within it, both counted from 0
abbrev pub segment_place : List MapChain → ℕ → Option (ℕ × ℕ)
segment_place [] s = None
segment_place (chain ∷ rest) s =
    if nat_lt s (length chain.points - 1) then Some (0, s) else option_map (λ (place : ℕ × ℕ). (place.0 + 1, place.1)) (segment_place rest (s - (length chain.points - 1)))

-- the segment's number within its chain
abbrev pub segment_within : List MapChain → ℕ → Option ℕ
segment_within chains s = option_map (λ (place : ℕ × ℕ). place.1) (segment_place chains s)

-- is it of type 2 with this RTSQ, or where there is none, of type 1
abbrev pub is_at : Option ℕ → Record → Bool
is_at None (Chain tlid from to) = true
is_at (Some n) (Shape tlid rtsq pairs) = rtsq == n
is_at rtsq other = false

-- A chain that is told twice (`is_told_twice` of `tl_record`) has each of its records twice. Of the two of type 1, and of the two of one RTSQ,
-- the first is of the telling with number 0, and the second of that with number 1. This is the record of a telling, with its place, among
-- these, of which the first has this place.
abbrev pub told_from : ℕ → Option ℕ → ℕ → List RecordLine → Option (ℕ × Record)
told_from telling rtsq place [] = None
told_from zero rtsq place (line ∷ rest) = if is_at rtsq line.holds then Some (place, line.holds) else told_from zero rtsq (place + 1) rest
told_from (suc telling) rtsq place (line ∷ rest) = told_from (if is_at rtsq line.holds then telling else suc telling) rtsq (place + 1) rest

-- the record of a telling, with its place among these, counted from 0
abbrev pub told : ℕ → Option ℕ → List RecordLine → Option (ℕ × Record)
told telling rtsq lines = told_from telling rtsq 0 lines

-- where a type 1 record at this place has its chain start, and where it has it end
abbrev pub start_in : ℕ → Record → List HeldPoint
start_in place (Chain tlid from to) = record { place = place; part = Start; point = from } ∷ []
start_in place other = []

abbrev pub end_in : ℕ → Record → List HeldPoint
end_in place (Chain tlid from to) = record { place = place; part = End; point = to } ∷ []
end_in place other = []

-- the pair with this number, where it is used
abbrev pub pair_held : ℕ → ℕ → Option Point → List HeldPoint
pair_held place number None = []
pair_held place number (Some p) = record { place = place; part = Pair number; point = p } ∷ []

-- the used ones of these pairs, of which the first has this number
abbrev pub pairs_held : ℕ → ℕ → List (Option Point) → List HeldPoint
pairs_held place number [] = []
pairs_held place number (pair ∷ pairs) = pair_held place number pair ++ pairs_held place (number + 1) pairs

-- the used pairs of a type 2 record, numbered from 1
abbrev pub pairs_in : ℕ → Record → List HeldPoint
pairs_in place (Shape tlid rtsq pairs) = pairs_held place 1 pairs
pairs_in place other = []

-- what is held of a record at its place, where there is one
abbrev pub held_in : (ℕ → Record → List HeldPoint) → Option (ℕ × Record) → List HeldPoint
held_in points None = []
held_in points (Some own) = points own.0 own.1

-- the used pairs of a telling by rising RTSQ: of so many of them, of which the first is this one
abbrev pub pairs_from : ℕ → List RecordLine → ℕ → ℕ → List HeldPoint
pairs_from telling lines zero first = []
pairs_from telling lines (suc more) first = held_in pairs_in (told telling (Some first) lines) ++ pairs_from telling lines more (first + 1)

-- the points of the chain in a telling, from its start to its end, each with where it is held; an RTSQ has three digits
abbrev pub points_held : ℕ → List RecordLine → List HeldPoint
points_held telling lines =
    held_in start_in (told telling None lines) ++ (pairs_from telling lines (min (length lines) 999) 1 ++ held_in end_in (told telling None lines))

-- the segments from here on, behind this point if there is one; a run of equal neighbours is one point
abbrev pub segments_from : Option HeldPoint → List HeldPoint → List HeldSegment
segments_from before [] = []
segments_from None (point ∷ rest) = segments_from (Some point) rest
segments_from (Some before) (point ∷ rest) =
    if same_point before.point point.point then segments_from (Some point) rest else record { from = before; to = point } ∷ segments_from (Some point) rest

-- the chain's segments in a telling, from its start to its end
abbrev pub segments_held : ℕ → List RecordLine → List HeldSegment
segments_held telling lines = segments_from None (points_held telling lines)

-- the record that holds one end of segment k, as one that does; or both, where the other end is given
abbrev pub holding : List RecordLine → ℕ → HeldPoint → Option Part → Option RecordLine
holding lines k point other =
    option_map (λ (line : RecordLine). record line { ends = Some (record { segment = k; part = point.part; other = other }) }) (slice_get lines point.place)

-- a line among others, before those with greater numbers
abbrev pub in_order : RecordLine → List RecordLine → List RecordLine
in_order line [] = line ∷ []
in_order line (first ∷ rest) = if nat_lt line.line first.line then line ∷ first ∷ rest else first ∷ in_order line rest

-- these, and a line among them where there is one
abbrev pub with_line : List RecordLine → Option RecordLine → List RecordLine
with_line found None = found
with_line found (Some line) = in_order line found

-- these, and among them the records of a segment's ends; where both are one record, that one
abbrev pub with_ends : List RecordLine → List RecordLine → ℕ → Option HeldSegment → List RecordLine
with_ends found lines k None = found
with_ends found lines k (Some segment) =
    if segment.from.place == segment.to.place then with_line found (holding lines k segment.from (Some segment.to.part))
    else with_line (with_line found (holding lines k segment.from None)) (holding lines k segment.to None)

-- the records that hold the ends of the segment with this number, where there is one: of both tellings, in the order of their lines
abbrev pub segment_lines : List RecordLine → Option ℕ → List RecordLine
segment_lines lines None = []
segment_lines lines (Some k) =
    with_ends (with_ends [] lines k (slice_get (segments_held 0 lines) k)) lines k (slice_get (segments_held 1 lines) k)
