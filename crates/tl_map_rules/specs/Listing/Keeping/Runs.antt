-- Kept on the way: the shapes of one TLID in the order of their RTSQ.
use Rattle.std.specs.Prelude.{◌≡◌, ℕ, ◌+◌, ◌<◌, ◌≤◌, Bool, true, ◌&&◌, ◌||◌, not, ◌==◌, is_some, if◌then◌else◌, Option, Some, None, List, [], ◌∷◌, map, filter, fold, length, slice_index_or}
use Rattle.std.specs.List.{filter_map}
use Rattle.std.specs.List.Sorted.{IsPermutation}
use Rattle.tl_record.specs.declared.record.Record.{Record}
use Rattle.tl_map_rules.specs.Listing.Kept.{shape_at}
use Rattle.tl_record.specs.Joining.{same_point}
use Rattle.tl_map_rules.specs.declared.entry.ChainEntry.{ChainEntry}
use Rattle.tl_map_rules.specs.declared.fault.RecordFault.{RecordFault}
use Rattle.tl_map_rules.specs.declared.fault.RecordFault.TheVariants.{ShapeSequence, ShapeGap}
use Rattle.tl_map_rules.specs.declared.listing.shape.Trace.{Trace}
use Rattle.tl_map_rules.specs.declared.listing.shape.Seen.{Seen}
use Rattle.tl_map_rules.specs.declared.listing.shape.ShapeSummary.{ShapeSummary}
use Rattle.tl_map_rules.specs.Listing.Shapes.{start, more_steps, traced}

-- x stands no later than y by TLID, and within one TLID by RTSQ
pub record Precedes (x y : ShapeSummary) : Type 0 where
  pub by_tlid : x.tlid ≤ y.tlid
  pub by_rtsq : x.tlid ≡ y.tlid → x.rtsq ≤ y.rtsq

-- by rising TLID, and within one TLID by rising RTSQ
abbrev pub AreInOrder : List ShapeSummary → Type 0
AreInOrder shapes = (i j : ℕ) (d : ShapeSummary) → i ≤ j → j < length shapes → Precedes (slice_index_or shapes i d) (slice_index_or shapes j d)

-- the shapes are those of the records, in order
pub record AreShapes (rs : List Record) (shapes : List ShapeSummary) : Type 0 where
  pub moved : IsPermutation (filter_map shape_at rs) shapes
  pub order : AreInOrder shapes

-- the shapes of one TLID
abbrev pub run_of : List ShapeSummary → ℕ → List ShapeSummary
run_of shapes t = filter (λ s. s.tlid == t) shapes

-- the used points of both, one behind the other
abbrev pub join_traces : Option Trace → Option Trace → Option Trace
join_traces o None = o
join_traces None (Some b) = Some b
join_traces (Some a) (Some b) = Some (record {
  first = a.first;
  last = b.last;
  steps = more_steps (more_steps a.steps b.steps) (if same_point b.first a.last then 0 else 1);
})

-- what is seen of both, one behind the other
abbrev pub join : Seen → Seen → Seen
join s r = record {
  trace = join_traces s.trace r.trace;
  gap = (s.gap || r.gap) || (s.unused && is_some r.trace);
  unused = s.unused || r.unused;
}

-- what is seen of the shapes one behind the other
abbrev pub seen_in_run : List ShapeSummary → Seen
seen_in_run run = fold (λ s x. join s x.seen) start run

-- do the numbers count up from n
abbrev pub count_up : ℕ → List ℕ → Bool
count_up n [] = true
count_up n (q ∷ qs) = (q == n) && count_up (n + 1) qs

-- do the RTSQ count up from 1
abbrev pub in_sequence : List ShapeSummary → Bool
in_sequence run = count_up 1 (map (λ s. s.rtsq) run)

-- the fault that the shapes of a TLID have
abbrev pub run_fault : ℕ → List ShapeSummary → Option RecordFault
run_fault t run = if in_sequence run then (if (seen_in_run run).gap then Some (ShapeGap t) else None) else Some (ShapeSequence t)

-- the fault is one of the TLID of one of the first shapes
pub record IsRunFault (shapes : List ShapeSummary) (end : ℕ) (f : RecordFault) : Type 0 where
  pub place : ℕ
  pub below : place < end
  pub within : place < length shapes
  pub is : (d : ShapeSummary) → run_fault (slice_index_or shapes place d).tlid (run_of shapes (slice_index_or shapes place d).tlid) ≡ Some f

-- how many segments a chain has with what is seen of its shapes
abbrev pub chain_steps : ChainEntry → Seen → ℕ
chain_steps c s = (traced (join_traces (Some (traced None c.from)) s.trace) c.to).steps

-- are the shapes in sequence and without a gap, and all points of the chain one point
abbrev pub is_one_point : ChainEntry → List ShapeSummary → Bool
is_one_point c run = (in_sequence run && not (seen_in_run run).gap) && (chain_steps c (seen_in_run run) == 0)
