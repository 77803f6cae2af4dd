use Rattle.std.proofs.Common.{map, string_bytes, take}
use Rattle.tl_record.specs.Layout.{layout_with}
use Rattle.tigertopo_faults.specs.Hint.Fronts.{fronted_text}
use Rattle.tigertopo_faults.proofs.hint.placed.print_refusals.Given as goal

abbrev pub invariant-loop-index : goal.invariant-loop-index
invariant-loop-index g l =
    g.P.Page.adds l.initial.page l.page (fronted_text l.form (layout_with l.options) (map string_bytes l.names) l.counts (take l.index l.refusals) (map (λ front. front.items) l.fronts))
