use Rattle.std.proofs.Common.{length}
use Rattle.std.proofs.lemmas.List.Sorted.{All-permutation}
use Rattle.tl_map_county.specs.Segments.{segments_before}
use Rattle.tl_check_active.specs.Events.{AreMet}
use Rattle.tl_check_active.proofs.Joining.{joined_moved}
use Rattle.tl_check_sweep.proofs.answer.sweep_ends.Goals as goal

pub sweep_events-requires-clause-events : goal.sweep_events-requires-clause-events
sweep_events-requires-clause-events c =
    joined_moved c.args.map.now.chains (segments_before c.args.map.now.chains (length c.args.map.now.chains)) _ _ c.in_ok-sort.ensures.moved c.in_ok-events.ensures.events

pub sweep_events-requires-clause-met : goal.sweep_events-requires-clause-met
sweep_events-requires-clause-met c = All-permutation (AreMet c.args.map.now.chains) _ _ c.in_ok-sort.ensures.moved c.in_ok-events.ensures.met
