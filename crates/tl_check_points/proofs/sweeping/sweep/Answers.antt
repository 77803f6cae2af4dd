use Rattle.tl_check_points.proofs.Visiting.{either, sets_out}
use Rattle.tl_check_points.proofs.sweeping.sweep.Goals as goal

pub sweep_over-requires : goal.sweep_over-requires
sweep_over-requires c = record {
  begun = sets_out c.args.sites.now c.in_ok-notes.notes c.args.map.now c.args.events.now c.requires.events c.requires.rising c.requires.ranges
      c.in_ok-notes.ensures;
}

pub returns : goal.returns
returns c = either c.in_ok-sweep_over.field-0 (λ h. let end = c.in_ok-sweep_over.ensures.passed h in end.1.visits) c.in_ok-sweep_over.ensures.stopped
