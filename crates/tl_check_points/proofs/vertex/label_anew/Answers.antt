use Rattle.std.proofs.Common.{◌≡◌, ◌++◌, length, append_assoc, sym, ap, subst, ◌∙◌}
use Rattle.tl_check_active.specs.Blocks.Lined.{list_of}
use Rattle.tl_check_gaps.specs.Keeping.Facing.{raised}
use Rattle.tl_check_inside.specs.Keeping.Tallies.{flanks_in}
use Rattle.tl_check_points.specs.Keeping.Ways.{TellGap}
use Rattle.tl_check_points.specs.Keeping.Labels.{AreLabelled, IsOnce}
use Rattle.tl_check_points.proofs.Labelled.{labelled_behind}
use Rattle.tl_check_points.proofs.Entering.{vertex_labelled}
use Rattle.tl_check_points.proofs.vertex.label_anew.Goals as goal

pub returns-then-are_balanced-clause-labelled : goal.returns-then-are_balanced-clause-labelled
returns-then-are_balanced-clause-labelled c = λ h west is once all.
    let n = length c.args.map.now.polygons in
    let chains = raised c.args.map.now.chains in
    let back = c.args.line.now.back in
    let some = c.is_some.ensures h in
    let whole : list_of c.args.line.now ≡ (west ++ c.args.ins.now) ++ c.args.line.now.back = ap (λ f. f ++ c.args.line.now.back) is in
    let told : TellGap (length c.args.map.now.polygons) c.args.labels.now.gaps.items c.gap_at-east.result
    (flanks_in (raised c.args.map.now.chains) c.args.line.now.back) =
    c.gap_at-east.ensures n chains
    (labelled_behind n chains c.args.labels.now.gaps.items c.args.labels.now.labels.items c.args.outs.now back
    (labelled_behind n chains c.args.labels.now.gaps.items c.args.labels.now.labels.items west (c.args.outs.now ++ back) all)) in
    subst (AreLabelled n chains c.enter_all.new.self.gaps.items c.enter_all.new.self.labels.items)
    (sym (whole ∙ append_assoc west c.args.ins.now back))
    (vertex_labelled n chains c.args.labels.now c.enter_all.new.self west c.args.outs.now c.args.ins.now back c.gap_at-east.result some.0
    (subst IsOnce whole once) (c.are_balanced.ensures c.if-are_balanced.true) c.in_ok-enter_all.ensures.kept
    (c.in_ok-enter_all.ensures.entered some.0 some.1) told all)

pub returns-clause-labelled : goal.returns-clause-labelled
returns-clause-labelled c = λ h west is once all.
    let n = length c.args.map.now.polygons in
    let chains = raised c.args.map.now.chains in
    let back = c.args.line.now.back in
    let some = c.is_some-2.ensures h in
    let listed : c.deref.result.now ≡ c.args.line.now.front = c.deref.ensures.value ∙ c.in_ok-list_front.ensures in
    let behind = labelled_behind n chains c.args.labels.now.gaps.items c.args.labels.now.labels.items c.args.outs.now back
    (labelled_behind n chains c.args.labels.now.gaps.items c.args.labels.now.labels.items west (c.args.outs.now ++ back) all) in
    subst (λ f. AreLabelled n chains c.enter_all-2.new.self.gaps.items c.enter_all-2.new.self.labels.items (f ++ back)) listed
    ((c.in_ok-enter_all-2.ensures.entered some.0 some.1).labelled back (subst (λ f. IsOnce (f ++ back)) (sym listed) once) behind
    (c.gap_at-east.ensures n chains behind)).0
