use Rattle.std.proofs.Common.{◌≡◌, ◌∷◌, [], ◌++◌, get_or, length, append_assoc, sym, ap, subst, ◌∙◌, arith}
use Rattle.tl_check_active.specs.Blocks.Lined.{list_of}
use Rattle.tl_check_active.proofs.Lining.{single}
use Rattle.tl_check_gaps.specs.Keeping.Facing.{raised}
use Rattle.tl_check_points.specs.Keeping.Labels.{AreLabelled, IsOnce}
use Rattle.tl_check_points.proofs.Entering.{handed_on}
use Rattle.tl_check_points.proofs.vertex.label_vertex.Goals as goal

pub returns-then-are_alike-clause-labelled : goal.returns-then-are_alike-clause-labelled
returns-then-are_alike-clause-labelled c = λ h west is once all.
    let n = length c.args.map.now.polygons in
    let chains = raised c.args.map.now.chains in
    let back = c.args.line.now.back in
    let out = single c.args.outs.now (omega (arith, c.if-outs-eq1.true)) in
    let one = single c.args.ins.now (omega (arith, c.if-ins-eq1.true)) in
    let whole : list_of c.args.line.now ≡ (west ++ get_or c.args.ins.now 0 0 ∷ []) ++ c.args.line.now.back =
    ap (λ f. f ++ c.args.line.now.back) (is ∙ ap (λ l. west ++ l) one) in
    subst (AreLabelled n chains c.hand_on.new.self.gaps.items c.hand_on.new.self.labels.items)
    (sym (whole ∙ append_assoc west (get_or c.args.ins.now 0 0 ∷ []) c.args.line.now.back))
    (handed_on n chains c.args.labels.now c.hand_on.new.self west (get_or c.args.outs.now 0 0) (get_or c.args.ins.now 0 0) back (subst IsOnce whole once)
    c.hand_on.ensures.gaps (c.are_alike.ensures c.if-are_alike.true) (c.hand_on.ensures.label h) c.hand_on.ensures.others
    (subst (λ l. AreLabelled n chains c.args.labels.now.gaps.items c.args.labels.now.labels.items (west ++ (l ++ c.args.line.now.back))) out all))
