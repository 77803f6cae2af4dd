use Rattle.std.proofs.Common.{sym, ◌∙◌}
use Rattle.tl_check_points.proofs.Gapped.{gap_some, gap_none}
use Rattle.tl_check_points.proofs.labels.Labels.gap_at.Goals as goal

pub returns-in-Some : goal.returns-in-Some
returns-in-Some c = λ n chains labelled.
    gap_some n chains c.args.self.now.gaps.items c.args.self.now.labels.items c.args.line.now.back c.in-Some.s c.label.result (sym c.next.ensures ∙ c.in-Some.is) c.label.ensures labelled

pub returns-in-None : goal.returns-in-None
returns-in-None c = λ n chains labelled. gap_none n chains c.args.self.now.gaps.items c.args.line.now.back (sym c.next.ensures ∙ c.in-None.is)
