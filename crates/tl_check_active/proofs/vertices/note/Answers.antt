use Rattle.std.proofs.Common.{◌==◌, ◌&&◌, not, ap, ◌∙◌}
use Rattle.tl_tree_index.specs.Hits.{times}
use Rattle.tl_check_active.specs.Events.{begins_at, ends_at}
use Rattle.tl_check_active.proofs.Gathering.{noted}
use Rattle.tl_check_active.proofs.vertices.note.Goals as goal

pub returns-in_ok-push-clause-ins : goal.returns-in_ok-push-clause-ins
returns-in_ok-push-clause-ins c = λ s.
    ap (times s) c.in_ok-push.ensures.items ∙ noted s c.args.ins.now.items c.args.event (begins_at s) (ap (λ b. b && (c.args.event.segment == s)) c.if-event.true)

pub returns-in_ok-push-2-clause-outs : goal.returns-in_ok-push-2-clause-outs
returns-in_ok-push-2-clause-outs c = λ s.
    ap (times s) c.in_ok-push-2.ensures.items ∙ noted s c.args.outs.now.items c.args.event (ends_at s) (ap (λ b. not b && (c.args.event.segment == s)) c.if-event.false)
