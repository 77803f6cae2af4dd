use Rattle.std.proofs.Common.{◌∙◌, ap, Vec, Global}
use Rattle.tl_record.specs.declared.record.Record.{Record}
use Rattle.tl_map.proofs.JoinedLemmas.JoinLemmas.{step_some, step_none}
use Rattle.tl_map.proofs.joined.join.join_records.Goals.{in-Some+in_ok-push, in_default}
use Rattle.tl_map.proofs.joined.join.join_records.Goals as goal

pub loop-at-preserved : goal.loop-at-preserved
loop-at-preserved c = elim c.match-joined_one.branch [
  | in-Some+in_ok-push w ↦ step_some c.args.records.now c.loop-at.at c.joined_one.result w.in-Some.left c.loop-at.joined.items c.match-joined_one.joined.items
      c.loop-at-test.true c.joined_one.ensures w.in-Some.is (ap (λ (v : Vec Record Global). v.items) w.joined-is ∙ w.in_ok-push.ensures.items) c.loop-at.invariant
  | in_default w ↦ step_none c.args.records.now c.loop-at.at c.joined_one.result c.loop-at.joined.items c.match-joined_one.joined.items
      c.loop-at-test.true c.joined_one.ensures w.in_default.is (ap (λ (v : Vec Record Global). v.items) w.joined-is) c.loop-at.invariant
]
