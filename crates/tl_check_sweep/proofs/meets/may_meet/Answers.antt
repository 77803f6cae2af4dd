use Rattle.tl_check_active.proofs.Meeting.{both_ends, turned}
use Rattle.tl_check_sweep.proofs.meets.may_meet.Goals as goal
use Rattle.tl_check_sweep.proofs.meets.may_meet.Goals.{then-follows-via-then-follows, then-follows-via-else-follows+then-follows-2}

pub returns-then-follows : goal.returns-then-follows
returns-then-follows c = λ h. elim c.then-follows.branch [
  | then-follows-via-then-follows w ↦ c.follows.ensures w.if-follows.true
  | then-follows-via-else-follows+then-follows-2 w ↦ turned c.args.map.now.chains c.args.e c.args.f (w.follows-else-follows.ensures w.if-follows-2.true)
]

pub returns-then-is_chain_end : goal.returns-then-is_chain_end
returns-then-is_chain_end c = λ h. both_ends c.args.map.now.chains c.args.e c.args.f (c.is_chain_end.ensures c.if-is_chain_end.true) (c.is_chain_end-then-is_chain_end.ensures h)
