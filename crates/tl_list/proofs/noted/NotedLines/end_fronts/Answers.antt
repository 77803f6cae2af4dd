use Rattle.tl_list.proofs.NotedLemmas.{none_added}
use Rattle.tl_list.proofs.noted.NotedLines.end_fronts.Goals as goal

pub loop-refusal-preserved : goal.loop-refusal-preserved
loop-refusal-preserved c = record {
  added = none_added c.loop-refusal.self.fronts.items _ c.new.result _ _ c.loop-refusal._refusal-index c.in_ok-push.ensures.items c.new.ensures.items c.loop-refusal-test.true c.loop-refusal.invariant.added;
  records = c.loop-refusal.invariant.records;
}
