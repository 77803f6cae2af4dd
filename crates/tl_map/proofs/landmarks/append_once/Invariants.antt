use Rattle.std.proofs.Common.{◌≡◌, length}
use Rattle.tl_map.proofs.MarkLemmas.{Marking}
use Rattle.tl_map.proofs.landmarks.append_once.Given as goal

abbrev pub invariant-loop-link : goal.invariant-loop-link
invariant-loop-link l = record {
  marking : Marking l.run l.link-index l.mark l.fn.linked.items l.linked.items l.marks;
  same : length l.marks ≡ length l.fn.marks;
}
