use Rattle.std.proofs.Common.{◌≡◌, length}
use Rattle.tigertopo_faults.proofs.KeptLemmas.{AreEmpty}
use Rattle.tigertopo_faults.proofs.records.kept.KeptLines.new.Given as goal

abbrev pub invariant-loop : goal.invariant-loop
invariant-loop l = record {
  count : length l.lines.items ≡ l.counter;
  empty : AreEmpty l.lines.items;
}
