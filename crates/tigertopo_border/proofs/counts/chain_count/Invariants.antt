use Rattle.std.proofs.Common.{◌≡◌, ◌≤◌, take}
use Rattle.std.specs.Prelude.{count_by}
use Rattle.tigertopo_border.specs.Whole.Borders.{has_blank}
use Rattle.tigertopo_border.proofs.counts.chain_count.Given as goal

abbrev pub invariant-loop-number : goal.invariant-loop-number
invariant-loop-number l = record {
  counted : l.count ≡ count_by has_blank (take l.number l.map.chains);
  bound : l.count ≤ l.number;
}
