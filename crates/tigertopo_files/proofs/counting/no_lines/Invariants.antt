use Rattle.std.proofs.Common.{◌≡◌, All, vec_len}
use Rattle.tigertopo_files.specs.Counting.{IsNew}
use Rattle.tigertopo_files.proofs.counting.no_lines.Given as goal

abbrev pub invariant-loop : goal.invariant-loop
invariant-loop l = (vec_len l.counts ≡ l.counter) × All IsNew l.counts.items
