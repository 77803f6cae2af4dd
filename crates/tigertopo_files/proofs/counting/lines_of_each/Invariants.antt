use Rattle.std.proofs.Common.{◌≡◌, [], map, take}
use Rattle.tigertopo_files.specs.Counting.{lines_with}
use Rattle.tigertopo_files.proofs.counting.lines_of_each.Given as goal

abbrev pub invariant-loop-count : goal.invariant-loop-count
invariant-loop-count l = l.lines.items ≡ map (λ count. lines_with count []) (take l.count-index l.counts)
