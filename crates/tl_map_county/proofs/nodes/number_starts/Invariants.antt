use Rattle.std.proofs.Common.{◌≡◌, length}
use Rattle.tl_map_county.proofs.NumberingLemmas.{Numbering}
use Rattle.tl_map_county.proofs.nodes.number_starts.Given as goal

abbrev pub invariant-loop-start : goal.invariant-loop-start
invariant-loop-start l = record {
  numbering : Numbering l.starts l.start-index l.numbers.items l.count l.previous;
  long : length l.numbers.items ≡ length l.starts;
}
