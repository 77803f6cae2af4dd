use Rattle.std.proofs.Common.{◌≡◌, ◌++◌, map, take}
use Rattle.tl_list.specs.Keeping.Noting.{bytes_of, no_front}
use Rattle.tl_list.proofs.noted.NotedLines.end_fronts.Given as goal

abbrev pub invariant-loop-refusal : goal.invariant-loop-refusal
invariant-loop-refusal l = record {
  added : bytes_of l.self.fronts.items ≡ bytes_of l.fn.self.fronts.items ++ map no_front (take l._refusal-index l._refusal-items);
  records : l.self.records ≡ l.fn.self.records;
}
