use Rattle.std.proofs.Common.{◌≡◌, ◌≢◌, ◌<◌, ℕ, List, Some, map, string_bytes}
use Rattle.std.specs.Prelude.{slice_get}
use Rattle.tigertopo_memory_files.proofs.in_memory.is_among.Given as goal

abbrev pub invariant-loop-other : goal.invariant-loop-other
invariant-loop-other l = (k : ℕ) (n : List ℕ) → k < l.other-index → slice_get (map string_bytes l.names) k ≡ Some n → n ≢ l.name
