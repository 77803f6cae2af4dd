use Rattle.std.proofs.Common.{◌≡◌, drop}
use Rattle.tigertopo_system_files.specs.Noting.{begins_chain}
use Rattle.tigertopo_system_files.proofs.noted.begins_chain.Given as goal

abbrev pub invariant-loop-byte : goal.invariant-loop-byte
invariant-loop-byte l = begins_chain l.is_next_first (drop l.byte-index l.bytes) ≡ begins_chain l.is_first l.bytes
