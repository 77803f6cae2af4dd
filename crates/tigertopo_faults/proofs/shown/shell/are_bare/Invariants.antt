use Rattle.std.proofs.Common.{◌≡◌, drop}
use Rattle.std.specs.List.{list_all}
use Rattle.tigertopo_words.specs.Shell.{is_bare}
use Rattle.tigertopo_faults.proofs.shown.shell.are_bare.Given as goal

abbrev pub invariant-loop-byte : goal.invariant-loop-byte
invariant-loop-byte l = list_all is_bare (drop l.byte-index l.bytes) ≡ list_all is_bare l.bytes
