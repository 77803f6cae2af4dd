use Rattle.std.proofs.Common.{◌*◌}
use Rattle.tl_map_county.specs.Keeping.Noded.{start_in}
use Rattle.tl_map_county.proofs.NodeLemmas.{Told}
use Rattle.tl_map_county.proofs.nodes.dart_starts.Given as goal

abbrev pub invariant-loop-c : goal.invariant-loop-c
invariant-loop-c l = Told (start_in l.chains.chains) (2 * l.c) l.starts.items
