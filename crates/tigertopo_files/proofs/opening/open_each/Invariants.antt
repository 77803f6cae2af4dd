use Rattle.std.proofs.Common.{◌≡◌, ◌++◌, All, map, drop, string_bytes}
use Rattle.std.specs.List.{sum_by}
use Rattle.tigertopo_files.specs.Counting.{IsShort}
use Rattle.tigertopo_files.specs.Files.{bytes_under}
use Rattle.tigertopo_files.proofs.opening.open_each.Given as goal

abbrev pub invariant-loop-name : goal.invariant-loop-name
invariant-loop-name g l =
    (map g.O.Reader.Source.remaining l.files.items ++ map (λ name. bytes_under (g.O.Opener.held l.opener) (string_bytes name)) (drop l.name-index l.names)
    ≡ map (λ name. bytes_under (g.O.Opener.held l.opener) (string_bytes name)) l.names)
    × (sum_by g.O.Reader.Source.failure_count l.files.items ≡ 0)
    × All (λ file. IsShort (g.O.Reader.Source.remaining file)) l.files.items
