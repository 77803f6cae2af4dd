use Rattle.std.proofs.Common.{map, string_bytes}
use Rattle.tigertopo_files.specs.Files.{bytes_under}
use Rattle.tigertopo_files.specs.Reading.{counted_names}
use Rattle.tigertopo_files.proofs.lending.read_each.Given as goal

abbrev pub ghosts-read_texts : goal.ghosts-read_texts
ghosts-read_texts g a = record { texts = map (bytes_under (g.O.Opener.held a.opener.now)) (counted_names a.counts (map string_bytes a.names.now)) }
