use Rattle.std.proofs.Common.{◌≡◌, option_map, drop}
use Rattle.tigertopo_memory_files.specs.Keeping.Stored.{found_from, file_in}
use Rattle.tigertopo_memory_files.proofs.in_memory.FilesInMemory.bytes.Given as goal

abbrev pub invariant-loop-file : goal.invariant-loop-file
invariant-loop-file l = found_from l.name (option_map (λ bytes. bytes.now) l.found) (drop l.file-index l.self.files.items) ≡ file_in l.self.files.items l.name
