use Rattle.std.proofs.Common.{take}
use Rattle.tigertopo_faults.specs.Records.Kept.{NotesAll}
use Rattle.tigertopo_faults.proofs.records.kept.KeptLines.note_all.Given as goal

abbrev pub invariant-loop-place : goal.invariant-loop-place
invariant-loop-place l = NotesAll l.fn.self l.self (take l.place l.found)
