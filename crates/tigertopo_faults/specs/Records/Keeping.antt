-- The lines that are held of what faults speak of.
use Rattle.std.specs.Prelude.{List}
use Rattle.tigertopo_faults.specs.declared.records.subject.Subject.{Subject}
use Rattle.tigertopo_faults.specs.declared.records.line.RecordLine.{RecordLine}
use Rattle.tigertopo_faults.specs.declared.records.lines.RecordLines.{RecordLines}
use Rattle.tigertopo_faults.specs.Records.Kept.{kept_of}

-- the lines that are held of a subject
abbrev pub held : RecordLines → Subject → List RecordLine
held lines s = kept_of lines.kept s
