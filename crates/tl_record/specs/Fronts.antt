-- The first bytes of refused lines, and which lines are ahead of a reader.
use Rattle.std.specs.Prelude.{◌≡◌, ℕ, ◌-◌, nat_le, if◌then◌else◌, List, [], drop, take, slice_index_or, Option, None, Some, IfSome, Ok, Err, ⊤}
use Rattle.std.specs.Option.{option_map}
use Rattle.tl_record.specs.declared.refusal.Refusal.{Refusal}
use Rattle.tl_record.specs.declared.stop.ReadStop.TheVariants.{Refused}
use Rattle.tl_record.specs.declared.stop.ReadStop.TheVariants as read
use Rattle.tl_record.specs.declared.reader.Standing.{Standing}
use Rattle.tl_record.specs.declared.reader.Standing.TheVariants.{Reading, Ended, Stopped}
use Rattle.tl_record.specs.declared.reader.RecordReader.{RecordReader}
use Rattle.tl_record.specs.Limits.{most_lines, most_line_bytes}
use Rattle.tl_record.specs.Lines.{raw_lines}
use Rattle.tl_record.specs.NextLine.{front_of}
use Rattle.tl_record.specs.Reader.{Answer, pending_of, lines_of, standing_of, unjudged}

-- the first bytes of a refused line of a text, 1,024 at most; of one beyond the greatest number of a line none are told
abbrev pub front_in : List ℕ → Refusal → List ℕ
front_in text refusal = if nat_le refusal.line most_lines then take most_line_bytes (slice_index_or (raw_lines text) (refusal.line - 1) []) else []

-- the lines that are ahead of a reader, where the bytes are known
abbrev pub lines_ahead : {R : Type 0} → (R → Option (List ℕ)) → RecordReader R → Option (List (List ℕ))
lines_ahead remaining reader = option_map raw_lines (unjudged remaining reader)

-- so many lines were taken off those that were ahead
abbrev pub PassesLines : ℕ → (old new : Option (List (List ℕ))) → Type 0
PassesLines count old new = IfSome old (λ lines. new ≡ Some (drop count lines))

-- these are the first bytes of the line that is next
abbrev pub IsFront : Option (List (List ℕ)) → List ℕ → Type 0
IsFront ahead front = IfSome ahead (λ lines. front ≡ take most_line_bytes (slice_index_or lines 0 []))

-- where a reader reads on
abbrev pub WhereOn : Standing → Type 0 → Type 0
WhereOn Reading P = P
WhereOn Ended P = ⊤
WhereOn (Stopped stop) P = ⊤

-- What an answer takes off the lines that were ahead: those that were counted. A refused line is the next then, and its first bytes are
-- fetched.
abbrev pub TakesLines : {R : Type 0} → (R → Option (List ℕ)) → (old new : RecordReader R) → Answer → Type 0
TakesLines remaining old new (Ok entry) = WhereOn (standing_of new) (PassesLines (lines_of new - lines_of old) (lines_ahead remaining old) (lines_ahead remaining new))
TakesLines remaining old new (Err (Refused line cause)) =
    PassesLines (lines_of new - lines_of old) (lines_ahead remaining old) (lines_ahead remaining new)
    × IsFront (lines_ahead remaining new) (front_of (pending_of new))
TakesLines remaining old new (Err read.Device) = ⊤
