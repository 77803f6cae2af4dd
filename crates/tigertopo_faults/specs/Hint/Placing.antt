-- Kept on the way: a refused line that is looked for in one file after the other. No public contract cites this file.
use Rattle.std.specs.Prelude.{◌≡◌, ℕ, ◌<◌, ◌≤◌, List, Option, IfSome}
use Rattle.tl_record.specs.declared.stop.Cause.{Cause}
use Rattle.tigertopo_faults.specs.Places.LinePlaces.{line_count}
use Rattle.tigertopo_faults.specs.declared.hint.refused.Sought.{Sought}
use Rattle.tigertopo_faults.specs.declared.hint.refused.Sought.TheVariants.{Told, Behind}
use Rattle.tigertopo_faults.specs.Hint.Advice.{Asker}
use Rattle.tigertopo_faults.specs.Hint.Hints.{hint_in}

-- what is said of a refused line in a file of this name: it is the line with this number there, or the file has fewer lines
abbrev pub IsSought : Asker → List ℕ → Cause → ℕ → Option (List ℕ) → Sought → Type 0
IsSought by name cause number known (Told text) = IfSome known (λ held. (number ≤ line_count held) × (text.items ≡ hint_in by name held cause number))
IsSought by name cause number known (Behind lines) = (lines < number) × IfSome known (λ held. lines ≡ line_count held)
