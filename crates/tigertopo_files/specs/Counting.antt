-- How many lines a text has.
use Rattle.std.specs.Prelude.{◌≡◌, ◌<◌, ℕ, zero, suc, ◌+◌, ◌-◌, ◌^◌, min, Bool, List, [], ◌∷◌, ◌++◌, length, Option, Some, None, ⊤, if◌then◌else◌}
use mathlib.Core.HLevel.{×_prop, Unit-prop}
use native.Mathlib.Bridge.{le_prop}
use native.Mathlib.Nat.{ℕ_set}
use Rattle.tl_record.specs.Lines.{line_feeds, raw_lines}
use Rattle.tigertopo_files.specs.Joining.{leaves_open}
use Rattle.tigertopo_files.specs.declared.counting.LineCount.{LineCount}

-- one line more where the last is open
abbrev pub open_lines : Bool → ℕ
open_lines is_open = if is_open then 1 else 0

-- how many lines a text has that was counted, with these bytes behind it, up to the greatest u64
abbrev pub lines_with : LineCount → List ℕ → ℕ
lines_with count bytes = min (count.line_feeds + line_feeds bytes + open_lines (leaves_open count.is_open bytes)) (2 ^ 64 - 1)

-- the count of no byte: any text behind it has its own lines
abbrev pub IsNew : LineCount → Type 0
IsNew count = (text : List ℕ) → lines_with count text ≡ min (length (raw_lines text)) (2 ^ 64 - 1)

-- the count at this place, if there is one, goes on with these bytes, and the others stay
abbrev pub CountsAt : List LineCount → List LineCount → (place : ℕ) → List ℕ → Type 0
CountsAt [] new place bytes = new ≡ []
CountsAt (count ∷ counts) [] place bytes = ⊥
CountsAt (count ∷ counts) (other ∷ new) zero bytes = ((text : List ℕ) → lines_with other text ≡ lines_with count (bytes ++ text)) × (new ≡ counts)
CountsAt (count ∷ counts) (other ∷ new) (suc place) bytes = (other ≡ count) × CountsAt counts new place bytes

-- fewer bytes than a file may have, where they are known
abbrev pub IsShort : Option (List ℕ) → Type 0
IsShort None = ⊤
IsShort (Some bytes) = length bytes < 2 ^ 63

-- so much of a text is counted that this is left of it, where its bytes are known
abbrev pub IsCounted : (text left : Option (List ℕ)) → LineCount → Type 0
IsCounted None left count = ⊤
IsCounted (Some text) None count = ⊥
IsCounted (Some text) (Some left) count = (lines_with count left ≡ length (raw_lines text)) × (length left < 2 ^ 63)

pub IsCounted-prop : (text left : Option (List ℕ)) (count : LineCount) → IsProp (IsCounted text left count)
IsCounted-prop None left count = Unit-prop
IsCounted-prop (Some text) None count = λ x y. absurd x
IsCounted-prop (Some text) (Some left) count = ×_prop (ℕ_set _ _) le_prop

-- the same of the text that each reader gives, if they are counted. The readers before `place` have nothing left
abbrev pub AreCounted : {R : Type 0} → (R → Option (List ℕ)) → (texts : List (Option (List ℕ))) → (place : ℕ) → List R → List LineCount → Type 0
AreCounted remaining [] place readers counts = length counts ≡ 0
AreCounted remaining (text ∷ texts) place [] counts = ⊥
AreCounted remaining (text ∷ texts) place (reader ∷ readers) [] = ⊥
AreCounted remaining (text ∷ texts) zero (reader ∷ readers) (count ∷ counts) =
    IsCounted text (remaining reader) count × AreCounted remaining texts zero readers counts
AreCounted remaining (text ∷ texts) (suc place) (reader ∷ readers) (count ∷ counts) =
    IsCounted text (Some []) count × AreCounted remaining texts place readers counts

pub AreCounted-prop : {R : Type 0} (remaining : R → Option (List ℕ)) (texts : List (Option (List ℕ))) (place : ℕ) (readers : List R) (counts : List LineCount) → IsProp (AreCounted remaining texts place readers counts)
AreCounted-prop remaining [] place readers counts = ℕ_set _ _
AreCounted-prop remaining (text ∷ texts) place [] counts = λ x y. absurd x
AreCounted-prop remaining (text ∷ texts) place (reader ∷ readers) [] = λ x y. absurd x
AreCounted-prop remaining (text ∷ texts) zero (reader ∷ readers) (count ∷ counts) =
    ×_prop (IsCounted-prop text (remaining reader) count) (AreCounted-prop remaining texts zero readers counts)
AreCounted-prop remaining (text ∷ texts) (suc place) (reader ∷ readers) (count ∷ counts) =
    ×_prop (IsCounted-prop text (Some []) count) (AreCounted-prop remaining texts place readers counts)
