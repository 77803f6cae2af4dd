-- What listing the refused lines of a text answers.
use Rattle.std.specs.Prelude.{◌≡◌, ℕ, List, ◌++◌, map, Option, None, Some, Result, Err, ⊤}
use Rattle.tl_record.specs.declared.stop.Cause.{Cause}
use Rattle.tl_record.specs.declared.refusal.Refusal.{Refusal}
use Rattle.tl_record.specs.declared.reader.Standing.{Standing}
use Rattle.tl_record.specs.Searching.{pair_of, failed_once}
use Rattle.tl_cert_output.specs.declared.stop.Stop.{Stop}
use Rattle.tl_cert_output.specs.declared.stop.Stop.TheVariants.{Device}

-- the list has these refusals, in their order
abbrev pub ListsAll : List (ℕ × Cause) → List Refusal → Type 0
ListsAll refusals list = map pair_of list ≡ refusals

-- the list begins with these
abbrev pub BeginsWith : (front list : List Refusal) → Type 0
BeginsWith front list = (behind : List Refusal) × (list ≡ front ++ behind)

-- `Device` is answered where a read failed, and nowhere else; the count of failures goes from old to new
abbrev pub TellsDevice : {T : Type 0} → Standing → ℕ → ℕ → Result T Stop → Type 0
TellsDevice standing old new (Err Device) = new ≡ failed_once standing old
TellsDevice standing old new other = new ≡ old

-- ---- on the way

-- the list has the first of the refusals that were to come, and the rest are still to come
abbrev pub ListsSoFar : Option (List (ℕ × Cause)) → Option (List (ℕ × Cause)) → List Refusal → Type 0
ListsSoFar None now list = ⊤
ListsSoFar (Some all) now list = (rest : List (ℕ × Cause)) × (now ≡ Some rest) × (map pair_of list ++ rest ≡ all)
