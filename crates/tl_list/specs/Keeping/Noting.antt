-- What is noted of lines while they are read.
use Rattle.std.specs.Prelude.{◌≡◌, ℕ, Bool, true, List, [], ◌∷◌, ◌++◌, map, Option, Some, IfSome, Vec}
use Rattle.std.specs.Global.{Global}
use Rattle.tl_record.specs.declared.record.Record.{Record}
use Rattle.tl_record.specs.declared.refusal.Refusal.{Refusal}
use Rattle.tl_record.specs.Fronts.{front_in}
use Rattle.tl_record.specs.Records.{Records}

-- bytes, as lists
abbrev pub bytes_of : List (Vec ℕ Global) → List (List ℕ)
bytes_of fronts = map (λ front. front.items) fronts

-- none, of a line that is beyond the greatest number
abbrev pub no_front : Refusal → List ℕ
no_front refusal = []

-- the first bytes of refused lines of a text are noted, where that is asked
abbrev pub NotesFronts : (notes : Bool) → (known : Option (List ℕ)) → List Refusal → List (Vec ℕ Global) → Type 0
NotesFronts notes known refused fronts = notes ≡ true → IfSome known (λ text. bytes_of fronts ≡ map (front_in text) refused)

-- all records that were to come are noted with their lines, where that is asked and something was kept of them
abbrev pub NotesRecords : {K : Type 0} → (notes : Bool) → Option Records → Option K → List (ℕ × Record) → Type 0
NotesRecords notes came kept entries = notes ≡ true → IfSome kept (λ k. IfSome came (λ all. all.entries ≡ entries))

-- one more is noted, where that is asked and something is kept of them
abbrev pub NotesOne : {K : Type 0} → (notes : Bool) → Option K → (old new : List (ℕ × Record)) → ℕ × Record → Type 0
NotesOne notes kept old new entry = notes ≡ true → IfSome kept (λ k. new ≡ old ++ entry ∷ [])

-- so many were noted of those that were to come at first, and the rest comes now
abbrev pub NotesSoFar : (notes : Bool) → (at_first now : Option Records) → List (ℕ × Record) → Type 0
NotesSoFar notes at_first now entries =
    notes ≡ true → IfSome at_first (λ all. (rest : Records) × (now ≡ Some rest) × (all.entries ≡ entries ++ rest.entries))
