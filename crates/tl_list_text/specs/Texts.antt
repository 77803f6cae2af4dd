-- What is printed of a listing.
use Rattle.std.specs.Prelude.{ℕ, ◌==◌, if◌then◌else◌, List, [], ◌∷◌, ◌++◌, Option, None, Some, codes, decimal, length, min, take}
use Rattle.tl_cert_output.specs.Writing.{line_of}
use Rattle.tl_record.specs.declared.refusal.Refusal.{Refusal}
use Rattle.tl_record.specs.Messages.{refusal_text}
use Rattle.tl_check_verdict.specs.Messages.{map_fault_text, report_text, touched_words}
use Rattle.tl_list_text.specs.declared.listing.Listing.{Listing}
use Rattle.tl_list_text.specs.declared.listing.Listing.TheVariants.{Sound, Refused, Faults}

-- a line for each of a list, one after the other
abbrev pub lines : {A : Type 0} → (A → List ℕ) → List A → List ℕ
lines text [] = []
lines text (x ∷ rest) = line_of (text x) ++ lines text rest

-- the text of a refusal
abbrev pub told_refusal : Refusal → List ℕ
told_refusal refusal = refusal_text refusal.line refusal.cause

-- what is printed of a list: all of it, or where a number is given, so many of it from the front
abbrev pub printed : {A : Type 0} → Option ℕ → List A → List A
printed None list = list
printed (Some most) list = take most list

-- how many of so many lines are printed, where a number is given
abbrev pub printed_text : Option ℕ → ℕ → List ℕ
printed_text None count = []
printed_text (Some most) count = codes " printed=" ++ decimal (min most count)

-- how many polygons are touched, where some are
abbrev pub touched_text : ℕ → List ℕ
touched_text touched = if touched == 0 then [] else line_of (touched_words touched)

-- the last line: a word, how many there are, and where a number is given, how many of them are printed
abbrev pub count_line : List ℕ → Option ℕ → ℕ → List ℕ
count_line word most count = line_of (word ++ decimal count ++ printed_text most count)

-- a listing as it is printed: all of its lines, or so many of them from the front, and how many there are
abbrev pub listing_text : Option ℕ → Listing → List ℕ
listing_text most (Sound report) = line_of (codes "sound " ++ report_text report)
listing_text most (Refused list) = lines told_refusal (printed most list.items) ++ count_line (codes "refused=") most (length list.items)
listing_text most (Faults faults touched) =
    lines map_fault_text (printed most faults.items)
    ++ (touched_text touched ++ count_line (codes "faults=") most (length faults.items))
