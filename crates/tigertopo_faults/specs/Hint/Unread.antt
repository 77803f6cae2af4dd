-- What is said behind an answer where no type 1 record was read: of each file what it holds, or what it is.
use Rattle.std.specs.Prelude.{◌≡◌, ℕ, ◌+◌, ◌-◌, ◌==◌, ◌&&◌, ◌||◌, nat_lt, Bool, List, [], ◌∷◌, ◌++◌, length, Option, None, Some, IfSome, codes, decimal, map, slice_index, if◌then◌else◌}
use Rattle.std.specs.Option.{is_none}
use Rattle.std.specs.List.{list_any}
use Rattle.tl_record.specs.Lines.{raw_lines}
use Rattle.tl_cert_output.specs.Writing.{line_of}
use Rattle.tigertopo_words.specs.Names.{shown_name}
use Rattle.tigertopo_faults.specs.declared.hint.advice.FileForm.{FileForm}
use Rattle.tigertopo_faults.specs.declared.hint.holding.Held.{Held}
use Rattle.tigertopo_faults.specs.declared.hint.holding.Held.TheVariants.{Chains, Others, Nothing}
use Rattle.tigertopo_faults.specs.Hint.Advice.{Asker, form_of, form_text}
use Rattle.tigertopo_faults.specs.Hint.Hints.{first_bytes}

-- does a line begin as a record of type 1 does (49 is '1'), or as one that is read: of type 1, 2, 7, 8, I or P
abbrev pub is_chain : List ℕ → Bool
is_chain line = slice_index line 0 == 49

abbrev pub is_read_kind : ℕ → Bool
is_read_kind kind = ((kind == 49 || kind == 50) || (kind == 55 || kind == 56)) || (kind == 73 || kind == 80)

abbrev pub is_read : List ℕ → Bool
is_read line = is_read_kind (slice_index line 0)

-- does a text have a line that begins as a record of type 1 does
abbrev pub holds_chain : List ℕ → Bool
holds_chain text = list_any is_chain (raw_lines text)

-- whether a line of these begins as one that is read, where none does as one of type 1
abbrev pub kinds_of : List (List ℕ) → Option Bool
kinds_of lines = if list_any is_chain lines then None else Some (list_any is_read lines)

-- what a text with such lines holds, whose first line is of this form
abbrev pub held_by : Option Bool → Option FileForm → Held
held_by None form = Chains
held_by (Some is_any_read) form = if is_any_read && is_none form then Others else Nothing form

-- what a text holds
abbrev pub held_of : List ℕ → Held
held_of text = held_by (kinds_of (raw_lines text)) (form_of (first_bytes text))

abbrev pub IsHeld : Option (List ℕ) → Held → Type 0
IsHeld known held = IfSome known (λ text. held ≡ held_of text)

-- a file, and what it doesn't hold
abbrev pub lack_text : List ℕ → List ℕ → List ℕ
lack_text name words = line_of (codes "  " ++ shown_name name ++ words)

-- what is said of a file that holds this
abbrev pub held_text : Asker → List ℕ → Held → List ℕ
held_text by name Chains = lack_text name (codes " holds no type 1 record")
held_text by name Others = lack_text name (codes " holds no type 1 record")
held_text by name (Nothing None) = lack_text name (codes " holds no record that is read")
held_text by name (Nothing (Some form)) = form_text name by form

-- how many files are told of at most
abbrev pub most_files : ℕ
most_files = 8

-- what is said of the file with this number, counted from 0
abbrev pub told_text : Asker → ℕ → List ℕ → Held → List ℕ
told_text by number name held = if nat_lt number most_files then held_text by name held else []

-- what is said of files of these names that hold this, the first of which has this number
abbrev pub files_text : Asker → ℕ → List (List ℕ) → List Held → List ℕ
files_text by number (name ∷ names) (held ∷ rest) = told_text by number name held ++ files_text by (number + 1) names rest
files_text by number names held = []

-- how many files more there are
abbrev pub more_text : ℕ → List ℕ
more_text count = if nat_lt most_files count then line_of (codes "  more files without a type 1 record: " ++ decimal (count - most_files)) else []

-- what is said of files: nothing where one has a line that begins as a record of type 1 does
abbrev pub unread_text : Asker → List (List ℕ) → List (List ℕ) → List ℕ
unread_text by names texts =
    if list_any holds_chain texts then [] else files_text by 0 names (map held_of texts) ++ more_text (length names)
