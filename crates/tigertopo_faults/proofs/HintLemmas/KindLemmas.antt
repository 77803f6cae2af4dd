-- What lines begin with, one after the other.
use Rattle.std.proofs.Common.{◌≡◌, ℕ, zero, suc, ◌+◌, ◌<◌, ◌≤◌, ◌==◌, Bool, true, false, ◌||◌, List, [], ◌∷◌, Option, None, Some, Ok, length, take, get_or, slice_get, refl, sym, ap, subst, ◌∙◌, arith}
use Rattle.std.specs.Prelude.{slice_index}
use Rattle.std.specs.List.{list_any}
use Rattle.std.proofs.lemmas.List.{take_all}
use Rattle.std.proofs.lemmas.List.Folds.{list_any_more}
use Rattle.std.specs.Io.KnownBytes.{prepend_known}
use Rattle.tl_record.specs.Limits.{most_line_bytes}
use Rattle.tl_record.specs.Lines.{raw_lines}
use Rattle.tigertopo_faults.specs.declared.places.lines.Found.TheVariants.{Line, Missing}
use Rattle.tigertopo_faults.specs.declared.hint.advice.FileForm.{FileForm}
use Rattle.tigertopo_faults.specs.declared.hint.holding.Held.{Held}
use Rattle.tigertopo_faults.specs.Places.Finding.{Answers, IsFound, Passes, PassesTo, Shows}
use Rattle.tigertopo_faults.specs.Places.LinePlaces.{line_count}
use Rattle.tigertopo_faults.specs.Hint.Advice.{form_of}
use Rattle.tigertopo_faults.specs.Hint.Hints.{first_bytes}
use Rattle.tigertopo_faults.specs.Hint.Unread.{IsHeld, held_by, is_chain, is_read, is_read_kind, kinds_of}
use Rattle.tigertopo_faults.proofs.FindingLemmas.{counts_none}

-- so many lines of a text were looked at, none of which begins as one of type 1 does
abbrev pub AreLooked : Option (List ℕ) → ℕ → Bool → Type 0
AreLooked None count any = Unit {0}
AreLooked (Some text) count any = (list_any is_chain (take count (raw_lines text)) ≡ false) × (any ≡ list_any is_read (take count (raw_lines text)))

pub looked_none : (text : Option (List ℕ)) → AreLooked text 0 false
looked_none None = tt
looked_none (Some text) = (refl, refl)

-- the first byte of a line's first bytes is the line's
first_kept : (line : List ℕ) → slice_index (take most_line_bytes line) 0 ≡ slice_index line 0
first_kept [] = refl
first_kept (byte ∷ line) = refl

begins_as : (line bytes : List ℕ) → bytes ≡ take most_line_bytes line → slice_index bytes 0 ≡ slice_index line 0
begins_as line bytes same = ap (λ (l : List ℕ). slice_index l 0) same ∙ first_kept line

-- a line that was shown is one of the lines
shown_at : (lines : List (List ℕ)) (count : ℕ) (bytes : List ℕ) (len : ℕ) (goes_on : Bool) → Shows (slice_get lines count) bytes (Line len goes_on)
    → (count < length lines) × (take len bytes ≡ take most_line_bytes (get_or lines count []))
shown_at [] count bytes len goes_on shows = absurd (let wrong = shows in cc)
shown_at (line ∷ lines) zero bytes len goes_on shows = (omega arith, shows.1)
shown_at (line ∷ lines) (suc count) bytes len goes_on shows = let more = shown_at lines count bytes len goes_on shows in (omega (arith, more.0), more.1)

past_all : (lines : List (List ℕ)) (count : ℕ) (bytes : List ℕ) → Shows (slice_get lines count) bytes Missing → length lines ≤ count
past_all [] count bytes shows = omega arith
past_all (line ∷ lines) zero bytes shows = absurd shows
past_all (line ∷ lines) (suc count) bytes shows = let more = past_all lines count bytes shows in omega (arith, more)

found_as : (count number : ℕ) (text bytes : List ℕ) (len : ℕ) (goes_on : Bool) → number ≡ count + 1 → IsFound number bytes text (Line len goes_on)
    → (count < length (raw_lines text)) × (slice_index (take len bytes) 0 ≡ slice_index (get_or (raw_lines text) count []) 0)
found_as count number text bytes len goes_on next found =
    let at : number ≡ suc count = omega (arith, next) in
    let here = shown_at (raw_lines text) count bytes len goes_on (rw at at found) in
    (here.0, begins_as (get_or (raw_lines text) count []) (take len bytes) here.1)

any_more : (p : List ℕ → Bool) (lines : List (List ℕ)) (count : ℕ) (any : Bool) → count < length lines → any ≡ list_any p (take count lines)
    → (any || p (get_or lines count [])) ≡ list_any p (take (count + 1) lines)
any_more p lines count any within so_far = ap (λ (b : Bool). b || p (get_or lines count [])) so_far ∙ sym (list_any_more p lines count [] within)

pub or_true : (b : Bool) → (b || true) ≡ true
or_true true = refl
or_true false = refl

any_here : (p : List ℕ → Bool) (lines : List (List ℕ)) (i : ℕ) → i < length lines → p (get_or lines i []) ≡ true → list_any p lines ≡ true
any_here p [] i within true_there = absurd (omega arith)
any_here p (line ∷ lines) zero within true_there = rw true_there refl
any_here p (line ∷ lines) (suc i) within true_there = ap (λ (b : Bool). p line || b) (any_here p lines i (omega arith) true_there) ∙ or_true (p line)

-- ---- lines of a text, where it is known

-- what is answered of kinds
abbrev pub AreKinds : List ℕ → Option Bool → Type 0
AreKinds text kinds = kinds ≡ kinds_of (raw_lines text)

pub looked_more : (text : Option (List ℕ)) (count : ℕ) (bytes : List ℕ) (len : ℕ) (goes_on any : Bool) → Answers text (IsFound (count + 1) bytes) (Ok (Line len goes_on))
    → is_chain (take len bytes) ≡ false → AreLooked text count any → AreLooked text (count + 1) (any || is_read (take len bytes))
looked_more None count bytes len goes_on any found not_chain looked = tt
looked_more (Some text) count bytes len goes_on any found not_chain looked =
    let lines = raw_lines text in
    let line = get_or lines count [] in
    let here = found_as count (count + 1) text bytes len goes_on refl found in (
      list_any_more is_chain lines count [] here.0 ∙ ap (λ (b : Bool). b || is_chain line) looked.0 ∙ sym (ap (λ (k : ℕ). k == 49) here.1) ∙ not_chain,
      ap (λ (k : ℕ). any || is_read_kind k) here.1 ∙ any_more is_read lines count any here.0 looked.1,
    )

pub looked_chain : (text : Option (List ℕ)) (count : ℕ) (bytes : List ℕ) (len : ℕ) (goes_on : Bool) → Answers text (IsFound (count + 1) bytes) (Ok (Line len goes_on))
    → is_chain (take len bytes) ≡ true → Answers text AreKinds (Ok None)
looked_chain None count bytes len goes_on found true_there = tt
looked_chain (Some text) count bytes len goes_on found true_there =
    let lines = raw_lines text in
    let here = found_as count (count + 1) text bytes len goes_on refl found in
    let all : list_any is_chain lines ≡ true = any_here is_chain lines count here.0 (sym (ap (λ (k : ℕ). k == 49) here.1) ∙ true_there) in
    rw all refl

pub looked_all : (text : Option (List ℕ)) (count : ℕ) (bytes : List ℕ) (any : Bool) → Answers text (IsFound (count + 1) bytes) (Ok Missing) → AreLooked text count any → Answers text AreKinds (Ok (Some any))
looked_all None count bytes any found looked = tt
looked_all (Some text) count bytes any found looked =
    let lines = raw_lines text in
    let at : count + 1 ≡ suc count = omega arith in
    let whole : take count lines ≡ lines = take_all count lines (past_all lines count bytes (rw at at found)) in
    let no : list_any is_chain lines ≡ false = sym (ap (list_any is_chain) whole) ∙ looked.0 in
    let some : any ≡ list_any is_read lines = looked.1 ∙ ap (list_any is_read) whole in
    rw no (ap Some some)

-- behind a line that was found there is no end before it
pub never_ended : {T : Type 0} (P : List ℕ → T → Type 0) (answer : T) (text mid new : Option (List ℕ)) (count : ℕ) (bytes : List ℕ) (len : ℕ) (goes_on : Bool) → PassesTo count text mid
    → Answers mid (Passes new) (Ok false) → Answers text (IsFound (count + 1) bytes) (Ok (Line len goes_on)) → Answers text P (Ok answer)
never_ended P answer None mid new count bytes len goes_on so_far passes found = tt
never_ended P answer (Some text) mid new count bytes len goes_on so_far passes found =
    let here = found_as count (count + 1) text bytes len goes_on refl found in
    let all : count ≡ line_count text = counts_none count (Some text) mid new so_far passes in
    absurd (omega (arith, all, here.0))

-- what is held
pub held_told : (known : Option (List ℕ)) (none : List ℕ) (form : Option FileForm) (kinds : Option Bool) (held : Held) → none ≡ []
    → Answers (prepend_known none known) (λ text form. form ≡ form_of (first_bytes text)) (Ok form) → Answers known AreKinds (Ok kinds) → held ≡ held_by kinds form → IsHeld known held
held_told None none form kinds held empty formed are is = tt
held_told (Some text) none form kinds held empty formed are is =
    let form_is : form ≡ form_of (first_bytes text) =
    subst (λ (l : List ℕ). Answers (prepend_known l (Some text)) (λ text form. form ≡ form_of (first_bytes text)) (Ok form)) empty formed in
    is ∙ ap (λ (k : Option Bool). held_by k form) are ∙ ap (held_by (kinds_of (raw_lines text))) form_is
