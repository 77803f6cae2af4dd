-- Lines that are passed on the way to another, or to the end.
use Rattle.std.proofs.Common.{◌≡◌, ℕ, zero, suc, ◌+◌, ◌-◌, ◌^◌, ◌≤◌, ◌<◌, Bool, true, false, List, [], ◌∷◌, Option, None, Some, Result, Ok, Err, length, drop, slice_get, refl, sym, ap, ◌∙◌, arith, inl, inr}
use Rattle.std.proofs.lemmas.Bool.{cases_Bool}
use Rattle.std.proofs.lemmas.Option.{slice_get_past}
use Rattle.std.specs.Io.KnownBytes.{Keeps, prepend_known}
use Rattle.memchr.specs.Find.{is_byte}
use Rattle.tl_record.specs.declared.refusal.RefusalStop.{RefusalStop}
use Rattle.tl_record.specs.declared.refusal.RefusalStop.TheVariants.{Device, Endless}
use Rattle.tl_record.specs.Lines.{line_feed, raw_lines, first_line, after_first_line}
use Rattle.tl_record.proofs.LineLemmas.{raw_lines-first}
use Rattle.tigertopo_faults.specs.declared.places.lines.Found.{Found}
use Rattle.tigertopo_faults.specs.declared.places.lines.Found.TheVariants.{Line, Missing}
use Rattle.tigertopo_faults.specs.Places.LinePlaces.{line_at}
use Rattle.tigertopo_faults.specs.Places.Finding.{Answers, CountsAll, IsFound, Passes, PassesTo, Shows}

-- nothing was passed where a buffer is empty
pub passes_fresh : (buffer : List ℕ) (text : Option (List ℕ)) → buffer ≡ [] → PassesTo 0 text (prepend_known buffer text)
passes_fresh buffer None none = tt
passes_fresh buffer (Some text) none = rw none (refl, omega arith, omega arith)

-- what follows a first line is shorter
shorter : (byte : ℕ) (text : List ℕ) → length (after_first_line (byte ∷ text)) ≤ length text
shorter byte [] =
    elim (cases_Bool (is_byte line_feed byte)) [
      | inl is ↦ rw is (omega arith)
      | inr is ↦ rw is (omega arith)
    ]
shorter byte (next ∷ text) =
    let less = shorter next text in
    elim (cases_Bool (is_byte line_feed byte)) [
      | inl is ↦ rw is (omega arith)
      | inr is ↦ rw is (omega (arith, less))
    ]

-- the items behind the first of those behind some
drop_one : {A : Type 0} (xs ys : List A) (y : A) (count : ℕ) → y ∷ ys ≡ drop count xs → (ys ≡ drop (count + 1) xs) × (count + 1 ≤ length xs)
drop_one [] ys y zero is = absurd (let wrong = is in cc)
drop_one [] ys y (suc count) is = absurd (let wrong = is in cc)
drop_one (x ∷ xs) ys y zero is = (let same = is in cc, omega arith)
drop_one (x ∷ xs) ys y (suc count) is = let more = drop_one xs ys y count is in
    let next : suc count + 1 ≡ suc (count + 1) = omega arith in
    (rw next more.0, omega (arith, more.1))

drop_none : {A : Type 0} (xs : List A) (count : ℕ) → [] ≡ drop count xs → length xs ≤ count
drop_none [] count is = omega arith
drop_none (x ∷ xs) zero is = absurd (let wrong = is in cc)
drop_none (x ∷ xs) (suc count) is = let more = drop_none xs count is in omega (arith, more)

-- one line more
pub passes_more : (count : ℕ) (first old new : Option (List ℕ)) → PassesTo count first old → Answers old (Passes new) (Ok true) → PassesTo (count + 1) first new
passes_more count None old new so_far passes = tt
passes_more count (Some text) None new so_far passes = absurd so_far
passes_more count (Some text) (Some []) new so_far passes = absurd (passes.0 refl)
passes_more count (Some text) (Some (byte ∷ rest)) new so_far passes =
    let lines = raw_lines-first (byte ∷ rest) (λ none. cc) in
    let more = drop_one (raw_lines text) (raw_lines (after_first_line (byte ∷ rest))) (first_line (byte ∷ rest)) count (sym lines ∙ so_far.0) in
    let less = shorter byte rest in
    rw passes.1 (more.0, more.1, omega (arith, less, so_far.2))

pub finds_none : (buffer : List ℕ) (count number : ℕ) (first old new : Option (List ℕ)) → count < number → PassesTo count first old → Answers old (Passes new) (Ok false)
    → Answers first (IsFound number buffer) (Ok Missing)
finds_none buffer count number None old new less so_far passes = tt
finds_none buffer count number (Some text) None new less so_far passes = absurd so_far
finds_none buffer count zero (Some text) (Some rest) new less so_far passes = absurd (omega arith)
finds_none buffer count (suc before) (Some text) (Some rest) new less so_far passes =
    let none = drop_none (raw_lines text) count (sym (ap raw_lines passes.0) ∙ so_far.0) in
    let past : slice_get (raw_lines text) before ≡ None = slice_get_past (raw_lines text) before (omega (arith, none)) in
    rw past refl

-- the search was given up
pub stops : {T U : Type 0} (P : List ℕ → T → Type 0) (Q : List ℕ → U → Type 0) (count : ℕ) (first old : Option (List ℕ)) (stop : RefusalStop) → PassesTo count first old → Answers old P (Err stop) → Answers first Q (Err stop)
stops P Q count None old stop so_far given = tt
stops P Q count (Some text) None stop so_far given = absurd so_far
stops P Q count (Some text) (Some rest) Device so_far given = tt
stops P Q count (Some text) (Some rest) Endless so_far given = omega (arith, given, so_far.2)

pub stops_past : {T : Type 0} (P : List ℕ → T → Type 0) (count : ℕ) (first old : Option (List ℕ)) → count ≡ 2 ^ 64 - 1 → PassesTo count first old → Answers first P (Err Endless)
stops_past P count None old all so_far = tt
stops_past P count (Some text) None all so_far = absurd so_far
stops_past P count (Some text) (Some rest) all so_far = omega (arith, all, so_far.2)

got_behind : {A : Type 0} (xs : List A) (count : ℕ) → slice_get (drop count xs) 0 ≡ slice_get xs count
got_behind [] zero = refl
got_behind [] (suc count) = refl
got_behind (x ∷ xs) zero = refl
got_behind (x ∷ xs) (suc count) = got_behind xs count

-- the line behind those that were passed
finds_behind : (buffer : List ℕ) (count number : ℕ) (first old : Option (List ℕ)) (found : Found) → count + 1 ≡ number → PassesTo count first old → Answers old (IsFound 1 buffer) (Ok found)
    → Answers first (IsFound number buffer) (Ok found)
finds_behind buffer count number None old found next so_far shown = tt
finds_behind buffer count number (Some text) None found next so_far shown = absurd so_far
finds_behind buffer count zero (Some text) (Some rest) found next so_far shown = absurd (omega arith)
finds_behind buffer count (suc before) (Some text) (Some rest) found next so_far shown =
    let same : count ≡ before = omega arith in
    let line : slice_get (raw_lines rest) 0 ≡ slice_get (raw_lines text) before = ap (λ (l : List (List ℕ)). slice_get l 0) so_far.0 ∙ got_behind (raw_lines text) count ∙ ap (slice_get (raw_lines text)) same in
    rw line at shown

pub finds_shown : (buffer : List ℕ) (count number : ℕ) (first old : Option (List ℕ)) (result : Result Found RefusalStop) → count + 1 ≡ number → PassesTo count first old
    → Answers old (IsFound 1 buffer) result → Answers first (IsFound number buffer) result
finds_shown buffer count number first old (Ok found) next so_far shown = finds_behind buffer count number first old found next so_far shown
finds_shown buffer count number first old (Err stop) next so_far shown = stops (IsFound 1 buffer) (IsFound number buffer) count first old stop so_far shown

-- no line is left, and so many were passed
pub passes_ended : (count : ℕ) (first old new : Option (List ℕ)) → PassesTo count first old → Answers old (Passes new) (Ok false) → PassesTo count first new
passes_ended count None old new so_far passes = tt
passes_ended count (Some text) None new so_far passes = absurd so_far
passes_ended count (Some text) (Some rest) new so_far passes = rw passes.1 (sym (ap raw_lines passes.0) ∙ so_far.0, so_far.1, omega (arith, so_far.2))

-- nothing more was passed
pub passes_still : (count : ℕ) (first old new : Option (List ℕ)) → PassesTo count first old → Keeps old new → PassesTo count first new
passes_still count None old new so_far kept = tt
passes_still count (Some text) None new so_far kept = absurd so_far
passes_still count (Some text) (Some rest) None so_far kept = absurd kept
passes_still count (Some text) (Some rest) (Some same) so_far kept = rw kept so_far

-- no line is left: so many were passed, and these are all
pub counts_none : (count : ℕ) (first old new : Option (List ℕ)) → PassesTo count first old → Answers old (Passes new) (Ok false) → Answers first (CountsAll count) (Ok Missing)
counts_none count None old new so_far passes = tt
counts_none count (Some text) None new so_far passes = absurd so_far
counts_none count (Some text) (Some rest) new so_far passes =
    let none = drop_none (raw_lines text) count (sym (ap raw_lines passes.0) ∙ so_far.0) in omega (arith, none, so_far.1)

no_line : (lines : List (List ℕ)) (bytes : List ℕ) → Shows (line_at 1 lines) bytes Missing → [] ≡ lines
no_line [] bytes shows = refl
no_line (line ∷ lines) bytes shows = absurd shows

counts_found : (buffer : List ℕ) (count : ℕ) (text rest : List ℕ) (found : Found) → PassesTo count (Some text) (Some rest) → IsFound 1 buffer rest found → CountsAll count text found
counts_found buffer count text rest (Line len goes_on) so_far shown = tt
counts_found buffer count text rest Missing so_far shown =
    let none = drop_none (raw_lines text) count (no_line (raw_lines rest) buffer shown ∙ so_far.0) in omega (arith, none, so_far.1)

pub counts_shown : (buffer : List ℕ) (count : ℕ) (first old : Option (List ℕ)) (result : Result Found RefusalStop) → PassesTo count first old → Answers old (IsFound 1 buffer) result
    → Answers first (CountsAll count) result
counts_shown buffer count None old (Ok found) so_far shown = tt
counts_shown buffer count (Some text) None (Ok found) so_far shown = absurd so_far
counts_shown buffer count (Some text) (Some rest) (Ok found) so_far shown = counts_found buffer count text rest found so_far shown
counts_shown buffer count first old (Err stop) so_far shown = stops (IsFound 1 buffer) (CountsAll count) count first old stop so_far shown

-- a line that was found is one of the text
pub line_within : (lines : List (List ℕ)) (number : ℕ) (bytes : List ℕ) (len : ℕ) (goes_on : Bool) → Shows (line_at number lines) bytes (Line len goes_on) → number ≤ length lines
line_within lines zero bytes len goes_on shows = omega arith
line_within [] (suc n) bytes len goes_on shows = absurd (let wrong = shows in cc)
line_within (line ∷ lines) (suc zero) bytes len goes_on shows = omega arith
line_within (line ∷ lines) (suc (suc n)) bytes len goes_on shows = let more = line_within lines (suc n) bytes len goes_on shows in omega (arith, more)
