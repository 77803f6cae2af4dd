-- What is said of a line that was found, in a file whose first line was shown before.
use Rattle.std.proofs.Common.{◌≡◌, ◌⊎◌, inl, inr, ℕ, ◌+◌, ◌<◌, ◌≤◌, Bool, List, [], Option, None, Some, IfSome, Ok, Err, take, ap, subst, ◌∙◌, arith}
use Rattle.std.specs.Option.{option_map_or}
use Rattle.std.specs.Io.KnownBytes.{Keeps, prepend_known}
use Rattle.tl_record.specs.declared.refusal.RefusalStop.{RefusalStop}
use Rattle.tl_record.specs.declared.refusal.RefusalStop.TheVariants.{Device, Endless}
use Rattle.tl_record.specs.declared.stop.Cause.{Cause}
use Rattle.tl_record.specs.Limits.{most_line_bytes}
use Rattle.tl_record.specs.Lines.{raw_lines}
use Rattle.tigertopo_faults.specs.declared.places.lines.Found.TheVariants.{Line, Missing}
use Rattle.tigertopo_faults.specs.declared.hint.advice.FileForm.{FileForm}
use Rattle.tigertopo_faults.specs.Places.LinePlaces.{line_at, line_count}
use Rattle.tigertopo_faults.specs.Places.Finding.{Answers, CountsAll, IsFound, PassesTo, Shows}
use Rattle.tigertopo_faults.proofs.FindingLemmas.{line_within, passes_fresh, passes_still}
use Rattle.tl_record.specs.Searching.{CountsSkip}
use Rattle.tigertopo_faults.specs.Hint.Again.{HasNoEnd}
use Rattle.tigertopo_faults.specs.Hint.Advice.{form_of}
use Rattle.tigertopo_faults.specs.Hint.Advice.{Asker}
use Rattle.tigertopo_faults.specs.Hint.Hints.{first_bytes, hint_in, line_hint}

-- a source whose bytes are known, before anything was fetched
unfetched : (P : Option (List ℕ) → Type 0) (known : Option (List ℕ)) → P (prepend_known [] known) → P known
unfetched P None holds = holds
unfetched P (Some text) holds = holds

module _ (by : Asker) (name : List ℕ) (number : ℕ) (cause : Cause) where
  line_told : (line : Option (List ℕ)) (bytes : List ℕ) (len : ℕ) (goes_on : Bool) (form : Option FileForm) (made : List ℕ) → Shows line bytes (Line len goes_on)
      → made ≡ line_hint by name number (take len bytes) cause form → made ≡ option_map_or (λ line. line_hint by name number (take most_line_bytes line) cause form) line []
  line_told None bytes len goes_on form made shows is = absurd (cc)
  line_told (Some line) bytes len goes_on form made shows is = is ∙ ap (λ (l : List ℕ). line_hint by name number l cause form) shows.1

  told_in : (known : Option (List ℕ)) (bytes : List ℕ) (len : ℕ) (goes_on : Bool) (form : Option FileForm) (made : List ℕ)
      → Answers known (λ text form. form ≡ form_of (first_bytes text)) (Ok form) → Answers known (IsFound number bytes) (Ok (Line len goes_on))
      → made ≡ line_hint by name number (take len bytes) cause form → IfSome known (λ held. (number ≤ line_count held) × (made ≡ hint_in by name held cause number))
  told_in None bytes len goes_on form made formed found is = tt
  told_in (Some text) bytes len goes_on form made formed found is = (
    line_within (raw_lines text) number bytes len goes_on found,
    line_told (line_at number (raw_lines text)) bytes len goes_on form made found is
        ∙ ap (λ (f : Option FileForm). option_map_or (λ line. line_hint by name number (take most_line_bytes line) cause f) (line_at number (raw_lines text)) []) formed,
  )

  -- what is said of the line that was found
  pub told_of_line : (known : Option (List ℕ)) (none bytes shown : List ℕ) (len : ℕ) (goes_on : Bool) (form : Option FileForm) (made : List ℕ) → none ≡ [] → shown ≡ bytes
      → Answers (prepend_known none known) (λ text form. form ≡ form_of (first_bytes text)) (Ok form)
      → Answers known (IsFound number bytes) (Ok (Line len goes_on)) → made ≡ line_hint by name number (take len shown) cause form
      → IfSome known (λ held. (number ≤ line_count held) × (made ≡ hint_in by name held cause number))
  told_of_line known none bytes shown len goes_on form made empty same formed found is =
      told_in known bytes len goes_on form made
      (unfetched (λ k. Answers k (λ text form. form ≡ form_of (first_bytes text)) (Ok form)) known
      (subst (λ (l : List ℕ). Answers (prepend_known l known) (λ text form. form ≡ form_of (first_bytes text)) (Ok form)) empty formed)) found
      (is ∙ ap (λ (l : List ℕ). line_hint by name number (take len l) cause form) same)

-- a source of which the first line was shown has passed none
pub passes_shown : (known mid : Option (List ℕ)) (none fetched : List ℕ) → none ≡ [] → Keeps (prepend_known none known) (prepend_known fetched mid) → PassesTo 0 known (prepend_known fetched mid)
passes_shown known mid none fetched empty kept = passes_still 0 known (prepend_known none known) (prepend_known fetched mid) (passes_fresh none known empty) kept

-- a file has fewer lines
pub counted_in : (passed : ℕ) (known : Option (List ℕ)) → Answers known (CountsAll passed) (Ok Missing) → IfSome known (λ held. passed ≡ line_count held)
counted_in passed None counted = tt
counted_in passed (Some text) counted = counted

-- a read failed, or the file has no end
pub failed_ahead : {T : Type 0} (known : Option (List ℕ)) (P : List ℕ → T → Type 0) (stop : RefusalStop) (joined old new : ℕ) → CountsSkip {T = T} old new (Err stop) → Answers known P (Err stop)
    → (0 < joined + new) ⊎ HasNoEnd known
failed_ahead known P Device joined old new counts given = inl (omega (arith, counts))
failed_ahead None P Endless joined old new counts given = inr tt
failed_ahead (Some text) P Endless joined old new counts given = inr given
