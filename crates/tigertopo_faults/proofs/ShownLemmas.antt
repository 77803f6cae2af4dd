-- Lines that are shown, and lines that are taken off.
use Rattle.std.proofs.Common.{◌≡◌, ◌≢◌, ℕ, zero, suc, ◌+◌, ◌≤◌, ◌<◌, min, nat_lt, not, ◌==◌, Bool, true, false, List, [], ◌∷◌, ◌++◌, Option, None, Some, Ok, Err, ◌⊎◌, length, take, drop, ne_eqb, refl, sym, ap, ◌∙◌, arith, inl, inr, append_assoc, append-nil}
use Rattle.std.proofs.lemmas.List.{length-append, length-take-le, take-append-le, take_all}
use Rattle.std.proofs.lemmas.Bool.{lt-ltb}
use Rattle.std.specs.List.{slice_index}
use Rattle.std.specs.Io.KnownBytes.{Keeps, IsAtEnd, prepend_known}
use Rattle.tl_record.specs.declared.refusal.RefusalStop.{RefusalStop}
use Rattle.tl_record.specs.declared.refusal.RefusalStop.TheVariants.{Device, Endless}
use Rattle.tl_record.specs.Limits.{most_line_bytes}
use Rattle.tl_record.specs.Lines.{line_feed, line_feeds, first_line}
use Rattle.tl_record.specs.Searching.{SkipsLine}
use Rattle.tl_record.proofs.LineLemmas.{raw_lines-first, no_feed_here, first_line_before, split_at_feed}
use Rattle.tl_record.proofs.SkipLemmas.{line_taken, last_taken, skipped_behind}
use Rattle.tigertopo_faults.specs.declared.places.lines.Found.TheVariants.{Line, Missing}
use Rattle.tigertopo_faults.specs.Places.Finding.{Answers, IsFound, Passes, Shows}

-- the first bytes of the first bytes
take_both : (m n : ℕ) (xs : List ℕ) → take m (take n xs) ≡ take (min n m) xs
take_both zero zero xs = refl
take_both zero (suc n) xs = let none : min (suc n) 0 ≡ 0 = omega arith in rw none refl
take_both (suc m) zero xs = let none : min 0 (suc m) ≡ 0 = omega arith in rw none refl
take_both (suc m) (suc n) [] = let less : min (suc n) (suc m) ≡ suc (min n m) = omega arith in rw less refl
take_both (suc m) (suc n) (x ∷ xs) = let less : min (suc n) (suc m) ≡ suc (min n m) = omega arith in rw less (ap (λ (l : List ℕ). x ∷ l) (take_both m n xs))

-- a line whose first bytes stand in a buffer: all of them, or more than are shown
pub shows_prefix : (bytes line tail : List ℕ) (n : ℕ) → n ≤ length bytes → line ≡ take n bytes ++ tail → (tail ≡ []) ⊎ (most_line_bytes < n)
    → Shows (Some line) bytes (Line (min n most_line_bytes) (nat_lt most_line_bytes n))
shows_prefix bytes line tail n within is (inl none) =
    let whole : line ≡ take n bytes = is ∙ ap (λ (l : List ℕ). take n bytes ++ l) none ∙ append-nil (take n bytes) in
    let size : length line ≡ n = ap (length {A = ℕ}) whole ∙ length-take-le n bytes within in
    (omega arith, sym (ap (take most_line_bytes) whole ∙ take_both most_line_bytes n bytes), ap (nat_lt most_line_bytes) (sym size))
shows_prefix bytes line tail n within is (inr long) =
    let size : length (take n bytes) ≡ n = length-take-le n bytes within in
    let more : n ≤ length line = rw is (omega (arith, length-append (take n bytes) tail, size)) in
    let front : take most_line_bytes line ≡ take (min n most_line_bytes) bytes =
    ap (take most_line_bytes) is ∙ take-append-le most_line_bytes (take n bytes) tail (omega (arith, size)) ∙ take_both most_line_bytes n bytes in
    (omega arith, sym front, lt-ltb most_line_bytes n long ∙ sym (lt-ltb most_line_bytes (length line) (omega (arith, long, more))))

-- bytes with no line feed stand before the first line's end
first_line_over : (front rest : List ℕ) → line_feeds front ≡ 0 → first_line (front ++ rest) ≡ front ++ first_line rest
first_line_over [] rest none = refl
first_line_over (byte ∷ front) rest none =
    let parts = no_feed_here byte front none in rw parts.0 (ap (λ (l : List ℕ). byte ∷ l) (first_line_over front rest parts.1))

-- the first line of a text that isn't empty
shows_first : (buffer text : List ℕ) (len : ℕ) (goes_on : Bool) → text ≢ [] → Shows (Some (first_line text)) buffer (Line len goes_on) → IsFound 1 buffer text (Line len goes_on)
shows_first buffer text len goes_on some shows = rw (raw_lines-first text some) shows

some_bytes : (bytes xs : List ℕ) → 0 < length bytes → bytes ++ xs ≢ []
some_bytes [] xs some = absurd (omega arith)
some_bytes (byte ∷ bytes) xs some = λ none. cc

-- a line whose line feed was fetched
pub shows_line : (old left : Option (List ℕ)) (bytes : List ℕ) (len : ℕ) → Keeps old (prepend_known bytes left)
    → len < length bytes → slice_index bytes len ≡ line_feed → line_feeds (take len bytes) ≡ 0
    → Answers old (IsFound 1 bytes) (Ok (Line (min len most_line_bytes) (nat_lt most_line_bytes len)))
shows_line None left bytes len kept within feed none = tt
shows_line (Some text) None bytes len kept within feed none = absurd kept
shows_line (Some text) (Some xs) bytes len kept within feed none =
    let split : text ≡ take len bytes ++ line_feed ∷ (drop (len + 1) bytes ++ xs) =
    sym kept ∙ ap (λ (l : List ℕ). l ++ xs) (split_at_feed bytes len within feed) ∙ append_assoc (take len bytes) (line_feed ∷ drop (len + 1) bytes) xs in
    let line : first_line text ≡ take len bytes = ap first_line split ∙ first_line_before (take len bytes) (drop (len + 1) bytes ++ xs) none in
    let some : text ≢ [] = λ empty. some_bytes bytes xs (omega arith) (kept ∙ empty) in
    shows_first bytes text _ _ some (shows_prefix bytes (first_line text) [] len (omega arith) (line ∙ sym (append-nil (take len bytes))) (inl refl))

-- a last line, and a line that fills the buffer
pub shows_rest : (old left : Option (List ℕ)) (bytes : List ℕ) → Keeps old (prepend_known bytes left)
    → line_feeds bytes ≡ 0 → 0 < length bytes → IsAtEnd left ⊎ (most_line_bytes < length bytes)
    → Answers old (IsFound 1 bytes) (Ok (Line (min (length bytes) most_line_bytes) (nat_lt most_line_bytes (length bytes))))
shows_rest None left bytes kept none some how = tt
shows_rest (Some text) None bytes kept none some how = absurd kept
shows_rest (Some text) (Some xs) bytes kept none some how =
    let line : first_line text ≡ bytes ++ first_line xs = ap first_line (sym kept) ∙ first_line_over bytes xs none in
    let all : take (length bytes) bytes ≡ bytes = take_all (length bytes) bytes (omega arith) in
    shows_first bytes text _ _ (λ empty. some_bytes bytes xs some (kept ∙ empty))
    (shows_prefix bytes (first_line text) (first_line xs) (length bytes) (omega arith) (line ∙ ap (λ (l : List ℕ). l ++ first_line xs) (sym all))
    (elim how [
      | inl ended ↦ inl (ap first_line ended)
      | inr long ↦ inr long
    ]))

-- there is none
pub shows_none : (old left : Option (List ℕ)) (bytes : List ℕ) → Keeps old (prepend_known bytes left) → length bytes ≡ 0 → IsAtEnd left → Answers old (IsFound 1 bytes) (Ok Missing)
shows_none None left bytes kept none ended = tt
shows_none (Some text) None bytes kept none ended = absurd kept
shows_none (Some text) (Some xs) [] kept none ended = rw (sym kept ∙ ended) refl
shows_none (Some text) (Some xs) (byte ∷ bytes) kept none ended = absurd (omega arith)

-- a line whose line feed was fetched, taken off
pub passes_line : (old left : Option (List ℕ)) (bytes after : List ℕ) (len : ℕ) → Keeps old (prepend_known bytes left)
    → len < length bytes → slice_index bytes len ≡ line_feed → line_feeds (take len bytes) ≡ 0 → after ≡ drop (len + 1) bytes
    → Answers old (Passes (prepend_known after left)) (Ok true)
passes_line None left bytes after len kept within feed none rest = tt
passes_line (Some text) None bytes after len kept within feed none rest = absurd kept
passes_line (Some text) (Some xs) bytes after len kept within feed none rest =
    (λ empty. some_bytes bytes xs (omega arith) (kept ∙ empty), line_taken (Some text) (Some xs) bytes after len text refl kept within feed none rest)

-- a last line, taken off, or none
pub passes_last : (old left : Option (List ℕ)) (bytes : List ℕ) (is_line : Bool) → is_line ≡ not (length bytes == 0) → Keeps old (prepend_known bytes left)
    → line_feeds bytes ≡ 0 → IsAtEnd left → Answers old (Passes (prepend_known [] left)) (Ok is_line)
passes_last None left bytes is_line is kept none ended = tt
passes_last (Some text) None bytes is_line is kept none ended = absurd kept
passes_last (Some text) (Some xs) [] is_line is kept none ended = rw is (sym kept ∙ ended, ap (λ (l : List ℕ). Some l) ended)
passes_last (Some text) (Some xs) (byte ∷ bytes) is_line is kept none ended =
    let last = last_taken (Some text) (Some xs) (byte ∷ bytes) text refl kept none ended in
    let some : (length (byte ∷ bytes) == 0) ≡ false = ne_eqb (length (byte ∷ bytes)) 0 (λ none. absurd (omega arith)) in
    rw (is, some) (λ empty. absurd (let wrong = sym last.1 ∙ empty in cc), last.0)

-- a line that fills the buffer, whose end was found
pub passes_full : {T : Type 0} (old left new : Option (List ℕ)) (bytes : List ℕ) (done : T) → Keeps old (prepend_known bytes left) → 0 < length bytes
    → SkipsLine (prepend_known bytes left) new (Ok done) → Answers old (Passes new) (Ok true)
passes_full None left new bytes done kept some skips = tt
passes_full (Some text) None new bytes done kept some skips = absurd kept
passes_full (Some text) (Some xs) new bytes done kept some skips =
    (λ empty. some_bytes bytes xs some (kept ∙ empty), skipped_behind (Some (bytes ++ xs)) new done skips text (ap (λ (l : List ℕ). Some l) kept))

-- or wasn't
pub passes_stopped : (T : Type 0) {U : Type 0} (P : List ℕ → U → Type 0) (old left new : Option (List ℕ)) (bytes : List ℕ) (stop : RefusalStop) → Keeps old (prepend_known bytes left)
    → SkipsLine {T = T} (prepend_known bytes left) new (Err stop) → Answers old P (Err stop)
passes_stopped T P None left new bytes stop kept skips = tt
passes_stopped T P (Some text) None new bytes stop kept skips = absurd kept
passes_stopped T P (Some text) (Some xs) new bytes Device kept skips = tt
passes_stopped T P (Some text) (Some xs) new bytes Endless kept skips = rw kept at skips

pub failed_read : {U : Type 0} (P : List ℕ → U → Type 0) (old : Option (List ℕ)) → Answers old P (Err Device)
failed_read P None = tt
failed_read P (Some text) = tt
