-- A text has one list of raw lines.
use Rattle.std.proofs.Common.{◌≡◌, ◌≢◌, ℕ, List, [], ◌∷◌, ◌++◌, false, refl, sym, ap, ◌∙◌, inl, inr, append_assoc}
use Rattle.std.proofs.lemmas.List.{append_cancel_right}
use Rattle.std.proofs.lemmas.Bool.{cases_Bool, eqb-true}
use Rattle.memchr.specs.Find.{is_byte}
use Rattle.tl_record.specs.Lines.{line_feed, line_feeds, raw_lines, with_first_byte, joined_lines, AreLinesOf}
use Rattle.tl_record.proofs.LineLemmas.{first_line_before, after_first_line_before, first_line_whole, after_first_line_whole, raw_lines-first, other_counts}
use Rattle.tl_record.proofs.NextLemmas.{not_empty}

-- an empty line stands before the lines
feed_before : (text : List ℕ) (lines : List (List ℕ)) → AreLinesOf text lines → AreLinesOf (line_feed ∷ text) ([] ∷ lines)
feed_before text [] are =
    elim are.whole [
      | inl is ↦ record { inside = (refl, tt); whole = inl (ap (λ (l : List ℕ). line_feed ∷ l) is) }
      | inr is ↦ absurd (not_empty text [] line_feed is.0)
    ]
feed_before text (line ∷ lines) are =
    elim are.whole [
      | inl is ↦ record { inside = (refl, are.inside); whole = inl (ap (λ (l : List ℕ). line_feed ∷ l) is) }
      | inr is ↦ record { inside = (refl, are.inside); whole = inr (ap (λ (l : List ℕ). line_feed ∷ l) is.0, is.1) }
    ]

-- a byte stands before the first line
byte_before : (byte : ℕ) (text : List ℕ) (lines : List (List ℕ)) → is_byte line_feed byte ≡ false → AreLinesOf text lines → AreLinesOf (byte ∷ text) (with_first_byte byte lines)
byte_before byte text [] other are =
    elim are.whole [
      | inl is ↦ record { inside = (other_counts byte [] other, tt); whole = inr (ap (λ (l : List ℕ). byte ∷ l ++ line_feed ∷ []) is, λ none. cc) }
      | inr is ↦ absurd (not_empty text [] line_feed is.0)
    ]
byte_before byte text (line ∷ []) other are =
    let counted = other_counts byte line other ∙ are.inside.0 in
    elim are.whole [
      | inl is ↦ record { inside = (counted, tt); whole = inl (ap (λ (l : List ℕ). byte ∷ l) is) }
      | inr is ↦ record { inside = (counted, tt); whole = inr (ap (λ (l : List ℕ). byte ∷ l) is.0, λ none. cc) }
    ]
byte_before byte text (line ∷ next ∷ lines) other are =
    let counted = other_counts byte line other ∙ are.inside.0 in
    elim are.whole [
      | inl is ↦ record { inside = (counted, are.inside.1); whole = inl (ap (λ (l : List ℕ). byte ∷ l) is) }
      | inr is ↦ record { inside = (counted, are.inside.1); whole = inr (ap (λ (l : List ℕ). byte ∷ l) is.0, is.1) }
    ]

pub raw_lines_are : (text : List ℕ) → AreLinesOf text (raw_lines text)
raw_lines_are [] = record { inside = tt; whole = inl refl }
raw_lines_are (byte ∷ text) =
    elim (cases_Bool (is_byte line_feed byte)) [
      | inl is ↦ let feed : byte ≡ line_feed = eqb-true byte line_feed is in rw feed (feed_before text (raw_lines text) (raw_lines_are text))
      | inr is ↦ rw is (byte_before byte text (raw_lines text) is (raw_lines_are text))
    ]

-- lines joined end in a line feed
last_feed : (line : List ℕ) (lines : List (List ℕ)) → (front : List ℕ) × (joined_lines (line ∷ lines) ≡ front ++ line_feed ∷ [])
last_feed line [] = (line, refl)
last_feed line (next ∷ lines) =
    let more = last_feed next lines in
    (line ++ line_feed ∷ more.0, ap (λ (l : List ℕ). line ++ line_feed ∷ l) more.1 ∙ sym (append_assoc line (line_feed ∷ more.0) (line_feed ∷ [])))

-- the lines of a text that begins with a line and its line feed
line_first : (line rest : List ℕ) (lines : List (List ℕ)) → line_feeds line ≡ 0 → raw_lines rest ≡ lines → raw_lines (line ++ line_feed ∷ rest) ≡ line ∷ lines
line_first line rest lines none is =
    raw_lines-first (line ++ line_feed ∷ rest) (not_empty line rest line_feed)
    ∙ rw (first_line_before line rest none, after_first_line_before line rest none, is) refl

pub only_raw_lines : (lines : List (List ℕ)) (text : List ℕ) → AreLinesOf text lines → raw_lines text ≡ lines
only_raw_lines [] text are =
    elim are.whole [
      | inl is ↦ ap raw_lines is
      | inr is ↦ absurd is.1
    ]
only_raw_lines (line ∷ []) text are =
    elim are.whole [
      | inl is ↦ ap raw_lines is ∙ line_first line [] [] are.inside.0 refl
      | inr is ↦
          let same : text ≡ line = append_cancel_right text line (line_feed ∷ []) is.0 in
          ap raw_lines same ∙ raw_lines-first line is.1 ∙ rw (first_line_whole line are.inside.0, after_first_line_whole line are.inside.0) refl
    ]
only_raw_lines (line ∷ next ∷ lines) text are =
    elim are.whole [
      | inl is ↦
          ap raw_lines is ∙ line_first line (joined_lines (next ∷ lines)) (next ∷ lines) are.inside.0
          (only_raw_lines (next ∷ lines) (joined_lines (next ∷ lines)) record { inside = are.inside.1; whole = inl refl })
      | inr is ↦
          let last = last_feed next lines in
          let split : line ++ line_feed ∷ joined_lines (next ∷ lines) ≡ (line ++ line_feed ∷ last.0) ++ line_feed ∷ [] =
          ap (λ (l : List ℕ). line ++ line_feed ∷ l) last.1 ∙ sym (append_assoc line (line_feed ∷ last.0) (line_feed ∷ [])) in
          let same : text ≡ line ++ line_feed ∷ last.0 = append_cancel_right text (line ++ line_feed ∷ last.0) (line_feed ∷ []) (is.0 ∙ split) in
          ap raw_lines same ∙ line_first line last.0 (next ∷ lines) are.inside.0
          (only_raw_lines (next ∷ lines) last.0 record { inside = are.inside.1; whole = inr (sym last.1, is.1) })
    ]
