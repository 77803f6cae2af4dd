-- Lines without line feeds can be told from their joined text.
use Rattle.std.proofs.Common.{◌≡◌, ℕ, ◌⊎◌, inl, inr, length, List, [], ◌∷◌, ◌++◌, refl, sym, ap, ◌∙◌, arith, append_assoc, eqb}
use Rattle.std.proofs.lemmas.Bool.{cases_Bool, eqb-true}
use Rattle.tl_record.specs.Lines.{line_feed, line_feeds, joined_lines, after_first_line, HoldNoLineFeed}
use Rattle.tl_record.specs.Lines
use Rattle.tl_record.proofs.LineLemmas.{other_counts, feeds-split, first_line_before, after_first_line_before}
use Rattle.tl_cert.specs.Keeping.Steps.{State, Runs, no_line, first_line}
use Rattle.tl_cert.proofs.StepLemmas.{step_short}

-- a line up to its line feed
pub line_apart : (x y front behind : List ℕ) → line_feeds x ≡ 0 → line_feeds y ≡ 0
    → x ++ line_feed ∷ front ≡ y ++ line_feed ∷ behind → (x ≡ y) × (front ≡ behind)
line_apart x y front behind none other same = (
  sym (first_line_before x front none) ∙ ap Lines.first_line same ∙ first_line_before y behind other,
  sym (after_first_line_before x front none) ∙ ap after_first_line same ∙ after_first_line_before y behind other,
)

pub no_feed_at_end : (line behind : List ℕ) → line ++ line_feed ∷ behind ≡ [] → ⊥
no_feed_at_end [] behind same = cc
no_feed_at_end (byte ∷ line) behind same = cc

-- lines whose joined text begins with that of others begin with these
pub joined_apart : (xs others : List (List ℕ)) (text : List ℕ) → HoldNoLineFeed xs → HoldNoLineFeed others → joined_lines xs ++ text ≡ joined_lines others
    → (rest : List (List ℕ)) × (others ≡ xs ++ rest) × (text ≡ joined_lines rest)
joined_apart [] others text hold held same = (others, refl, same)
joined_apart (line ∷ lines) [] text hold held same =
    absurd (no_feed_at_end line (joined_lines lines ++ text) (sym (append_assoc line (line_feed ∷ joined_lines lines) text) ∙ same))
joined_apart (line ∷ lines) (other ∷ others) text hold held same =
    let parts = line_apart line other (joined_lines lines ++ text) (joined_lines others) hold.0 held.0
    (sym (append_assoc line (line_feed ∷ joined_lines lines) text) ∙ same) in
    let more = joined_apart lines others text hold.1 held.1 parts.1 in
    (more.0, cc (parts.0, more.1), more.2)

pub joined_feeds : (lines : List (List ℕ)) → HoldNoLineFeed lines → line_feeds (joined_lines lines) ≡ length lines
joined_feeds [] hold = refl
joined_feeds (line ∷ lines) hold = feeds-split line (joined_lines lines) hold.0 ∙ omega (arith, joined_feeds lines hold.1)

-- the first line feed of some bytes, or none
pub first_feed : (bytes : List ℕ)
    → (line_feeds bytes ≡ 0) ⊎ ((line : List ℕ) × (behind : List ℕ) × (bytes ≡ line ++ line_feed ∷ behind) × (line_feeds line ≡ 0))
first_feed [] = inl refl
first_feed (byte ∷ bytes) =
    elim (cases_Bool (eqb byte line_feed)) [
      | inl is ↦ inr ([], bytes, ap (λ first. first ∷ bytes) (eqb-true byte line_feed is), refl)
      | inr is ↦ elim (first_feed bytes) [
        | inl none ↦ inl (other_counts byte bytes is ∙ none)
        | inr some ↦ inr (byte ∷ some.0, some.1, ap (λ (l : List ℕ). byte ∷ l) some.2, other_counts byte some.0 is ∙ some.3)
      ]
    ]

-- lines that lead on hold no line feed
pub run_holds : (s t : State) (lines : List (List ℕ)) → Runs s lines t → HoldNoLineFeed lines
run_holds s t lines (no_line s') = tt
run_holds s t lines (first_line s' next t' line others step more) = ((step_short s' next line step).0, run_holds next t' others more)
