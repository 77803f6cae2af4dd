-- A text is refused at the first of its lines that doesn't lead on.
use Rattle.std.proofs.Common.{◌≡◌, ℕ, ◌+◌, ◌-◌, ◌≤◌, inl, inr, length, List, [], ◌∷◌, ◌++◌, sym, ap, ◌∙◌, subst, arith, append_assoc, take, drop}
use Rattle.std.proofs.Common.{take-append-drop, take-add}
use Rattle.std.proofs.lemmas.Bool.{cases_lt}
use Rattle.std.proofs.Math.Seq.{take-append_seam, take-append-add}
use Rattle.tl_record.specs.Lines.{line_feed, line_feeds, joined_lines}
use Rattle.tl_record.proofs.LineLemmas.{feeds-append}
use Rattle.tl_cert.specs.Certificates.{TheCertificate, IsCertificate}
use Rattle.tl_cert.specs.Text.{certificate_lines, certificate_text}
use Rattle.tl_cert.specs.Beginnings.{BeginsSome, IsRefused}
use Rattle.tl_cert.specs.Keeping.Steps.{State, start, ended, Runs, IsStuck}
use Rattle.tl_cert.proofs.StepLemmas.{step_short}
use Rattle.tl_cert.proofs.RunLemmas.{run_none, run_first, runs_same, certificate_runs}
use Rattle.tl_cert.proofs.Completing.{completes}
use Rattle.tl_cert.proofs.JoinedLines.{no_feed_at_end, line_apart, joined_apart, joined_feeds, first_feed, run_holds}

-- what a certificate's text says behind lines that lead from the start
pub text_behind : (lines : List (List ℕ)) (s : State) (text : List ℕ) (c : TheCertificate) → Runs start lines s → IsCertificate c
    → joined_lines lines ++ text ≡ certificate_text c → (rest : List (List ℕ)) × Runs s rest ended × (text ≡ joined_lines rest)
text_behind lines s text c run is same =
    let whole = certificate_runs c is in
    let parts = joined_apart lines (certificate_lines c) text (run_holds start s lines run) (run_holds start ended (certificate_lines c) whole) same in
    (parts.0, runs_same start s ended lines parts.0 run (subst (λ l. Runs start l ended) parts.1 whole), parts.2)

stuck_none : (s : State) (text : List ℕ) (rest : List (List ℕ)) → IsStuck s text → Runs s rest ended → text ≡ joined_lines rest → ⊥
stuck_none s text [] stuck run same = stuck.some (run_none s ended run) same
stuck_none s text (line ∷ lines) stuck run same =
    let parts = run_first s ended line lines run in
    stuck.none line (joined_lines lines) parts.0 parts.1 same

-- bytes that begin with a line and its line feed, and others behind them
line_before : (bytes line more behind : List ℕ) → bytes ≡ line ++ line_feed ∷ more → bytes ++ behind ≡ line ++ line_feed ∷ (more ++ behind)
line_before bytes line more behind is = ap (λ (l : List ℕ). l ++ behind) is ∙ append_assoc line (line_feed ∷ more) behind

-- a text with a line that doesn't lead on begins no text whose lines do
stuck_line : (s : State) (text front behind other line more : List ℕ) (rest : List (List ℕ)) → IsStuck s text → text ≡ front ++ behind
    → front ≡ line ++ line_feed ∷ more → line_feeds line ≡ 0 → Runs s rest ended → front ++ other ≡ joined_lines rest → ⊥
stuck_line s text front behind other line more [] stuck parted is none run same =
    no_feed_at_end line (more ++ other) (sym (line_before front line more other is) ∙ same)
stuck_line s text front behind other line more (first ∷ lines) stuck parted is none run same =
    let parts = run_first s ended first lines run in
    let short = step_short s parts.0 first parts.1 in
    let apart = line_apart line first (more ++ other) (joined_lines lines) none short.0 (sym (line_before front line more other is) ∙ same) in
    stuck.none first (more ++ behind) parts.0 parts.1
    (parted ∙ line_before front line more behind is ∙ ap (λ (l : List ℕ). l ++ line_feed ∷ (more ++ behind)) apart.0)

-- so behind the lines no line feed is reached
stuck_feeds : (lines : List (List ℕ)) (s : State) (text front behind : List ℕ) → Runs start lines s → IsStuck s text → text ≡ front ++ behind
    → BeginsSome (joined_lines lines ++ front) → line_feeds front ≡ 0
stuck_feeds lines s text front behind run stuck parted begins =
    elim (first_feed front) [
      | inl none ↦ none
      | inr some ↦
          let same = sym (append_assoc (joined_lines lines) front begins.rest) ∙ begins.whole.spelt in
          let rest = text_behind lines s (front ++ begins.rest) begins.certificate run begins.whole.certificate same in
          absurd (stuck_line s text front behind begins.rest some.0 some.1 rest.0 stuck parted some.2 some.3 rest.1 rest.2)
    ]

feeds_less : (bytes : List ℕ) (m n : ℕ) → m ≤ n → line_feeds (take m bytes) ≤ line_feeds (take n bytes)
feeds_less bytes m n less =
    let split : take n bytes ≡ take m bytes ++ take (n - m) (drop m bytes) = ap (λ k. take k bytes) (omega arith) ∙ take-add m (n - m) bytes in
    omega (arith, ap line_feeds split, feeds-append (take m bytes) (take (n - m) (drop m bytes)))

-- no beginning of some certificate's text goes past the lines' line feeds
stuck_most : (lines : List (List ℕ)) (s : State) (text : List ℕ) (more : ℕ) → Runs start lines s → IsStuck s text
    → BeginsSome (take more (joined_lines lines ++ text)) → line_feeds (take more (joined_lines lines ++ text)) ≤ line_feeds (joined_lines lines)
stuck_most lines s text more run stuck begins =
    elim (cases_lt more (length (joined_lines lines))) [
      | inl less ↦
          let seam : take (length (joined_lines lines)) (joined_lines lines ++ text) ≡ joined_lines lines = take-append_seam (joined_lines lines) text in
          omega (arith, feeds_less (joined_lines lines ++ text) more (length (joined_lines lines)) (omega arith), ap line_feeds seam)
      | inr past ↦
          let front : ℕ = more - length (joined_lines lines) in
          let split : take more (joined_lines lines ++ text) ≡ joined_lines lines ++ take front text =
          ap (λ k. take k (joined_lines lines ++ text)) (omega arith) ∙ take-append-add (joined_lines lines) text front in
          let begun = subst BeginsSome split begins in
          let none = stuck_feeds lines s text (take front text) (drop front text) run stuck (sym (take-append-drop front text)) begun in
          omega (arith, ap line_feeds split, feeds-append (joined_lines lines) (take front text), none)
    ]

pub stuck_is_refused : (lines : List (List ℕ)) (s : State) (text : List ℕ) → Runs start lines s → IsStuck s text
    → IsRefused (joined_lines lines ++ text) (1 + length lines)
stuck_is_refused lines s text run stuck =
    let seam : take (length (joined_lines lines)) (joined_lines lines ++ text) ≡ joined_lines lines = take-append_seam (joined_lines lines) text in
    record {
      none = λ c is.
          let rest = text_behind lines s text c run is.certificate is.spelt in
          stuck_none s text rest.0 stuck rest.1 rest.2;
      seen = record {
        len = length (joined_lines lines);
        begins = subst BeginsSome (sym seam) (completes lines s run);
        most = λ more begins. omega (arith, stuck_most lines s text more run stuck begins, ap line_feeds seam);
        counted = omega (arith, ap line_feeds seam, joined_feeds lines (run_holds start s lines run));
      };
    }
