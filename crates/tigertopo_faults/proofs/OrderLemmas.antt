-- A line among others, in the order of their numbers.
use Rattle.std.proofs.Common.{◌≡◌, ℕ, ◌+◌, ◌<◌, ◌≤◌, true, false, nat_lt, List, [], ◌∷◌, ◌++◌, length, drop, take, get_or, refl, sym, ap, ◌∙◌, append_assoc}
use Rattle.std.specs.Prelude.{insert}
use Rattle.std.proofs.lemmas.List.{drop_more, drop_all, take_more}
use Rattle.tigertopo_faults.specs.declared.records.line.RecordLine.{RecordLine}
use Rattle.tigertopo_faults.specs.Records.Ends.{in_order}

-- so many lines come before it
pub record GoesBehind (line : RecordLine) (lines : List RecordLine) (place : ℕ) : Type 0 where
  pub within : place ≤ length lines
  pub behind : take place lines ++ in_order line (drop place lines) ≡ in_order line lines

before_greater : (line first : RecordLine) (rest : List RecordLine) → nat_lt line.line first.line ≡ true → in_order line (first ∷ rest) ≡ line ∷ first ∷ rest
before_greater line first rest less = rw less refl

behind_other : (line first : RecordLine) (rest : List RecordLine) → nat_lt line.line first.line ≡ false → in_order line (first ∷ rest) ≡ first ∷ in_order line rest
behind_other line first rest more = rw more refl

module _ (line : RecordLine) (lines : List RecordLine) (place : ℕ) (goes : GoesBehind line lines place) where
  -- it comes here
  put : in_order line (drop place lines) ≡ line ∷ drop place lines → insert lines place line ≡ in_order line lines
  put here = ap (λ (rest : List RecordLine). take place lines ++ rest) (sym here) ∙ goes.behind

  pub put_last : length lines ≤ place → insert lines place line ≡ in_order line lines
  put_last past = put (rw (drop_all place lines past) refl)

  module _ (first : RecordLine) (within : place < length lines) (at : first ≡ get_or lines place first) where
    abbrev rest : List RecordLine
    rest = drop (place + 1) lines

    here : drop place lines ≡ first ∷ rest
    here = drop_more lines place first within ∙ ap (λ (l : RecordLine). l ∷ rest) (sym at)

    pub put_before : nat_lt line.line first.line ≡ true → insert lines place line ≡ in_order line lines
    put_before less = put (ap (in_order line) here ∙ before_greater line first rest less ∙ ap (λ (l : List RecordLine). line ∷ l) (sym here))

    -- one more comes before it
    pub goes_on : nat_lt line.line first.line ≡ false → place + 1 ≤ length lines → GoesBehind line lines (place + 1)
    goes_on more next = record {
      within = next;
      behind =
          ap (λ (l : List RecordLine). l ++ in_order line rest) (take_more lines place first within ∙ ap (λ (l : RecordLine). take place lines ++ l ∷ []) (sym at))
          ∙ append_assoc (take place lines) (first ∷ []) (in_order line rest)
          ∙ ap (λ (l : List RecordLine). take place lines ++ l) (sym (behind_other line first rest more) ∙ ap (in_order line) (sym here))
          ∙ goes.behind;
    }
