-- The record of a telling, as a chain's records are gone through.
use Rattle.std.proofs.Common.{◌≡◌, ℕ, zero, suc, ◌+◌, ◌-◌, ◌<◌, ◌≤◌, true, false, List, [], ◌∷◌, Option, None, Some, length, drop, get_or, refl, sym, ap, ◌∙◌, arith}
use Rattle.std.proofs.lemmas.List.{drop_more, drop_all}
use Rattle.tigertopo_faults.specs.declared.records.line.RecordLine.{RecordLine}
use Rattle.tigertopo_faults.specs.Records.Ends.{is_at, told, told_from}

-- among those that are left, behind so many of the kind, is what is among all
abbrev pub IsLeft : ℕ → Option ℕ → List RecordLine → ℕ → ℕ → Type 0
IsLeft telling rtsq lines before place = told_from before rtsq place (drop place lines) ≡ told telling rtsq lines

other_at : (before : ℕ) (rtsq : Option ℕ) (place : ℕ) (line : RecordLine) (rest : List RecordLine) → is_at rtsq line.holds ≡ false
    → told_from before rtsq place (line ∷ rest) ≡ told_from before rtsq (place + 1) rest
other_at zero rtsq place line rest other = rw other refl
other_at (suc before) rtsq place line rest other = rw other refl

earlier_at : (before : ℕ) (rtsq : Option ℕ) (place : ℕ) (line : RecordLine) (rest : List RecordLine) → is_at rtsq line.holds ≡ true → (before ≡ 0 → ⊥)
    → told_from before rtsq place (line ∷ rest) ≡ told_from (before - 1) rtsq (place + 1) rest
earlier_at zero rtsq place line rest is some = absurd (some refl)
earlier_at (suc before) rtsq place line rest is some = let one : suc before - 1 ≡ before = omega arith in rw (is, one) refl

found_at : (before : ℕ) (rtsq : Option ℕ) (place : ℕ) (line : RecordLine) (rest : List RecordLine) → is_at rtsq line.holds ≡ true → before ≡ 0
    → told_from before rtsq place (line ∷ rest) ≡ Some (place, line.holds)
found_at zero rtsq place line rest is none = rw is refl
found_at (suc before) rtsq place line rest is none = absurd (let wrong = none in cc)

none_left : (before : ℕ) (rtsq : Option ℕ) (place : ℕ) → told_from before rtsq place [] ≡ None
none_left zero rtsq place = refl
none_left (suc before) rtsq place = refl

module _ (telling : ℕ) (rtsq : Option ℕ) (lines : List RecordLine) (before place : ℕ) (left : IsLeft telling rtsq lines before place) where
  pub ended : length lines ≤ place → None ≡ told telling rtsq lines
  ended past = sym (none_left before rtsq place) ∙ ap (told_from before rtsq place) (sym (drop_all place lines past)) ∙ left

  module _ (line : RecordLine) (within : place < length lines) (at : line ≡ get_or lines place line) where
    here : drop place lines ≡ line ∷ drop (place + 1) lines
    here = drop_more lines place line within ∙ ap (λ (l : RecordLine). l ∷ drop (place + 1) lines) (sym at)

    -- one more that is another
    pub other_passed : is_at rtsq line.holds ≡ false → IsLeft telling rtsq lines before (place + 1)
    other_passed other = sym (other_at before rtsq place line (drop (place + 1) lines) other) ∙ ap (told_from before rtsq place) (sym here) ∙ left

    -- one more of the kind
    pub earlier_passed : is_at rtsq line.holds ≡ true → (before ≡ 0 → ⊥) → IsLeft telling rtsq lines (before - 1) (place + 1)
    earlier_passed is some = sym (earlier_at before rtsq place line (drop (place + 1) lines) is some) ∙ ap (told_from before rtsq place) (sym here) ∙ left

    -- the one
    pub found_here : is_at rtsq line.holds ≡ true → before ≡ 0 → Some (place, line.holds) ≡ told telling rtsq lines
    found_here is none = sym (found_at before rtsq place line (drop (place + 1) lines) is none) ∙ ap (told_from before rtsq place) (sym here) ∙ left
