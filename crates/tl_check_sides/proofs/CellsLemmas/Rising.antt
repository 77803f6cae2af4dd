-- What is kept by rising id: where no two neighbours have one id, no two have.
use Rattle.std.proofs.Common.{◌≡◌, ℕ, ◌+◌, ◌-◌, ◌<◌, ◌≤◌, true, false, inl, inr, Option, Some, None, List, length, get_or, refl, sym, ◌∙◌, arith}
use Rattle.std.specs.Cmp.Lexicographic.{options_total}
use Rattle.std.specs.List.{AllPairs}
use Rattle.std.specs.Option.{option_cmp}
use Rattle.std.specs.Ordering.{is_lt, nat_cmp}
use Rattle.std.proofs.lemmas.Bool.{cases_lt}
use Rattle.std.proofs.lemmas.Bool.Decides.{nat_tests}
use Rattle.std.proofs.lemmas.Cmp.{nat_cmp_total}
use Rattle.std.proofs.lemmas.List.{get_or_default}
use Rattle.std.proofs.lemmas.List.Sorted.{ranks_by, sorted_far}
use Rattle.tl_check_sides.specs.declared.cells.kept.NodeCell.{NodeCell}
use Rattle.tl_check_sides.specs.Cells.Keeping.Kept.{kept_at, kept_id, AreById, HaveTwoIds}

-- an id that isn't below another and not above it is that one
same_id : (a b : ℕ) → is_lt (nat_cmp a b) ≡ false → is_lt (nat_cmp b a) ≡ false → a ≡ b
same_id a b e f = grind (arith, nat_tests)

-- what stands between two of one id has that id too
between : (x : Option NodeCell) (n m : ℕ) → n ≡ m → is_lt (option_cmp nat_cmp (kept_id x) (Some n)) ≡ false → is_lt (option_cmp nat_cmp (Some m) (kept_id x)) ≡ false → (c : NodeCell) × (x ≡ Some c) × (c.id ≡ n)
between None n m same low high = absurd (let e : true ≡ false = low in cc)
between (Some c) n m same low high = (c, refl, same_id c.id n low (rw (← same) at high))

-- the neighbours below a place have two ids
abbrev pub NeighboursDiffer : List (Option NodeCell) → ℕ → Type 0
NeighboursDiffer kept n = (k : ℕ) → k + 1 < n → HaveTwoIds (kept_at kept k) (kept_at kept (k + 1))

pub all_two : (kept : List (Option NodeCell)) → AreById kept → NeighboursDiffer kept (length kept) → AllPairs HaveTwoIds kept
all_two kept sorted differ i j d before hj a b at_i at_j same =
    let far = λ (i j : ℕ). sorted_far (λ (x y : Option NodeCell). is_lt (option_cmp nat_cmp (kept_id x) (kept_id y))) (ranks_by (options_total nat_cmp_total) kept_id) kept sorted i j d in
    let low = rw at_i at (far i (i + 1) (omega arith) (omega arith)) in
    let high = rw at_j at (far (i + 1) j (omega arith) hj) in
    let next = between (get_or kept (i + 1) d) a.id b.id same low high in
    differ i (omega arith) a next.0 (get_or_default kept i None d (omega arith) ∙ at_i) (get_or_default kept (i + 1) None d (omega arith) ∙ next.1) (sym next.2)

pub neighbours_more : (kept : List (Option NodeCell)) (n : ℕ) → 1 ≤ n → NeighboursDiffer kept n → HaveTwoIds (kept_at kept (n - 1)) (kept_at kept n) → NeighboursDiffer kept (n + 1)
neighbours_more kept n some before here k lt = elim (cases_lt (k + 1) n) [
  | inl earlier ↦ before k earlier
  | inr last ↦
      let first : k ≡ n - 1 = omega arith in
      let second : k + 1 ≡ n = omega arith in
      rw (second, first) here
]
