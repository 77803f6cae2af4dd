use Rattle.std.proofs.Common.{◌≡◌, ℕ, ◌+◌, ◌<◌, ◌≤◌, inl, inr, List, length, get_or, arith}
use Rattle.std.proofs.lemmas.Bool.{cases_lt}
use Rattle.std.proofs.lemmas.List.{get_or_default}

-- what holds of the item at a place holds whatever the default is
pub scan_at : {X : Type 0} (P : X → Type 0) (xs : List X) (i : ℕ) (x : X) → P (get_or xs i x) → (d : X) → i < length xs → P (get_or xs i d)
scan_at P xs i x at d lt = rw (get_or_default xs i d x lt) at

-- what holds of the items from a place on holds of one more
pub scan_more : {X : Type 0} (P : X → Type 0) (xs : List X) (start i : ℕ) (x : X) → i < length xs → P (get_or xs i x) → ((k : ℕ) (d : X) → start ≤ k → k < i → P (get_or xs k d)) → (k : ℕ) (d : X) → start ≤ k → k < i + 1 → P (get_or xs k d)
scan_more P xs start i x low at before k d le lt = elim (cases_lt k i) [
  | inl earlier ↦ before k d le earlier
  | inr later ↦ let same : k ≡ i = omega (arith, later, lt) in rw same (scan_at P xs i x at d low)
]
