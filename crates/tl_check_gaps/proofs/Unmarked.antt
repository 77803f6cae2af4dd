-- Polygons that are listed where they have no mark.
use Rattle.std.proofs.Common.{◌≡◌, ◌⊎◌, inl, inr, ℕ, ◌+◌, ◌<◌, Bool, false, true, List, [], ◌∷◌, ◌++◌, All, Contains, slice_index_or, sym, subst, arith}
use Rattle.std.proofs.lemmas.Bool.{cases_lt, true≢false}
use Rattle.std.proofs.lemmas.List.Elements.{All-nil, All-push, Contains-append_left, Contains-push}
use Rattle.tl_map_county.specs.TheMap.{TheMap}
use Rattle.tl_check_gaps.specs.Keeping.Spotted.{AreTrueMarks}

-- each polygon before this one is listed or marked, and those that are listed are polygons
pub record AreListedBefore (n : ℕ) (marks : List Bool) (p : ℕ) (list : List ℕ) : Type 0 where
  pub known : All (λ q. q < n) list
  pub others : (q : ℕ) → q < p → Contains list q ⊎ (slice_index_or marks q false ≡ true)

pub none_before : (n : ℕ) (marks : List Bool) (list : List ℕ) → list ≡ [] → AreListedBefore n marks 0 list
none_before n marks list none = record { known = subst (All (λ q. q < n)) (sym none) (All-nil (λ q. q < n)); others = λ q lt. absurd (omega (arith, lt)) }

module _ (n : ℕ) (marks : List Bool) (p : ℕ) where
  pub marked_more : (list : List ℕ) → slice_index_or marks p false ≡ true → AreListedBefore n marks p list → AreListedBefore n marks (p + 1) list
  marked_more list marked before = record {
    known = before.known;
    others = λ q lt. elim (cases_lt q p) [
      | inl earlier ↦ before.others q earlier
      | inr last ↦ inr (subst (λ k. slice_index_or marks k false ≡ true) (let same : p ≡ q = omega (arith, lt, last) in same) marked)
    ];
  }

  pub listed_more : (list new : List ℕ) → p < n → new ≡ list ++ p ∷ [] → AreListedBefore n marks p list → AreListedBefore n marks (p + 1) new
  listed_more list new within is before = record {
    known = subst (All (λ q. q < n)) (sym is) (All-push (λ q. q < n) list p before.known within);
    others = λ q lt. elim (cases_lt q p) [
      | inl earlier ↦ kept q (before.others q earlier)
      | inr last ↦ inl (subst (λ l. Contains l q) (sym is) (subst (Contains (list ++ p ∷ [])) (let same : p ≡ q = omega (arith, lt, last) in same) (Contains-push list p)))
    ];
  } where
    kept : (q : ℕ) → Contains list q ⊎ (slice_index_or marks q false ≡ true) → Contains new q ⊎ (slice_index_or marks q false ≡ true)
    kept q (inl h) = inl (subst (λ l. Contains l q) (sym is) (Contains-append_left list (p ∷ []) q h))
    kept q (inr marked) = inr marked

-- where there are no marks, none is true of a polygon
pub none_marked : (m : TheMap) (marks : List Bool) → marks ≡ [] → AreTrueMarks m marks
none_marked m marks none = subst (AreTrueMarks m) (sym none) (λ p marked. absurd (true≢false (sym marked)))
