-- The conflicts of all pairs are all conflicts.
use Rattle.std.proofs.Common.{◌≡◌, inl, inr, ℕ, zero, suc, ◌+◌, ◌<◌, Option, List, [], ◌∷◌, ◌++◌, length, get_or, refl, sym, ap, ◌∙◌, length-append, arith}
use Rattle.std.proofs.lemmas.Bool.{cases_lt}
use Rattle.std.proofs.lemmas.List.{get_or_default, get_or_append_left}
use Rattle.tl_tree_index.specs.declared.items.Conflict.{Conflict}
use Rattle.tl_check_planar.specs.Listing.Conflicts.{AreAllConflicts}
use Rattle.tl_check_planar.specs.declared.listing.pairs.Pair.{Pair}
use Rattle.tl_check_planar.specs.Listing.Keeping.Pairing.{IsConflictOf, AreConflictsOf, AreAllPairs, AreInOrder}

-- an element at a place
element : {X : Type 0} (xs : List X) (k : ℕ) → k < length xs → (x : X) × (get_or xs k x ≡ x)
element [] k lt = absurd (omega (arith, lt))
element (x ∷ xs) zero lt = (x, refl)
element (x ∷ xs) (suc k) lt = element xs k (omega (arith, lt))

module _ {C : Type 0} (n : ℕ) (tells : ℕ → ℕ → Option C → Type 0) where
  pub none_yet_of : (pairs : List Pair) (found : List (Conflict C)) → found ≡ [] → AreConflictsOf n tells 0 pairs found
  none_yet_of pairs found none = record { long = ap length none; each = λ k p f lt. absurd (omega (arith, lt)) }

  pub one_more_of : (m : ℕ) (pairs : List Pair) (old new : List (Conflict C)) (p : Pair) (f : Conflict C) → m < length pairs → p ≡ get_or pairs m p
      → IsConflictOf n tells p f → new ≡ old ++ f ∷ [] → AreConflictsOf n tells m pairs old → AreConflictsOf n tells (m + 1) pairs new
  one_more_of m pairs old new p f within is of grown a = record {
    long = let l = a.long in omega (arith, ap length grown, length-append old (f ∷ []), l);
    each = λ k q g lt. rw grown (elim (cases_lt k m) [
      | inl before ↦ rw (get_or_append_left old (f ∷ []) g k (let l = a.long in omega (arith, before, l))) (a.each k q g before)
      | inr last ↦
          let here : k ≡ m = omega (arith, last, lt) in
          let end : k ≡ length old = let l = a.long in omega (arith, here, l) in
          let told : get_or (old ++ f ∷ []) k g ≡ f = ap (λ j. get_or (old ++ f ∷ []) j g) end ∙ last_of old f g in
          let pair : get_or pairs k q ≡ p = ap (λ j. get_or pairs j q) here ∙ get_or_default pairs m q p within ∙ sym is in
          rw (told, pair) of
    ]);
  }
    where
      last_of : (fs : List (Conflict C)) (x d : Conflict C) → get_or (fs ++ x ∷ []) (length fs) d ≡ x
      last_of [] x d = refl
      last_of (y ∷ fs) x d = last_of fs x d

  module _ (pairs : List Pair) (found : List (Conflict C)) (all : AreAllPairs n tells pairs) (ordered : AreInOrder pairs)
      (are : AreConflictsOf n tells (length pairs) pairs found) where
    -- the pair of a conflict, as a default that is never read
    pair_with : Conflict C → Pair
    pair_with f = record { i = f.i; j = f.j }

    at_both : (k : ℕ) (p : Pair) (f : Conflict C) → k < length found → IsConflictOf n tells (get_or pairs k p) (get_or found k f)
    at_both k p f lt = are.each k p f (let l = are.long in omega (arith, lt, l))

    pub all_conflicts_of : AreAllConflicts n tells found
    all_conflicts_of = record {
      true_ones = λ k f lt. (at_both k (pair_with f) f lt).is_true;
      complete = λ i j lt known conflict.
          let there = all.complete i j (record { behind = lt; known = known; conflict = conflict }) in
          let within : there.0 < length found = let w = there.1 in let l = are.long in omega (arith, w, l) in
          let one = element found there.0 within in
          let p : Pair = record { i = i; j = j } in
          let both = at_both there.0 p one.0 within in
          let is = ap (λ (q : Pair). q.i) there.2 in
          let is_too = ap (λ (q : Pair). q.j) there.2 in
          (there.0, one.0, within, one.1, (ap (λ (f : Conflict C). f.i) (sym one.1) ∙ both.first ∙ is, ap (λ (f : Conflict C). f.j) (sym one.1) ∙ both.second ∙ is_too));
      rising = λ a b f lt within.
          let one = at_both a (pair_with f) f (omega (arith, lt, within)) in
          let other = at_both b (pair_with f) f within in
          let l = are.long in
          rw (one.first, one.second, other.first, other.second) (ordered a b (pair_with f) lt (omega (arith, within, l)));
    }
