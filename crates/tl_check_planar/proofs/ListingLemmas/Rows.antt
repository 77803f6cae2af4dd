-- Steps of a list that is filled row by row: a row is the pairs with one first number, and the second ones are listed.
use Rattle.std.proofs.Common.{◌≡◌, inl, inr, ℕ, ◌+◌, ◌<◌, ◌≤◌, List, [], ◌∷◌, ◌++◌, length, subst, ◌∙◌, arith}
use Rattle.std.specs.Prelude.{slice_index}
use Rattle.std.specs.List.{AllPairs, Contains}
use Rattle.std.proofs.lemmas.Bool.{cases_eq}
use Rattle.std.proofs.lemmas.List.{get_or_default}
use Rattle.tl_check_planar.specs.Listing.Keeping.Reaching.{ReachTo}
use Rattle.tl_check_planar.proofs.ListingLemmas.Reaching.{row_done, passed, added}

-- a number stands in the list at a place from this one on
pub record StandsFrom (js : List ℕ) (place j : ℕ) : Type 0 where
  pub at : ℕ
  pub from : place ≤ at
  pub within : at < length js
  pub is : slice_index js at ≡ j

module _ {X : Type 0} (first second : X → ℕ) (Good : X → Type 0) (Wanted : ℕ → ℕ → Type 0) (a : ℕ) (js : List ℕ) where
  -- the row is filled up to a place of the list
  pub record FilledTo (place : ℕ) (xs : List X) : Type 0 where
    pub from : ℕ
    pub reach : ReachTo first second Good Wanted a from xs
    pub rest : (k : ℕ) → place ≤ k → k < length js → from ≤ slice_index js k
    pub left : (j : ℕ) → Wanted a j → from ≤ j → StandsFrom js place j

  pub row_begun : (xs : List X) → ((j : ℕ) → Wanted a j → Contains js j) → ReachTo first second Good Wanted a 0 xs → FilledTo 0 xs
  row_begun xs complete r = record {
    from = 0;
    reach = r;
    rest = λ k h lt. omega arith;
    left = λ j wanted h. let s = complete j wanted in record { at = s.0; from = omega arith; within = s.1; is = get_or_default js s.0 0 j s.1 ∙ s.2 };
  }

  pub row_ended : (place : ℕ) (xs : List X) → length js ≤ place → FilledTo place xs → ReachTo first second Good Wanted (a + 1) 0 xs
  row_ended place xs end f =
      row_done first second Good Wanted a f.from xs (λ j h wanted. let s = f.left j wanted h in let low = s.from in let high = s.within in omega (arith, low, high, end)) f.reach

  module _ (rising : AllPairs (λ i j. i < j) js) (place : ℕ) (within : place < length js) (xs : List X) (f : FilledTo place xs) where
    above : (k : ℕ) → place + 1 ≤ k → k < length js → slice_index js place < slice_index js k
    above k h lt = rising place k 0 (omega (arith, h)) lt

    later : (j : ℕ) → Wanted a j → slice_index js place + 1 ≤ j → StandsFrom js (place + 1) j
    later j wanted h =
        let low = f.rest place (omega arith) within in
        let s = f.left j wanted (omega (arith, low, h)) in
        elim (cases_eq s.at place) [
          | inl here ↦
              let same : slice_index js place ≡ j = subst (λ p. slice_index js p ≡ j) here s.is in
              absurd (omega (arith, same, h))
          | inr other ↦ record { at = s.at; from = let low = s.from in omega (arith, low, other); within = s.within; is = s.is }
        ]

    -- no pair is wanted between the last one and that of the place
    none_between : (j : ℕ) → f.from ≤ j → j < slice_index js place → ¬ Wanted a j
    none_between j low high wanted =
        let s = f.left j wanted low in
        elim (cases_eq s.at place) [
          | inl here ↦
              let same : slice_index js place ≡ j = subst (λ p. slice_index js p ≡ j) here s.is in
              omega (arith, same, high)
          | inr other ↦
              let up = above s.at (let low = s.from in omega (arith, low, other)) s.within in
              let is = s.is in
              omega (arith, up, is, high)
        ]

    reached : ReachTo first second Good Wanted a (slice_index js place) xs
    reached = passed first second Good Wanted a f.from (slice_index js place) xs (f.rest place (omega arith) within) none_between f.reach

    -- the pair of the place is added
    pub row_more : (x : X) → first x ≡ a → second x ≡ slice_index js place → Good x → FilledTo (place + 1) (xs ++ x ∷ [])
    row_more x is_first is_second good = record {
      from = slice_index js place + 1;
      reach = added first second Good Wanted a (slice_index js place) xs x is_first is_second good reached;
      rest = λ k h lt. let up = above k h lt in omega (arith, up);
      left = later;
    }

    -- it isn't wanted
    pub row_skipped : ¬ Wanted a (slice_index js place) → FilledTo (place + 1) xs
    row_skipped unwanted = record {
      from = slice_index js place + 1;
      reach = passed first second Good Wanted a (slice_index js place) (slice_index js place + 1) xs (omega arith)
          (λ j low high wanted. let same : j ≡ slice_index js place = omega (arith, low, high) in unwanted (rw same at wanted)) reached;
      rest = λ k h lt. let up = above k h lt in omega (arith, up);
      left = later;
    }
