-- From what a whole search leaves to its answer.
use Rattle.std.proofs.Common.{◌≡◌, ℕ, ◌≤◌, Bool, true, false, Option, Some, None, refl, sym, subst, arith}
use Rattle.tl_geom.specs.declared.rect.Rect.{Rect}
use Rattle.tl_tree_index.specs.Pairs.{indices, pair_sum, meeting, AllPairs, AreToldApart}
use Rattle.tl_tree_index.specs.Searches.{IsFreeOfConflicts, MayAnswer, meeting_pairs}
use Rattle.tl_tree_index.specs.declared.items.Conflict.{Conflict}
use Rattle.tl_tree.specs.declared.search.Progress.{Progress}
use Rattle.tl_tree.specs.Keeping.Walking.{Stops, MayLeave, answer_of}
use Rattle.tl_tree_index.specs.Trees.{Forest, leaf_items}
use Rattle.tl_tree_index.specs.Fits.{Fits}
use Rattle.tl_tree.proofs.PairLemmas.{IsSymmetric}
use Rattle.tl_tree.proofs.PairTests.{meeting-swap, free-turned}
use Rattle.tl_tree.proofs.Choosing.{beyond}
use Rattle.tl_tree.proofs.Leaving.{stops}
use Rattle.tl_tree.proofs.Permuted.{pairs-same, all_pairs-same, pair-at}

pub clear : {C : Type 0} (n : ℕ) (b : ℕ → Rect) (tells : ℕ → ℕ → Option C → Type 0) (budget : ℕ) → AllPairs (AreToldApart tells) (indices n) → meeting_pairs b n ≤ budget → IsFreeOfConflicts n b tells budget
clear n b tells budget e h = record { none = λ i j l k. (pair-at (AreToldApart tells) n i j e l k).down l; within = h }

-- what counts pairs counts those of the items of trees that fit as it does all
pub sum-of : (f : Forest) (n : ℕ) (b : ℕ → Rect) → Fits f n b → (g : ℕ → ℕ → ℕ) → IsSymmetric g → pair_sum g (leaf_items f) ≡ pair_sum g (indices n)
sum-of f n b h g s = pairs-same g s n (leaf_items f) h.known h.once

pub free-of : {C : Type 0} (f : Forest) (n : ℕ) (b : ℕ → Rect) (tells : ℕ → ℕ → Option C → Type 0) → Fits f n b → AllPairs (AreToldApart tells) (leaf_items f) → AllPairs (AreToldApart tells) (indices n)
free-of f n b tells h a = all_pairs-same (AreToldApart tells) (free-turned tells) n (leaf_items f) h.known h.once a

module _ {C : Type 0} (n : ℕ) (b : ℕ → Rect) (tells : ℕ → ℕ → Option C → Type 0) (budget : ℕ) where
  -- the answer where a search stops
  pub answer-stopped : (found : Option (Conflict C)) → Stops n b tells (λ f. pair_sum f (indices n)) budget found → MayAnswer n b tells budget (answer_of false found)
  answer-stopped None h = beyond n b tells budget h
  answer-stopped (Some k) h = h

  -- the answer where it doesn't
  pub answer-clear : (found : Option (Conflict C)) → found ≡ None → IsFreeOfConflicts n b tells budget → MayAnswer n b tells budget (answer_of true found)
  answer-clear found e h = let P : Option (Conflict C) → Type 0 = λ o. MayAnswer n b tells budget (answer_of true o) in subst P (sym e) h

  -- the answer from what a whole search leaves
  pub answer-whole : (sum : (ℕ → ℕ → ℕ) → ℕ) (free : Type 0) (old new : Progress C) (goes_on : Bool) → ((f : ℕ → ℕ → ℕ) → IsSymmetric f → sum f ≡ pair_sum f (indices n)) → old.left ≡ budget → (free → AllPairs (AreToldApart tells) (indices n)) → MayLeave n b tells sum free old new goes_on → MayAnswer n b tells budget (answer_of goes_on new.found)
  answer-whole sum free old new true e f k h = answer-clear new.found h.nothing_found (clear n b tells budget (k h.free) (omega (arith, h.left, e (meeting b) (meeting-swap b), f)))
  answer-whole sum free old new false e f k h =
      answer-stopped new.found (stops n b tells sum free old new (λ g. pair_sum g (indices n)) budget false h refl (λ g s u l. omega (arith, l, e g s, f)))
