-- All conflicts of items.
use Rattle.std.specs.Prelude.{◌≡◌, ◌⊎◌, ℕ, ◌<◌, Bool, true, false, Option, None, List, All, slice_index_or}
use Rattle.std.specs.List.{Any}
use Rattle.tl_tree_index.specs.Searches.{IsConflict}
use Rattle.tl_tree_index.specs.declared.items.Conflict.{Conflict}
use Rattle.tl_check_planar.specs.Listing.Orders.{AreRising}

-- each is a conflict of two of the n items; each two items of which it isn't told that they don't conflict stand there;
-- and they rise strictly, so that none stands there twice
pub record AreAllConflicts {C : Type 0} (n : ℕ) (tells : ℕ → ℕ → Option C → Type 0) (found : List (Conflict C)) : Type 0 where
  pub true_ones : All (λ f. IsConflict n tells f.i f.j f.c) found
  pub complete : (i j : ℕ) → i < j → j < n → ¬ tells i j None → Any (λ f. (f.i ≡ i) × (f.j ≡ j)) found
  pub rising : AreRising (λ f. f.i) (λ f. f.j) found

-- of each two of the n items of which it isn't told that they don't conflict one is marked
abbrev pub IsOneMarked : {C : Type 0} → ℕ → (ℕ → ℕ → Option C → Type 0) → List Bool → Type 0
IsOneMarked n tells marks =
    (i j : ℕ) → i < j → j < n → ¬ tells i j None → (slice_index_or marks i false ≡ true) ⊎ (slice_index_or marks j false ≡ true)
