-- What a search keeps on its way: how a walk over trees splits, and what a part of a search leaves of the budget.
use Rattle.std.specs.Prelude.{◌≡◌, ℕ, ◌<◌, ◌≤◌, ◌+◌, List, ◌++◌, Bool, true, false, IsTrue, Option, Some, None}
use Rattle.tl_geom.specs.declared.rect.Rect.{Rect}
use Rattle.tl_tree.specs.declared.walk.Tree.{Tree}
use Rattle.tl_tree.specs.declared.walk.Below.{Below}
use Rattle.tl_tree.specs.declared.walk.Below.TheVariants.{Items, Children}
use Rattle.tl_tree_index.specs.declared.items.Search.{Search}
use Rattle.tl_tree_index.specs.declared.items.Search.TheVariants.{Found, Clear, Budget}
use Rattle.tl_tree_index.specs.declared.items.Conflict.{Conflict}
use Rattle.tl_tree.specs.declared.search.Progress.{Progress}
use Rattle.tl_tree_index.specs.Pairs.{meeting}
use Rattle.tl_tree_index.specs.Searches.{IsConflict, IsFreePair}
use Rattle.tl_tree_index.specs.Hits.{times}
use Rattle.tl_tree_index.specs.Fits.{AreBelow, CoversAll, CoversBelow}
use Rattle.tl_tree_index.specs.Trees.{Forest, none, leaf, inner, leaf_items, node_count}

-- a tree with this rectangle and others behind it, where trees of a kind W are seen as trees
abbrev pub followed : {W : Type 0} → (W → Forest) → Rect → Below W → Forest → Forest
followed see r (Items xs) others = leaf r xs.now others
followed see r (Children w) others = inner r (see w) others

-- the items below the root of a tree
abbrev pub items_below : {W : Type 0} → (W → Forest) → Below W → List ℕ
items_below see (Items xs) = xs.now
items_below see (Children w) = leaf_items (see w)

-- the number of nodes of a tree
abbrev pub size_of : {W : Type 0} → (W → Forest) → Below W → ℕ
size_of see (Items xs) = 1
size_of see (Children w) = 1 + node_count (see w)

-- how trees split into a first one and the others
abbrev pub Splits : {W : Type 0} → (W → Forest) → Forest → Option (Tree W × W) → Type 0
Splits see f None = f ≡ none
Splits see f (Some p) = f ≡ followed see (p.0).rect (p.0).below (see p.1)

-- the trees name items below n alone, and each rectangle holds what is below it
pub record AreSound (n : ℕ) (bounds : ℕ → Rect) (f : Forest) : Type 0 where
  pub known : AreBelow n (leaf_items f)
  pub covers : CoversBelow bounds f

-- the rectangles of the children, where there are any, hold what is below them
abbrev pub CoveredBelow : {W : Type 0} → (ℕ → Rect) → (W → Forest) → Below W → Type 0
CoveredBelow bounds see (Items xs) = Unit {0}
CoveredBelow bounds see (Children w) = CoversBelow bounds (see w)

-- the same of one tree
pub record IsSound {W : Type 0} (n : ℕ) (bounds : ℕ → Rect) (see : W → Forest) (t : Tree W) : Type 0 where
  pub known : AreBelow n (items_below see t.below)
  pub covers : CoversAll bounds t.rect (items_below see t.below)
  pub below : CoveredBelow bounds see t.below

-- f is the same in both directions, and counts each chosen pair at least once
pub record CountsChosen (n : ℕ) (chosen : ℕ → ℕ → Bool) (f : ℕ → ℕ → ℕ) : Type 0 where
  pub turned : (x y : ℕ) → f x y ≡ f y x
  pub each : (i j : ℕ) → i < j → j < n → IsTrue (chosen i j) → 1 ≤ f i j

-- some pairs of the n items have bounds that meet and don't conflict, and the claim holds of all that counts them
pub record Enough {C : Type 0} (n : ℕ) (bounds : ℕ → Rect) (tells : ℕ → ℕ → Option C → Type 0) (claim : (ℕ → ℕ → ℕ) → Type 0) : Type 0 where
  pub chosen : ℕ → ℕ → Bool
  pub free : (i j : ℕ) → i < j → j < n → IsTrue (chosen i j) → IsFreePair bounds tells i j
  pub counted : (f : ℕ → ℕ → ℕ) → CountsChosen n chosen f → claim f

-- a part of a search goes on, over pairs of which `sum` is the sum of what counts pairs: they are free of conflicts, and
-- as many of the budget are spent as have bounds that meet
pub record GoesOn {C : Type 0} (n : ℕ) (bounds : ℕ → Rect) (tells : ℕ → ℕ → Option C → Type 0) (sum : (ℕ → ℕ → ℕ) → ℕ) (claim : Type 0) (old new : Progress C) : Type 0 where
  pub left : new.left + sum (meeting bounds) ≡ old.left
  pub spent : Enough n bounds tells (λ f. old.left ≤ new.left + sum f)
  pub free : claim
  pub nothing_found : new.found ≡ None

-- what was left of the budget is spent on pairs that don't conflict, and there is a further one whose bounds meet
pub record IsSpent {C : Type 0} (n : ℕ) (bounds : ℕ → Rect) (tells : ℕ → ℕ → Option C → Type 0) (sum : (ℕ → ℕ → ℕ) → ℕ) (left : ℕ) : Type 0 where
  pub x : ℕ
  pub y : ℕ
  pub further : meeting bounds x y ≡ 1
  pub spent : Enough n bounds tells (λ f. left + f x y ≤ sum f)

-- a part of a search stops: a conflict was found, or what is left of the budget is spent
abbrev pub Stops : {C : Type 0} → ℕ → (ℕ → Rect) → (ℕ → ℕ → Option C → Type 0) → ((ℕ → ℕ → ℕ) → ℕ) → ℕ → Option (Conflict C) → Type 0
Stops n bounds tells sum left None = IsSpent n bounds tells sum left
Stops n bounds tells sum left (Some k) = IsConflict n tells k.i k.j k.c

-- what a part of a search does, by whether it goes on
abbrev pub MayLeave : {C : Type 0} → ℕ → (ℕ → Rect) → (ℕ → ℕ → Option C → Type 0) → ((ℕ → ℕ → ℕ) → ℕ) → Type 0 → (p q : Progress C) → Bool → Type 0
MayLeave n bounds tells sum free old new true = GoesOn n bounds tells sum free old new
MayLeave n bounds tells sum free old new false = Stops n bounds tells sum old.left new.found

-- what is answered in the end, by whether the whole search goes on and the conflict that was found
abbrev pub answer_of : {C : Type 0} → Bool → Option (Conflict C) → Search C
answer_of goes_on (Some k) = Found k.i k.j k.c
answer_of true None = Clear
answer_of false None = Budget

-- new is old with something appended
pub record Grows (old new : List ℕ) : Type 0 where
  pub added : List ℕ
  pub appended : new ≡ old ++ added

-- new is old, followed by those of xs that are hit, each as often as it stands there, and by nothing else
pub record Collects (hit : ℕ → Type 0) (xs old new : List ℕ) : Type 0 where
  pub found : List ℕ
  pub appended : new ≡ old ++ found
  pub hits : (i : ℕ) → hit i → times i found ≡ times i xs
  pub others : (i : ℕ) → ¬ hit i → times i found ≡ 0
  pub among : (i : ℕ) → times i found ≤ times i xs
