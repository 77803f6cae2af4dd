-- Lists of trees that a tree is searched against, each the first of some trees.
use Rattle.std.specs.Prelude.{◌≡◌, ℕ, ◌+◌, ◌≤◌, List, [], ◌∷◌, ◌++◌, length, take, Option, None, Some}
use Rattle.tl_geom.specs.declared.rect.Rect.{Rect}
use Rattle.tl_tree.specs.declared.walk.Tree.{Tree}
use Rattle.tl_tree_index.specs.Pairs.{meeting, cross_sum, pair_sum, AllCross, AllPairs, AreToldApart}
use Rattle.tl_tree_index.specs.Fits.{AreBelow}
use Rattle.tl_tree_index.specs.Trees.{Forest, none, leaf, inner, leaf_items}
use Rattle.tl_tree.specs.Keeping.Walking.{followed, AreSound}

-- the items of the first tree
abbrev pub first_items : Forest → List ℕ
first_items none = []
first_items (leaf r xs others) = xs
first_items (inner r children others) = leaf_items children

-- the items of the listed trees
abbrev pub listed_items : {W : Type 0} → (W → Forest) → List W → List ℕ
listed_items see [] = []
listed_items see (w ∷ ws) = first_items (see w) ++ listed_items see ws

-- all of them name known items, and their rectangles hold what is below them
abbrev pub AllSound : {W : Type 0} → ℕ → (ℕ → Rect) → (W → Forest) → List W → Type 0
AllSound n bounds see [] = Unit {0}
AllSound n bounds see (w ∷ ws) = AreSound n bounds (see w) × AllSound n bounds see ws

-- a tree is the first of some trees
pub record IsFirst {W : Type 0} (see : W → Forest) (t : Tree W) (f : Forest) : Type 0 where
  pub others : Forest
  pub split : f ≡ followed see t.rect t.below others

-- for pairs with the items of xs, the list new stands for the trees of old and for more items
pub record StandsFor {C W : Type 0} (n : ℕ) (bounds : ℕ → Rect) (tells : ℕ → ℕ → Option C → Type 0) (see : W → Forest) (xs : List ℕ) (old : List W) (more : List ℕ) (new : List W) : Type 0 where
  pub sum : cross_sum (meeting bounds) xs (listed_items see new) ≡ cross_sum (meeting bounds) xs (listed_items see old) + cross_sum (meeting bounds) xs more
  pub most : (f : ℕ → ℕ → ℕ) → cross_sum f xs (listed_items see new) ≤ cross_sum f xs (listed_items see old) + cross_sum f xs more
  pub free : AllCross (AreToldApart tells) xs (listed_items see new) → AllCross (AreToldApart tells) xs (listed_items see old) × AllCross (AreToldApart tells) xs more
  pub sound : AllSound n bounds see old → AllSound n bounds see new

-- behind the first of a list, those were listed that stand for more items, and m are listed then
pub record AreListed {C W : Type 0} (n : ℕ) (bounds : ℕ → Rect) (tells : ℕ → ℕ → Option C → Type 0) (see : W → Forest) (xs : List ℕ) (first old : List W) (more : List ℕ) (new : List W) (m : ℕ) : Type 0 where
  pub complete : length new ≡ length old
  pub fits : m ≤ length old
  pub listed : StandsFor n bounds tells see xs first more (take m new)

-- the same, unless the list has no room for them
abbrev pub MayList : {C W : Type 0} → ℕ → (ℕ → Rect) → (ℕ → ℕ → Option C → Type 0) → (W → Forest) → List ℕ → List W → List W → List ℕ → List W → Option ℕ → Type 0
MayList n bounds tells see xs first old more new None = length new ≡ length old
MayList n bounds tells see xs first old more new (Some m) = AreListed n bounds tells see xs first old more new m

-- the sum of f over the pairs of xs, and over those of an x and one of ys
abbrev pub sum_beside : (ℕ → ℕ → ℕ) → List ℕ → List ℕ → ℕ
sum_beside f xs ys = pair_sum f xs + cross_sum f xs ys

-- those pairs are related
abbrev pub AllBeside : (ℕ → ℕ → Type 0) → List ℕ → List ℕ → Type 0
AllBeside P xs ys = AllPairs P xs × AllCross P xs ys

-- for pairs with the items of xs, the list new stands for the items of old and for more items
pub record StandsForItems {C : Type 0} (n : ℕ) (bounds : ℕ → Rect) (tells : ℕ → ℕ → Option C → Type 0) (xs old more new : List ℕ) : Type 0 where
  pub sum : cross_sum (meeting bounds) xs new ≡ cross_sum (meeting bounds) xs old + cross_sum (meeting bounds) xs more
  pub most : (f : ℕ → ℕ → ℕ) → cross_sum f xs new ≤ cross_sum f xs old + cross_sum f xs more
  pub free : AllCross (AreToldApart tells) xs new → AllCross (AreToldApart tells) xs old × AllCross (AreToldApart tells) xs more
  pub known : AreBelow n old → AreBelow n new

-- behind the first of a list, those were listed that stand for more items, and m are listed then
pub record AreListedItems {C : Type 0} (n : ℕ) (bounds : ℕ → Rect) (tells : ℕ → ℕ → Option C → Type 0) (xs first old more new : List ℕ) (m : ℕ) : Type 0 where
  pub complete : length new ≡ length old
  pub fits : m ≤ length old
  pub listed : StandsForItems n bounds tells xs first more (take m new)

-- the same, unless the list has no room for them
abbrev pub MayListItems : {C : Type 0} → ℕ → (ℕ → Rect) → (ℕ → ℕ → Option C → Type 0) → (xs first old more new : List ℕ) → Option ℕ → Type 0
MayListItems n bounds tells xs first old more new None = length new ≡ length old
MayListItems n bounds tells xs first old more new (Some m) = AreListedItems n bounds tells xs first old more new m
