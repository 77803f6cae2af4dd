-- What the check of a tree keeps on its way: marks of the items met so far, and a rectangle that stands for their bounds.
use Rattle.std.specs.Prelude.{ℕ, Bool, ◌≤◌, ◌+◌, ◌-◌, ◌↔◌, List, length, Result, Ok, Err}
use Rattle.tl_geom.specs.declared.rect.Rect.{Rect}
use Rattle.tl_geom.specs.Rectangle.{Covers}
use Rattle.tl_tree_index.specs.declared.fault.TreeFault.{TreeFault}
use Rattle.tl_tree_index.specs.declared.fault.TreeFault.TheVariants.{UnknownIndex, IndexTwice, IndexMissing, RectTooSmall}
use Rattle.tl_tree.specs.declared.walk.Below.{Below}
use Rattle.tl_tree.specs.declared.walk.Below.TheVariants.{Items, Children}
use Rattle.tl_tree_index.specs.Fits.{CoversAll, CoversBelow, IsTooSmall}
use Rattle.tl_tree_index.specs.Hits.{times}
use Rattle.tl_tree_index.specs.Trees.{Forest, leaf_items}
use Rattle.tl_tree_index.specs.Keeping.Marked.{mark_at, AreMarked}
use Rattle.tl_tree.specs.Keeping.Walking.{items_below, CoveredBelow}

-- the rectangle is covered exactly where the bounds of all items are
abbrev pub IsHull : (ℕ → Rect) → List ℕ → Rect → Type 0
IsHull bounds xs hull = (r : Rect) → Covers r hull ↔ CoversAll bounds r xs

-- why items can't be marked
abbrev pub IsMarkFault : List Bool → List ℕ → TreeFault → Type 0
IsMarkFault old xs (UnknownIndex i) = (length old ≤ i) × (1 ≤ times i xs)
IsMarkFault old xs (IndexTwice i) = 2 ≤ mark_at old i + times i xs
IsMarkFault old xs (IndexMissing i) = ⊥
IsMarkFault old xs (RectTooSmall k) = ⊥

-- what is found of trees whose first node has a number, where they are right as far as they go
pub record AreChecked (bounds : ℕ → Rect) (f : Forest) (old new : List Bool) (hull : Rect) : Type 0 where
  pub marked : AreMarked old (leaf_items f) new
  pub covers : CoversBelow bounds f
  pub around : IsHull bounds (leaf_items f) hull

-- the same of what is below the root of a tree
pub record IsChecked {W : Type 0} (bounds : ℕ → Rect) (see : W → Forest) (t : Below W) (old new : List Bool) (hull : Rect) : Type 0 where
  pub marked : AreMarked old (items_below see t) new
  pub covers : CoveredBelow bounds see t
  pub around : IsHull bounds (items_below see t) hull

-- what is wrong with trees whose first node has this number
abbrev pub IsFaultAt : (ℕ → Rect) → List Bool → ℕ → Forest → TreeFault → Type 0
IsFaultAt bounds old number f (UnknownIndex i) = (length old ≤ i) × (1 ≤ times i (leaf_items f))
IsFaultAt bounds old number f (IndexTwice i) = 2 ≤ mark_at old i + times i (leaf_items f)
IsFaultAt bounds old number f (IndexMissing i) = ⊥
IsFaultAt bounds old number f (RectTooSmall k) = (number ≤ k) × IsTooSmall bounds f (k - number)

-- what is wrong below the root of a tree, where the node behind the root has this number
abbrev pub IsFaultBelow : {W : Type 0} → (ℕ → Rect) → List Bool → ℕ → (W → Forest) → Below W → TreeFault → Type 0
IsFaultBelow bounds old number see (Items xs) fault = IsMarkFault old xs.now fault
IsFaultBelow bounds old number see (Children w) fault = IsFaultAt bounds old number (see w) fault

-- what is told by a check that numbers nodes, and gives a hull or a fault
abbrev pub IsAnsweredBy : (Rect → Type 0) → Type 0 → (TreeFault → Type 0) → Result Rect TreeFault → Type 0
IsAnsweredBy Right Next Fault (Ok hull) = Right hull × Next
IsAnsweredBy Right Next Fault (Err fault) = Fault fault
