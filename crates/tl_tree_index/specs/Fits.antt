-- When a tree fits items, and what each fault of a tree says.
use Rattle.std.specs.Prelude.{◌≡◌, ℕ, zero, suc, ◌<◌, ◌≤◌, ◌-◌, ◌⊎◌, List, [], ◌∷◌, Option, Some, None}
use Rattle.tl_geom.specs.declared.rect.Rect.{Rect}
use Rattle.tl_geom.specs.Rectangle.{Covers}
use Rattle.tl_tree_index.specs.declared.fault.TreeFault.{TreeFault}
use Rattle.tl_tree_index.specs.declared.fault.TreeFault.TheVariants.{UnknownIndex, IndexTwice, IndexMissing, RectTooSmall}
use Rattle.tl_tree_index.specs.Hits.{times}
use Rattle.tl_tree_index.specs.Trees.{Forest, none, leaf, inner, node_count, leaf_items}

-- each number is below n
abbrev pub AreBelow : ℕ → List ℕ → Type 0
AreBelow n [] = Unit {0}
AreBelow n (x ∷ xs) = (x < n) × AreBelow n xs

-- the rectangle holds each point of the bounds of each item
abbrev pub CoversAll : (ℕ → Rect) → Rect → List ℕ → Type 0
CoversAll bounds r [] = Unit {0}
CoversAll bounds r (x ∷ xs) = Covers r (bounds x) × CoversAll bounds r xs

-- the rectangle of each node holds each point of the bounds of each item below it
abbrev pub CoversBelow : (ℕ → Rect) → Forest → Type 0
CoversBelow bounds none = Unit {0}
CoversBelow bounds (leaf r xs others) = CoversAll bounds r xs × CoversBelow bounds others
CoversBelow bounds (inner r children others) =
    CoversAll bounds r (leaf_items children) × CoversBelow bounds children × CoversBelow bounds others

-- each of the n items stands in the leaves once, and nothing else does; and each rectangle holds what is below it
pub record Fits (f : Forest) (n : ℕ) (bounds : ℕ → Rect) : Type 0 where
  pub once : (i : ℕ) → i < n → times i (leaf_items f) ≡ 1
  pub known : AreBelow n (leaf_items f)
  pub covers : CoversBelow bounds f

-- node k in preorder, from 0, has an item below it whose bounds have a point that the node's rectangle doesn't hold
abbrev pub IsTooSmall : (ℕ → Rect) → Forest → ℕ → Type 0
IsTooSmall bounds none k = ⊥
IsTooSmall bounds (leaf r xs others) zero = ¬ CoversAll bounds r xs
IsTooSmall bounds (leaf r xs others) (suc k) = IsTooSmall bounds others k
IsTooSmall bounds (inner r children others) zero = ¬ CoversAll bounds r (leaf_items children)
IsTooSmall bounds (inner r children others) (suc k) =
    IsTooSmall bounds children k ⊎ ((node_count children ≤ k) × IsTooSmall bounds others (k - node_count children))

-- what a fault says of a tree and n items
abbrev pub IsFaultOf : Forest → ℕ → (ℕ → Rect) → TreeFault → Type 0
IsFaultOf f n bounds (UnknownIndex i) = (n ≤ i) × (1 ≤ times i (leaf_items f))
IsFaultOf f n bounds (IndexTwice i) = 2 ≤ times i (leaf_items f)
IsFaultOf f n bounds (IndexMissing i) = (i < n) × (times i (leaf_items f) ≡ 0)
IsFaultOf f n bounds (RectTooSmall k) = IsTooSmall bounds f k

-- what the check of a tree may answer: nothing exactly where it fits, or a fault that is true
abbrev pub MayFind : Forest → ℕ → (ℕ → Rect) → Option TreeFault → Type 0
MayFind f n bounds None = Fits f n bounds
MayFind f n bounds (Some fault) = IsFaultOf f n bounds fault
