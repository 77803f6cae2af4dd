-- What is said of the tree of packed items.
use Rattle.std.specs.Prelude.{◌≡◌, ℕ, ◌+◌, ◌/◌, ◌<◌, ◌≤◌, ◌^◌, min, length, ⊤}
use Rattle.tl_tree_index.specs.declared.node.TreeNode.{TreeNode}
use Rattle.tl_tree_index.specs.declared.node.TreeNode.TheVariants.{Inner, Leaf}
use Rattle.tl_tree_index.specs.Trees.{Forest, none, leaf, inner, depth, leaf_items}

-- a leaf that holds an item, or an inner node
abbrev pub IsFilled : TreeNode → Type 0
IsFilled (Inner r k) = ⊤
IsFilled (Leaf r v) = 0 < length v.items

-- the trees have no more levels than n items need, of which d levels hold 8 ^ d
abbrev pub IsShallow : ℕ → Forest → Type 0
IsShallow n f = (d : ℕ) → 0 < d → n ≤ 8 ^ d → depth f ≤ d

-- how many trees there are
abbrev pub tree_count : Forest → ℕ
tree_count none = 0
tree_count (leaf r xs others) = 1 + tree_count others
tree_count (inner r children others) = 1 + tree_count others

-- below each of the trees are from least to most items
abbrev pub AreSized : ℕ → ℕ → Forest → Type 0
AreSized least most none = ⊤
AreSized least most (leaf r xs others) = (least ≤ length xs) × (length xs ≤ most) × AreSized least most others
AreSized least most (inner r children others) =
    (least ≤ length (leaf_items children)) × (length (leaf_items children) ≤ most) × AreSized least most others

-- the children hold more than eight items, split into the lesser of 8 and an eighth of their number, rounded up, parts,
-- whose sizes differ by at most one
pub record AreEvenParts (children : Forest) : Type 0 where
  pub many : 8 < length (leaf_items children)
  pub parts : tree_count children ≡ min 8 ((length (leaf_items children) + 7) / 8)
  pub least : ℕ
  pub even : AreSized least (least + 1) children

-- each leaf holds eight items at most, and the items of each inner node, which are more, are split evenly
abbrev pub IsEvenlySplit : Forest → Type 0
IsEvenlySplit none = ⊤
IsEvenlySplit (leaf r xs others) = (length xs ≤ 8) × IsEvenlySplit others
IsEvenlySplit (inner r children others) = AreEvenParts children × IsEvenlySplit children × IsEvenlySplit others
