-- The first lines of nodes, by what they tell.
use Rattle.std.specs.Prelude.{◌≡◌, ℕ, ◌<◌, ◌≤◌, List}
use Rattle.tl_cert.specs.declared.node_line.NodeStart.{NodeStart}
use Rattle.tl_cert.specs.declared.node_line.NodeStart.TheVariants.{Inner, Leaf}
use Rattle.tl_cert.specs.Certificates.{IsInRange}
use Rattle.tl_cert.specs.Text.{inner_line, leaf_line}

abbrev pub node_line : ℕ → NodeStart → List ℕ
node_line version (Inner r k) = inner_line version r k
node_line version (Leaf r k) = leaf_line r k

-- how many children an inner node may have
pub record ChildrenFit (version k : ℕ) : Type 0 where
  pub least : 2 ≤ k
  pub most : k ≤ 8
  pub two : version < 2 → k ≡ 2

abbrev pub NodeFits : ℕ → NodeStart → Type 0
NodeFits version (Inner r k) = IsInRange r × ChildrenFit version k
NodeFits version (Leaf r k) = IsInRange r × (1 ≤ k) × (k ≤ 8)

-- how many children a node has
abbrev pub children_told : NodeStart → ℕ
children_told (Inner r k) = k
children_told (Leaf r k) = 0
