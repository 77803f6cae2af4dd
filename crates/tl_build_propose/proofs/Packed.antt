-- The tree of packed segments is one that a certificate takes.
use Rattle.std.proofs.Common.{ℕ, ◌≤◌, List, [], ◌∷◌, arith}
use Rattle.std.specs.List.{All}
use Rattle.std.proofs.lemmas.List.Elements.{All-nil, All-cons, All-head, All-tail}
use Rattle.tl_map_county.specs.Limits.{most_segments}
use Rattle.tl_map_county.specs.TheMap.{TheMap}
use Rattle.tl_check_planar.specs.Rectangles.{segment_rect}
use Rattle.tl_tree_index.specs.declared.node.TreeNode.{TreeNode}
use Rattle.tl_tree_index.specs.declared.node.TreeNode.TheVariants.{Inner, Leaf}
use Rattle.tl_tree_index.specs.Fits.{Fits}
use Rattle.tl_tree_index.specs.Trees.{depth, tree_of}
use Rattle.tl_tree_index.specs.Packed.{IsFilled, IsShallow}
use Rattle.tl_cert.specs.Certificates.{IsNode}
use Rattle.tl_check_verdict.specs.Valid.{segments_in_map, IsTree}

pub is_tree : (m : TheMap) (nodes : List TreeNode) → Fits (tree_of nodes) (segments_in_map m) (segment_rect m.chains) → depth (tree_of nodes) ≤ 11 → IsTree m nodes
is_tree m nodes fits levels = record { fits = fits; shallow = omega (arith, levels) }

-- eight levels hold as many segments as a map can have
pub eight_levels : (n : ℕ) (nodes : List TreeNode) → IsShallow n (tree_of nodes) → n ≤ most_segments → depth (tree_of nodes) ≤ 8
eight_levels n nodes shallow few = shallow 8 (omega arith) (omega (arith, few))

new_node : (node : TreeNode) → IsFilled node → IsNode 2 node
new_node (Inner r k) h = λ e. absurd (omega (arith, e))
new_node (Leaf r v) h = h

pub new_nodes : (nodes : List TreeNode) → All IsFilled nodes → All (IsNode 2) nodes
new_nodes [] h = All-nil (IsNode 2)
new_nodes (node ∷ nodes) h =
    All-cons (IsNode 2) node nodes (new_node node (All-head IsFilled node nodes h)) (new_nodes nodes (All-tail IsFilled node nodes h))
