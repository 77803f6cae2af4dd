-- Trees that were checked over a map's segments.
use Rattle.std.proofs.Common.{◌≡◌, ◌<◌, ◌≤◌, List, length, Option, None, Some, sym, subst, ◌∙◌}
use Rattle.tl_map_county.specs.TheMap.{TheMap, MapChain}
use Rattle.tl_tree_index.specs.declared.node.TreeNode.{TreeNode}
use Rattle.tl_tree_index.specs.declared.fault.TreeFault.{TreeFault}
use Rattle.tl_tree_index.specs.Trees.{tree_of, depth}
use Rattle.tl_tree_index.specs.Fits.{Fits, IsFaultOf, MayFind}
use Rattle.tl_map_county.specs.Segments.{segments_before}
use Rattle.tl_check_planar.specs.Rectangles.{segment_rect}
use Rattle.tl_cert.specs.Certificates.{TheCertificate}
use Rattle.tl_check_verdict.specs.Valid.{IsTree, segments_in_map, greatest_depth}
use Rattle.tl_check.specs.Keeping.Parts.{Continues}

-- where no fault is found, the tree fits
pub tree_fits : (chains : List MapChain) (tree : List TreeNode) (segments : List MapChain) (found : Option TreeFault) → MayFind (tree_of tree) (segments_before segments (length segments)) (segment_rect segments) found → found ≡ None → segments ≡ chains → Fits (tree_of tree) (segments_before chains (length chains)) (segment_rect chains)
tree_fits chains tree segments found may none are = subst (λ s. Fits (tree_of tree) (segments_before s (length s)) (segment_rect s)) are
    (subst (MayFind (tree_of tree) (segments_before segments (length segments)) (segment_rect segments)) none may)

pub tree_is : (m : TheMap) (tree nodes : List TreeNode) (segments : List MapChain) (found : Option TreeFault) → MayFind (tree_of tree) (segments_before segments (length segments)) (segment_rect segments) found → found ≡ None → segments ≡ m.chains → tree ≡ nodes → depth (tree_of nodes) ≤ 64 → IsTree m nodes
tree_is m tree nodes segments found may none are is shallow = record {
  fits = subst (λ t. Fits (tree_of t) (segments_in_map m) (segment_rect m.chains)) is (tree_fits m.chains tree segments found may none are);
  shallow = shallow;
}

-- a fault of the tree is one of each certificate that goes on from there
pub fault_stays : (m : TheMap) (c d : TheCertificate) (tree nodes : List TreeNode) (segments : List MapChain) (found : Option TreeFault) (fault : TreeFault) → MayFind (tree_of tree) (segments_before segments (length segments)) (segment_rect segments) found → found ≡ Some fault → segments ≡ m.chains → tree ≡ nodes → c.tree ≡ nodes → Continues c d → IsFaultOf (tree_of d.tree) (segments_in_map m) (segment_rect m.chains) fault
fault_stays m c d tree nodes segments found fault may some are is has on =
    subst (λ t. IsFaultOf (tree_of t) (segments_in_map m) (segment_rect m.chains) fault) (is ∙ sym has ∙ sym on.tree)
    (subst (λ s. IsFaultOf (tree_of tree) (segments_before s (length s)) (segment_rect s) fault) are
    (subst (MayFind (tree_of tree) (segments_before segments (length segments)) (segment_rect segments)) some may))

pub too_deep_stays : (c d : TheCertificate) (nodes : List TreeNode) → 64 < depth (tree_of nodes) → c.tree ≡ nodes → Continues c d → greatest_depth < depth (tree_of d.tree)
too_deep_stays c d nodes deep has on = subst (λ t. greatest_depth < depth (tree_of t)) (sym has ∙ sym on.tree) deep
