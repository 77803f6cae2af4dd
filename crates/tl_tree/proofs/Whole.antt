-- A whole tree in preorder has all its nodes.
use Rattle.std.proofs.Common.{◌≡◌, ℕ, zero, suc, ◌+◌, inl, inr, List, [], ◌++◌, length, refl, sym, ap, ◌∙◌, append_assoc, append-nil, length-append, arith}
use Rattle.tl_tree_index.specs.declared.node.TreeNode.{TreeNode}
use Rattle.tl_tree_index.specs.Preorder.{AreTrees, no_tree, leaf_first, inner_first, IsPreorder}
use Rattle.tl_tree_index.specs.Trees.{trees_of, tree_of, first_trees, node_count}
use Rattle.tl_tree.proofs.Flat.{first-add}

counts-trees : (nodes : List TreeNode) (p : ℕ) → AreTrees nodes p → (m q : ℕ) (rest : List TreeNode) → m ≡ p + q → node_count (first_trees m (trees_of (nodes ++ rest))) ≡ length nodes + node_count (first_trees q (trees_of rest))
counts-trees nodes p no_tree m q rest e =
    let k : m ≡ q = omega (arith, e) in
    omega (arith, ap (λ i. node_count (first_trees i (trees_of rest))) k)
counts-trees nodes p (leaf_first r v nodes' p' t) zero q rest e = absurd (omega (arith, e))
counts-trees nodes p (leaf_first r v nodes' p' t) (suc m) q rest e = omega (arith, counts-trees nodes' p' t m q rest (omega (arith, e)))
counts-trees nodes p (inner_first r k children nodes' p' h2 h8 t u) zero q rest e = absurd (omega (arith, e))
counts-trees nodes p (inner_first r k children nodes' p' h2 h8 t u) (suc m) q rest e =
    let f = trees_of ((children ++ nodes') ++ rest) in
    let s = ap (λ xs. node_count (first_trees (k + m) (trees_of xs))) (append_assoc children nodes' rest) in
    omega (arith, first-add (k + m) k m f refl, s, counts-trees children k t (k + m) m (nodes' ++ rest) refl, counts-trees nodes' p' u m q rest (omega (arith, e)), length-append children nodes')

pub whole : (nodes : List TreeNode) → IsPreorder nodes → node_count (tree_of nodes) ≡ length nodes
whole nodes (inl e) = ap (λ xs. node_count (tree_of xs)) e ∙ sym (ap length e)
whole nodes (inr t) =
    let h = counts-trees nodes 1 t 1 0 [] (omega arith) in
    let s = ap (λ xs. node_count (tree_of xs)) (append-nil nodes) in
    omega (arith, h, s)
