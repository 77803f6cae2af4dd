-- Trees of a list of nodes: how they split.
use Rattle.std.proofs.Common.{◌≡◌, ℕ, zero, suc, ◌+◌, ◌-◌, ◌<◌, ◌≤◌, List, [], ◌∷◌, length, get_or, drop, set, refl, sym, ap, ◌∙◌, arith, ◌⊎◌, inl, inr, length-drop, length-set, get_or-set_same, get_or-set_other}
use Rattle.std.proofs.lemmas.List.{at_drop_more, at_drop_all, drop-drop}
use Rattle.tl_geom.specs.declared.rect.Rect.{Rect}
use Rattle.tl_tree_index.specs.declared.node.TreeNode.{TreeNode}
use Rattle.tl_tree_index.specs.declared.node.TreeNode.TheVariants.{Inner, Leaf}
use Rattle.arrayvec.specs.ArrayVec.{ArrayVec}
use Rattle.tl_tree_index.specs.Trees.{Forest, none, leaf, inner, node_count, first_trees, other_trees, trees_of}
use Rattle.tl_tree.specs.Keeping.Sizes.{size_at, AreSizesFrom}
use Rattle.tl_tree_index.proofs.Times.{same_or}

pub first-none : (k : ℕ) → first_trees k none ≡ none
first-none zero = refl
first-none (suc k) = refl

pub other-none : (k : ℕ) → other_trees k none ≡ none
other-none zero = refl
other-none (suc k) = refl

other-add : (m c k : ℕ) (f : Forest) → m ≡ c + k → other_trees m f ≡ other_trees k (other_trees c f)
other-add m zero k f e = ap (λ i. other_trees i f) (omega (arith, e))
other-add zero (suc c) k f e = absurd (omega (arith, e))
other-add (suc m) (suc c) k none e = sym (other-none k)
other-add (suc m) (suc c) k (leaf r xs others) e = other-add m c k others (omega (arith, e))
other-add (suc m) (suc c) k (inner r children others) e = other-add m c k others (omega (arith, e))

pub first-add : (m c k : ℕ) (f : Forest) → m ≡ c + k → node_count (first_trees m f) ≡ node_count (first_trees c f) + node_count (first_trees k (other_trees c f))
first-add m zero k f e = let p : m ≡ k = omega (arith, e) in omega (arith, ap (λ i. node_count (first_trees i f)) p)
first-add zero (suc c) k f e = absurd (omega (arith, e))
first-add (suc m) (suc c) k none e = omega (arith, ap node_count (first-none k))
first-add (suc m) (suc c) k (leaf r xs others) e = omega (arith, first-add m c k others (omega (arith, e)))
first-add (suc m) (suc c) k (inner r children others) e = omega (arith, first-add m c k others (omega (arith, e)))

drop-suc : (k m : ℕ) (x : TreeNode) (nodes : List TreeNode) → k ≡ 1 + m → drop k (x ∷ nodes) ≡ drop m nodes
drop-suc zero m x nodes e = absurd (omega (arith, e))
drop-suc (suc k) m x nodes e = ap (λ i. drop i nodes) (omega (arith, e))

-- behind the nodes of the first k trees stand the nodes of the others
pub behind : (nodes : List TreeNode) (k : ℕ) → trees_of (drop (node_count (first_trees k (trees_of nodes))) nodes) ≡ other_trees k (trees_of nodes)
behind [] k = rw (first-none k, other-none k) refl
behind (x ∷ nodes) zero = refl
behind (Leaf r v ∷ nodes) (suc k) =
    ap trees_of (drop-suc (1 + node_count (first_trees k (trees_of nodes))) (node_count (first_trees k (trees_of nodes))) (Leaf r v) nodes refl) ∙ behind nodes k
behind (Inner r c ∷ nodes) (suc k) =
    let f = trees_of nodes in
    let a = node_count (first_trees c f) in
    let b = node_count (first_trees k (other_trees c f)) in
    let h = behind nodes (c + k) in
    ap trees_of (drop-suc (1 + a + b) (node_count (first_trees (c + k) f)) (Inner r c) nodes (omega (arith, first-add (c + k) c k f refl)))
    ∙ h ∙ other-add (c + k) c k f refl

first-end : (count at : ℕ) (nodes : List TreeNode) → length nodes ≤ at → first_trees count (trees_of (drop at nodes)) ≡ none
first-end count at nodes h = ap (first_trees count) (at_drop_all trees_of nodes at h) ∙ first-none count

pub no-tree : (count at : ℕ) (nodes : List TreeNode) → (count ≡ 0) ⊎ (length nodes ≤ at) → first_trees count (trees_of (drop at nodes)) ≡ none
no-tree count at nodes (inl e) = ap (λ k. first_trees k (trees_of (drop at nodes))) e
no-tree count at nodes (inr h) = first-end count at nodes h

first-inner : (count m : ℕ) (r : Rect) (f g : Forest) → count ≡ suc m → first_trees count (inner r f g) ≡ inner r f (first_trees m g)
first-inner count m r f g e = ap (λ k. first_trees k (inner r f g)) e

-- the trees from an inner node on: that node with its children, and then the trees behind its subtree
pub split-inner : (count size at : ℕ) (nodes : List TreeNode) (r : Rect) (k : ℕ) (d : TreeNode) → (count ≡ 0 → ⊥) → at < length nodes → get_or nodes at d ≡ Inner r k → size ≡ size_at nodes at → first_trees count (trees_of (drop at nodes)) ≡ inner r (first_trees k (trees_of (drop (at + 1) nodes))) (first_trees (count - 1) (trees_of (drop (at + size) nodes)))
split-inner count size at nodes r k d ne h e p =
    let rest = drop (at + 1) nodes in
    let here : trees_of (drop at nodes) ≡ trees_of (Inner r k ∷ rest) = at_drop_more trees_of nodes at d h ∙ ap (λ x. trees_of (x ∷ rest)) e in
    let s : size ≡ 1 + node_count (first_trees k (trees_of rest)) = omega (arith, p, ap (λ f. node_count (first_trees 1 f)) here) in
    let b : trees_of (drop (at + size) nodes) ≡ other_trees k (trees_of rest) =
    ap trees_of (ap (λ i. drop i nodes) (omega (arith, s)) ∙ sym (drop-drop (node_count (first_trees k (trees_of rest))) (at + 1) nodes)) ∙ behind rest k in
    ap (first_trees count) here ∙ first-inner count (count - 1) r (first_trees k (trees_of rest)) (other_trees k (trees_of rest)) (omega (arith, ne)) ∙ ap (λ g. inner r (first_trees k (trees_of rest)) (first_trees (count - 1) g)) (sym b)

-- ---- where trees end

end-here : (nodes : List TreeNode) (first i at : ℕ) → at ≡ first + node_count (first_trees i (trees_of (drop first nodes))) → other_trees i (trees_of (drop first nodes)) ≡ trees_of (drop at nodes)
end-here nodes first i at e =
    let n = node_count (first_trees i (trees_of (drop first nodes))) in
    sym (behind (drop first nodes) i) ∙ ap trees_of (drop-drop n first nodes ∙ ap (λ j. drop j nodes) (sym e))

pub end-step : (nodes : List TreeNode) (first i at : ℕ) → at ≡ first + node_count (first_trees i (trees_of (drop first nodes))) → node_count (first_trees (i + 1) (trees_of (drop first nodes))) ≡ node_count (first_trees i (trees_of (drop first nodes))) + size_at nodes at
end-step nodes first i at e =
    let f = trees_of (drop first nodes) in
    first-add (i + 1) i 1 f refl ∙ ap (λ g. node_count (first_trees i f) + node_count (first_trees 1 g)) (end-here nodes first i at e)

pub size-past : (nodes : List TreeNode) (at : ℕ) → length nodes ≤ at → size_at nodes at ≡ 0
size-past nodes at h = ap (λ f. node_count (first_trees 1 f)) (at_drop_all trees_of nodes at h)

pub counts-all : (k : ℕ) (f : Forest) → node_count (first_trees k f) + node_count (other_trees k f) ≡ node_count f
counts-all zero f = omega arith
counts-all (suc k) none = refl
counts-all (suc k) (leaf r xs others) = omega (arith, counts-all k others)
counts-all (suc k) (inner r children others) = omega (arith, counts-all k others)

pub counts-nodes : (nodes : List TreeNode) → node_count (trees_of nodes) ≡ length nodes
counts-nodes [] = refl
counts-nodes (Leaf r v ∷ nodes) = omega (arith, counts-nodes nodes)
counts-nodes (Inner r k ∷ nodes) = omega (arith, counts-nodes nodes, counts-all k (trees_of nodes))

pub end-bound : (nodes : List TreeNode) (first k : ℕ) → first ≤ length nodes → first + node_count (first_trees k (trees_of (drop first nodes))) ≤ length nodes
end-bound nodes first k h =
    omega (arith, h, counts-all k (trees_of (drop first nodes)), counts-nodes (drop first nodes), length-drop first nodes)

pub size-leaf : (nodes : List TreeNode) (at : ℕ) (r : Rect) (v : ArrayVec ℕ) (d : TreeNode) → at < length nodes → get_or nodes at d ≡ Leaf r v → size_at nodes at ≡ 1
size-leaf nodes at r v d h e = ap (λ f. node_count (first_trees 1 f)) (at_drop_more trees_of nodes at d h ∙ ap (λ x. trees_of (x ∷ drop (at + 1) nodes)) e)

pub size-inner : (nodes : List TreeNode) (at : ℕ) (r : Rect) (k : ℕ) (d : TreeNode) → at < length nodes → get_or nodes at d ≡ Inner r k → size_at nodes at ≡ 1 + node_count (first_trees k (trees_of (drop (at + 1) nodes)))
size-inner nodes at r k d h e =
    let s = ap (λ f. node_count (first_trees 1 f)) (at_drop_more trees_of nodes at d h ∙ ap (λ x. trees_of (x ∷ drop (at + 1) nodes)) e) in
    omega (arith, s)

pub split-leaf : (count size at : ℕ) (nodes : List TreeNode) (r : Rect) (v : ArrayVec ℕ) (d : TreeNode) → (count ≡ 0 → ⊥) → at < length nodes → get_or nodes at d ≡ Leaf r v → size ≡ size_at nodes at → first_trees count (trees_of (drop at nodes)) ≡ leaf r v.items (first_trees (count - 1) (trees_of (drop (at + size) nodes)))
split-leaf count size at nodes r v d ne h e p =
    let rest = drop (at + 1) nodes in
    let here : trees_of (drop at nodes) ≡ leaf r v.items (trees_of rest) = at_drop_more trees_of nodes at d h ∙ ap (λ x. trees_of (x ∷ rest)) e in
    let one : size ≡ 1 = p ∙ size-leaf nodes at r v d h e in
    let more : count ≡ suc (count - 1) = omega (arith, ne) in
    ap (first_trees count) here ∙ ap (λ k. first_trees k (leaf r v.items (trees_of rest))) more ∙ ap (λ i. leaf r v.items (first_trees (count - 1) (trees_of (drop (at + i) nodes)))) (sym one)

-- one more size, before the others
pub sizes-before : (k : ℕ) (nodes : List TreeNode) (sizes : List ℕ) (size : ℕ) → k < length nodes → size ≡ size_at nodes k → AreSizesFrom (k + 1) nodes sizes → AreSizesFrom k nodes (set sizes k size)
sizes-before k nodes sizes size h e s =
    record {
      complete = length-set sizes k size ∙ s.complete;
      right = λ j l m. same_or j k
          (λ p. rw p (get_or-set_same sizes k size 0 (omega (arith, h, s.complete)) ∙ e))
          (λ ne. get_or-set_other sizes k j size 0 ne ∙ s.right j (omega (arith, l, ne)) m);
    }
