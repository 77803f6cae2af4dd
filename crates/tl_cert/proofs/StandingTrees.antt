-- A list of nodes that is some trees, by recursion on the list: how many subtrees are still to come behind each node.
use Rattle.std.proofs.Common.{◌≡◌, ℕ, zero, suc, ◌+◌, ◌≤◌, inl, inr, length, List, [], ◌∷◌, ◌++◌, refl, sym, ap, ◌∙◌, subst, arith, append_assoc}
use Rattle.std.proofs.Common.{append-nil, All}
use Rattle.tl_tree_index.specs.declared.node.TreeNode.{TreeNode}
use Rattle.tl_tree_index.specs.declared.node.TreeNode.TheVariants.{Inner, Leaf}
use Rattle.tl_tree_index.specs.Preorder.{AreTrees, no_tree, leaf_first, inner_first}
use Rattle.tl_cert.specs.Certificates.{IsNode}
use Rattle.tl_cert.specs.Keeping.Steps.{CanHave}
pub use Rattle.tl_cert.specs.Keeping.Parts.{Stand}
use Rattle.std.proofs.lemmas.List.Elements.{All-head, All-tail}

stand_append : (nodes : List TreeNode) (p : ℕ) → AreTrees nodes p → (m q : ℕ) (rest : List TreeNode) → Stand rest q → m ≡ p + q → Stand (nodes ++ rest) m
stand_append nodes p no_tree m q rest s e = subst (Stand rest) (omega (arith, e)) s
stand_append nodes p (leaf_first r v others o t) m q rest s e = (o + q, omega (arith, e), stand_append others o t (o + q) q rest s refl)
stand_append nodes p (inner_first r k children others o least most t u) m q rest s e = (
  o + q,
  omega (arith, e),
  least,
  most,
  subst (λ l. Stand l (k + (o + q))) (sym (append_assoc children others rest))
      (stand_append children k t (k + (o + q)) (o + q) (others ++ rest) (stand_append others o u (o + q) q rest s refl) refl),
)

pub trees_stand : (nodes : List TreeNode) (p : ℕ) → AreTrees nodes p → Stand nodes p
trees_stand nodes p t = subst (λ l. Stand l p) (append-nil nodes) (stand_append nodes p t p 0 [] refl (omega arith))

-- the nodes are k trees and then p trees
record Parted (nodes : List TreeNode) (k p : ℕ) : Type 0 where
  front : List TreeNode
  back : List TreeNode
  joined : nodes ≡ front ++ back
  first : AreTrees front k
  others : AreTrees back p

part : (k p : ℕ) (nodes : List TreeNode) (m : ℕ) → AreTrees nodes m → m ≡ k + p → Parted nodes k p
part zero p nodes m t e =
    record { front = []; back = nodes; joined = refl; first = no_tree; others = subst (AreTrees nodes) (omega (arith, e)) t }
part (suc k) p nodes m no_tree e = absurd (omega (arith, e))
part (suc k) p nodes m (leaf_first r v others q t) e =
    let s = part k p others q t (omega (arith, e)) in
    record {
      front = Leaf r v ∷ s.front;
      back = s.back;
      joined = ap (λ (l : List TreeNode). Leaf r v ∷ l) s.joined;
      first = leaf_first r v s.front k s.first;
      others = s.others;
    }
part (suc k) p nodes m (inner_first r c children others q least most t u) e =
    let s = part k p others q u (omega (arith, e)) in
    record {
      front = Inner r c ∷ (children ++ s.front);
      back = s.back;
      joined = ap (λ (l : List TreeNode). Inner r c ∷ l)
          (ap (λ (l : List TreeNode). children ++ l) s.joined ∙ sym (append_assoc children s.front s.back));
      first = inner_first r c children s.front k least most t s.first;
      others = s.others;
    }

-- a list of nodes that stands is some trees
pub standing_trees : (nodes : List TreeNode) (p : ℕ) → Stand nodes p → AreTrees nodes p
standing_trees [] p s = subst (AreTrees []) (sym s) no_tree
standing_trees (Leaf r v ∷ nodes) p s =
    subst (AreTrees (Leaf r v ∷ nodes)) (sym s.1) (leaf_first r v nodes s.0 (standing_trees nodes s.0 s.2))
standing_trees (Inner r k ∷ nodes) p s =
    let parts = part k s.0 nodes (k + s.0) (standing_trees nodes (k + s.0) s.4) refl in
    subst (AreTrees (Inner r k ∷ nodes)) (sym s.1)
    (subst (λ l. AreTrees (Inner r k ∷ l) (suc s.0)) (sym parts.joined) (inner_first r k parts.front parts.back s.0 s.2 s.3 parts.first parts.others))

-- ---- how many nodes some trees can have

pub can_same : (v p r : ℕ) → p ≡ r → CanHave v p r
can_same zero p r same = inl same
can_same (suc zero) p r same = inl same
can_same (suc (suc v)) p r same = inl same

-- a leaf before them
can_leaf : (v p r : ℕ) → CanHave v p r → CanHave v (suc p) (suc r)
can_leaf zero p r (inl h) = inl (ap suc h)
can_leaf zero p r (inr h) = inr (omega arith, (h.1.0, omega (arith, h.1.1)))
can_leaf (suc zero) p r (inl h) = inl (ap suc h)
can_leaf (suc zero) p r (inr h) = inr (omega arith, (h.1.0, omega (arith, h.1.1)))
can_leaf (suc (suc v)) p r (inl h) = inl (ap suc h)
can_leaf (suc (suc v)) p r (inr h) = inr (omega arith, omega (arith, h.1))

-- an inner node before its children and others
can_inner : (v p r k : ℕ) → 2 ≤ k → (v ≤ 1 → k ≡ 2) → CanHave v (k + p) r → CanHave v (suc p) (suc r)
can_inner zero p r k least two (inl h) = inr (omega arith, (1, omega (arith, h, two (omega arith))))
can_inner zero p r k least two (inr h) = inr (omega arith, (suc h.1.0, omega (arith, h.1.1, two (omega arith))))
can_inner (suc zero) p r k least two (inl h) = inr (omega arith, (1, omega (arith, h, two (omega arith))))
can_inner (suc zero) p r k least two (inr h) = inr (omega arith, (suc h.1.0, omega (arith, h.1.1, two (omega arith))))
can_inner (suc (suc v)) p r k least two (inl h) = inr (omega arith, omega (arith, h))
can_inner (suc (suc v)) p r k least two (inr h) = inr (omega arith, omega (arith, h.1))

pub stand_can : (v : ℕ) (nodes : List TreeNode) (p : ℕ) → Stand nodes p → (v ≤ 1 → v ≡ 1) → All (IsNode v) nodes → CanHave v p (length nodes)
stand_can v [] p s low all = can_same v p 0 s
stand_can v (Leaf r w ∷ nodes) p s low all =
    subst (λ m. CanHave v m (suc (length nodes))) (sym s.1)
    (can_leaf v s.0 (length nodes) (stand_can v nodes s.0 s.2 low (All-tail (IsNode v) (Leaf r w) nodes all)))
stand_can v (Inner r k ∷ nodes) p s low all =
    let two : v ≤ 1 → k ≡ 2 = λ h. All-head (IsNode v) (Inner r k) nodes all (low h) in
    subst (λ m. CanHave v m (suc (length nodes))) (sym s.1)
    (can_inner v s.0 (length nodes) k s.2 two (stand_can v nodes (k + s.0) s.4 low (All-tail (IsNode v) (Inner r k) nodes all)))
