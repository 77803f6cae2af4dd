-- A list of nodes is a whole tree exactly where counting the trees still to come says so.
use Rattle.std.proofs.Common.{◌≡◌, ℕ, zero, suc, ◌+◌, ◌-◌, ◌<◌, ◌≤◌, Bool, true, false, leb, ◌&&◌, ◌↔◌, ◌⊎◌, inl, inr, IsTrue, eqb, List, [], ◌∷◌, ◌++◌, length, get_or, drop, refl, sym, ap, ◌∙◌, subst, append_assoc, append-nil, arith}
use Rattle.std.proofs.lemmas.Bool.{false≢true}
use Rattle.std.proofs.lemmas.Bool.Decides.{nat_tests}
use Rattle.std.proofs.lemmas.List.{at_drop_more, at_drop_all}
use Rattle.arrayvec.specs.ArrayVec.{ArrayVec}
use Rattle.tl_geom.specs.declared.rect.Rect.{Rect}
use Rattle.tl_tree_index.specs.declared.node.TreeNode.{TreeNode}
use Rattle.tl_tree_index.specs.declared.node.TreeNode.TheVariants.{Inner, Leaf}
use Rattle.tl_tree_index.specs.Preorder.{AreTrees, no_tree, leaf_first, inner_first, IsPreorder}

-- the nodes are p whole trees
abbrev pub counted : ℕ → List TreeNode → Bool
counted zero [] = true
counted (suc p) [] = false
counted zero (x ∷ nodes) = false
counted (suc p) (Leaf r v ∷ nodes) = counted p nodes
counted (suc p) (Inner r k ∷ nodes) = (leb 2 k && leb k 8) && counted (k + p) nodes

-- the nodes are k trees and then p trees
record Parted (nodes : List TreeNode) (k p : ℕ) : Type 0 where
  front : List TreeNode
  back : List TreeNode
  joined : nodes ≡ front ++ back
  first : AreTrees front k
  others : AreTrees back p

part : (k p : ℕ) (nodes : List TreeNode) (m : ℕ) → AreTrees nodes m → m ≡ k + p → Parted nodes k p
part zero p nodes m t e =
    let P : ℕ → Type 0 = AreTrees nodes in
    let q : m ≡ p = omega (arith, e) in
    record { front = []; back = nodes; joined = refl; first = no_tree; others = subst P q t }
part (suc k) p nodes m no_tree e = absurd (omega (arith, e))
part (suc k) p nodes m (leaf_first r v nodes' q t) e =
    let s = part k p nodes' q t (omega (arith, e)) in
    record { front = Leaf r v ∷ s.front; back = s.back; joined = ap (λ xs. Leaf r v ∷ xs) s.joined; first = leaf_first r v s.front k s.first; others = s.others }
part (suc k) p nodes m (inner_first r c children nodes' q h2 h8 t u) e =
    let s = part k p nodes' q u (omega (arith, e)) in
    record {
      front = Inner r c ∷ (children ++ s.front);
      back = s.back;
      joined = ap (λ xs. Inner r c ∷ xs) (ap (λ xs. children ++ xs) s.joined ∙ sym (append_assoc children s.front s.back));
      first = inner_first r c children s.front k h2 h8 t s.first;
      others = s.others;
    }

leb→le' : {a b : ℕ} → leb a b ≡ true → a ≤ b
leb→le' {a} {b} e = grind (arith, nat_tests)

first-true : (a b c : Bool) → ((a && b) && c) ≡ true → a ≡ true
first-true true b c e = refl
first-true false b c e = absurd (false≢true e)

second-true : (a b c : Bool) → ((a && b) && c) ≡ true → b ≡ true
second-true true true c e = refl
second-true true false c e = absurd (false≢true e)
second-true false b c e = absurd (false≢true e)

all-true : (a b c : Bool) → ((a && b) && c) ≡ true → c ≡ true
all-true true true c e = e
all-true true false c e = absurd (false≢true e)
all-true false b c e = absurd (false≢true e)

two_to_eight : (k : ℕ) (b : Bool) → ((leb 2 k && leb k 8) && b) ≡ true → (2 ≤ k) × (k ≤ 8) × (b ≡ true)
two_to_eight k b e = by_tests (leb 2 k) (leb k 8) b refl refl refl e
  where
    by_tests : (s t u : Bool) → leb 2 k ≡ s → leb k 8 ≡ t → b ≡ u → ((leb 2 k && leb k 8) && b) ≡ true → (2 ≤ k) × (k ≤ 8) × (b ≡ true)
    by_tests true true true p q r e = (leb→le' p, leb→le' q, r)
    by_tests true true false p q r e = absurd (false≢true (sym r ∙ all-true (leb 2 k) (leb k 8) b e))
    by_tests true false u p q r e = absurd (false≢true (sym q ∙ second-true (leb 2 k) (leb k 8) b e))
    by_tests false t u p q r e = absurd (false≢true (sym p ∙ first-true (leb 2 k) (leb k 8) b e))

pub counted-trees : (p : ℕ) (nodes : List TreeNode) → counted p nodes ≡ true → AreTrees nodes p
counted-trees zero [] e = no_tree
counted-trees (suc p) [] e = absurd (false≢true e)
counted-trees zero (x ∷ nodes) e = absurd (false≢true e)
counted-trees (suc p) (Leaf r v ∷ nodes) e = leaf_first r v nodes p (counted-trees p nodes e)
counted-trees (suc p) (Inner r k ∷ nodes) e =
    let h = two_to_eight k (counted (k + p) nodes) e in
    let s = part k p nodes (k + p) (counted-trees (k + p) nodes h.2) refl in
    let P : List TreeNode → Type 0 = λ xs. AreTrees (Inner r k ∷ xs) (suc p) in
    subst P (sym s.joined) (inner_first r k s.front s.back p h.0 h.1 s.first s.others)

within-8 : (k : ℕ) (b : Bool) → 2 ≤ k → k ≤ 8 → ((leb 2 k && leb k 8) && b) ≡ b
within-8 k b h l = grind (arith, nat_tests)

trees-counted : (nodes : List TreeNode) (p : ℕ) → AreTrees nodes p → (m q : ℕ) (rest : List TreeNode) → m ≡ p + q → counted m (nodes ++ rest) ≡ counted q rest
trees-counted nodes p no_tree m q rest e = ap (λ i. counted i rest) (omega (arith, e))
trees-counted nodes p (leaf_first r v nodes' p' t) m q rest e =
    ap (λ i. counted i (Leaf r v ∷ (nodes' ++ rest))) (up m p' q e) ∙ trees-counted nodes' p' t (p' + q) q rest refl
  where
    up : (m p q : ℕ) → m ≡ suc p + q → m ≡ suc (p + q)
    up m p q e = omega (arith, e)
trees-counted nodes p (inner_first r k children nodes' p' h2 h8 t u) m q rest e =
    ap (λ i. counted i (Inner r k ∷ ((children ++ nodes') ++ rest))) (up m p' q e)
    ∙ within-8 k (counted (k + (p' + q)) ((children ++ nodes') ++ rest)) h2 h8
    ∙ ap (counted (k + (p' + q))) (append_assoc children nodes' rest)
    ∙ trees-counted children k t (k + (p' + q)) (p' + q) (nodes' ++ rest) refl
    ∙ trees-counted nodes' p' u (p' + q) q rest refl
  where
    up : (m p q : ℕ) → m ≡ suc p + q → m ≡ suc (p + q)
    up m p q e = omega (arith, e)

-- the answer of a count says whether a list that has a node is a whole tree
pub decides : (nodes : List TreeNode) (r : Bool) → (length nodes ≡ 0 → ⊥) → counted 1 nodes ≡ r → IsTrue r ↔ IsPreorder nodes
decides nodes r ne e = (λ h. inr (counted-trees 1 nodes (e ∙ h)), λ h. sym e ∙ by_cases h)
  where
    by_cases : IsPreorder nodes → counted 1 nodes ≡ true
    by_cases (inl p) = absurd (ne (ap length p))
    by_cases (inr t) = ap (counted 1) (sym (append-nil nodes)) ∙ trees-counted nodes 1 t 1 0 [] (omega arith)

-- ---- one step of the count

step-at : (awaited : ℕ) (nodes : List TreeNode) (at : ℕ) (x d : TreeNode) → at < length nodes → get_or nodes at d ≡ x → counted awaited (drop at nodes) ≡ counted awaited (x ∷ drop (at + 1) nodes)
step-at awaited nodes at x d h e = at_drop_more (counted awaited) nodes at d h ∙ ap (λ y. counted awaited (y ∷ drop (at + 1) nodes)) e

awaited-suc : (awaited : ℕ) → (awaited ≡ 0 → ⊥) → awaited ≡ suc (awaited - 1)
awaited-suc awaited ne = omega (arith, ne)

pub step-leaf : (awaited : ℕ) (nodes : List TreeNode) (at : ℕ) (r : Rect) (v : ArrayVec ℕ) (d : TreeNode) → (awaited ≡ 0 → ⊥) → at < length nodes → get_or nodes at d ≡ Leaf r v → counted (awaited - 1) (drop (at + 1) nodes) ≡ counted awaited (drop at nodes)
step-leaf awaited nodes at r v d ne h e =
    sym (step-at awaited nodes at (Leaf r v) d h e ∙ ap (λ i. counted i (Leaf r v ∷ drop (at + 1) nodes)) (awaited-suc awaited ne))

pub step-inner : (awaited : ℕ) (nodes : List TreeNode) (at : ℕ) (r : Rect) (k : ℕ) (d : TreeNode) → (awaited ≡ 0 → ⊥) → at < length nodes → get_or nodes at d ≡ Inner r k → 2 ≤ k → k ≤ 8 → counted (awaited - 1 + k) (drop (at + 1) nodes) ≡ counted awaited (drop at nodes)
step-inner awaited nodes at r k d ne h e l m =
    sym (step-at awaited nodes at (Inner r k) d h e ∙ ap (λ i. counted i (Inner r k ∷ drop (at + 1) nodes)) (awaited-suc awaited ne) ∙ within-8 k (counted (k + (awaited - 1)) (drop (at + 1) nodes)) l m ∙ ap (λ i. counted i (drop (at + 1) nodes)) (omega arith))

pub step-wrong : (awaited : ℕ) (nodes : List TreeNode) (at : ℕ) (r : Rect) (k : ℕ) (d : TreeNode) → (awaited ≡ 0 → ⊥) → at < length nodes → get_or nodes at d ≡ Inner r k → (k < 2) ⊎ (8 < k) → counted awaited (drop at nodes) ≡ false
step-wrong awaited nodes at r k d ne h e w =
    step-at awaited nodes at (Inner r k) d h e ∙ ap (λ i. counted i (Inner r k ∷ drop (at + 1) nodes)) (awaited-suc awaited ne) ∙ outside k (counted (k + (awaited - 1)) (drop (at + 1) nodes)) w
  where
    outside : (k : ℕ) (b : Bool) → (k < 2) ⊎ (8 < k) → ((leb 2 k && leb k 8) && b) ≡ false
    outside k b (inl h) = grind (arith, nat_tests)
    outside k b (inr h) = grind (arith, nat_tests)

pub step-closed : (awaited : ℕ) (nodes : List TreeNode) (at : ℕ) (d : TreeNode) → awaited ≡ 0 → at < length nodes → counted awaited (drop at nodes) ≡ false
step-closed awaited nodes at d e h = step-at awaited nodes at (get_or nodes at d) d h refl ∙ ap (λ i. counted i (get_or nodes at d ∷ drop (at + 1) nodes)) e

pub step-end : (awaited : ℕ) (nodes : List TreeNode) (at : ℕ) → length nodes ≤ at → counted awaited (drop at nodes) ≡ eqb awaited 0
step-end awaited nodes at h = at_drop_all (counted awaited) nodes at h ∙ at-end awaited
  where
    at-end : (awaited : ℕ) → counted awaited [] ≡ eqb awaited 0
    at-end zero = refl
    at-end (suc awaited) = grind (arith, nat_tests)

pub not-empty : (n : ℕ) (r : Bool) → r ≡ eqb n 0 → r ≡ false → n ≡ 0 → ⊥
not-empty n r e f z = false≢true (sym f ∙ e ∙ zero-test n z)
  where
    zero-test : (n : ℕ) → n ≡ 0 → eqb n 0 ≡ true
    zero-test n z = grind (arith, nat_tests)
