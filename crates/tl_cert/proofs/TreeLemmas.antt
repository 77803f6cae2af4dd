-- Nodes of a tree that are read one after the other.
use Rattle.std.proofs.Common.{◌≡◌, inl, inr, ℕ, zero, suc, ◌+◌, ◌-◌, ◌<◌, ◌≤◌, List, [], ◌∷◌, ◌++◌, length, length-append, Option, refl, sym, ap, subst, ◌∙◌, arith, append_assoc, append-nil, codes}
use Rattle.std.proofs.lemmas.List.{length-map}
use Rattle.std.proofs.lemmas.List.Elements.{All-nil, All-cons, All-append}
use Rattle.arrayvec.specs.ArrayVec.{ArrayVec}
use Rattle.tl_geom.specs.declared.rect.Rect.{Rect}
use Rattle.tl_tree_index.specs.declared.node.TreeNode.{TreeNode}
use Rattle.tl_tree_index.specs.declared.node.TreeNode.TheVariants.{Inner, Leaf}
use Rattle.tl_tree_index.specs.Preorder.{AreTrees, IsPreorder}
use Rattle.tl_cert.specs.Certificates.{IsNumber, IsInRange, IsNode, IsNodeInRange}
use Rattle.tl_cert.specs.Text.{numbered_line, nodes_lines, inner_line, leaf_line, item_lines}
use Rattle.tl_cert.specs.declared.node_line.NodeStart.{NodeStart}
use Rattle.tl_cert.specs.Keeping.Kinds.{ChildrenFit, NodeFits, children_told, node_line}
use Rattle.tl_cert.specs.Keeping.Lines.{LineState, TakesLines}
use Rattle.tl_cert.specs.Keeping.Parts.{AreItems, IsTreeSoFar, IsNodeRead, Stand}
use Rattle.tl_cert.specs.Keeping.Steps.{counted, tree, CanHave, roots, at_nodes, at_inner, at_leaf, Runs, no_line, first_line}
use Rattle.tl_cert.proofs.PartLemmas.{takes_more}
use Rattle.tl_cert.proofs.RunLemmas.{runs-append, items_run}
use Rattle.tl_cert.proofs.StandingTrees.{standing_trees}

pub can_some : (version p r : ℕ) → CanHave version p r → 0 < r → 0 < p
can_some zero p r (inl same) some = omega (arith, same)
can_some zero p r (inr more) some = omega (arith, more.0)
can_some (suc zero) p r (inl same) some = omega (arith, same)
can_some (suc zero) p r (inr more) some = omega (arith, more.0)
can_some (suc (suc version)) p r (inl same) some = omega (arith, same)
can_some (suc (suc version)) p r (inr more) some = omega (arith, more.0)

can_none : (version p : ℕ) → CanHave version p 0 → p ≡ 0
can_none zero p (inl same) = same
can_none zero p (inr more) = absurd (omega (arith, more.0, more.1.1))
can_none (suc zero) p (inl same) = same
can_none (suc zero) p (inr more) = absurd (omega (arith, more.0, more.1.1))
can_none (suc (suc version)) p (inl same) = same
can_none (suc (suc version)) p (inr more) = absurd (omega (arith, more.1))

-- no more subtrees than nodes
pub can_few : (version p r : ℕ) → CanHave version p r → p ≤ r
can_few zero p r (inl same) = omega (arith, same)
can_few zero p r (inr more) = omega (arith, more.1.1)
can_few (suc zero) p r (inl same) = omega (arith, same)
can_few (suc zero) p r (inr more) = omega (arith, more.1.1)
can_few (suc (suc version)) p r (inl same) = omega (arith, same)
can_few (suc (suc version)) p r (inr more) = omega (arith, more.1)

pub nodes_lines-append : (version : ℕ) (xs ys : List TreeNode) → nodes_lines version (xs ++ ys) ≡ nodes_lines version xs ++ nodes_lines version ys
nodes_lines-append version [] ys = refl
nodes_lines-append version (Inner r k ∷ xs) ys = ap (λ (ls : List (List ℕ)). inner_line version r k ∷ ls) (nodes_lines-append version xs ys)
nodes_lines-append version (Leaf r v ∷ xs) ys =
    ap (λ (ls : List (List ℕ)). leaf_line r (length v.items) ∷ ls)
    (ap (λ (ls : List (List ℕ)). item_lines v.items ++ ls) (nodes_lines-append version xs ys) ∙ sym (append_assoc (item_lines v.items) (nodes_lines version xs) (nodes_lines version ys)))

-- the count of nodes is the text's first line, and so are its nodes' lines
abbrev front : ℕ → ℕ → List TreeNode → List (List ℕ)
front version count nodes = numbered_line (codes "T") count ∷ nodes_lines version nodes

front_more : (version count : ℕ) (nodes : List TreeNode) (node : TreeNode) (lines : List (List ℕ)) → nodes_lines version (node ∷ []) ≡ lines
    → front version count (nodes ++ node ∷ []) ≡ front version count nodes ++ lines
front_more version count nodes node lines is =
    ap (λ (ls : List (List ℕ)). numbered_line (codes "T") count ∷ ls) (nodes_lines-append version nodes (node ∷ []) ∙ ap (λ (ls : List (List ℕ)). nodes_lines version nodes ++ ls) is)

-- what stands behind the nodes with one more
stand_more : (count p : ℕ) (nodes : List TreeNode) (node : TreeNode) (q : ℕ) → ((rest : List TreeNode) → Stand rest p → Stand (nodes ++ rest) (roots count))
    → ((rest : List TreeNode) → Stand rest q → Stand (node ∷ rest) p) → (rest : List TreeNode) → Stand rest q → Stand ((nodes ++ node ∷ []) ++ rest) (roots count)
stand_more count p nodes node q trees one rest stand =
    subst (λ (xs : List TreeNode). Stand xs (roots count)) (sym (append_assoc nodes (node ∷ []) rest)) (trees (node ∷ rest) (one rest stand))

-- a node more
pub node_added : {R : Type 0} (remaining : R → Option (List ℕ)) (version count p r : ℕ) (nodes all : List TreeNode) (read : TreeNode × ℕ) (old mid new : LineState R)
    → IsTreeSoFar remaining version count (suc p) (suc r) nodes old mid → IsNodeRead version p r read
    → TakesLines remaining mid new (nodes_lines version (read.0 ∷ [])) → all ≡ nodes ++ read.0 ∷ [] → IsTreeSoFar remaining version count (read.1 + p) r all old new
node_added remaining version count p r nodes all read old mid new far is takes whole =
    let lines = nodes_lines version (read.0 ∷ []) in
    let next = front_more version count nodes read.0 lines refl in
    let sizes = length-append nodes (read.0 ∷ []) in
    rw whole record {
      takes = subst (TakesLines remaining old new) (sym next) (takes_more remaining old mid new (front version count nodes) lines far.takes takes);
      runs = subst (λ (ls : List (List ℕ)). Runs (counted version) ls (tree version (read.1 + p) r 0)) (sym next)
          (runs-append (counted version) (tree version (suc p) (suc r) 0) (tree version (read.1 + p) r 0) (front version count nodes) lines far.runs is.runs);
      can = is.can;
      trees = stand_more count (suc p) nodes read.0 (read.1 + p) far.trees is.stand;
      size = omega (arith, far.size, sizes);
      each = All-append (IsNode version) nodes (read.0 ∷ []) far.each (All-cons (IsNode version) read.0 [] is.kind (All-nil (IsNode version)));
      range = All-append IsNodeInRange nodes (read.0 ∷ []) far.range (All-cons IsNodeInRange read.0 [] is.range (All-nil IsNodeInRange));
      few = let more = ap length (nodes_lines-append version nodes (read.0 ∷ [])) ∙ length-append (nodes_lines version nodes) lines in
          omega (arith, far.few, more, sizes, is.few);
    }

pub inner_read : (version p r : ℕ) (rect : Rect) (k : ℕ) → IsInRange rect → ChildrenFit version k → CanHave version (k + p) r → IsNodeRead version p r (Inner rect k, k)
inner_read version p r rect k range fits can = record {
  runs = first_line (tree version (suc p) (suc r) 0) (tree version (k + p) r 0) (tree version (k + p) r 0) (inner_line version rect k) []
      (at_inner version p r rect k range fits.least fits.most (λ low. fits.two (omega (arith, low))) can) (no_line (tree version (k + p) r 0));
  can = can;
  stand = λ rest stand. (p, refl, fits.least, fits.most, stand);
  kind = λ one. fits.two (omega (arith, one));
  range = range;
  few = omega arith;
  small = fits.most;
}

pub leaf_run : (version p r : ℕ) (rect : Rect) (k : ℕ) → IsInRange rect → 1 ≤ k → k ≤ 8 → CanHave version (0 + p) r
    → Runs (tree version (suc p) (suc r) 0) (leaf_line rect k ∷ []) (tree version p r k)
leaf_run version p r rect k range some few can =
    let here : 0 + p ≡ p = omega arith in
    first_line (tree version (suc p) (suc r) 0) (tree version p r k) (tree version p r k) (leaf_line rect k) []
    (at_leaf version p r rect k range some few (subst (λ n. CanHave version n r) here can)) (no_line (tree version p r k))

-- a leaf's lines
pub leaf_lines : (version : ℕ) (rect : Rect) (k : ℕ) (items : ArrayVec ℕ) → length items.items ≡ k
    → nodes_lines version (Leaf rect items ∷ []) ≡ leaf_line rect k ∷ item_lines items.items
leaf_lines version rect k items is =
    ap (λ (ls : List (List ℕ)). leaf_line rect (length items.items) ∷ ls) (append-nil (item_lines items.items)) ∙ ap (λ n. leaf_line rect n ∷ item_lines items.items) is

pub leaf_read : (version p r : ℕ) (rect : Rect) (k : ℕ) (items : ArrayVec ℕ) → IsInRange rect → 1 ≤ k → k ≤ 8 → CanHave version (0 + p) r → AreItems k items
    → IsNodeRead version p r (Leaf rect items, 0)
leaf_read version p r rect k items range some few can are =
    let here : p ≡ 0 + p = omega arith in
    let lines = leaf_lines version rect k items are.0 in
    record {
      runs = subst (λ (ls : List (List ℕ)). Runs (tree version (suc p) (suc r) 0) ls (tree version (0 + p) r 0)) (sym lines)
          (subst (λ n. Runs (tree version (suc p) (suc r) 0) (leaf_line rect k ∷ item_lines items.items) (tree version n r 0)) here
          (runs-append (tree version (suc p) (suc r) 0) (tree version p r k) (tree version p r 0) (leaf_line rect k ∷ []) (item_lines items.items)
          (leaf_run version p r rect k range some few can)
          (subst (λ n. Runs (tree version p r n) (item_lines items.items) (tree version p r 0)) are.0 (items_run version p r items.items are.1))));
      can = can;
      stand = λ rest stand. (p, refl, subst (Stand rest) (sym here) stand);
      kind = omega (arith, are.0, some);
      range = (range, omega (arith, are.0, few), are.1);
      few = let size = ap length lines in omega (arith, size, few, are.0, length-map items.items (numbered_line (codes "S")));
      small = omega arith;
    }

-- the leaf's line and its items were taken
pub leaf_takes : {R : Type 0} (remaining : R → Option (List ℕ)) (version : ℕ) (rect : Rect) (k : ℕ) (items : ArrayVec ℕ) (old mid new : LineState R)
    → length items.items ≡ k → TakesLines remaining old mid (leaf_line rect k ∷ []) → TakesLines remaining mid new (item_lines items.items)
    → TakesLines remaining old new (nodes_lines version (Leaf rect items ∷ []))
leaf_takes remaining version rect k items old mid new is first takes =
    subst (TakesLines remaining old new) (sym (leaf_lines version rect k items is))
    (takes_more remaining old mid new (leaf_line rect k ∷ []) (item_lines items.items) first takes)

-- before any node
pub no_node : {R : Type 0} (remaining : R → Option (List ℕ)) (version count : ℕ) (old new : LineState R) → IsNumber count → CanHave version (roots count) count
    → TakesLines remaining old new (numbered_line (codes "T") count ∷ []) → IsTreeSoFar remaining version count (roots count) count [] old new
no_node remaining version count old new small can takes = record {
  takes = takes;
  runs = first_line (counted version) (tree version (roots count) count 0) (tree version (roots count) count 0) (numbered_line (codes "T") count) []
      (at_nodes version count small can) (no_line (tree version (roots count) count 0));
  can = can;
  trees = λ rest stand. stand;
  size = omega arith;
  each = All-nil (IsNode version);
  range = All-nil IsNodeInRange;
  few = omega arith;
}

-- the nodes are whole
pub whole_tree : {R : Type 0} (remaining : R → Option (List ℕ)) (version count p : ℕ) (nodes : List TreeNode) (old new : LineState R)
    → IsTreeSoFar remaining version count p 0 nodes old new → IsPreorder nodes
whole_tree remaining version count p nodes old new far =
    let none = can_none version p far.can in
    let stand : Stand nodes (roots count) = subst (λ (xs : List TreeNode). Stand xs (roots count)) (append-nil nodes) (far.trees [] none) in
    let size : count ≡ length nodes = omega (arith, far.size) in
    whole nodes (standing_trees nodes (roots (length nodes)) (subst (λ n. Stand nodes (roots n)) size stand))
  where
    whole : (nodes : List TreeNode) → AreTrees nodes (roots (length nodes)) → IsPreorder nodes
    whole [] trees = inl refl
    whole (node ∷ nodes) trees = inr trees

-- with numbers that are the same
pub so_far_same : {R : Type 0} (remaining : R → Option (List ℕ)) (version count p q r s : ℕ) (nodes : List TreeNode) (old new : LineState R) → p ≡ q → r ≡ s
    → IsTreeSoFar remaining version count p r nodes old new → IsTreeSoFar remaining version count q s nodes old new
so_far_same remaining version count p q r s nodes old new trees left far =
    subst (λ n. IsTreeSoFar remaining version count n s nodes old new) trees (subst (λ n. IsTreeSoFar remaining version count p n nodes old new) left far)

-- what the line of a node that was read tells
abbrev pub ToldBy : {R : Type 0} → (R → Option (List ℕ)) → ℕ → ℕ → ℕ → LineState R → LineState R → NodeStart → Type 0
ToldBy remaining version p r old new start =
    (NodeFits version start × CanHave version (children_told start + p) r) × TakesLines remaining old new (node_line version start ∷ [])

pub told_as : {R : Type 0} (remaining : R → Option (List ℕ)) (version p r : ℕ) (old new : LineState R) (start other : NodeStart) → start ≡ other
    → ToldBy remaining version p r old new start → ToldBy remaining version p r old new other
told_as remaining version p r old new start other is told = subst (ToldBy remaining version p r old new) is told

-- one less, and then one more
pub again : (n : ℕ) → 0 < n → n ≡ suc (n - 1)
again n some = omega arith
