-- Nodes pushed behind others.
use Rattle.std.proofs.Common.{◌≡◌, ℕ, zero, suc, ◌+◌, ◌*◌, ◌/◌, ◌^◌, ◌<◌, ◌≤◌, ◌++◌, List, [], ◌∷◌, length, set, refl, ap, sym, subst, ◌∙◌, append_assoc, append-nil, length-append, add-one, arith, inl, inr, lit<, min}
use Rattle.std.proofs.Math.Nat.{pow-succ'}
use Rattle.std.proofs.lemmas.Bool.{cases_lt}
use Rattle.std.proofs.lemmas.List.Elements.{All-append, All-cons, All-nil}
use Rattle.arrayvec.specs.ArrayVec.{ArrayVec}
use Rattle.tl_geom.specs.declared.rect.Rect.{Rect}
use Rattle.tl_geom.specs.Rectangle.{Covers}
use Rattle.tl_tree_index.specs.declared.node.TreeNode.{TreeNode}
use Rattle.tl_tree_index.specs.declared.node.TreeNode.TheVariants.{Inner, Leaf}
use Rattle.tl_tree_index.specs.Fits.{CoversAll, CoversBelow}
use Rattle.tl_tree_index.specs.Preorder.{AreTrees, no_tree, leaf_first, inner_first}
use Rattle.tl_tree_index.specs.Trees.{Forest, none, inner, depth, leaf_items, trees_of}
use Rattle.tl_tree_index.proofs.Covering.{all-append}
use Rattle.tl_tree_index.specs.Packed.{IsFilled, IsShallow, AreSized, IsEvenlySplit, tree_count}
use Rattle.tl_tree_index.specs.Keeping.Nodes.{most_items, Push, AreNodesOver}
use Rattle.tl_tree_index.proofs.Forests.{tree_whole, trees_behind, trees_inner, items_joined, depth_joined, covers_joined, covers_more, split_joined, sized_joined, sized_within, count_joined}

-- one tree more behind some
trees_append : (xs ys : List TreeNode) (p : ℕ) → AreTrees xs p → AreTrees ys 1 → AreTrees (xs ++ ys) (suc p)
trees_append _ ys _ no_tree u = u
trees_append _ ys _ (leaf_first r v nodes p t) u = leaf_first r v (nodes ++ ys) (suc p) (trees_append nodes ys p t u)
trees_append _ ys _ (inner_first r k children nodes p low high first t) u =
    subst (λ l. AreTrees (Inner r k ∷ l) (suc (suc p))) (sym (append_assoc children nodes ys))
    (inner_first r k children (nodes ++ ys) (suc p) low high first (trees_append nodes ys p t u))

-- a place behind some nodes is written
set_behind : (old rest : List TreeNode) (x y : TreeNode) → set (old ++ x ∷ rest) (length old) y ≡ old ++ y ∷ rest
set_behind [] rest x y = refl
set_behind (z ∷ old) rest x y = ap (λ l. z ∷ l) (set_behind old rest x y)

one_item : (d : ℕ) → 1 ≤ most_items d
unfolding most_items
one_item zero = omega arith
one_item (suc d) = omega (arith, pow-succ' 8 d, one_item d)

pub items_times : (d : ℕ) → most_items (suc d) ≡ 8 * most_items d
unfolding most_items
items_times d = pow-succ' 8 d

pub eight_items : (d : ℕ) → 8 ≤ most_items (suc d)
eight_items d = omega (arith, items_times d, one_item d)

eight_at_first : most_items 1 ≡ 8
unfolding most_items
eight_at_first = refl

-- a root is one deeper than what is below it
deep : (f : Forest) (r : Rect) (n most : ℕ) → 8 < n →
    ((d : ℕ) → n ≤ most_items (suc (suc d)) → most ≤ most_items (suc d)) →
    ((d : ℕ) → most ≤ most_items (suc d) → depth f ≤ suc d) →
    (d : ℕ) → n ≤ most_items (suc d) → depth (inner r f none) ≤ suc d
deep f r n most many below shallow zero l = absurd (omega (arith, many, l, eight_at_first))
deep f r n most many below shallow (suc d) l = let s = shallow d (below d l) in omega (arith, s)

eleven : most_items 11 ≡ 8589934592
unfolding most_items
eleven = refl

-- as many levels as the items need
with_levels : (f : Forest) (n : ℕ) → ((d : ℕ) → n ≤ most_items (suc d) → depth f ≤ suc d) → IsShallow n f
unfolding most_items
with_levels f n h zero some l = absurd (omega (arith, some))
with_levels f n h (suc d) some l = h d l

module _ (bounds : ℕ → Rect) where
  pub push_start : (least most : ℕ) (base now : List TreeNode) (r : Rect) → now ≡ base → Push bounds 0 least most base now [] r
  push_start least most base now r e =
      record {
        pushed = [];
        appended = e ∙ sym (append-nil base);
        trees = no_tree;
        nodes = All-nil _;
        over = refl;
        covers = tt;
        covered = tt;
        shallow = λ d h. omega arith;
        few = λ h. omega arith;
        leaves = λ h. refl;
        split = tt;
        sized = tt;
        parts = refl;
      }

  pub push_leaf_node : (old new : List TreeNode) (r : Rect) (v : ArrayVec ℕ) (items : List ℕ) →
      new ≡ old ++ Leaf r v ∷ [] → v.items ≡ items → 0 < length items → length items ≤ 8 → CoversAll bounds r items →
      Push bounds 1 (length items) (length items) old new items r
  push_leaf_node old new r v items e same some eight covered =
      let n : 0 < length v.items = subst (λ l. 0 < length l) (sym same) some in
      record {
        pushed = Leaf r v ∷ [];
        appended = e;
        trees = leaf_first r v [] 0 no_tree;
        nodes = All-cons IsFilled (Leaf r v) [] n (All-nil _);
        over = append-nil v.items ∙ same;
        covers = (subst (CoversAll bounds r) (sym same) covered, tt);
        covered = covered;
        shallow = λ d h. omega arith;
        few = λ h. omega (arith, h);
        leaves = λ h. refl;
        split = (subst (λ l. length l ≤ 8) (sym same) eight, tt);
        sized = (omega (arith, ap length same), omega (arith, ap length same), tt);
        parts = refl;
      }

  -- one tree more is pushed
  pub push_more : (p least most size : ℕ) (old mid new : List TreeNode) (items more all : List ℕ) (r s t : Rect) →
      Push bounds p least most old mid items r → Push bounds 1 size size mid new more s →
      all ≡ items ++ more → Covers t r → Covers t s → least ≤ size → size ≤ most →
      Push bounds (p + 1) least most old new all t
  push_more p least most size old mid new items more all r s t h one e cr cs low high =
      let behind = trees_behind h.pushed one.pushed p h.trees in
      let long = length-append h.pushed one.pushed in
      record {
        pushed = h.pushed ++ one.pushed;
        appended = one.appended ∙ (ap (λ l. l ++ one.pushed) h.appended ∙ append_assoc old h.pushed one.pushed);
        trees = subst (AreTrees (h.pushed ++ one.pushed)) (sym (add-one p)) (trees_append h.pushed one.pushed p h.trees one.trees);
        nodes = All-append IsFilled h.pushed one.pushed h.nodes one.nodes;
        over = ap leaf_items behind ∙ (items_joined (trees_of h.pushed) (trees_of one.pushed) ∙ (ap (λ l. l ++ leaf_items (trees_of one.pushed)) h.over ∙ (ap (λ l. items ++ l) one.over ∙ sym e)));
        covers = subst (CoversBelow bounds) (sym behind) (covers_joined bounds (trees_of h.pushed) (trees_of one.pushed) h.covers one.covers);
        covered = subst (CoversAll bounds t) (sym e) ((all-append bounds t items more).1 (covers_more bounds r t items cr h.covered, covers_more bounds s t more cs one.covered));
        shallow = λ d l. subst (λ f. depth f ≤ suc d) (sym behind) (depth_joined (trees_of h.pushed) (trees_of one.pushed) (suc d) (h.shallow d l) (one.shallow d (omega (arith, l, high))));
        few = λ l. omega (arith, h.few l, one.few (omega (arith, l, low)), long, ap length e, length-append items more);
        leaves = λ l. omega (arith, h.leaves l, one.leaves (omega (arith, l, high)), long);
        split = subst IsEvenlySplit (sym behind) (split_joined (trees_of h.pushed) (trees_of one.pushed) h.split one.split);
        sized = subst (AreSized least most) (sym behind)
            (sized_joined least most (trees_of h.pushed) (trees_of one.pushed) h.sized (sized_within size size least most (trees_of one.pushed) low high one.sized));
        parts = ap tree_count behind ∙ (count_joined (trees_of h.pushed) (trees_of one.pushed) ∙ omega (arith, h.parts, one.parts));
      }

  -- the root is written before its children
  pub push_root : (k least most : ℕ) (old now new : List TreeNode) (room r : Rect) (items : List ℕ) → 2 ≤ k → k ≤ 8 → 8 < length items →
      k ≡ min 8 ((length items + 7) / 8) → 4 ≤ least → most ≤ least + 1 →
      Push bounds k least most (old ++ Inner room k ∷ []) now items r → new ≡ set now (length old) (Inner r k) →
      ((d : ℕ) → length items ≤ most_items (suc (suc d)) → most ≤ most_items (suc d)) →
      Push bounds 1 (length items) (length items) old new items r
  push_root k least most old now new room r items low high many parts four even h e below =
      let joined' : now ≡ old ++ Inner room k ∷ h.pushed = h.appended ∙ append_assoc old (Inner room k ∷ []) h.pushed in
      let forest = trees_inner r k h.pushed h.trees in
      record {
        pushed = Inner r k ∷ h.pushed;
        appended = e ∙ (ap (λ l. set l (length old) (Inner r k)) joined' ∙ set_behind old h.pushed (Inner room k) (Inner r k));
        trees = subst (λ l. AreTrees (Inner r k ∷ l) 1) (append-nil h.pushed) (inner_first r k h.pushed [] 0 low high h.trees no_tree);
        nodes = All-cons IsFilled (Inner r k) h.pushed tt h.nodes;
        over = ap leaf_items forest ∙ (append-nil (leaf_items (trees_of h.pushed)) ∙ h.over);
        covers = subst (CoversBelow bounds) (sym forest) (subst (CoversAll bounds r) (sym h.over) h.covered, h.covers, tt);
        covered = h.covered;
        shallow = λ d l. subst (λ f. depth f ≤ suc d) (sym forest) (deep (trees_of h.pushed) r (length items) most many below h.shallow d l);
        few = λ l. omega (arith, h.few four, low);
        leaves = λ l. absurd (omega (arith, l, many));
        split = subst IsEvenlySplit (sym forest) (
          record {
            many = subst (λ l. 8 < length l) (sym h.over) many;
            parts = h.parts ∙ (parts ∙ ap (λ l. min 8 ((length l + 7) / 8)) (sym h.over));
            least = least;
            even = sized_within least most least (least + 1) (trees_of h.pushed) (omega arith) even h.sized;
          },
          h.split,
          tt,
        );
        sized = subst (AreSized (length items) (length items)) (sym forest) (omega (arith, ap length h.over), omega (arith, ap length h.over), tt);
        parts = ap tree_count forest;
      }

  -- no node is over no item
  pub none_over : (nodes : List TreeNode) (items : List ℕ) → nodes ≡ [] → items ≡ [] → AreNodesOver bounds nodes items
  none_over nodes items e f =
      let P : List TreeNode → Type 0 = λ l. AreNodesOver bounds l items in
      let none_are : AreNodesOver bounds [] items =
      record {
        whole = inl refl;
        counted = lit< tt;
        each = All-nil _;
        over = sym f;
        covers = tt;
        shallow = λ d some l. omega arith;
        levels = omega arith;
        split = tt;
      } in
      subst P (sym e) none_are

  -- one whole tree is over its items
  pub tree_over_items : (old nodes : List TreeNode) (items : List ℕ) (n : ℕ) (r : Rect) → old ≡ [] → n ≡ length items → n < 2 ^ 32 →
      Push bounds 1 n n old nodes items r → AreNodesOver bounds nodes items
  tree_over_items old nodes items n r start e small h =
      let P : List TreeNode → Type 0 = λ l. AreNodesOver bounds l items in
      let is : nodes ≡ h.pushed = h.appended ∙ ap (λ l. l ++ h.pushed) start in
      let whole = tree_whole h.pushed h.trees in
      let counted : length h.pushed < 2 ^ 32 = elim (cases_lt 8 n) [
        | inl more ↦ omega (arith, h.few (omega (arith, more)), e, small)
        | inr few ↦ omega (arith, h.leaves few)
      ] in
      let levels : depth (trees_of h.pushed) ≤ 11 = h.shallow 10 (omega (arith, eleven, small)) in
      let shallow : IsShallow n (trees_of h.pushed) = with_levels (trees_of h.pushed) n h.shallow in
      let over : AreNodesOver bounds h.pushed items =
      record {
        whole = inr h.trees;
        counted = counted;
        each = h.nodes;
        over = ap leaf_items whole ∙ h.over;
        covers = subst (CoversBelow bounds) (sym whole) h.covers;
        shallow = subst (λ f. IsShallow (length items) f) (sym whole) (subst (λ k. IsShallow k (trees_of h.pushed)) e shallow);
        levels = omega (arith, levels, ap depth whole);
        split = subst IsEvenlySplit (sym whole) h.split;
      } in
      subst P (sym is) over
