-- Trees of nodes that stand behind one another.
use Rattle.std.proofs.Common.{◌≡◌, ℕ, suc, ◌+◌, ◌≤◌, ◌++◌, List, [], ◌∷◌, refl, ap, sym, ◌∙◌, append_assoc, arith}
use Rattle.tl_geom.specs.declared.rect.Rect.{Rect}
use Rattle.tl_geom.specs.Rectangle.{Covers}
use Rattle.tl_tree_index.specs.declared.node.TreeNode.{TreeNode}
use Rattle.tl_tree_index.specs.declared.node.TreeNode.TheVariants.{Inner}
use Rattle.tl_tree_index.specs.Preorder.{AreTrees, no_tree, leaf_first, inner_first}
use Rattle.tl_tree_index.specs.Trees.{Forest, none, leaf, inner, depth, leaf_items, first_trees, other_trees, trees_of, tree_of}
use Rattle.tl_tree_index.specs.Fits.{CoversAll, CoversBelow}
use Rattle.tl_tree_index.specs.Packed.{tree_count, AreSized, IsEvenlySplit}

-- the trees of both, in order
abbrev pub joined : Forest → Forest → Forest
joined none g = g
joined (leaf r xs others) g = leaf r xs (joined others g)
joined (inner r children others) g = inner r children (joined others g)

joined-none : (f : Forest) → joined f none ≡ f
joined-none none = refl
joined-none (leaf r xs others) = ap (leaf r xs) (joined-none others)
joined-none (inner r children others) = ap (inner r children) (joined-none others)

-- what some whole trees are, with others behind them
record AreFirst (nodes : List TreeNode) (p : ℕ) : Type 0 where
  behind : (more : List TreeNode) → trees_of (nodes ++ more) ≡ joined (trees_of nodes) (trees_of more)
  first : (g : Forest) → first_trees p (joined (trees_of nodes) g) ≡ trees_of nodes
  other : (g : Forest) → other_trees p (joined (trees_of nodes) g) ≡ g

are_first : (nodes : List TreeNode) (p : ℕ) → AreTrees nodes p → AreFirst nodes p
are_first _ _ no_tree = record { behind = λ more. refl; first = λ g. refl; other = λ g. refl }
are_first _ _ (leaf_first r v nodes p t) =
    let rest = are_first nodes p t in
    record {
      behind = λ more. ap (leaf r v.items) (rest.behind more);
      first = λ g. ap (leaf r v.items) (rest.first g);
      other = λ g. rest.other g;
    }
are_first _ _ (inner_first r k children nodes p low high c t) =
    let below = are_first children k c in
    let rest = are_first nodes p t in
    let node : Forest → Forest = λ f. inner r (first_trees k f) (other_trees k f) in
    let opened : (more : List TreeNode) → trees_of (Inner r k ∷ (children ++ more)) ≡ inner r (trees_of children) (trees_of more) =
    λ more. ap node (below.behind more) ∙ (ap (λ f. inner r f (other_trees k (joined (trees_of children) (trees_of more)))) (below.first (trees_of more)) ∙ ap (inner r (trees_of children)) (below.other (trees_of more))) in
    record {
      behind = λ more. ap (λ l. trees_of (Inner r k ∷ l)) (append_assoc children nodes more) ∙ (opened (nodes ++ more) ∙ (ap (inner r (trees_of children)) (rest.behind more) ∙ ap (λ f. joined f (trees_of more)) (sym (opened nodes))));
      first = λ g. ap (λ f. first_trees (suc p) (joined f g)) (opened nodes) ∙ (ap (inner r (trees_of children)) (rest.first g) ∙ sym (opened nodes));
      other = λ g. ap (λ f. other_trees (suc p) (joined f g)) (opened nodes) ∙ rest.other g;
    }

-- a list of whole trees behind others
pub trees_behind : (nodes more : List TreeNode) (p : ℕ) → AreTrees nodes p → trees_of (nodes ++ more) ≡ joined (trees_of nodes) (trees_of more)
trees_behind nodes more p t = (are_first nodes p t).behind more

-- an inner node before its children
pub trees_inner : (r : Rect) (k : ℕ) (children : List TreeNode) → AreTrees children k → trees_of (Inner r k ∷ children) ≡ inner r (trees_of children) none
trees_inner r k children c =
    let below = are_first children k c in
    let f = trees_of children in
    let whole : first_trees k f ≡ f = ap (first_trees k) (sym (joined-none f)) ∙ below.first none in
    let rest : other_trees k f ≡ none = ap (other_trees k) (sym (joined-none f)) ∙ below.other none in
    ap (λ g. inner r g (other_trees k f)) whole ∙ ap (inner r f) rest

-- one whole tree is the tree of its nodes
pub tree_whole : (nodes : List TreeNode) → AreTrees nodes 1 → tree_of nodes ≡ trees_of nodes
tree_whole nodes t = ap (first_trees 1) (sym (joined-none (trees_of nodes))) ∙ (are_first nodes 1 t).first none

pub items_joined : (f g : Forest) → leaf_items (joined f g) ≡ leaf_items f ++ leaf_items g
items_joined none g = refl
items_joined (leaf r xs others) g = ap (λ l. xs ++ l) (items_joined others g) ∙ sym (append_assoc xs (leaf_items others) (leaf_items g))
items_joined (inner r children others) g = ap (λ l. leaf_items children ++ l) (items_joined others g) ∙ sym (append_assoc (leaf_items children) (leaf_items others) (leaf_items g))

pub depth_joined : (f g : Forest) (d : ℕ) → depth f ≤ d → depth g ≤ d → depth (joined f g) ≤ d
depth_joined none g d hf hg = hg
depth_joined (leaf r xs others) g d hf hg = let rest = depth_joined others g d (omega (arith, hf)) hg in omega (arith, hf, rest)
depth_joined (inner r children others) g d hf hg = let rest = depth_joined others g d (omega (arith, hf)) hg in omega (arith, hf, rest)

pub covers_joined : (bounds : ℕ → Rect) (f g : Forest) → CoversBelow bounds f → CoversBelow bounds g → CoversBelow bounds (joined f g)
covers_joined bounds none g hf hg = hg
covers_joined bounds (leaf r xs others) g hf hg = (hf.0, covers_joined bounds others g hf.1 hg)
covers_joined bounds (inner r children others) g hf hg = (hf.0, hf.1, covers_joined bounds others g hf.2 hg)

pub split_joined : (f g : Forest) → IsEvenlySplit f → IsEvenlySplit g → IsEvenlySplit (joined f g)
split_joined none g hf hg = hg
split_joined (leaf r xs others) g hf hg = (hf.0, split_joined others g hf.1 hg)
split_joined (inner r children others) g hf hg = (hf.0, hf.1, split_joined others g hf.2 hg)

pub sized_joined : (least most : ℕ) (f g : Forest) → AreSized least most f → AreSized least most g → AreSized least most (joined f g)
sized_joined least most none g hf hg = hg
sized_joined least most (leaf r xs others) g hf hg = (hf.0, hf.1, sized_joined least most others g hf.2 hg)
sized_joined least most (inner r children others) g hf hg = (hf.0, hf.1, sized_joined least most others g hf.2 hg)

pub count_joined : (f g : Forest) → tree_count (joined f g) ≡ tree_count f + tree_count g
count_joined none g = omega arith
count_joined (leaf r xs others) g = omega (arith, count_joined others g)
count_joined (inner r children others) g = omega (arith, count_joined others g)

-- wider bounds
pub sized_within : (least most low high : ℕ) (f : Forest) → low ≤ least → most ≤ high → AreSized least most f → AreSized low high f
sized_within least most low high none l m h = tt
sized_within least most low high (leaf r xs others) l m h = (omega (arith, l, h.0), omega (arith, m, h.1), sized_within least most low high others l m h.2)
sized_within least most low high (inner r children others) l m h = (omega (arith, l, h.0), omega (arith, m, h.1), sized_within least most low high others l m h.2)

-- a greater rectangle covers what a rectangle covers
pub covers_more : (bounds : ℕ → Rect) (r s : Rect) (xs : List ℕ) → Covers s r → CoversAll bounds r xs → CoversAll bounds s xs
covers_more bounds r s [] c h = tt
covers_more bounds r s (x ∷ xs) c h = ((λ p q. c p (h.0 p q)), covers_more bounds r s xs c h.1)
