-- Trees that split into a first one and the others.
use Rattle.std.proofs.Common.{◌≡◌, ℕ, ◌+◌, ◌<◌, List, [], ◌∷◌, ◌++◌, refl, sym, ap, ◌∙◌, subst, arith}
use Rattle.tl_geom.specs.declared.rect.Rect.{Rect}
use Rattle.tl_tree.specs.declared.walk.Tree.{Tree}
use Rattle.tl_tree.specs.declared.walk.Below.{Below}
use Rattle.tl_tree.specs.declared.walk.Below.TheVariants.{Items, Children}
use Rattle.tl_tree_index.specs.Pairs.{cross_sum, pair_sum, AllCross, AllPairs}
use Rattle.tl_tree.proofs.PairLemmas.{cross-nil, cross-append_right, pair-append, all_cross-nil, all_cross-join, all_pairs-join}
use Rattle.tl_tree_index.specs.Fits.{AreBelow, CoversAll, CoversBelow}
use Rattle.tl_tree_index.specs.Trees.{Forest, none, leaf_items, node_count}
use Rattle.tl_tree.specs.Keeping.Walking.{followed, items_below, size_of, AreSound, IsSound, CoveredBelow, Collects}
use Rattle.tl_tree.proofs.Hitting.{collects-both}
use Rattle.tl_tree.proofs.Steps.{below-parts as below-append}

pub cross-none : (f : ℕ → ℕ → ℕ) (xs : List ℕ) (ts : Forest) → ts ≡ none → cross_sum f xs (leaf_items ts) ≡ 0
cross-none f xs ts e = ap (λ us. cross_sum f xs (leaf_items us)) e ∙ cross-nil f xs

pub pair-none : (f : ℕ → ℕ → ℕ) (ts : Forest) → ts ≡ none → pair_sum f (leaf_items ts) ≡ 0
pair-none f ts e = ap (λ us. pair_sum f (leaf_items us)) e

pub all_cross-none : (P : ℕ → ℕ → Type 0) (xs : List ℕ) (ts : Forest) → ts ≡ none → AllCross P xs (leaf_items ts)
all_cross-none P xs ts e = let Q : Forest → Type 0 = λ us. AllCross P xs (leaf_items us) in subst Q (sym e) (all_cross-nil P xs)

pub all_pairs-none : (P : ℕ → ℕ → Type 0) (ts : Forest) → ts ≡ none → AllPairs P (leaf_items ts)
all_pairs-none P ts e = let Q : Forest → Type 0 = λ us. AllPairs P (leaf_items us) in subst Q (sym e) tt

module _ {W : Type 0} (see : W → Forest) where
  pub items-followed : (r : Rect) (t : Below W) (others : Forest) → leaf_items (followed see r t others) ≡ items_below see t ++ leaf_items others
  items-followed r (Items xs) others = refl
  items-followed r (Children w) others = refl

  pub nodes-followed : (r : Rect) (t : Below W) (others : Forest) → node_count (followed see r t others) ≡ size_of see t + node_count others
  nodes-followed r (Items xs) others = refl
  nodes-followed r (Children w) others = refl

  cross-followed : (f : ℕ → ℕ → ℕ) (xs : List ℕ) (r : Rect) (t : Below W) (others : Forest) → cross_sum f xs (leaf_items (followed see r t others)) ≡ cross_sum f xs (items_below see t) + cross_sum f xs (leaf_items others)
  cross-followed f xs r t others = ap (cross_sum f xs) (items-followed r t others) ∙ cross-append_right f xs (items_below see t) (leaf_items others)

  -- pairs with trees that split are those with the first one and those with the others
  pub cross-split : (f : ℕ → ℕ → ℕ) (xs : List ℕ) (ts : Forest) (r : Rect) (t : Below W) (others : Forest) → ts ≡ followed see r t others → cross_sum f xs (leaf_items ts) ≡ cross_sum f xs (items_below see t) + cross_sum f xs (leaf_items others)
  cross-split f xs ts r t others e = ap (λ us. cross_sum f xs (leaf_items us)) e ∙ cross-followed f xs r t others

  pair-followed : (f : ℕ → ℕ → ℕ) (r : Rect) (t : Below W) (others : Forest) → pair_sum f (leaf_items (followed see r t others)) ≡ pair_sum f (items_below see t) + cross_sum f (items_below see t) (leaf_items others) + pair_sum f (leaf_items others)
  pair-followed f r t others = ap (pair_sum f) (items-followed r t others) ∙ pair-append f (items_below see t) (leaf_items others)

  pub pair-split : (f : ℕ → ℕ → ℕ) (ts : Forest) (r : Rect) (t : Below W) (others : Forest) → ts ≡ followed see r t others → pair_sum f (leaf_items ts) ≡ pair_sum f (items_below see t) + cross_sum f (items_below see t) (leaf_items others) + pair_sum f (leaf_items others)
  pair-split f ts r t others e = ap (λ us. pair_sum f (leaf_items us)) e ∙ pair-followed f r t others

  pub size-above_0 : (t : Below W) → 0 < size_of see t
  size-above_0 (Items xs) = omega arith
  size-above_0 (Children w) = omega arith

  pub all_cross-split : (P : ℕ → ℕ → Type 0) (xs : List ℕ) (ts : Forest) (r : Rect) (t : Below W) (others : Forest) → ts ≡ followed see r t others → AllCross P xs (items_below see t) → AllCross P xs (leaf_items others) → AllCross P xs (leaf_items ts)
  all_cross-split P xs ts r t others e h k =
      let Q : List ℕ → Type 0 = AllCross P xs in
      subst Q (sym (ap leaf_items e ∙ items-followed r t others)) (all_cross-join P xs (items_below see t) (leaf_items others) h k)

  pub all_pairs-split : (P : ℕ → ℕ → Type 0) (ts : Forest) (r : Rect) (t : Below W) (others : Forest) → ts ≡ followed see r t others → AllPairs P (items_below see t) → AllCross P (items_below see t) (leaf_items others) → AllPairs P (leaf_items others) → AllPairs P (leaf_items ts)
  all_pairs-split P ts r t others e h c k =
      let Q : List ℕ → Type 0 = AllPairs P in
      subst Q (sym (ap leaf_items e ∙ items-followed r t others)) (all_pairs-join P (items_below see t) (leaf_items others) h c k)

  pub collects-split : (hit : ℕ → Type 0) (ts : Forest) (r : Rect) (t : Below W) (others : Forest) (old mid new : List ℕ) → ts ≡ followed see r t others → Collects hit (items_below see t) old mid → Collects hit (leaf_items others) mid new → Collects hit (leaf_items ts) old new
  collects-split hit ts r t others old mid new e c d =
      let P : List ℕ → Type 0 = λ xs. Collects hit xs old new in
      subst P (sym (ap leaf_items e ∙ items-followed r t others)) (collects-both hit (items_below see t) (leaf_items others) old mid new c d)

  pub nodes-split : (ts : Forest) (r : Rect) (t : Below W) (others : Forest) → ts ≡ followed see r t others → node_count ts ≡ size_of see t + node_count others
  nodes-split ts r t others e = ap node_count e ∙ nodes-followed r t others

  module _ (n : ℕ) (b : ℕ → Rect) where
    covers-split : (r : Rect) (t : Below W) (others : Forest) → CoversBelow b (followed see r t others) → CoversAll b r (items_below see t) × CoveredBelow b see t × CoversBelow b others
    covers-split r (Items xs) others h = (h.0, tt, h.1)
    covers-split r (Children w) others h = h

    sound-split : (t : Tree W) (others : Forest) → AreSound n b (followed see t.rect t.below others) → IsSound n b see t × AreSound n b others
    sound-split t others h =
        let P : List ℕ → Type 0 = AreBelow n in
        let k = below-append n (items_below see t.below) (leaf_items others) (subst P (items-followed t.rect t.below others) h.known) in
        let c = covers-split t.rect t.below others h.covers in
        (record { known = k.0; covers = c.0; below = c.1 }, record { known = k.1; covers = c.2 })

    pub sound-first : (f : Forest) (t : Tree W) (others : Forest) → f ≡ followed see t.rect t.below others → AreSound n b f → IsSound n b see t
    sound-first f t others e h = (sound-split t others (let P : Forest → Type 0 = AreSound n b in subst P e h)).0

    pub sound-others : (f : Forest) (t : Tree W) (others : Forest) → f ≡ followed see t.rect t.below others → AreSound n b f → AreSound n b others
    sound-others f t others e h = (sound-split t others (let P : Forest → Type 0 = AreSound n b in subst P e h)).1

    pub sound-children : (t : Tree W) (w : W) → t.below ≡ Children w → IsSound n b see t → AreSound n b (see w)
    sound-children t w e h =
        let P : Below W → Type 0 = λ t. AreBelow n (items_below see t) in
        let Q : Below W → Type 0 = CoveredBelow b see in
        record { known = subst P e h.known; covers = subst Q e h.below }
