-- What is found of trees, from what is found of the first one and of the others.
use Rattle.std.proofs.Common.{◌≡◌, ℕ, zero, suc, ◌+◌, ◌-◌, ◌<◌, ◌≤◌, inl, inr, ◌↔◌, Bool, true, false, List, length, get_or, replicate, Option, Some, None, pos, refl, sym, subst, arith}
use Rattle.tl_geom.specs.declared.rect.Rect.{Rect}
use Rattle.tl_geom.specs.Rectangle.{Covers}
use Rattle.tl_tree_index.specs.declared.fault.TreeFault.{TreeFault}
use Rattle.tl_tree_index.specs.declared.fault.TreeFault.TheVariants.{UnknownIndex, IndexTwice, IndexMissing, RectTooSmall}
use Rattle.tl_tree.specs.declared.walk.Below.{Below}
use Rattle.tl_tree.specs.declared.walk.Below.TheVariants.{Items, Children}
use Rattle.tl_tree_index.specs.Fits.{AreBelow, CoversAll, CoversBelow, IsTooSmall, Fits, IsFaultOf, MayFind}
use Rattle.tl_tree_index.specs.Hits.{times}
use Rattle.tl_tree_index.specs.Trees.{Forest, none, leaf, inner, leaf_items, node_count}
use Rattle.tl_tree.specs.Keeping.Walking.{followed, items_below, size_of}
use Rattle.tl_tree_index.specs.Keeping.Marked.{mark_at, AreMarked}
use Rattle.tl_tree.specs.Keeping.Checking.{IsHull, AreChecked, IsChecked, IsFaultAt, IsFaultBelow}
use Rattle.tl_tree_index.proofs.Times.{times-append, times-above}
use Rattle.tl_tree.proofs.Hulls.{hull-both, hull-none, nothing-empty}
use Rattle.tl_tree_index.proofs.Marks.{marked-both, unmarked, is-marked}

pub none-checked : (b : ℕ → Rect) (marks : List Bool) (f : Forest) → f ≡ none → AreChecked b f marks marks (record { xmin = pos 1; ymin = pos 1; xmax = pos 0; ymax = pos 0 })
none-checked b marks f e =
    let P : Forest → Type 0 = λ g. AreChecked b g marks marks (record { xmin = pos 1; ymin = pos 1; xmax = pos 0; ymax = pos 0 }) in
    subst P (sym e) (record { marked = record { complete = refl; known = tt; marked = λ i. omega arith }; covers = tt; around = hull-none b _ nothing-empty })

module _ {W : Type 0} (b : ℕ → Rect) (see : W → Forest) (old : List Bool) where
  pub checked-items : (t : Below W) (xs : _) (new : List Bool) (hull : Rect) → t ≡ Items xs → AreMarked old xs.now new → IsHull b xs.now hull → IsChecked b see t old new hull
  checked-items t xs new hull e m h =
      let P : Below W → Type 0 = λ u. IsChecked b see u old new hull in
      subst P (sym e) (record { marked = m; covers = tt; around = h })

  pub checked-children : (t : Below W) (w : W) (new : List Bool) (hull : Rect) → t ≡ Children w → AreChecked b (see w) old new hull → IsChecked b see t old new hull
  checked-children t w new hull e h =
      let P : Below W → Type 0 = λ u. IsChecked b see u old new hull in
      subst P (sym e) (record { marked = h.marked; covers = h.covers; around = h.around })

  fault-of_first : (number : ℕ) (r : Rect) (t : Below W) (others : Forest) (fault : TreeFault) → IsFaultBelow b old (number + 1) see t fault → IsFaultAt b old number (followed see r t others) fault
  fault-of_first number r (Items xs) others (UnknownIndex i) h = (h.0, omega (arith, h.1, times-append i xs.now (leaf_items others)))
  fault-of_first number r (Items xs) others (IndexTwice i) h = omega (arith, h, times-append i xs.now (leaf_items others))
  fault-of_first number r (Items xs) others (IndexMissing i) h = h
  fault-of_first number r (Items xs) others (RectTooSmall k) h = absurd h
  fault-of_first number r (Children w) others (UnknownIndex i) h = (h.0, omega (arith, h.1, times-append i (leaf_items (see w)) (leaf_items others)))
  fault-of_first number r (Children w) others (IndexTwice i) h = omega (arith, h, times-append i (leaf_items (see w)) (leaf_items others))
  fault-of_first number r (Children w) others (IndexMissing i) h = h
  fault-of_first number r (Children w) others (RectTooSmall k) h =
      let P : ℕ → Type 0 = IsTooSmall b (inner r (see w) others) in
      let e : suc (k - (number + 1)) ≡ k - number = omega (arith, h.0) in
      (omega (arith, h.0), subst P e (inl h.1))

  pub fault-first : (number : ℕ) (f : Forest) (r : Rect) (t : Below W) (others : Forest) (fault : TreeFault) → f ≡ followed see r t others → IsFaultBelow b old (number + 1) see t fault → IsFaultAt b old number f fault
  fault-first number f r t others fault e h =
      let P : Forest → Type 0 = λ g. IsFaultAt b old number g fault in
      subst P (sym e) (fault-of_first number r t others fault h)

  root-too_small : (r : Rect) (t : Below W) (others : Forest) → (CoversAll b r (items_below see t) → ⊥) → IsTooSmall b (followed see r t others) 0
  root-too_small r (Items xs) others h = h
  root-too_small r (Children w) others h = h

  pub too-small : (number : ℕ) (f : Forest) (r : Rect) (t : Below W) (others : Forest) → f ≡ followed see r t others → (CoversAll b r (items_below see t) → ⊥) → (number ≤ number) × IsTooSmall b f (number - number)
  too-small number f r t others e h =
      let P : Forest → Type 0 = λ g. IsTooSmall b g (number - number) in
      let Q : ℕ → Type 0 = IsTooSmall b (followed see r t others) in
      let z : 0 ≡ number - number = omega arith in
      (omega arith, subst P (sym e) (subst Q z (root-too_small r t others h)))

  fault-of_others : (number next : ℕ) (r : Rect) (t : Below W) (others : Forest) (mid : List Bool) (fault : TreeFault) → AreMarked old (items_below see t) mid → next ≡ number + size_of see t → IsFaultAt b mid next others fault → IsFaultAt b old number (followed see r t others) fault
  fault-of_others number next r (Items xs) others mid (UnknownIndex i) m e h = (omega (arith, h.0, m.complete), omega (arith, h.1, times-append i xs.now (leaf_items others)))
  fault-of_others number next r (Items xs) others mid (IndexTwice i) m e h = omega (arith, h, m.marked i, times-append i xs.now (leaf_items others))
  fault-of_others number next r (Items xs) others mid (IndexMissing i) m e h = h
  fault-of_others number next r (Items xs) others mid (RectTooSmall k) m e h =
      let P : ℕ → Type 0 = IsTooSmall b (leaf r xs.now others) in
      let p : suc (k - next) ≡ k - number = omega (arith, h.0, e) in
      (omega (arith, h.0, e), subst P p h.1)
  fault-of_others number next r (Children w) others mid (UnknownIndex i) m e h = (omega (arith, h.0, m.complete), omega (arith, h.1, times-append i (leaf_items (see w)) (leaf_items others)))
  fault-of_others number next r (Children w) others mid (IndexTwice i) m e h = omega (arith, h, m.marked i, times-append i (leaf_items (see w)) (leaf_items others))
  fault-of_others number next r (Children w) others mid (IndexMissing i) m e h = h
  fault-of_others number next r (Children w) others mid (RectTooSmall k) m e h =
      let P : ℕ → Type 0 = IsTooSmall b (inner r (see w) others) in
      let Q : ℕ → Type 0 = IsTooSmall b others in
      let d = node_count (see w) in
      let p : suc ((k - next) + d) ≡ k - number = omega (arith, h.0, e) in
      let q : k - next ≡ ((k - next) + d) - d = omega arith in
      (omega (arith, h.0, e), subst P p (inr (omega arith, subst Q q h.1)))

  pub fault-others : (number next : ℕ) (f : Forest) (r : Rect) (t : Below W) (others : Forest) (mid : List Bool) (fault : TreeFault) → f ≡ followed see r t others → AreMarked old (items_below see t) mid → next ≡ number + size_of see t → IsFaultAt b mid next others fault → IsFaultAt b old number f fault
  fault-others number next f r t others mid fault e m n h =
      let P : Forest → Type 0 = λ g. IsFaultAt b old number g fault in
      subst P (sym e) (fault-of_others number next r t others mid fault m n h)

  checked-followed : (r : Rect) (t : Below W) (others : Forest) (mid new : List Bool) (h k hull : Rect) → IsChecked b see t old mid h → Covers r h → AreChecked b others mid new k → ((s : Rect) → Covers s hull ↔ (Covers s h × Covers s k)) → AreChecked b (followed see r t others) old new hull
  checked-followed r (Items xs) others mid new h k hull c covers d join =
      record { marked = marked-both old mid new xs.now (leaf_items others) c.marked d.marked; covers = ((c.around r).0 covers, d.covers); around = hull-both b xs.now (leaf_items others) h k hull c.around d.around join }
  checked-followed r (Children w) others mid new h k hull c covers d join =
      record { marked = marked-both old mid new (leaf_items (see w)) (leaf_items others) c.marked d.marked; covers = ((c.around r).0 covers, c.covers, d.covers); around = hull-both b (leaf_items (see w)) (leaf_items others) h k hull c.around d.around join }

  pub checked-both : (f : Forest) (r : Rect) (t : Below W) (others : Forest) (mid new : List Bool) (h k hull : Rect) → f ≡ followed see r t others → IsChecked b see t old mid h → Covers r h → AreChecked b others mid new k → ((s : Rect) → Covers s hull ↔ (Covers s h × Covers s k)) → AreChecked b f old new hull
  checked-both f r t others mid new h k hull e c covers d join =
      let P : Forest → Type 0 = λ g. AreChecked b g old new hull in
      subst P (sym e) (checked-followed r t others mid new h k hull c covers d join)

-- ---- a true fault and a tree that fits

not-small : (b : ℕ → Rect) (f : Forest) (k : ℕ) → IsTooSmall b f k → CoversBelow b f → ⊥
not-small b none k h c = h
not-small b (leaf r xs others) zero h c = h c.0
not-small b (leaf r xs others) (suc k) h c = not-small b others k h c.1
not-small b (inner r children others) zero h c = h c.0
not-small b (inner r children others) (suc k) (inl h) c = not-small b children k h c.1
not-small b (inner r children others) (suc k) (inr h) c = not-small b others (k - node_count children) h.1 c.2

pub fault-unfit : (f : Forest) (n : ℕ) (b : ℕ → Rect) (fault : TreeFault) → IsFaultOf f n b fault → Fits f n b → ⊥
fault-unfit f n b (UnknownIndex i) h t = omega (arith, h.1, times-above n i (leaf_items f) t.known h.0)
fault-unfit f n b (IndexTwice i) h t = by_le n i (λ l. omega (arith, h, times-above n i (leaf_items f) t.known l)) (λ l. omega (arith, h, t.once i l))
  where
    by_le : {P : Type 0} (n i : ℕ) → (n ≤ i → P) → (i < n → P) → P
    by_le zero i f g = f (omega arith)
    by_le (suc n) zero f g = g (omega arith)
    by_le (suc n) (suc i) f g = by_le n i (λ h. f (omega (arith, h))) (λ h. g (omega (arith, h)))
fault-unfit f n b (IndexMissing i) h t = omega (arith, h.1, t.once i h.0)
fault-unfit f n b (RectTooSmall k) h t = not-small b f k h t.covers

-- ---- the whole check

-- a fault that is found with no item marked before is one of the whole tree
pub found : (f : Forest) (n : ℕ) (b : ℕ → Rect) (old : List Bool) (fault : TreeFault) → length old ≡ n → ((i : ℕ) → mark_at old i ≡ 0) → IsFaultAt b old 0 f fault → IsFaultOf f n b fault
found f n b old (UnknownIndex i) l z h = (omega (arith, h.0, l), h.1)
found f n b old (IndexTwice i) l z h = omega (arith, h, z i)
found f n b old (IndexMissing i) l z h = absurd h
found f n b old (RectTooSmall k) l z h =
    let P : ℕ → Type 0 = IsTooSmall b f in
    let e : k - 0 ≡ k = omega arith in
    subst P e h.1

-- no item is marked in new marks
pub none-marked : (n i : ℕ) → mark_at (replicate n false) i ≡ 0
none-marked zero i = refl
none-marked (suc n) zero = refl
none-marked (suc n) (suc i) = none-marked n i

-- an item that isn't marked in the end is missing
pub missing : (f : Forest) (b : ℕ → Rect) (old new : List Bool) (hull : Rect) (i : ℕ) → ((i : ℕ) → mark_at old i ≡ 0) → AreChecked b f old new hull → get_or new i false ≡ false → times i (leaf_items f) ≡ 0
missing f b old new hull i z c e = omega (arith, c.marked.marked i, z i, unmarked new i e)

-- where each item is marked in the end the trees fit
pub fitting : (f : Forest) (n : ℕ) (b : ℕ → Rect) (old new : List Bool) (hull : Rect) → length old ≡ n → ((i : ℕ) → mark_at old i ≡ 0) → AreChecked b f old new hull → ((i : ℕ) → i < n → get_or new i false ≡ true) → Fits f n b
fitting f n b old new hull l z c all =
    record {
      once = λ i h. omega (arith, c.marked.marked i, z i, is-marked new i (all i h));
      known = (let P : ℕ → Type 0 = λ m. AreBelow m (leaf_items f) in subst P l c.marked.known);
      covers = c.covers;
    }

-- nothing is found exactly where the tree fits
pub exact : (f : Forest) (n : ℕ) (b : ℕ → Rect) (r : Option TreeFault) → MayFind f n b r → r ≡ None ↔ Fits f n b
exact f n b None h = (λ e. h, λ t. refl)
exact f n b (Some fault) h = (λ e. absurd (some-not-none e), λ t. absurd (fault-unfit f n b fault h t))
  where
    some-not-none : {A : Type 0} {x : A} → Some x ≡ None → ⊥
    some-not-none e = cc
