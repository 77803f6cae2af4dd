-- The rectangles of the roots of trees that split into a first one and the others.
use Rattle.std.proofs.Common.{◌≡◌, ℕ, zero, suc, ◌≤◌, length, ◌+◌, ◌<◌, ◌∷◌, refl, ap, subst, ◌∙◌, arith}
use Rattle.std.specs.Int.{bit_at}
use Rattle.tl_geom.specs.declared.rect.Rect.{Rect}
use Rattle.tl_geom.specs.Rectangle.{AreMeeting}
use Rattle.tl_tree.specs.declared.walk.Below.{Below}
use Rattle.tl_tree.specs.declared.walk.Below.TheVariants.{Items, Children}
use Rattle.tl_tree.specs.Keeping.Marking.{Includes, roots, RootMeets}
use Rattle.tl_tree_index.specs.Trees.{Forest, none, leaf, inner, first_trees}
use Rattle.tl_tree.specs.Keeping.Walking.{followed}
use Rattle.tl_tree.proofs.Marks8.{includes-later, includes-same}

module _ {W : Type 0} (see : W → Forest) where
  roots-followed : (r : Rect) (t : Below W) (others : Forest) → roots (followed see r t others) ≡ r ∷ roots others
  roots-followed r (Items xs) others = refl
  roots-followed r (Children w) others = refl

  pub roots-split : (f : Forest) (r : Rect) (t : Below W) (others : Forest) → f ≡ followed see r t others → roots f ≡ r ∷ roots others
  roots-split f r t others e = ap roots e ∙ roots-followed r t others

  -- the first root
  pub first-root : (f : Forest) (r : Rect) (t : Below W) (others : Forest) (q : Rect) → f ≡ followed see r t others → AreMeeting r q → RootMeets f q 0
  first-root f r t others q e m =
      let s = roots-split f r t others e in
      record { within = rw s (omega arith); meets = rw s m }

  -- the root behind it
  later-root : (f : Forest) (r : Rect) (t : Below W) (others : Forest) (q : Rect) (k : ℕ) → f ≡ followed see r t others → RootMeets others q k → RootMeets f q (k + 1)
  later-root f r t others q k e m =
      let s = roots-split f r t others e in
      let i : suc k ≡ k + 1 = omega arith in
      let behind : RootMeets f q (suc k) = record { within = rw s (omega (arith, m.within)); meets = rw s m.meets } in
      subst (RootMeets f q) i behind

  pub includes-roots : (f : Forest) (r : Rect) (t : Below W) (others : Forest) (q : Rect) (marks later : ℕ) → f ≡ followed see r t others
      → ((k : ℕ) → k < 7 → bit_at later k ≡ bit_at marks (k + 1)) → bit_at later 7 ≡ 1 → Includes marks (RootMeets f q) → Includes later (RootMeets others q)
  includes-roots f r t others q marks later e step last h =
      includes-same (λ k. RootMeets f q (k + 1)) (RootMeets others q) later (λ k lt p. later-root f r t others q k e p) (includes-later (RootMeets f q) marks later step last h)

-- the first k trees have at most k roots
pub roots-first : (k : ℕ) (f : Forest) → length (roots (first_trees k f)) ≤ k
roots-first zero f = omega arith
roots-first (suc k) none = omega arith
roots-first (suc k) (leaf r xs others) = omega (arith, roots-first k others)
roots-first (suc k) (inner r children others) = omega (arith, roots-first k others)

-- each of the first eight is marked
pub all-marked : (k : ℕ) → k < 8 → bit_at 255 k ≡ 1
all-marked zero h = refl
all-marked (suc zero) h = refl
all-marked (suc (suc zero)) h = refl
all-marked (suc (suc (suc zero))) h = refl
all-marked (suc (suc (suc (suc zero)))) h = refl
all-marked (suc (suc (suc (suc (suc zero))))) h = refl
all-marked (suc (suc (suc (suc (suc (suc zero)))))) h = refl
all-marked (suc (suc (suc (suc (suc (suc (suc zero))))))) h = refl
all-marked (suc (suc (suc (suc (suc (suc (suc (suc k)))))))) h = absurd (omega (arith, h))
