-- Rectangles that hold what the bounds of items hold.
use Rattle.std.proofs.Common.{ℕ, ◌↔◌, List, [], ◌∷◌, ◌++◌}
use Rattle.tl_geom.specs.declared.rect.Rect.{Rect}
use Rattle.tl_tree_index.specs.Fits.{CoversAll}

pub all-append : (b : ℕ → Rect) (r : Rect) (xs ys : List ℕ) → CoversAll b r (xs ++ ys) ↔ (CoversAll b r xs × CoversAll b r ys)
all-append b r xs ys = (parted xs, joined xs)
  where
    parted : (xs : List ℕ) → CoversAll b r (xs ++ ys) → CoversAll b r xs × CoversAll b r ys
    parted [] h = (tt, h)
    parted (x ∷ xs) h = let k : CoversAll b r xs × CoversAll b r ys = parted xs h.1 in ((h.0, k.0), k.1)

    joined : (xs : List ℕ) → CoversAll b r xs × CoversAll b r ys → CoversAll b r (xs ++ ys)
    joined [] h = h.1
    joined (x ∷ xs) h = (h.0.0, joined xs (h.0.1, h.1))
