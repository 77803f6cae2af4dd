-- Pairs of numbers in lists: sums over them, what is true of each; and which pairs of items have bounds that meet.
use Rattle.std.specs.Prelude.{ℕ, zero, suc, ◌+◌, ◌<◌, ◌==◌, Bool, ◌&&◌, int_le, List, [], ◌∷◌, Option, None, if◌then◌else◌}
use Rattle.std.specs.Int.{int_max, int_min}
use Rattle.tl_geom.specs.declared.rect.Rect.{Rect}

-- the numbers below n, from the greatest down
unfoldable pub indices : ℕ → List ℕ
indices zero = []
indices (suc n) = n ∷ indices n

-- the sum of f x y over the y of ys
abbrev pub row_sum : (ℕ → ℕ → ℕ) → ℕ → List ℕ → ℕ
row_sum f x [] = 0
row_sum f x (y ∷ ys) = f x y + row_sum f x ys

-- the sum of f x y over the x of xs and the y of ys
abbrev pub cross_sum : (ℕ → ℕ → ℕ) → List ℕ → List ℕ → ℕ
cross_sum f [] ys = 0
cross_sum f (x ∷ xs) ys = row_sum f x ys + cross_sum f xs ys

-- the sum of f x y over the pairs of an x and a y that stands after it in the list
abbrev pub pair_sum : (ℕ → ℕ → ℕ) → List ℕ → ℕ
pair_sum f [] = 0
pair_sum f (x ∷ xs) = row_sum f x xs + pair_sum f xs

-- a point is in both rectangles, as a test
abbrev pub overlaps : Rect → Rect → Bool
overlaps r q =
    int_le (int_max r.xmin q.xmin) (int_min r.xmax q.xmax)
    && int_le (int_max r.ymin q.ymin) (int_min r.ymax q.ymax)

-- 1 where x and y are two items whose bounds meet, else 0
unfoldable pub meeting : (ℕ → Rect) → ℕ → ℕ → ℕ
meeting bounds x y = if x == y then 0 else (if overlaps (bounds x) (bounds y) then 1 else 0)

-- each y of ys is related to x
abbrev pub AllRow : (ℕ → ℕ → Type 0) → ℕ → List ℕ → Type 0
AllRow P x [] = Unit {0}
AllRow P x (y ∷ ys) = P x y × AllRow P x ys

-- each x of xs and each y of ys are related
abbrev pub AllCross : (ℕ → ℕ → Type 0) → List ℕ → List ℕ → Type 0
AllCross P [] ys = Unit {0}
AllCross P (x ∷ xs) ys = AllRow P x ys × AllCross P xs ys

-- each x and each y that stands after it in the list are related
abbrev pub AllPairs : (ℕ → ℕ → Type 0) → List ℕ → Type 0
AllPairs P [] = Unit {0}
AllPairs P (x ∷ xs) = AllRow P x xs × AllPairs P xs

-- where x and y are two items, it is told of them, the lower one first, that they don't conflict
pub record AreToldApart {C : Type 0} (tells : ℕ → ℕ → Option C → Type 0) (x y : ℕ) : Type 0 where
  pub up : x < y → tells x y None
  pub down : y < x → tells y x None
