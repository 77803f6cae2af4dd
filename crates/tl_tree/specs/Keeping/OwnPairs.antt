-- The pairs of at most eight items by turns: cell p is that of item p % 8 and the one p / 8 + 1 further on, in a circle of
-- eight. The cells below 28 are those of all pairs, each once.
use Rattle.std.specs.Prelude.{◌≡◌, ℕ, ◌+◌, ◌/◌, ◌%◌, ◌<◌, ◌↔◌, List, length, get_or, take, drop}
use Rattle.std.specs.Int.{bit_at}
use Rattle.tl_geom.specs.declared.rect.Rect.{Rect}
use Rattle.tl_geom.specs.Rectangle.{AreMeeting}
use Rattle.tl_tree_index.specs.Pairs.{cross_sum, AllCross}

-- where the other item of a cell stands
abbrev pub partner : ℕ → ℕ
partner p = (p % 8 + p / 8 + 1) % 8

-- f of the two items of a cell, if both are there
abbrev pub own_sum : (ℕ → ℕ → ℕ) → List ℕ → ℕ → ℕ
own_sum f xs p = cross_sum f (take 1 (drop (partner p) xs)) (take 1 (drop (p % 8) xs))

-- the two items of a cell are related, if both are there
abbrev pub AllOwn : (ℕ → ℕ → Type 0) → List ℕ → ℕ → Type 0
AllOwn P xs p = AllCross P (take 1 (drop (partner p) xs)) (take 1 (drop (p % 8) xs))

-- both items of a cell are there
pub record AreThere (xs : List ℕ) (p : ℕ) : Type 0 where
  pub first : p % 8 < length xs
  pub second : partner p < length xs

-- the marked cells are those of two items whose bounds meet
abbrev pub AreOwnCells : (ℕ → Rect) → List ℕ → ℕ → Type 0
AreOwnCells bounds xs cells =
    (p : ℕ) → p < 28 → AreThere xs p →
    (bit_at cells p ≡ 1) ↔ AreMeeting (bounds (get_or xs (p % 8) 0)) (bounds (get_or xs (partner p) 0))
