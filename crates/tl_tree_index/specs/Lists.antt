-- Lists of numbers, and of items with their places.
use Rattle.std.specs.Prelude.{ℕ, zero, suc, ◌<◌, List, [], ◌∷◌, ◌++◌, map, All}
use Rattle.std.specs.List.Sorted.{IsPermutation}
use Rattle.tl_tree_index.specs.declared.order.Placed.{Placed}

-- the numbers below n, rising
unfoldable pub up : ℕ → List ℕ
up zero = []
up (suc n) = up n ++ n ∷ []

-- the list holds the numbers below n, in some order
abbrev pub HoldsAll : ℕ → List ℕ → Type 0
HoldsAll n xs = IsPermutation (up n) xs

-- the items of places
abbrev pub items_in : List Placed → List ℕ
items_in = map (λ p. p.item)

-- each item is below n
abbrev pub AreItemsBelow : ℕ → List Placed → Type 0
AreItemsBelow n = All (λ p. p.item < n)
