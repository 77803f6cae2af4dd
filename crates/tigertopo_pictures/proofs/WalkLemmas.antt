-- Walks of a map.
use Rattle.std.proofs.Common.{◌≡◌, ℕ, zero, suc, ◌+◌, ◌*◌, ◌<◌, ◌≤◌, true, false, inl, inr, List, [], ◌∷◌, ◌++◌, length, map, take, get_or, Some, refl, sym, ap, arith, add-one, Vec, Global}
use Rattle.std.proofs.Math.Seq.{take-suc}
use Rattle.std.proofs.lemmas.List.{get_or-map, length-map}
use Rattle.std.proofs.lemmas.Bool.{cases_lt}
use Rattle.std.specs.Prelude.{slice_index}
use Rattle.tl_map_county.specs.TheMap.{MapChain}
use Rattle.tl_map_county.specs.Darts.{dart_left}
use Rattle.tl_check_sides.specs.Lists.{list_at}
use Rattle.tl_check_sides.specs.Walks.{AreWalks}
use Rattle.std.specs.List.{concat, list_any, IsDistinct, AllByRecursion}
use Rattle.std.proofs.lemmas.Map.Steps.{length-le_from_distinct_below}
use Rattle.std.proofs.lemmas.Bool.Decides.{eqb_tells}
use Rattle.std.proofs.Common.{eqb, length-append}
use Rattle.tl_tree_index.specs.Hits.{times}
use Rattle.tl_tree_index.proofs.Times.{times-same, times-other}
use Rattle.tl_check_sides.proofs.ListLemmas.{stands, stands_in}
use Rattle.tl_map_county.specs.declared.sides.Side.{Side}
use Rattle.tigertopo_pictures.specs.Walks.{polygon_on, walk_polygon}

-- lists of numbers as they are kept
pub lists : List (Vec ℕ Global) → List (List ℕ)
lists walks = map (λ w. w.items) walks

pub list_of_walk : (walks : List (Vec ℕ Global)) (k : ℕ) (d : Vec ℕ Global) → k < length walks → list_at (map (λ w. w.items) walks) k ≡ (get_or walks k d).items
list_of_walk [] k d within = absurd (omega arith)
list_of_walk (w ∷ ws) zero d within = refl
list_of_walk (w ∷ ws) (suc k) d within = list_of_walk ws k d (omega arith)

pub some_in_walk : (chains : List MapChain) (lists : List (List ℕ)) (k : ℕ) → AreWalks chains lists → k < length lists → 0 < length (list_at lists k)
some_in_walk chains lists k are within = (are.rings k within).some

pub darts_in_walk : (chains : List MapChain) (lists : List (List ℕ)) (k : ℕ) → AreWalks chains lists → k < length lists
    → (i : ℕ) → i < length (list_at lists k) → slice_index (list_at lists k) i < 2 * length chains
darts_in_walk chains lists k are within i inside =
    let d = slice_index (list_at lists k) i in
    elim (cases_lt d (2 * length chains)) [
      | inl dart ↦ dart
      | inr other ↦ absurd (omega (arith, are.hold.no_other d other, stands_in d lists k within, stands (list_at lists k) i d inside refl))
    ]

-- one walk more
pub mapped_more : {X : Type 0} (made : List ℕ → X) (lists : List (List ℕ)) (k : ℕ) → k < length lists
    → take (k + 1) (map made lists) ≡ take k (map made lists) ++ made (list_at lists k) ∷ []
mapped_more made lists k within =
    rw (add-one, take-suc (map made lists) k (made []) (omega (arith, within, length-map lists made)), get_or-map made lists k [] (made []) within) refl

pub many_lists : (walks : List (Vec ℕ Global)) → length (map (λ w. w.items) walks) ≡ length walks
many_lists [] = refl
many_lists (w ∷ ws) = ap suc (many_lists ws)

-- the polygon on the left of a walk
pub polygon_is : (chains : List MapChain) (walk : List ℕ) (d : ℕ) (side : Side) → 0 < length walk → dart_left chains (get_or walk 0 d) ≡ Some side → polygon_on (Some side) ≡ walk_polygon chains walk
polygon_is chains [] d side some at = absurd (omega arith)
polygon_is chains (x ∷ rest) d side some at = ap polygon_on (sym at)

-- ---- numbers that stand once each are few

none_same : (x : ℕ) (xs : List ℕ) → times x xs ≡ 0 → AllByRecursion (λ y. eqb x y ≡ false) xs
none_same x [] none = tt
none_same x (y ∷ ys) none = elim (eqb_tells x y) [
  | inl same ↦ absurd (omega (arith, none, times-same x y ys same.1))
  | inr other ↦ (other.0, none_same x ys (omega (arith, none, times-other x y ys other.1)))
]

less_here : (i x : ℕ) (xs : List ℕ) → times i xs ≤ times i (x ∷ xs)
less_here i x xs = elim (eqb_tells i x) [
  | inl same ↦ omega (arith, times-same i x xs same.1)
  | inr other ↦ omega (arith, times-other i x xs other.1)
]

are_distinct : (xs : List ℕ) → ((i : ℕ) → times i xs ≤ 1) → IsDistinct eqb xs
unfolding IsDistinct
are_distinct [] once = tt
are_distinct (x ∷ xs) once = (
  none_same x xs (omega (arith, once x, times-same x x xs refl)),
  are_distinct xs (λ i. omega (arith, once i, less_here i x xs)),
)

stands_there : (q : ℕ) (xs : List ℕ) → list_any (eqb q) xs ≡ true → 1 ≤ times q xs
stands_there q [] any = cc
stands_there q (x ∷ xs) any = elim (eqb_tells q x) [
  | inl same ↦ omega (arith, times-same q x xs same.1)
  | inr other ↦ omega (arith, times-other q x xs other.1, stands_there q xs (rw other.0 at any))
]

few_once : (n : ℕ) (xs : List ℕ) → ((i : ℕ) → times i xs ≤ 1) → ((i : ℕ) → n ≤ i → times i xs ≡ 0) → length xs ≤ n
few_once n xs once beyond = length-le_from_distinct_below xs n (are_distinct xs once) (λ q any. elim (cases_lt q n) [
  | inl within ↦ within
  | inr without ↦ absurd (omega (arith, stands_there q xs any, beyond q without))
])

at_most_once : (chains : List MapChain) (lists : List (List ℕ)) → AreWalks chains lists → (i : ℕ) → times i (concat lists) ≤ 1
at_most_once chains lists are i = elim (cases_lt i (2 * length chains)) [
  | inl within ↦ omega (arith, are.hold.once i within)
  | inr without ↦ omega (arith, are.hold.no_other i without)
]

-- all walks together have as many darts as there are, at most
few_together : (chains : List MapChain) (lists : List (List ℕ)) → AreWalks chains lists → length (concat lists) ≤ 2 * length chains
few_together chains lists are = few_once (2 * length chains) (concat lists) (at_most_once chains lists are) are.hold.no_other

one_among : (lists : List (List ℕ)) (k : ℕ) → length (list_at lists k) ≤ length (concat lists)
one_among [] k = omega arith
one_among (xs ∷ rest) zero = omega (arith, length-append xs (concat rest))
one_among (xs ∷ rest) (suc k) = omega (arith, length-append xs (concat rest), one_among rest k)

pub few_in_walk : (chains : List MapChain) (lists : List (List ℕ)) (k : ℕ) → AreWalks chains lists → k < length lists → length (list_at lists k) ≤ 2 * length chains
few_in_walk chains lists k are within = omega (arith, one_among lists k, few_together chains lists are)

many_together : (lists : List (List ℕ)) → ((k : ℕ) → k < length lists → 0 < length (list_at lists k)) → length lists ≤ length (concat lists)
many_together [] some = omega arith
many_together (xs ∷ rest) some = omega (arith, length-append xs (concat rest), some 0 (omega arith), many_together rest (λ k within. some (suc k) (omega (arith, within))))

-- there are as many walks as darts, at most
pub few_walks : (chains : List MapChain) (lists : List (List ℕ)) → AreWalks chains lists → length lists ≤ 2 * length chains
few_walks chains lists are = omega (arith, many_together lists (λ k within. some_in_walk chains lists k are within), few_together chains lists are)
