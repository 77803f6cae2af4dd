-- Lists that hold each number below n once.
use Rattle.std.proofs.Common.{◌≡◌, ℕ, zero, suc, ◌+◌, ◌<◌, ◌≤◌, ◌==◌, if◌then◌else◌, List, [], ◌∷◌, length, refl, ap, sym, ◌∙◌, length-append, arith}
use Rattle.std.specs.List.{sum_by}
use Rattle.std.specs.List.Sorted.{IsPermutation}
use Rattle.std.proofs.lemmas.List.Elements.{All-head, All-tail}
use Rattle.std.proofs.lemmas.List.Sorted.{sum_by-IsPermutation, length_permutation}
use Rattle.std.proofs.lemmas.List.Sums.{sum_by-cons}
use Rattle.tl_tree_index.specs.Fits.{AreBelow}
use Rattle.tl_tree_index.specs.Hits.{times}
use Rattle.tl_tree_index.proofs.Times.{times-append, same_or, times-same, times-other}
use Rattle.tl_tree_index.specs.declared.order.Placed.{Placed}
use Rattle.tl_tree_index.specs.Lists.{up, HoldsAll, items_in, AreItemsBelow}

abbrev is_here : ℕ → ℕ → ℕ
is_here i x = if i == x then 1 else 0

times_sum : (i : ℕ) (xs : List ℕ) → times i xs ≡ sum_by (is_here i) xs
times_sum i [] = refl
times_sum i (x ∷ xs) = ap (λ n. is_here i x + n) (times_sum i xs) ∙ sym (sum_by-cons (is_here i) x xs)

times_moved : (i : ℕ) (xs ys : List ℕ) → IsPermutation xs ys → times i ys ≡ times i xs
times_moved i xs ys p = times_sum i ys ∙ (sum_by-IsPermutation (is_here i) xs ys p ∙ sym (times_sum i xs))

times_above : (n i : ℕ) → n ≤ i → times i (up n) ≡ 0
unfolding up
times_above zero i h = refl
times_above (suc n) i h =
    omega (arith, times-append i (up n) (n ∷ []), times_above n i (omega (arith, h)), times-other i n [] (λ e. omega (arith, e, h)))

times_below : (n i : ℕ) → i < n → times i (up n) ≡ 1
unfolding up
times_below zero i h = absurd (omega (arith, h))
times_below (suc n) i h =
    let whole = times-append i (up n) (n ∷ []) in
    same_or i n
    (λ e. omega (arith, whole, times_above n i (omega (arith, e)), times-same i n [] e))
    (λ ne. omega (arith, whole, times_below n i (omega (arith, h, ne)), times-other i n [] ne))

pub once_in : (n : ℕ) (xs : List ℕ) → HoldsAll n xs → (i : ℕ) → i < n → times i xs ≡ 1
once_in n xs h i l = times_moved i (up n) xs h ∙ times_below n i l

pub no_other_in : (n : ℕ) (xs : List ℕ) → HoldsAll n xs → (i : ℕ) → n ≤ i → times i xs ≡ 0
no_other_in n xs h i l = times_moved i (up n) xs h ∙ times_above n i l

up_long : (n : ℕ) → length (up n) ≡ n
unfolding up
up_long zero = refl
up_long (suc n) = omega (arith, length-append (up n) (n ∷ []), up_long n)

-- it has n numbers
pub long_as : (n : ℕ) (xs : List ℕ) → HoldsAll n xs → length xs ≡ n
long_as n xs h = omega (arith, length_permutation _ _ h, up_long n)

pub below_in : (n : ℕ) (xs : List Placed) → AreItemsBelow n xs → AreBelow n (items_in xs)
below_in n [] h = tt
below_in n (x ∷ xs) h = (All-head (λ (p : Placed). p.item < n) x xs h, below_in n xs (All-tail (λ (p : Placed). p.item < n) x xs h))
