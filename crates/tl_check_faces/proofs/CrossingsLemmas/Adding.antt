-- Sums of whole numbers: over the numbers below a bound, over lists in which each of these stands once, and along rings.
use Rattle.std.proofs.Common.{◌≡◌, ◌⊎◌, ⊎_elim, ℕ, zero, suc, ◌+◌, ◌-◌, ◌*◌, ◌<◌, ◌≤◌, ℤ, pos, ◌+ℤ◌, ◌-ℤ◌, negsuc, List, [], ◌∷◌, ◌++◌, length, sum_by, refl, sym, ap, ◌∙◌, arith}
use Rattle.std.specs.Prelude.{slice_index}
use Rattle.std.specs.List.{concat}
use Rattle.std.proofs.lemmas.Int.{ints}
use Rattle.std.proofs.lemmas.List.Sums.{sum_by-cons}
use borrow.Author.Differences.{up, down}
use Rattle.tl_tree_index.specs.Hits.{times}
use Rattle.tl_check_sides.specs.Lists.{before, list_at}
use Rattle.tl_check_inside.specs.Inside.{total}
use Rattle.tl_check_faces.proofs.CrossingsLemmas.Sums.{sum_below, sum_below-none, sum_below-suc, sum_same}
use Rattle.tl_check_faces.proofs.CrossingsLemmas.Listing.{listed}

-- ---- below a bound

unfoldable pub add_below : (ℕ → ℤ) → ℕ → ℤ
add_below f zero = pos 0
add_below f (suc n) = f n +ℤ add_below f n

pub add_below-none : (f : ℕ → ℤ) → add_below f 0 ≡ pos 0
unfolding add_below
add_below-none f = refl

pub add_below-suc : (f : ℕ → ℤ) (n : ℕ) → add_below f (suc n) ≡ f n +ℤ add_below f n
unfolding add_below
add_below-suc f n = refl

pub add_same : (f g : ℕ → ℤ) (n : ℕ) → ((i : ℕ) → i < n → f i ≡ g i) → add_below f n ≡ add_below g n
unfolding add_below
add_same f g zero h = refl
add_same f g (suc n) h = let here = h n (omega arith) in let rest = add_same f g n (λ i lt. h i (omega (arith, lt))) in omega (arith, ints, here, rest)

pub add_first : (f : ℕ → ℤ) (n : ℕ) → add_below f (suc n) ≡ f 0 +ℤ add_below (λ i. f (suc i)) n
unfolding add_below
add_first f zero = refl
add_first f (suc n) = let rest = add_first f n in omega (arith, ints, rest)

pub add_pairs : (f : ℕ → ℤ) (n : ℕ) → add_below f (2 * n) ≡ add_below (λ c. f (2 * c) +ℤ f (2 * c + 1)) n
add_pairs f zero = add_below-none f ∙ sym (add_below-none (λ c. f (2 * c) +ℤ f (2 * c + 1)))
add_pairs f (suc n) =
    let twice : 2 * suc n ≡ suc (suc (2 * n)) = omega arith in
    let one : 2 * n + 1 ≡ suc (2 * n) = omega arith in
    let last : f (2 * n + 1) ≡ f (suc (2 * n)) = ap f one in
    let rest = add_pairs f n in
    let first = add_below-suc f (suc (2 * n)) in
    let second = add_below-suc f (2 * n) in
    let pair = add_below-suc (λ c. f (2 * c) +ℤ f (2 * c + 1)) n in
    ap (add_below f) twice ∙ omega (arith, ints, last, rest, first, second, pair)

-- ---- over lists

module _ (f : ℕ → ℤ) where
  abbrev ups : ℕ → ℕ
  ups i = up (f i)

  abbrev downs : ℕ → ℕ
  downs i = down (f i)

  parts : (z : ℤ) → z ≡ pos (up z) -ℤ pos (down z)
  parts (pos n) = omega (arith, ints)
  parts (negsuc n) = omega (arith, ints)

  total_parts : (xs : List ℕ) → total f xs ≡ pos (sum_by ups xs) -ℤ pos (sum_by downs xs)
  total_parts [] = refl
  total_parts (x ∷ xs) =
      let here = parts (f x) in
      let rest = total_parts xs in
      let more = sum_by-cons ups x xs in
      let less = sum_by-cons downs x xs in
      omega (arith, ints, here, rest, more, less)

  below_parts : (n : ℕ) → add_below f n ≡ pos (sum_below ups n) -ℤ pos (sum_below downs n)
  below_parts zero = let none = add_below-none f in let more = sum_below-none ups in let less = sum_below-none downs in omega (arith, ints, none, more, less)
  below_parts (suc n) =
      let here = parts (f n) in
      let rest = below_parts n in
      let all = add_below-suc f n in
      let more = sum_below-suc ups n in
      let less = sum_below-suc downs n in
      omega (arith, ints, here, rest, all, more, less)

  -- a list in which each number below n stands once whose value isn't 0, and none from n on
  module _ (n : ℕ) (xs : List ℕ) (each : (i : ℕ) → i < n → (times i xs ≡ 1) ⊎ (f i ≡ pos 0)) (known : (i : ℕ) → n ≤ i → times i xs ≡ 0) where
    one_of : (part : ℤ → ℕ) → part (pos 0) ≡ 0 → (i : ℕ) → i < n → times i xs * part (f i) ≡ part (f i)
    one_of part none i lt =
        ⊎_elim
        (λ once. rw once (omega arith))
        (λ zero. let e : part (f i) ≡ 0 = ap part zero ∙ none in rw e (omega arith))
        (each i lt)

    of_parts : (part : ℤ → ℕ) → part (pos 0) ≡ 0 → sum_by (λ i. part (f i)) xs ≡ sum_below (λ i. part (f i)) n
    of_parts part none = listed n (λ i. part (f i)) xs known ∙ sum_same (λ i. times i xs * part (f i)) (λ i. part (f i)) n (one_of part none)

    pub total_below : total f xs ≡ add_below f n
    total_below =
        let more = of_parts up refl in
        let less = of_parts down refl in
        total_parts xs ∙ (λ i. pos (more i) -ℤ pos (less i)) ∙ sym (below_parts n)

  pub total_append : (xs ys : List ℕ) → total f (xs ++ ys) ≡ total f xs +ℤ total f ys
  total_append [] ys = omega (arith, ints)
  total_append (x ∷ xs) ys = let rest = total_append xs ys in omega (arith, ints, rest)

  pub total_concat : (lists : List (List ℕ)) → total f (concat lists) ≡ add_below (λ k. total f (list_at lists k)) (length lists)
  total_concat [] = sym (add_below-none (λ k. total f (list_at [] k)))
  total_concat (xs ∷ lists) =
      let rest = total_concat lists in
      let both = total_append xs (concat lists) in
      let first = add_first (λ k. total f (list_at (xs ∷ lists) k)) (length lists) in
      omega (arith, ints, rest, both, first)

-- ---- over the places of a list

pub total_same : (f g : ℕ → ℤ) (xs : List ℕ) → ((k : ℕ) → k < length xs → f (slice_index xs k) ≡ g (slice_index xs k)) → total f xs ≡ total g xs
total_same f g [] h = refl
total_same f g (x ∷ xs) h =
    let here : f x ≡ g x = h 0 (omega arith) in
    let rest = total_same f g xs (λ k lt. h (suc k) (omega (arith, lt))) in
    omega (arith, ints, here, rest)

pub total_none : (xs : List ℕ) → total (λ x. pos 0) xs ≡ pos 0
total_none [] = refl
total_none (x ∷ xs) = let rest = total_none xs in omega (arith, ints, rest)

-- where each number starts as the one before it ends, what they gain is the last end less the first start
module _ (start finish : ℕ → ℤ) where
  gained : (x : ℕ) (xs : List ℕ) → ((k : ℕ) → k < length xs → finish (slice_index (x ∷ xs) k) ≡ start (slice_index xs k)) →
      total (λ i. finish i -ℤ start i) (x ∷ xs) ≡ finish (slice_index (x ∷ xs) (length xs)) -ℤ start x
  gained x [] meet = omega (arith, ints)
  gained x (y ∷ ys) meet =
      let here : finish x ≡ start y = meet 0 (omega arith) in
      let rest = gained y ys (λ k lt. meet (suc k) (omega (arith, lt))) in
      omega (arith, ints, here, rest)

  -- so a round gains nothing
  pub round_gains : (xs : List ℕ) → ((k : ℕ) → k < length xs → finish (before xs k) ≡ start (slice_index xs k)) → total (λ i. finish i -ℤ start i) xs ≡ pos 0
  round_gains [] meet = refl
  round_gains (x ∷ xs) meet =
      let all = gained x xs (λ k lt. meet (suc k) (omega (arith, lt))) in
      let place : length (x ∷ xs) - 1 ≡ length xs = omega arith in
      let last : finish (slice_index (x ∷ xs) (length xs)) ≡ start x = sym (ap (λ k. finish (slice_index (x ∷ xs) k)) place) ∙ meet 0 (omega arith) in
      omega (arith, ints, all, last)
