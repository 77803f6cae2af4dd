use Rattle.std.proofs.Common.{◌≡◌, ◌≢◌, ℕ, zero, suc, ◌+◌, ◌<◌, ◌≤◌, Bool, true, false, cond, eqb, ◌&&◌, inl, inr, List, [], ◌∷◌, length, count_by, get_or, refl, sym, ap, ◌∙◌, arith}
use Rattle.std.specs.List.{remove}
use Rattle.std.specs.List.Sorted.{IsNonDecreasing, IsPermutation}
use Rattle.std.proofs.lemmas.Bool.{eq-eqb, eqb-true, ne_eqb, cases_lt, and_parts as both_true}
use Rattle.std.proofs.lemmas.List.Sums.{sum_by-cons}
use Rattle.std.proofs.lemmas.List.Sorted.{IsPermutation-remove, length_permutation, sum_by-IsPermutation}
use Rattle.tl_map_rules.proofs.CountLemmas.{none_counted}
use Rattle.tl_map_rules.specs.Listing.Keeping.Runs.{count_up}
use Rattle.tl_map_rules.proofs.ListingLemmas.CountedLemmas.{count_yes, count_no, counted_stands, fewer}

-- how often a number stands
abbrev pub times : ℕ → List ℕ → ℕ
times n xs = count_by (λ x. eqb x n) xs

pub times-cons : (n x : ℕ) (xs : List ℕ) → times n (x ∷ xs) ≡ cond (eqb x n) 1 0 + times n xs
times-cons n x xs = sum_by-cons (λ y. cond (eqb y n) 1 0) x xs

-- a list with no more of each number is no longer
pub no_longer : (xs ys : List ℕ) → ((n : ℕ) → times n xs ≤ times n ys) → length xs ≤ length ys
no_longer [] ys h = omega arith
no_longer (x ∷ xs) ys h =
    let has = counted_stands eqb eqb-true ys x (omega (arith, h x, count_yes (λ y. eqb y x) x xs (eq-eqb x x refl))) in
    let rest : List ℕ = remove ys has.0 in
    let moved : IsPermutation ys (x ∷ rest) = IsPermutation-remove ys has.0 x has.1 (sym has.2) in
    let less = no_longer xs rest (λ n. omega (arith, h n, times-cons n x xs, times-cons n x rest, sum_by-IsPermutation (λ y. cond (eqb y n) 1 0) ys (x ∷ rest) moved)) in
    omega (arith, less, length_permutation ys (x ∷ rest) moved)

-- numbers that count up are none below the first
pub none_below : (n m : ℕ) (qs : List ℕ) → count_up n qs ≡ true → m < n → times m qs ≡ 0
none_below n m [] h lt = refl
none_below n m (q ∷ qs) h lt =
    let both = both_true (eqb q n) (count_up (n + 1) qs) h in
    let q_is = eqb-true q n both.0 in
    omega (arith, count_no (λ y. eqb y m) q qs (ne_eqb q m (λ e. omega (arith, e, q_is, lt))), none_below (n + 1) m qs both.1 (omega arith))

-- and each stands once
pub once_each : (n m : ℕ) (qs : List ℕ) → count_up n qs ≡ true → n ≤ m → m < n + length qs → times m qs ≡ 1
once_each n m [] h le lt = absurd (omega arith)
once_each n m (q ∷ qs) h le lt =
    let both = both_true (eqb q n) (count_up (n + 1) qs) h in
    let q_is = eqb-true q n both.0 in
    elim (cases_lt n m) [
      | inl above ↦ omega (arith, count_no (λ y. eqb y m) q qs (ne_eqb q m (λ e. omega (arith, e, q_is, above))), once_each (n + 1) m qs both.1 (omega arith) (omega arith))
      | inr at ↦ omega (arith, count_yes (λ y. eqb y m) q qs (eq-eqb q m (q_is ∙ omega arith)), none_below (n + 1) m qs both.1 (omega arith))
    ]

-- so many numbers from n on
numbers_from : ℕ → ℕ → List ℕ
numbers_from n zero = []
numbers_from n (suc k) = n ∷ numbers_from (n + 1) k

they_count_up : (n k : ℕ) → count_up n (numbers_from n k) ≡ true
unfolding numbers_from
they_count_up n zero = refl
they_count_up n (suc k) = rw (eq-eqb n n refl) (they_count_up (n + 1) k)

so_many : (n k : ℕ) → length (numbers_from n k) ≡ k
unfolding numbers_from
so_many n zero = refl
so_many n (suc k) = ap suc (so_many (n + 1) k)

none_above : (n m : ℕ) (qs : List ℕ) → count_up n qs ≡ true → n + length qs ≤ m → times m qs ≡ 0
none_above n m [] h le = refl
none_above n m (q ∷ qs) h le =
    let both = both_true (eqb q n) (count_up (n + 1) qs) h in
    let q_is = eqb-true q n both.0 in
    omega (arith, count_no (λ y. eqb y m) q qs (ne_eqb q m (λ e. omega (arith, e, q_is, le))), none_above (n + 1) m qs both.1 (omega arith))

-- numbers of which each of so many stands once are as many at least
as_many : (n k : ℕ) (xs : List ℕ) → ((m : ℕ) → n ≤ m → m < n + k → times m xs ≡ 1) → k ≤ length xs
as_many n k xs each =
    let up = they_count_up n k in
    let long = so_many n k in
    let most = no_longer (numbers_from n k) xs (λ m. elim (cases_lt m n) [
      | inl below ↦ omega (arith, none_below n m (numbers_from n k) up below)
      | inr from ↦ elim (cases_lt m (n + k)) [
        | inl inside ↦ omega (arith, each m from inside, once_each n m (numbers_from n k) up from (omega (arith, long)))
        | inr past ↦ omega (arith, none_above n m (numbers_from n k) up (omega (arith, long)))
      ]
    ]) in
    omega (arith, most, long)

-- numbers that don't fall, and of which each of as many as they are stands once, count up
pub count_up_from_once : (n : ℕ) (qs : List ℕ) → IsNonDecreasing qs → ((m : ℕ) → n ≤ m → m < n + length qs → times m qs ≡ 1) → count_up n qs ≡ true
count_up_from_once n [] order each = refl
count_up_from_once n (q ∷ qs) order each =
    let without : (m : ℕ) → q ≢ m → times m (q ∷ qs) ≡ times m qs = λ m other. count_no (λ y. eqb y m) q qs (ne_eqb q m other) in
    let not_above : n < q → ⊥ = λ above.
    let none : times n (q ∷ qs) ≡ 0 = none_counted (λ y. eqb y n) (q ∷ qs) (λ i d lt. ne_eqb (get_or (q ∷ qs) i d) n (λ e. omega (arith, e, above, order 0 i d (omega arith) lt))) in
    omega (arith, none, each n (omega arith) (omega arith)) in
    let not_below : q < n → ⊥ = λ below.
    let many = as_many n (suc (length qs)) qs (λ m from to. sym (without m (λ e. omega (arith, e, below, from))) ∙ each m from to) in
    omega (arith, many) in
    let q_is : q ≡ n = at (not_above) (not_below) in
    let met = eq-eqb q n q_is in
    rw met (count_up_from_once (n + 1) qs (fewer q qs order) (λ m from to. sym (without m (λ e. omega (arith, e, q_is, from))) ∙ each m (omega arith) (omega arith)))
  where
    at : (n < q → ⊥) → (q < n → ⊥) → q ≡ n
    at a b = elim (cases_lt n q) [ inl above ↦ absurd (a above) | inr upto ↦ elim (cases_lt q n) [ inl below ↦ absurd (b below) | inr from ↦ omega arith ] ]
