-- Sums over the numbers below a bound.
use Rattle.std.proofs.Common.{◌≡◌, ℕ, zero, suc, ◌+◌, ◌*◌, ◌<◌, ◌≤◌, Bool, true, false, cond, eqb, refl, sym, ap, ◌∙◌, arith}
use Rattle.std.proofs.lemmas.Bool.{eqb-true, eq-eqb}
use Rattle.tl_tree_index.proofs.Times.{same_or}

pub sum_below : (ℕ → ℕ) → ℕ → ℕ
sum_below f zero = 0
sum_below f (suc n) = f n + sum_below f n

pub sum_below-none : (f : ℕ → ℕ) → sum_below f 0 ≡ 0
unfolding sum_below
sum_below-none f = refl

pub sum_below-suc : (f : ℕ → ℕ) (n : ℕ) → sum_below f (suc n) ≡ f n + sum_below f n
unfolding sum_below
sum_below-suc f n = refl

pub sum_same : (f g : ℕ → ℕ) (n : ℕ) → ((i : ℕ) → i < n → f i ≡ g i) → sum_below f n ≡ sum_below g n
unfolding sum_below
sum_same f g zero h = refl
sum_same f g (suc n) h = let here = h n (omega arith) in let rest = sum_same f g n (λ i lt. h i (omega (arith, lt))) in omega (arith, here, rest)

pub sum_both : (f g : ℕ → ℕ) (n : ℕ) → sum_below (λ i. f i + g i) n ≡ sum_below f n + sum_below g n
unfolding sum_below
sum_both f g zero = refl
sum_both f g (suc n) = let rest = sum_both f g n in omega (arith, rest)

pub sum_first : (f : ℕ → ℕ) (n : ℕ) → sum_below f (suc n) ≡ f 0 + sum_below (λ i. f (suc i)) n
unfolding sum_below
sum_first f zero = refl
sum_first f (suc n) = let rest = sum_first f n in omega (arith, rest)

pub sum_pairs : (f : ℕ → ℕ) (n : ℕ) → sum_below f (2 * n) ≡ sum_below (λ c. f (2 * c) + f (2 * c + 1)) n
sum_pairs f zero = sum_below-none f ∙ sym (sum_below-none (λ c. f (2 * c) + f (2 * c + 1)))
sum_pairs f (suc n) =
    let twice : 2 * suc n ≡ suc (suc (2 * n)) = omega arith in
    let one : 2 * n + 1 ≡ suc (2 * n) = omega arith in
    let last : f (2 * n + 1) ≡ f (suc (2 * n)) = ap f one in
    let rest = sum_pairs f n in
    let first = sum_below-suc f (suc (2 * n)) in
    let second = sum_below-suc f (2 * n) in
    let pair = sum_below-suc (λ c. f (2 * c) + f (2 * c + 1)) n in
    ap (sum_below f) twice ∙ omega (arith, last, rest, first, second, pair)

pub sum_zero : (f : ℕ → ℕ) (n : ℕ) → ((i : ℕ) → i < n → f i ≡ 0) → sum_below f n ≡ 0
unfolding sum_below
sum_zero f zero h = refl
sum_zero f (suc n) h = let here = h n (omega arith) in let rest = sum_zero f n (λ i lt. h i (omega (arith, lt))) in omega (arith, here, rest)

-- ---- numbers that are met once

pub eqb-other : (x y : ℕ) → (x ≡ y → ⊥) → eqb x y ≡ false
eqb-other x y ne = go (eqb x y) refl
  where
    go : (b : Bool) → eqb x y ≡ b → b ≡ false
    go true e = absurd (ne (eqb-true x y e))
    go false e = refl

pub cond-same : {X : Type 0} (x y : ℕ) (a b : X) → x ≡ y → cond (eqb x y) a b ≡ a
cond-same x y a b e = ap (λ t. cond t a b) (eq-eqb x y e)

pub cond-other : {X : Type 0} (x y : ℕ) (a b : X) → (x ≡ y → ⊥) → cond (eqb x y) a b ≡ b
cond-other x y a b ne = ap (λ t. cond t a b) (eqb-other x y ne)

-- the sum of the one number x
pub sum_once : (g : ℕ → ℕ) (x n : ℕ) → x < n → sum_below (λ i. cond (eqb x i) (g i) 0) n ≡ g x
unfolding sum_below
sum_once g x zero lt = absurd (omega (arith, lt))
sum_once g x (suc n) lt =
    same_or x n
    (λ e.
    let here : cond (eqb x n) (g n) 0 ≡ g n = cond-same x n (g n) 0 e in
    let there : g n ≡ g x = ap g (sym e) in
    let rest : sum_below (λ i. cond (eqb x i) (g i) 0) n ≡ 0 = sum_zero (λ i. cond (eqb x i) (g i) 0) n (λ i l. cond-other x i (g i) 0 (λ f. omega (arith, e, f, l))) in
    omega (arith, here, there, rest))
    (λ ne.
    let here : cond (eqb x n) (g n) 0 ≡ 0 = cond-other x n (g n) 0 ne in
    let rest = sum_once g x n (omega (arith, lt, ne)) in
    omega (arith, here, rest))

-- the order of two sums doesn't matter
pub sum_turned : (f : ℕ → ℕ → ℕ) (n m : ℕ) → sum_below (λ i. sum_below (f i) m) n ≡ sum_below (λ j. sum_below (λ i. f i j) n) m
unfolding sum_below
sum_turned f zero m = sym (sum_zero (λ j. 0) m (λ i lt. refl))
sum_turned f (suc n) m =
    let rest = sum_turned f n m in
    let both = sum_both (f n) (λ j. sum_below (λ i. f i j) n) m in
    omega (arith, rest, both)

one_more : (t : Bool) (v s k : ℕ) → s ≡ k * v → cond t v 0 + s ≡ (cond t 1 0 + k) * v
one_more true v s k e = omega (arith, e)
one_more false v s k e = omega (arith, e)

pub sum_times : (b : ℕ → Bool) (v n : ℕ) → sum_below (λ i. cond (b i) v 0) n ≡ sum_below (λ i. cond (b i) 1 0) n * v
unfolding sum_below
sum_times b v zero = omega arith
sum_times b v (suc n) = one_more (b n) v (sum_below (λ i. cond (b i) v 0) n) (sum_below (λ i. cond (b i) 1 0) n) (sum_times b v n)

pub sum_ones : (n : ℕ) → sum_below (λ i. 1) n ≡ n
unfolding sum_below
sum_ones zero = refl
sum_ones (suc n) = let rest = sum_ones n in omega (arith, rest)

sum_few : (f : ℕ → ℕ) (n : ℕ) → ((i : ℕ) → i < n → f i ≤ 1) → sum_below f n ≤ n
unfolding sum_below
sum_few f zero h = omega arith
sum_few f (suc n) h = let here = h n (omega arith) in let rest = sum_few f n (λ i lt. h i (omega (arith, lt))) in omega (arith, here, rest)

-- n numbers of at most 1 whose sum is n are all 1
all_ones : (f : ℕ → ℕ) (n : ℕ) → ((i : ℕ) → i < n → f i ≤ 1) → sum_below f n ≡ n → (i : ℕ) → i < n → f i ≡ 1
unfolding sum_below
all_ones f zero h e i lt = absurd (omega (arith, lt))
all_ones f (suc n) h e i lt =
    let few = sum_few f n (λ j l. h j (omega (arith, l))) in
    let here = h n (omega arith) in
    same_or i n
    (λ last. let same : f i ≡ f n = ap f last in omega (arith, few, here, e, same))
    (λ ne. all_ones f n (λ j l. h j (omega (arith, l))) (omega (arith, few, here, e)) i (omega (arith, lt, ne)))

-- ---- a permutation of the numbers below n

module _ (n : ℕ) (next : ℕ → ℕ) (below : (i : ℕ) → i < n → next i < n) (one : (i j : ℕ) → i < n → j < n → next i ≡ next j → i ≡ j) where
  -- how many of the numbers below m go to j
  hits : ℕ → ℕ → ℕ
  hits m j = sum_below (λ i. cond (eqb (next i) j) 1 0) m

  few_hits : (m j : ℕ) → m ≤ n → hits m j ≤ 1
  unfolding hits sum_below
  few_hits zero j le = omega arith
  few_hits (suc m) j le =
      same_or (next m) j
      (λ e.
      let here : ◌≡◌ {A = ℕ} (cond (eqb (next m) j) 1 0) 1 = cond-same (next m) j 1 0 e in
      let rest : sum_below (λ i. cond (eqb (next i) j) 1 0) m ≡ 0 = sum_zero (λ i. cond (eqb (next i) j) 1 0) m (λ i l. cond-other (next i) j 1 0 (λ f. let same : i ≡ m = one i m (omega (arith, l, le)) (omega (arith, le)) (f ∙ sym e) in omega (arith, same, l))) in
      omega (arith, here, rest))
      (λ ne.
      let here : ◌≡◌ {A = ℕ} (cond (eqb (next m) j) 1 0) 0 = cond-other (next m) j 1 0 ne in
      let rest = few_hits m j (omega (arith, le)) in
      omega (arith, here, rest))

  all_hits : sum_below (hits n) n ≡ n
  unfolding hits
  all_hits =
      sym (sum_turned (λ i j. cond (eqb (next i) j) 1 0) n n)
      ∙ sum_same (λ i. sum_below (λ j. cond (eqb (next i) j) 1 0) n) (λ i. 1) n (λ i lt. sum_once (λ j. 1) (next i) n (below i lt))
      ∙ sum_ones n

  one_hit : (j : ℕ) → j < n → hits n j ≡ 1
  one_hit j lt = all_ones (hits n) n (λ i l. few_hits n i (omega arith)) all_hits j lt

  pub sum_permuted : (f : ℕ → ℕ) → sum_below (λ i. f (next i)) n ≡ sum_below f n
  unfolding hits
  sum_permuted f =
      sym (sum_same (λ i. sum_below (λ j. cond (eqb (next i) j) (f j) 0) n) (λ i. f (next i)) n (λ i lt. sum_once f (next i) n (below i lt)))
      ∙ sum_turned (λ i j. cond (eqb (next i) j) (f j) 0) n n
      ∙ sum_same (λ j. sum_below (λ i. cond (eqb (next i) j) (f j) 0) n) f n (λ j lt.
      let times = sum_times (λ i. eqb (next i) j) (f j) n in
      let once : hits n j ≡ 1 = one_hit j lt in
      times ∙ ap (λ k. k * f j) once ∙ omega arith)
