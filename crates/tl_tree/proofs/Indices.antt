-- Sums over the numbers below a bound, as a loop comes to them.
use Rattle.std.proofs.Common.{◌≡◌, ℕ, zero, suc, ◌+◌, ◌≤◌, refl, add-one, arith}
use Rattle.tl_tree_index.specs.Pairs.{indices, row_sum, pair_sum, AllRow, AllPairs}
use Rattle.tl_tree_index.proofs.Times.{same_or}

pub row-more : (f : ℕ → ℕ → ℕ) (x i : ℕ) → row_sum f x (indices (i + 1)) ≡ f x i + row_sum f x (indices i)
unfolding indices
row-more f x i = rw add-one refl

pub pair-more : (f : ℕ → ℕ → ℕ) (j : ℕ) → pair_sum f (indices (j + 1)) ≡ row_sum f j (indices j) + pair_sum f (indices j)
unfolding indices
pair-more f j = rw add-one refl

row-suc : (f : ℕ → ℕ → ℕ) (x i : ℕ) → row_sum f x (indices (suc i)) ≡ f x i + row_sum f x (indices i)
unfolding indices
row-suc f x i = refl

pair-suc : (f : ℕ → ℕ → ℕ) (j : ℕ) → pair_sum f (indices (suc j)) ≡ row_sum f j (indices j) + pair_sum f (indices j)
unfolding indices
pair-suc f j = refl

pub row-0 : (f : ℕ → ℕ → ℕ) (x : ℕ) → row_sum f x (indices 0) ≡ 0
unfolding indices
row-0 f x = refl

pub pair-0 : (f : ℕ → ℕ → ℕ) → pair_sum f (indices 0) ≡ 0
unfolding indices
pair-0 f = refl

pub row-grows : (f : ℕ → ℕ → ℕ) (x i j : ℕ) → i ≤ j → row_sum f x (indices i) ≤ row_sum f x (indices j)
row-grows f x i zero h = let e : i ≡ 0 = omega (arith, h) in rw e (omega arith)
row-grows f x i (suc j) h =
    same_or i (suc j) (λ e. rw e (omega arith))
    (λ ne. omega (arith, row-grows f x i j (omega (arith, h, ne)), row-suc f x j))

pub pair-grows : (f : ℕ → ℕ → ℕ) (i j : ℕ) → i ≤ j → pair_sum f (indices i) ≤ pair_sum f (indices j)
pair-grows f i zero h = let e : i ≡ 0 = omega (arith, h) in rw e (omega arith)
pair-grows f i (suc j) h =
    same_or i (suc j) (λ e. rw e (omega arith))
    (λ ne. omega (arith, pair-grows f i j (omega (arith, h, ne)), pair-suc f j))

-- ---- what is true of each pair

module _ (P : ℕ → ℕ → Type 0) where
  pub all_row-0 : (x : ℕ) → AllRow P x (indices 0)
  unfolding indices
  all_row-0 x = tt

  pub all_row-more : (x i : ℕ) → P x i → AllRow P x (indices i) → AllRow P x (indices (i + 1))
  unfolding indices
  all_row-more x i p a = rw add-one (p, a)

  pub all_pairs-0 : AllPairs P (indices 0)
  unfolding indices
  all_pairs-0 = tt

  pub all_pairs-more : (j : ℕ) → AllRow P j (indices j) → AllPairs P (indices j) → AllPairs P (indices (j + 1))
  unfolding indices
  all_pairs-more j p a = rw add-one (p, a)
