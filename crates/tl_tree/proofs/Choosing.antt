-- Pairs that are chosen: one that was tested, and how many there are of them.
use Rattle.std.proofs.Common.{◌≡◌, ℕ, zero, suc, ◌<◌, ◌≤◌, min, max, Bool, true, false, ◌&&◌, eqb, Option, None, if◌then◌else◌, refl, sym, subst, arith}
use Rattle.std.proofs.lemmas.Bool.{false≢true, and_parts as both}
use Rattle.std.proofs.lemmas.Bool.Decides.{nat_tests}
use Rattle.tl_geom.specs.declared.rect.Rect.{Rect}
use Rattle.tl_geom.specs.Rectangle.{AreMeeting}
use Rattle.tl_tree_index.specs.Pairs.{indices, row_sum, pair_sum, meeting}
use Rattle.tl_tree_index.specs.Searches.{IsFreePair, IsBeyond, chosen_pairs}
use Rattle.tl_tree.specs.Keeping.Walking.{CountsChosen, Enough, IsSpent}
use Rattle.tl_tree.proofs.Apart.{turned}
use Rattle.tl_tree.proofs.Leaving.{enough_from}
use Rattle.tl_tree.proofs.PairTests.{below_or, free-told, meeting-1, meeting-swap}

-- ---- one pair

same : (i j : ℕ) → eqb i j ≡ true → i ≡ j
same i j e = grind (arith, nat_tests)

tests : (i j : ℕ) → (eqb i i && eqb j j) ≡ true
tests i j = grind (arith, nat_tests)

module _ {C : Type 0} {n : ℕ} {b : ℕ → Rect} {tells : ℕ → ℕ → Option C → Type 0} where
  enough_ordered : (i j : ℕ) → i < j → j < n → IsFreePair b tells i j → Enough n b tells (λ f. 1 ≤ f i j)
  enough_ordered i j l k h =
      record {
        chosen = λ x y. eqb x i && eqb y j;
        free = λ x y p q t.
            let e = both (eqb x i) (eqb y j) t in
            let P : ℕ → Type 0 = λ z. IsFreePair b tells z y in
            let Q : ℕ → Type 0 = IsFreePair b tells i in
            subst P (sym (same x i e.0)) (subst Q (sym (same y j e.1)) h);
        counted = λ f c. c.each i j l k (tests i j);
      }

  -- a pair that was tested
  pub enough_pair : (i j : ℕ) → i < n → j < n → (i ≡ j → ⊥) → AreMeeting (b i) (b j) → tells (min i j) (max i j) None → Enough n b tells (λ f. 1 ≤ f i j)
  enough_pair i j h k ne m t =
      let told = free-told tells i j t in
      below_or i j
      (λ l. enough_ordered i j l k (record { meet = m; told = told.up l }))
      (λ e. absurd (ne e))
      (λ l. enough_from (enough_ordered j i l h (record { meet = turned (b i) (b j) m; told = told.down l })) (λ f s p. omega (arith, p, s i j)))

-- ---- all of them

-- 1 of two that are chosen, the lower one first
ordered : (ℕ → ℕ → Bool) → ℕ → ℕ → ℕ
ordered chosen x y = if chosen (min x y) (max x y) then 1 else 0

ordered-turned : (chosen : ℕ → ℕ → Bool) (x y : ℕ) → ordered chosen x y ≡ ordered chosen y x
unfolding ordered
ordered-turned chosen x y =
    let e : min x y ≡ min y x = omega arith in
    let h : max x y ≡ max y x = omega arith in
    rw (e, h) refl

ordered-down : (chosen : ℕ → ℕ → Bool) (x y : ℕ) → y < x → ordered chosen x y ≡ (if chosen y x then 1 else 0)
unfolding ordered
ordered-down chosen x y l =
    let e : min x y ≡ y = omega (arith, l) in
    let h : max x y ≡ x = omega (arith, l) in
    rw (e, h) refl

one-of : (t : Bool) → t ≡ true → 1 ≤ (if t then 1 else 0)
one-of true e = omega arith
one-of false e = absurd (false≢true e)

ordered-each : (chosen : ℕ → ℕ → Bool) (i j : ℕ) → i < j → chosen i j ≡ true → 1 ≤ ordered chosen i j
ordered-each chosen i j l t = omega (arith, ordered-turned chosen i j, ordered-down chosen j i l, one-of (chosen i j) t)

row-ordered : (chosen : ℕ → ℕ → Bool) (x n : ℕ) → n ≤ x → row_sum (ordered chosen) x (indices n) ≡ row_sum (λ j i. if chosen i j then 1 else 0) x (indices n)
unfolding indices
row-ordered chosen x zero h = refl
row-ordered chosen x (suc n) h = omega (arith, ordered-down chosen x n (omega (arith, h)), row-ordered chosen x n (omega (arith, h)))

pairs-ordered : (chosen : ℕ → ℕ → Bool) (n : ℕ) → pair_sum (ordered chosen) (indices n) ≡ chosen_pairs chosen n
unfolding indices
pairs-ordered chosen zero = refl
pairs-ordered chosen (suc n) = omega (arith, row-ordered chosen n n (omega arith), pairs-ordered chosen n)

-- where a whole search stops without a conflict, the budget is spent
pub beyond : {C : Type 0} (n : ℕ) (b : ℕ → Rect) (tells : ℕ → ℕ → Option C → Type 0) (budget : ℕ) → IsSpent n b tells (λ f. pair_sum f (indices n)) budget → IsBeyond n b tells budget
beyond n b tells budget h =
    let chosen = h.spent.chosen in
    let m : CountsChosen n chosen (meeting b) =
    record { turned = meeting-swap b; each = λ i j l k t. let e = meeting-1 b i j (λ e. omega (arith, e, l)) (h.spent.free i j l k t).meet in omega (arith, e) } in
    let o : CountsChosen n chosen (ordered chosen) = record { turned = ordered-turned chosen; each = λ i j l k t. ordered-each chosen i j l t } in
    record {
      more = omega (arith, h.spent.counted (meeting b) m, h.further);
      chosen = chosen;
      many = omega (arith, h.spent.counted (ordered chosen) o, pairs-ordered chosen n);
      free = h.spent.free;
    }
