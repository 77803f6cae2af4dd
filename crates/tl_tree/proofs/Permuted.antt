-- Sums over a list in which each number below n stands once.
use Rattle.std.proofs.Common.{◌≡◌, ℕ, zero, suc, ◌+◌, ◌<◌, cond, eqb, List, [], ◌∷◌, refl, sym, ap, ◌∙◌, subst, arith}
use Rattle.std.proofs.lemmas.Bool.Decides.{nat_tests}
use Rattle.tl_tree_index.specs.Pairs.{indices, row_sum, pair_sum, AllRow, AllPairs}
use Rattle.tl_tree_index.specs.Hits.{times}
use Rattle.tl_tree_index.specs.Fits.{AreBelow}
use Rattle.tl_tree_index.proofs.Times.{same_or, times-same, times-other}
use Rattle.tl_tree.proofs.PairLemmas.{IsSymmetric, Turns}

-- the list without each n
without : ℕ → List ℕ → List ℕ
without n [] = []
without n (x ∷ xs) = cond (eqb n x) (without n xs) (x ∷ without n xs)

without-same : (n x : ℕ) (xs : List ℕ) → n ≡ x → without n (x ∷ xs) ≡ without n xs
unfolding without
without-same n x xs e = grind (arith, nat_tests)

without-other : (n x : ℕ) (xs : List ℕ) → (n ≡ x → ⊥) → without n (x ∷ xs) ≡ x ∷ without n xs
unfolding without
without-other n x xs ne = grind (arith, nat_tests)

without-none : (n : ℕ) (xs : List ℕ) → times n xs ≡ 0 → without n xs ≡ xs
unfolding without
without-none n [] h = refl
without-none n (x ∷ xs) h =
    same_or n x (λ e. absurd (omega (arith, h, times-same n x xs e)))
    (λ ne. without-other n x xs ne ∙ ap (λ ys. x ∷ ys) (without-none n xs (omega (arith, h, times-other n x xs ne))))

times-without : (i n : ℕ) (xs : List ℕ) → (i ≡ n → ⊥) → times i (without n xs) ≡ times i xs
unfolding without
times-without i n [] ne = refl
times-without i n (x ∷ xs) ne =
    same_or n x
    (λ e. ap (times i) (without-same n x xs e) ∙ times-without i n xs ne ∙ sym (times-other i x xs (λ p. ne (p ∙ sym e))))
    (λ no. ap (times i) (without-other n x xs no) ∙ same_or i x
    (λ e. times-same i x (without n xs) e ∙ ap (λ k. 1 + k) (times-without i n xs ne) ∙ sym (times-same i x xs e))
    (λ ni. times-other i x (without n xs) ni ∙ times-without i n xs ne ∙ sym (times-other i x xs ni)))

below-without : (n : ℕ) (xs : List ℕ) → AreBelow (suc n) xs → AreBelow n (without n xs)
unfolding without
below-without n [] h = tt
below-without n (x ∷ xs) h =
    let P : List ℕ → Type 0 = AreBelow n in
    same_or n x
    (λ e. rw (without-same n x xs e) (below-without n xs h.1))
    (λ ne. rw (without-other n x xs ne) (omega (arith, h.0, ne), below-without n xs h.1))

row-without : (f : ℕ → ℕ → ℕ) (y n : ℕ) (xs : List ℕ) → times n xs ≡ 1 → row_sum f y xs ≡ f y n + row_sum f y (without n xs)
unfolding without
row-without f y n [] h = absurd (omega (arith, h))
row-without f y n (x ∷ xs) h =
    same_or n x
    (λ e. rw (without-same n x xs e, without-none n xs (omega (arith, h, times-same n x xs e))) (ap (λ z. f y z + row_sum f y xs) (sym e)))
    (λ ne. rw (without-other n x xs ne) (omega (arith, row-without f y n xs (omega (arith, h, times-other n x xs ne)))))

pair-without : (f : ℕ → ℕ → ℕ) → IsSymmetric f → (n : ℕ) (xs : List ℕ) → times n xs ≡ 1 → pair_sum f xs ≡ row_sum f n (without n xs) + pair_sum f (without n xs)
unfolding without
pair-without f s n [] h = absurd (omega (arith, h))
pair-without f s n (x ∷ xs) h =
    same_or n x
    (λ e. rw (without-same n x xs e, without-none n xs (omega (arith, h, times-same n x xs e))) (ap (λ z. row_sum f z xs + pair_sum f xs) (sym e)))
    (λ ne.
    let t : times n xs ≡ 1 = omega (arith, h, times-other n x xs ne) in
    rw (without-other n x xs ne) (omega (arith, row-without f x n xs t, pair-without f s n xs t, s x n)))

rows-same : (f : ℕ → ℕ → ℕ) (y n : ℕ) (xs : List ℕ) → AreBelow n xs → ((i : ℕ) → i < n → times i xs ≡ 1) → row_sum f y xs ≡ row_sum f y (indices n)
unfolding indices
rows-same f y zero [] h k = refl
rows-same f y zero (x ∷ xs) h k = absurd (omega (arith, h.0))
rows-same f y (suc n) xs h k =
    omega (arith, row-without f y n xs (k n (omega arith)), rows-same f y n (without n xs) (below-without n xs h) (λ i l. times-without i n xs (λ e. omega (arith, e, l)) ∙ k i (omega (arith, l))))

-- such a list has the same sum over pairs as the numbers below n, where the order of two doesn't matter
pub pairs-same : (f : ℕ → ℕ → ℕ) → IsSymmetric f → (n : ℕ) (xs : List ℕ) → AreBelow n xs → ((i : ℕ) → i < n → times i xs ≡ 1) → pair_sum f xs ≡ pair_sum f (indices n)
unfolding indices
pairs-same f s zero [] h k = refl
pairs-same f s zero (x ∷ xs) h k = absurd (omega (arith, h.0))
pairs-same f s (suc n) xs h k =
    let known = below-without n xs h in
    let once : (i : ℕ) → i < n → times i (without n xs) ≡ 1 = λ i l. times-without i n xs (λ e. omega (arith, e, l)) ∙ k i (omega (arith, l)) in
    omega (arith, pair-without f s n xs (k n (omega arith)), rows-same f n n (without n xs) known once, pairs-same f s n (without n xs) known once)

-- ---- what is true of each pair

module _ (P : ℕ → ℕ → Type 0) where
  all_row-at : (y n : ℕ) (xs : List ℕ) → times n xs ≡ 1 → AllRow P y xs → P y n × AllRow P y (without n xs)
  unfolding without
  all_row-at y n [] h a = absurd (omega (arith, h))
  all_row-at y n (x ∷ xs) h a =
      same_or n x
      (λ e. rw (without-same n x xs e, without-none n xs (omega (arith, h, times-same n x xs e))) ((let Q : ℕ → Type 0 = P y in subst Q (sym e) a.0), a.1))
      (λ ne.
      let k : P y n × AllRow P y (without n xs) = all_row-at y n xs (omega (arith, h, times-other n x xs ne)) a.1 in
      rw (without-other n x xs ne) (k.0, (a.0, k.1)))

  all_pairs-at : Turns P → (n : ℕ) (xs : List ℕ) → times n xs ≡ 1 → AllPairs P xs → AllRow P n (without n xs) × AllPairs P (without n xs)
  unfolding without
  all_pairs-at s n [] h a = absurd (omega (arith, h))
  all_pairs-at s n (x ∷ xs) h a =
      same_or n x
      (λ e. rw (without-same n x xs e, without-none n xs (omega (arith, h, times-same n x xs e))) ((let Q : ℕ → Type 0 = λ z. AllRow P z xs in subst Q (sym e) a.0), a.1))
      (λ ne.
      let t : times n xs ≡ 1 = omega (arith, h, times-other n x xs ne) in
      let r : P x n × AllRow P x (without n xs) = all_row-at x n xs t a.0 in
      let k : AllRow P n (without n xs) × AllPairs P (without n xs) = all_pairs-at s n xs t a.1 in
      rw (without-other n x xs ne) ((s x n r.0, k.0), (r.1, k.1)))

  all_rows-same : (y n : ℕ) (xs : List ℕ) → AreBelow n xs → ((i : ℕ) → i < n → times i xs ≡ 1) → AllRow P y xs → AllRow P y (indices n)
  unfolding indices
  all_rows-same y zero xs h k a = tt
  all_rows-same y (suc n) xs h k a =
      let r = all_row-at y n xs (k n (omega arith)) a in
      (r.0, all_rows-same y n (without n xs) (below-without n xs h) (λ i l. times-without i n xs (λ e. omega (arith, e, l)) ∙ k i (omega (arith, l))) r.1)

  -- what is true of each pair of such a list is true of each pair of the numbers below n
  pub all_pairs-same : Turns P → (n : ℕ) (xs : List ℕ) → AreBelow n xs → ((i : ℕ) → i < n → times i xs ≡ 1) → AllPairs P xs → AllPairs P (indices n)
  unfolding indices
  all_pairs-same s zero xs h k a = tt
  all_pairs-same s (suc n) xs h k a =
      let r = all_pairs-at s n xs (k n (omega arith)) a in
      let known = below-without n xs h in
      let once : (i : ℕ) → i < n → times i (without n xs) ≡ 1 = λ i l. times-without i n xs (λ e. omega (arith, e, l)) ∙ k i (omega (arith, l)) in
      (all_rows-same n n (without n xs) known once r.0, all_pairs-same s n (without n xs) known once r.1)

  row-at : (i j n : ℕ) → i < n → AllRow P j (indices n) → P j i
  unfolding indices
  row-at i j zero h a = absurd (omega (arith, h))
  row-at i j (suc n) h a =
      same_or i n (λ e. let Q : ℕ → Type 0 = P j in subst Q (sym e) a.0) (λ ne. row-at i j n (omega (arith, h, ne)) a.1)

  pub pair-at : (n i j : ℕ) → AllPairs P (indices n) → i < j → j < n → P j i
  unfolding indices
  pair-at zero i j a h k = absurd (omega (arith, k))
  pair-at (suc n) i j a h k =
      same_or j n
      (λ e. let Q : ℕ → Type 0 = λ z. P z i in subst Q (sym e) (row-at i n n (omega (arith, h, e)) a.0))
      (λ ne. pair-at n i j a.1 h (omega (arith, k, ne)))
