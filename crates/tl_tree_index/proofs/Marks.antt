-- Marks of items.
use Rattle.std.proofs.Common.{◌≡◌, ℕ, zero, suc, ◌+◌, ◌<◌, ◌≤◌, Bool, true, false, cond, List, [], ◌∷◌, ◌++◌, length, get_or, take, set, refl, ap, ◌∙◌, length-set, get_or-set_same, get_or-set_other, arith}
use Rattle.std.proofs.lemmas.List.{take_more}
use Rattle.tl_tree_index.specs.Fits.{AreBelow}
use Rattle.tl_tree_index.specs.Hits.{times}
use Rattle.tl_tree_index.specs.Keeping.Marked.{mark_at, AreMarked}
use Rattle.tl_tree_index.proofs.Times.{same_or, times-same, times-other, times-append}

pub times-at : (xs : List ℕ) (k : ℕ) → k < length xs → 1 ≤ times (get_or xs k 0) xs
times-at [] k h = absurd (omega (arith, h))
times-at (x ∷ xs) zero h = omega (arith, times-same x x xs refl)
times-at (x ∷ xs) (suc k) h = omega (arith, times-at xs k (omega (arith, h)))

pub times-take : (i : ℕ) (xs : List ℕ) (k : ℕ) → times i (take k xs) ≤ times i xs
times-take i xs zero = omega arith
times-take i [] (suc k) = omega arith
times-take i (x ∷ xs) (suc k) = omega (arith, times-take i xs k)

pub times-more : (i : ℕ) (xs : List ℕ) (k : ℕ) → k < length xs → times i (take (k + 1) xs) ≡ times i (take k xs) + times i (get_or xs k 0 ∷ [])
times-more i xs k h = ap (times i) (take_more xs k 0 h) ∙ times-append i (take k xs) (get_or xs k 0 ∷ [])

pub below-append : (n : ℕ) (xs ys : List ℕ) → AreBelow n xs → AreBelow n ys → AreBelow n (xs ++ ys)
below-append n [] ys h k = k
below-append n (x ∷ xs) ys h k = (h.0, below-append n xs ys h.1 k)

mark-same : (marks : List Bool) (i : ℕ) → i < length marks → mark_at (set marks i true) i ≡ 1
mark-same marks i h = ap (λ t. cond t 1 0) (get_or-set_same marks i true false h)

mark-other : (marks : List Bool) (i j : ℕ) → (j ≡ i → ⊥) → mark_at (set marks i true) j ≡ mark_at marks j
mark-other marks i j ne = let f : Bool → ℕ = λ t. cond t 1 0 in ap f (get_or-set_other marks i j true false ne)

pub unmarked : (marks : List Bool) (i : ℕ) → get_or marks i false ≡ false → mark_at marks i ≡ 0
unmarked marks i e = ap (λ t. cond t 1 0) e

pub is-marked : (marks : List Bool) (i : ℕ) → get_or marks i false ≡ true → mark_at marks i ≡ 1
is-marked marks i e = ap (λ t. cond t 1 0) e

module _ (old : List Bool) (xs : List ℕ) (k : ℕ) (marks : List Bool) where
  pub marks-more : AreMarked old (take k xs) marks → k < length xs → get_or xs k 0 < length marks → get_or marks (get_or xs k 0) false ≡ false → AreMarked old (take (k + 1) xs) (set marks (get_or xs k 0) true)
  marks-more m h l e =
      let x = get_or xs k 0 in
      record {
        complete = length-set marks x true ∙ m.complete;
        known = rw (take_more xs k 0 h) (below-append (length old) (take k xs) (x ∷ []) m.known (omega (arith, l, m.complete), tt));
        marked = λ i. same_or i x
            (λ p. rw p (omega (arith, mark-same marks x l, times-more x xs k h, times-same x x [] refl, m.marked x, unmarked marks x e)))
            (λ ne. omega (arith, mark-other marks x i ne, times-more i xs k h, times-other i x [] ne, m.marked i));
      }

  pub twice : AreMarked old (take k xs) marks → k < length xs → get_or marks (get_or xs k 0) false ≡ true → 2 ≤ mark_at old (get_or xs k 0) + times (get_or xs k 0) xs
  twice m h e =
      let x = get_or xs k 0 in
      omega (arith, m.marked x, is-marked marks x e, times-more x xs k h, times-same x x [] refl, times-take x xs (k + 1))

-- items are marked one list after the other
pub marked-both : (old mid new : List Bool) (xs ys : List ℕ) → AreMarked old xs mid → AreMarked mid ys new → AreMarked old (xs ++ ys) new
marked-both old mid new xs ys m k =
    record {
      complete = k.complete ∙ m.complete;
      known = below-append (length old) xs ys m.known (rw (← m.complete) k.known);
      marked = λ i. omega (arith, m.marked i, k.marked i, times-append i xs ys);
    }
