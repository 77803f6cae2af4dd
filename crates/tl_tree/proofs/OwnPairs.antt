-- The pairs of at most eight items by turns: what the cells add up to, and what unmarked ones are.
use Rattle.std.proofs.Common.{◌≡◌, ℕ, zero, suc, ◌+◌, ◌-◌, ◌%◌, ◌^◌, ◌<◌, ◌≤◌, ◌⊎◌, inl, inr, List, [], ◌∷◌, length, get_or, take, drop, Option, refl, sym, ap, subst, ◌∙◌, arith}
use Rattle.std.specs.Int.{bit_at}
use Rattle.std.proofs.lemmas.List.{at_drop_more, at_drop_all}
use Rattle.std.proofs.lemmas.Nat.Bits.{bit_at_above}
use Rattle.tl_geom.specs.declared.rect.Rect.{Rect}
use Rattle.tl_geom.specs.Rectangle.{AreMeeting}
use Rattle.tl_tree_index.specs.Fits.{AreBelow}
use Rattle.tl_tree.specs.Keeping.OwnPairs.{partner, own_sum, AllOwn, AreThere, AreOwnCells}
use Rattle.tl_tree_index.specs.Pairs.{meeting, row_sum, cross_sum, pair_sum, AllCross, AllPairs, AreToldApart}
use Rattle.tl_tree.proofs.Apart.{one-none, one-none_free}
use Rattle.tl_tree.proofs.CellRows.{cell-in, all-cell-in}
use Rattle.tl_tree.proofs.PairLemmas.{cross-nil, all_cross-nil, IsSymmetric, Turns}
use Rattle.tl_tree.proofs.PairTests.{KeepsLaw}
use Rattle.tl_tree.proofs.Steps.{below-at}
use Rattle.tl_geom.proofs.Turns.{below-or as by_test}

-- ---- the cells below some number

unfoldable pub own_sums : (ℕ → ℕ → ℕ) → List ℕ → ℕ → ℕ
own_sums f xs zero = 0
own_sums f xs (suc n) = own_sums f xs n + own_sum f xs n

abbrev pub AllOwns : (ℕ → ℕ → Type 0) → List ℕ → ℕ → Type 0
AllOwns P xs n = (p : ℕ) → p < n → AllOwn P xs p

pub own-start : (f : ℕ → ℕ → ℕ) (xs : List ℕ) → own_sums f xs 0 ≡ 0
unfolding own_sums
own-start f xs = refl

own-suc : (f : ℕ → ℕ → ℕ) (xs : List ℕ) (n : ℕ) → own_sums f xs (suc n) ≡ own_sums f xs n + own_sum f xs n
unfolding own_sums
own-suc f xs n = refl

pub own-more : (f : ℕ → ℕ → ℕ) (xs : List ℕ) (n : ℕ) → own_sums f xs (n + 1) ≡ own_sums f xs n + own_sum f xs n
own-more f xs n = let e : n + 1 ≡ suc n = omega arith in ap (own_sums f xs) e ∙ own-suc f xs n

pub owns-more : (P : ℕ → ℕ → Type 0) (xs : List ℕ) (n : ℕ) → AllOwns P xs n → AllOwn P xs n → AllOwns P xs (n + 1)
owns-more P xs n h one p lt = by_place (by_test p n)
  where
    by_place : (p < n) ⊎ (n ≤ p) → AllOwn P xs p
    by_place (inl l) = h p l
    by_place (inr l) = let e : n ≡ p = omega (arith, lt, l) in subst (AllOwn P xs) e one

pub own-in : (f : ℕ → ℕ → ℕ) (xs : List ℕ) (p : ℕ) → AreThere xs p → own_sum f xs p ≡ f (get_or xs (partner p) 0) (get_or xs (p % 8) 0)
own-in f xs p h =
    let ws : List ℕ = take 1 (drop (p % 8) xs) in
    let x = get_or xs (partner p) 0 in
    let e : own_sum f xs p ≡ row_sum f x ws + 0 = at_drop_more (λ (zs : List ℕ). cross_sum f (take 1 zs) ws) xs (partner p) 0 h.second in
    omega (arith, e, cell-in f x xs (p % 8) h.first)

pub all-own-in : (P : ℕ → ℕ → Type 0) (xs : List ℕ) (p : ℕ) → AreThere xs p → P (get_or xs (partner p) 0) (get_or xs (p % 8) 0) → AllOwn P xs p
all-own-in P xs p h r =
    let ws : List ℕ = take 1 (drop (p % 8) xs) in
    let e = at_drop_more (λ (zs : List ℕ). zs) xs (partner p) 0 h.second in
    let Q : List ℕ → Type 0 = λ zs. AllCross P (take 1 zs) ws in
    subst Q (sym e) (all-cell-in P (get_or xs (partner p) 0) xs (p % 8) h.first r, tt)

-- an item that isn't there
first-out : (xs : List ℕ) (p : ℕ) → length xs ≤ p % 8 → take 1 (drop (p % 8) xs) ≡ []
first-out xs p h = at_drop_all (λ (zs : List ℕ). take 1 zs) xs (p % 8) h

second-out : (xs : List ℕ) (p : ℕ) → length xs ≤ partner p → take 1 (drop (partner p) xs) ≡ []
second-out xs p h = at_drop_all (λ (zs : List ℕ). take 1 zs) xs (partner p) h

pub own-out : (f : ℕ → ℕ → ℕ) (xs : List ℕ) (p : ℕ) → (length xs ≤ p % 8) ⊎ (length xs ≤ partner p) → own_sum f xs p ≡ 0
own-out f xs p (inl h) = ap (cross_sum f (take 1 (drop (partner p) xs))) (first-out xs p h) ∙ cross-nil f (take 1 (drop (partner p) xs))
own-out f xs p (inr h) = ap (λ zs. cross_sum f zs (take 1 (drop (p % 8) xs))) (second-out xs p h)

pub all-own-out : (P : ℕ → ℕ → Type 0) (xs : List ℕ) (p : ℕ) → (length xs ≤ p % 8) ⊎ (length xs ≤ partner p) → AllOwn P xs p
all-own-out P xs p (inl h) =
    let Q : List ℕ → Type 0 = AllCross P (take 1 (drop (partner p) xs)) in
    subst Q (sym (first-out xs p h)) (all_cross-nil P (take 1 (drop (partner p) xs)))
all-own-out P xs p (inr h) =
    let Q : List ℕ → Type 0 = λ zs. AllCross P zs (take 1 (drop (p % 8) xs)) in
    subst Q (sym (second-out xs p h)) tt

-- ---- cells that aren't marked

module _ (b : ℕ → Rect) (xs : List ℕ) (cells : ℕ) (marked : AreOwnCells b xs cells) where
  unmarked-apart : (p : ℕ) → p < 28 → bit_at cells p ≡ 0 → AreThere xs p → AreMeeting (b (get_or xs (p % 8) 0)) (b (get_or xs (partner p) 0)) → ⊥
  unmarked-apart p lt none h m = let i : bit_at cells p ≡ 1 = (marked p lt h).1 m in absurd (omega (arith, none, i))

  own-unmarked : (p : ℕ) → p < 28 → bit_at cells p ≡ 0 → own_sum (meeting b) xs p ≡ 0
  own-unmarked p lt none = in_first (by_test (p % 8) (length xs))
    where
      in_second : p % 8 < length xs → (partner p < length xs) ⊎ (length xs ≤ partner p) → own_sum (meeting b) xs p ≡ 0
      in_second i (inl j) =
          let h : AreThere xs p = record { first = i; second = j } in
          own-in (meeting b) xs p h ∙ one-none b (get_or xs (partner p) 0) (get_or xs (p % 8) 0) (unmarked-apart p lt none h)
      in_second i (inr j) = own-out (meeting b) xs p (inr j)

      in_first : (p % 8 < length xs) ⊎ (length xs ≤ p % 8) → own_sum (meeting b) xs p ≡ 0
      in_first (inl i) = in_second i (by_test (partner p) (length xs))
      in_first (inr i) = own-out (meeting b) xs p (inl i)

  -- cells that aren't marked add nothing
  pub own-skip : (t p : ℕ) → p + t ≤ 28 → ((k : ℕ) → k < t → bit_at cells (p + k) ≡ 0) → own_sums (meeting b) xs (p + t) ≡ own_sums (meeting b) xs p
  own-skip zero p le none = let e : p + 0 ≡ p = omega arith in ap (own_sums (meeting b) xs) e
  own-skip (suc t) p le none =
      let e : p + suc t ≡ p + t + 1 = omega arith in
      let z = own-unmarked (p + t) (omega (arith, le)) (none t (omega arith)) in
      let s = own-skip t p (omega (arith, le)) (λ k l. none k (omega (arith, l))) in
      omega (arith, ap (own_sums (meeting b) xs) e, own-more (meeting b) xs (p + t), z, s)

  module _ {C : Type 0} (n : ℕ) (tells : ℕ → ℕ → Option C → Type 0) (law : KeepsLaw tells n b) (below : AreBelow n xs) where
    own-unmarked_free : (p : ℕ) → p < 28 → bit_at cells p ≡ 0 → AllOwn (AreToldApart tells) xs p
    own-unmarked_free p lt none = in_first (by_test (p % 8) (length xs))
      where
        in_second : p % 8 < length xs → (partner p < length xs) ⊎ (length xs ≤ partner p) → AllOwn (AreToldApart tells) xs p
        in_second i (inl j) =
            let h : AreThere xs p = record { first = i; second = j } in
            all-own-in (AreToldApart tells) xs p h (one-none_free n tells b law (get_or xs (partner p) 0) (get_or xs (p % 8) 0) (below-at n xs (partner p) j below) (below-at n xs (p % 8) i below) (unmarked-apart p lt none h))
        in_second i (inr j) = all-own-out (AreToldApart tells) xs p (inr j)

        in_first : (p % 8 < length xs) ⊎ (length xs ≤ p % 8) → AllOwn (AreToldApart tells) xs p
        in_first (inl i) = in_second i (by_test (partner p) (length xs))
        in_first (inr i) = all-own-out (AreToldApart tells) xs p (inl i)

    pub owns-skip : (t p : ℕ) → p + t ≤ 28 → ((k : ℕ) → k < t → bit_at cells (p + k) ≡ 0) → AllOwns (AreToldApart tells) xs p → AllOwns (AreToldApart tells) xs (p + t)
    owns-skip t p le none h q lt = by_place (by_test q p)
      where
        by_place : (q < p) ⊎ (p ≤ q) → AllOwn (AreToldApart tells) xs q
        by_place (inl l) = h q l
        by_place (inr l) =
            let e : p + (q - p) ≡ q = omega (arith, l) in
            own-unmarked_free q (omega (arith, lt, le)) (ap (bit_at cells) (sym e) ∙ none (q - p) (omega (arith, l, lt)))

-- further cells add to the sum
pub own-least : (f : ℕ → ℕ → ℕ) (xs : List ℕ) (t p : ℕ) → own_sums f xs p ≤ own_sums f xs (p + t)
own-least f xs zero p = let e : p + 0 ≡ p = omega arith in omega (arith, ap (own_sums f xs) e)
own-least f xs (suc t) p =
    let e : p + suc t ≡ p + t + 1 = omega arith in
    omega (arith, ap (own_sums f xs) e, own-more f xs (p + t), own-least f xs t p)

-- a marked cell is one of the first 28
pub marked-below : (cells p : ℕ) → cells < 2 ^ 28 → bit_at cells p ≡ 1 → p < 28
marked-below cells p small one = by_place (by_test p 28)
  where
    by_place : (p < 28) ⊎ (28 ≤ p) → p < 28
    by_place (inl l) = l
    by_place (inr l) = absurd (omega (arith, one, bit_at_above cells 28 p small l))

-- ---- all pairs

module _ (f : ℕ → ℕ → ℕ) (turns : IsSymmetric f) where
  pub own-total : (xs : List ℕ) → length xs ≤ 8 → own_sums f xs 28 ≡ pair_sum f xs
  unfolding own_sums
  own-total [] le = omega (arith)
  own-total (x0 ∷ []) le = omega (arith)
  own-total (x0 ∷ x1 ∷ []) le = omega (arith, turns x1 x0)
  own-total (x0 ∷ x1 ∷ x2 ∷ []) le = omega (arith, turns x1 x0, turns x2 x1, turns x2 x0)
  own-total (x0 ∷ x1 ∷ x2 ∷ x3 ∷ []) le = omega (arith, turns x1 x0, turns x2 x1, turns x3 x2, turns x2 x0, turns x3 x1, turns x3 x0)
  own-total (x0 ∷ x1 ∷ x2 ∷ x3 ∷ x4 ∷ []) le = omega (arith, turns x1 x0, turns x2 x1, turns x3 x2, turns x4 x3, turns x2 x0, turns x3 x1, turns x4 x2, turns x3 x0, turns x4 x1, turns x4 x0)
  own-total (x0 ∷ x1 ∷ x2 ∷ x3 ∷ x4 ∷ x5 ∷ []) le = omega (arith, turns x1 x0, turns x2 x1, turns x3 x2, turns x4 x3, turns x5 x4, turns x2 x0, turns x3 x1, turns x4 x2, turns x5 x3, turns x3 x0, turns x4 x1, turns x5 x2, turns x4 x0, turns x5 x1)
  own-total (x0 ∷ x1 ∷ x2 ∷ x3 ∷ x4 ∷ x5 ∷ x6 ∷ []) le = omega (arith, turns x1 x0, turns x2 x1, turns x3 x2, turns x4 x3, turns x5 x4, turns x6 x5, turns x2 x0, turns x3 x1, turns x4 x2, turns x5 x3, turns x6 x4, turns x3 x0, turns x4 x1, turns x5 x2, turns x6 x3, turns x4 x0, turns x5 x1, turns x6 x2)
  own-total (x0 ∷ x1 ∷ x2 ∷ x3 ∷ x4 ∷ x5 ∷ x6 ∷ x7 ∷ []) le = omega (arith, turns x1 x0, turns x2 x1, turns x3 x2, turns x4 x3, turns x5 x4, turns x6 x5, turns x7 x6, turns x2 x0, turns x3 x1, turns x4 x2, turns x5 x3, turns x6 x4, turns x7 x5, turns x3 x0, turns x4 x1, turns x5 x2, turns x6 x3, turns x7 x4, turns x4 x0, turns x5 x1, turns x6 x2, turns x7 x3)
  own-total (x0 ∷ x1 ∷ x2 ∷ x3 ∷ x4 ∷ x5 ∷ x6 ∷ x7 ∷ x8 ∷ xs) le = absurd (omega (arith, le))

module _ (P : ℕ → ℕ → Type 0) (turns : Turns P) where
  pub all-owns : (xs : List ℕ) → length xs ≤ 8 → AllOwns P xs 28 → AllPairs P xs
  all-owns [] le h = tt
  all-owns (x0 ∷ []) le h = (tt, tt)
  all-owns (x0 ∷ x1 ∷ []) le h = ((turns x1 x0 (h 0 (omega arith)).0.0, tt), (tt, tt))
  all-owns (x0 ∷ x1 ∷ x2 ∷ []) le h = ((turns x1 x0 (h 0 (omega arith)).0.0, (turns x2 x0 (h 8 (omega arith)).0.0, tt)), ((turns x2 x1 (h 1 (omega arith)).0.0, tt), (tt, tt)))
  all-owns (x0 ∷ x1 ∷ x2 ∷ x3 ∷ []) le h = ((turns x1 x0 (h 0 (omega arith)).0.0, (turns x2 x0 (h 8 (omega arith)).0.0, (turns x3 x0 (h 16 (omega arith)).0.0, tt))), ((turns x2 x1 (h 1 (omega arith)).0.0, (turns x3 x1 (h 9 (omega arith)).0.0, tt)), ((turns x3 x2 (h 2 (omega arith)).0.0, tt), (tt, tt))))
  all-owns (x0 ∷ x1 ∷ x2 ∷ x3 ∷ x4 ∷ []) le h = ((turns x1 x0 (h 0 (omega arith)).0.0, (turns x2 x0 (h 8 (omega arith)).0.0, (turns x3 x0 (h 16 (omega arith)).0.0, (turns x4 x0 (h 24 (omega arith)).0.0, tt)))), ((turns x2 x1 (h 1 (omega arith)).0.0, (turns x3 x1 (h 9 (omega arith)).0.0, (turns x4 x1 (h 17 (omega arith)).0.0, tt))), ((turns x3 x2 (h 2 (omega arith)).0.0, (turns x4 x2 (h 10 (omega arith)).0.0, tt)), ((turns x4 x3 (h 3 (omega arith)).0.0, tt), (tt, tt)))))
  all-owns (x0 ∷ x1 ∷ x2 ∷ x3 ∷ x4 ∷ x5 ∷ []) le h = ((turns x1 x0 (h 0 (omega arith)).0.0, (turns x2 x0 (h 8 (omega arith)).0.0, (turns x3 x0 (h 16 (omega arith)).0.0, (turns x4 x0 (h 24 (omega arith)).0.0, ((h 21 (omega arith)).0.0, tt))))), ((turns x2 x1 (h 1 (omega arith)).0.0, (turns x3 x1 (h 9 (omega arith)).0.0, (turns x4 x1 (h 17 (omega arith)).0.0, (turns x5 x1 (h 25 (omega arith)).0.0, tt)))), ((turns x3 x2 (h 2 (omega arith)).0.0, (turns x4 x2 (h 10 (omega arith)).0.0, (turns x5 x2 (h 18 (omega arith)).0.0, tt))), ((turns x4 x3 (h 3 (omega arith)).0.0, (turns x5 x3 (h 11 (omega arith)).0.0, tt)), ((turns x5 x4 (h 4 (omega arith)).0.0, tt), (tt, tt))))))
  all-owns (x0 ∷ x1 ∷ x2 ∷ x3 ∷ x4 ∷ x5 ∷ x6 ∷ []) le h = ((turns x1 x0 (h 0 (omega arith)).0.0, (turns x2 x0 (h 8 (omega arith)).0.0, (turns x3 x0 (h 16 (omega arith)).0.0, (turns x4 x0 (h 24 (omega arith)).0.0, ((h 21 (omega arith)).0.0, ((h 14 (omega arith)).0.0, tt)))))), ((turns x2 x1 (h 1 (omega arith)).0.0, (turns x3 x1 (h 9 (omega arith)).0.0, (turns x4 x1 (h 17 (omega arith)).0.0, (turns x5 x1 (h 25 (omega arith)).0.0, ((h 22 (omega arith)).0.0, tt))))), ((turns x3 x2 (h 2 (omega arith)).0.0, (turns x4 x2 (h 10 (omega arith)).0.0, (turns x5 x2 (h 18 (omega arith)).0.0, (turns x6 x2 (h 26 (omega arith)).0.0, tt)))), ((turns x4 x3 (h 3 (omega arith)).0.0, (turns x5 x3 (h 11 (omega arith)).0.0, (turns x6 x3 (h 19 (omega arith)).0.0, tt))), ((turns x5 x4 (h 4 (omega arith)).0.0, (turns x6 x4 (h 12 (omega arith)).0.0, tt)), ((turns x6 x5 (h 5 (omega arith)).0.0, tt), (tt, tt)))))))
  all-owns (x0 ∷ x1 ∷ x2 ∷ x3 ∷ x4 ∷ x5 ∷ x6 ∷ x7 ∷ []) le h = ((turns x1 x0 (h 0 (omega arith)).0.0, (turns x2 x0 (h 8 (omega arith)).0.0, (turns x3 x0 (h 16 (omega arith)).0.0, (turns x4 x0 (h 24 (omega arith)).0.0, ((h 21 (omega arith)).0.0, ((h 14 (omega arith)).0.0, ((h 7 (omega arith)).0.0, tt))))))), ((turns x2 x1 (h 1 (omega arith)).0.0, (turns x3 x1 (h 9 (omega arith)).0.0, (turns x4 x1 (h 17 (omega arith)).0.0, (turns x5 x1 (h 25 (omega arith)).0.0, ((h 22 (omega arith)).0.0, ((h 15 (omega arith)).0.0, tt)))))), ((turns x3 x2 (h 2 (omega arith)).0.0, (turns x4 x2 (h 10 (omega arith)).0.0, (turns x5 x2 (h 18 (omega arith)).0.0, (turns x6 x2 (h 26 (omega arith)).0.0, ((h 23 (omega arith)).0.0, tt))))), ((turns x4 x3 (h 3 (omega arith)).0.0, (turns x5 x3 (h 11 (omega arith)).0.0, (turns x6 x3 (h 19 (omega arith)).0.0, (turns x7 x3 (h 27 (omega arith)).0.0, tt)))), ((turns x5 x4 (h 4 (omega arith)).0.0, (turns x6 x4 (h 12 (omega arith)).0.0, (turns x7 x4 (h 20 (omega arith)).0.0, tt))), ((turns x6 x5 (h 5 (omega arith)).0.0, (turns x7 x5 (h 13 (omega arith)).0.0, tt)), ((turns x7 x6 (h 6 (omega arith)).0.0, tt), (tt, tt))))))))
  all-owns (x0 ∷ x1 ∷ x2 ∷ x3 ∷ x4 ∷ x5 ∷ x6 ∷ x7 ∷ x8 ∷ xs) le h = absurd (omega (arith, le))
