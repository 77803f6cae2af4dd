-- Lists that are sorted by pairs of numbers.
use Rattle.std.proofs.Common.{◌≡◌, inl, inr, ℕ, ◌<◌, Bool, false, List, get_or, sym, arith}
use Rattle.std.specs.List.{AllPairs}
use Rattle.std.specs.List.Sorted.{IsSortedBy}
use Rattle.std.specs.Cmp.{IsStrictWeakOrder}
use Rattle.std.specs.Ordering.{nat_cmp, ordering_then, is_lt, MatchOrdering}
use Rattle.std.specs.declared.cmp.Ordering.{Ordering}
use Rattle.std.specs.declared.cmp.Ordering.TheVariants.{Less, Equal, Greater}
use Rattle.std.proofs.lemmas.Bool.{cases_lt, true≢false}
use Rattle.std.proofs.lemmas.Cmp.{ranked, then_total, on_total, nat_cmp_total}
use Rattle.std.proofs.lemmas.List.Sorted.{sorted_far, ranks_by}
use Rattle.tl_check_planar.specs.Listing.Orders.{IsPairBefore, AreRising}

not_after : (a b c d : ℕ) → is_lt (ordering_then (nat_cmp a c) (nat_cmp b d)) ≡ false → ¬ IsPairBefore a b c d
not_after a b c d = go (nat_cmp a c) (nat_cmp b d) (ranked a c (nat_cmp a c) (λ i. nat_cmp a c)) (ranked b d (nat_cmp b d) (λ i. nat_cmp b d))
  where
    go : (o p : Ordering) → MatchOrdering o (a < c) (a ≡ c) (c < a) → MatchOrdering p (b < d) (b ≡ d) (d < b) → is_lt (ordering_then o p) ≡ false → ¬ IsPairBefore a b c d
    go Less p h k e before = absurd (true≢false e)
    go Equal Less h k e before = absurd (true≢false e)
    go Equal Equal h k e (inl less) = omega (arith, h, less)
    go Equal Equal h k e (inr same) = let lt = same.1 in omega (arith, k, lt)
    go Equal Greater h k e (inl less) = omega (arith, h, less)
    go Equal Greater h k e (inr same) = let lt = same.1 in omega (arith, k, lt)
    go Greater p h k e (inl less) = omega (arith, h, less)
    go Greater p h k e (inr same) = let is = same.0 in omega (arith, h, is)

before_or : (a b c d : ℕ) → (¬ IsPairBefore c d a b) → (¬ ((a ≡ c) × (b ≡ d))) → IsPairBefore a b c d
before_or a b c d never apart = elim (cases_lt a c) [
  | inl less ↦ inl less
  | inr ge ↦ elim (cases_lt c a) [
    | inl more ↦ absurd (never (inl more))
    | inr le ↦
        let same : a ≡ c = omega (arith, ge, le) in
        elim (cases_lt b d) [
          | inl lt ↦ inr (same, lt)
          | inr past ↦ elim (cases_lt d b) [
            | inl behind ↦ absurd (never (inr (sym same, behind)))
            | inr level ↦ absurd (apart (same, omega (arith, past, level)))
          ]
        ]
  ]
]

module _ {X : Type 0} (first second : X → ℕ) where
  abbrev is_before : X → X → Bool
  is_before x y = is_lt (ordering_then (nat_cmp (first x) (first y)) (nat_cmp (second x) (second y)))

  pair_order : IsStrictWeakOrder is_before
  pair_order = ranks_by (then_total (on_total (λ (p : ℕ × ℕ). p.0) nat_cmp_total) (on_total (λ (p : ℕ × ℕ). p.1) nat_cmp_total)) (λ (x : X). (first x, second x))

  -- where no two have one pair, they rise strictly
  pub rising_of : (xs : List X) → IsSortedBy (λ x y. is_lt (ordering_then (nat_cmp (first x) (first y)) (nat_cmp (second x) (second y)))) xs
      → AllPairs (λ x y. ¬ ((first x ≡ first y) × (second x ≡ second y))) xs → AreRising first second xs
  rising_of xs up once i j d lt within =
      before_or (first (get_or xs i d)) (second (get_or xs i d)) (first (get_or xs j d)) (second (get_or xs j d))
      (not_after (first (get_or xs j d)) (second (get_or xs j d)) (first (get_or xs i d)) (second (get_or xs i d)) (sorted_far is_before pair_order xs up i j d (omega (arith, lt)) within))
      (once i j d lt within)
