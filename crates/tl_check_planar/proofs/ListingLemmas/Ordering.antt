-- Pairs that are sorted and stand there once each.
use Rattle.std.proofs.Common.{◌≡◌, inl, inr, ℕ, ◌<◌, Bool, true, false, ◌&&◌, Option, List, [], ◌∷◌, refl, arith}
use Rattle.std.specs.Prelude.{nat_eq}
use Rattle.std.specs.Cmp.{IsTotalOrder, IsEquivalence, both_tied, unsigned_ties}
use Rattle.std.specs.List.{AllPairs, dedup}
use Rattle.std.specs.List.Sorted.{IsPermutation, IsSorted, IsStrictlySortedBy}
use Rattle.std.specs.declared.cmp.Ordering.{Ordering}
use Rattle.std.specs.declared.cmp.Ordering.TheVariants.{Less, Equal, Greater}
use Rattle.std.specs.Ordering.{nat_cmp, ordering_then, eq_by_cmp, MatchOrdering}
use Rattle.std.proofs.lemmas.Bool.{eqb-true, and_parts as both_true}
use Rattle.std.proofs.lemmas.Cmp.{ranked, on_total, then_total, on_equiv, and_equiv, nat_cmp_total, nat_eq_equiv}
use Rattle.std.proofs.lemmas.List.Elements.{All-weaker, All-from_recursion}
use Rattle.std.proofs.lemmas.List.Kept.{AllPairs-cons, Contains-dedup, Contains-from_dedup, IsStrictlySortedBy-dedup}
use Rattle.std.proofs.lemmas.List.Sorted.{Contains-permutation, IsPermutation-sym}
use Rattle.tl_check_planar.specs.Listing.Orders.{IsPairBefore}
use Rattle.tl_check_planar.specs.declared.listing.pairs.Pair.{Pair}
use Rattle.tl_check_planar.specs.Listing.Keeping.Pairing.{AreAllPairs, AreInOrder}
use Rattle.tl_check_planar.proofs.ListingLemmas.Pairing.{all_again}

abbrev pub pair_cmp : Pair → Pair → Ordering
pair_cmp x y = ordering_then (nat_cmp x.i y.i) (nat_cmp x.j y.j)

abbrev pub same_pair : Pair → Pair → Bool
same_pair x y = nat_eq x.i y.i && nat_eq x.j y.j

total : IsTotalOrder pair_cmp
total = then_total (on_total (λ (p : Pair). p.i) nat_cmp_total) (on_total (λ (p : Pair). p.j) nat_cmp_total)

equivalence : IsEquivalence same_pair
equivalence = and_equiv (on_equiv (λ (p : Pair). p.i) nat_eq_equiv) (on_equiv (λ (p : Pair). p.j) nat_eq_equiv)

ties : (x y : Pair) → same_pair x y ≡ eq_by_cmp pair_cmp x y
ties x y = both_tied _ _ (nat_cmp x.i y.i) (nat_cmp x.j y.j) (unsigned_ties x.i y.i) (unsigned_ties x.j y.j)

is_same : (x y : Pair) → same_pair x y ≡ true → x ≡ y
is_same x y h =
    let both = both_true (nat_eq x.i y.i) (nat_eq x.j y.j) h in
    let a = eqb-true x.i y.i both.0 in
    let b = eqb-true x.j y.j both.1 in
    λ k. record { i = a k; j = b k }

less_by : (o p : Ordering) (a b c d : ℕ) → MatchOrdering o (a < c) (a ≡ c) (c < a) → MatchOrdering p (b < d) (b ≡ d) (d < b) → ordering_then o p ≡ Less
    → IsPairBefore a b c d
less_by Less p a b c d m n e = inl m
less_by Equal Less a b c d m n e = inr (m, n)
less_by Equal Equal a b c d m n e = absurd cc
less_by Equal Greater a b c d m n e = absurd cc
less_by Greater p a b c d m n e = absurd cc

abbrev IsBefore : Pair → Pair → Type 0
IsBefore x y = IsPairBefore x.i x.j y.i y.j

before_by : (x y : Pair) → pair_cmp x y ≡ Less → IsBefore x y
before_by x y e = less_by (nat_cmp x.i y.i) (nat_cmp x.j y.j) x.i x.j y.i y.j (ranked x.i y.i (nat_cmp x.i y.i) refl) (ranked x.j y.j (nat_cmp x.j y.j) refl) e

in_order : (ps : List Pair) → IsStrictlySortedBy pair_cmp ps → AllPairs IsBefore ps
unfolding IsStrictlySortedBy
in_order [] h = λ i j d lt below. absurd (omega (arith, below))
in_order (p ∷ ps) h = AllPairs-cons IsBefore p ps (All-weaker (λ q. pair_cmp p q ≡ Less) (IsBefore p) (λ q. before_by p q) ps (All-from_recursion (λ q. pair_cmp p q ≡ Less) ps h.0)) (in_order ps h.1)

-- pairs that were sorted, of which repeated ones were left out, rise strictly
pub sorted_once : (sorted new : List Pair) → IsSorted pair_cmp sorted → new ≡ dedup same_pair sorted → AreInOrder new
sorted_once sorted new up is = rw is (in_order (dedup same_pair sorted) (IsStrictlySortedBy-dedup total ties sorted up))

-- and they are those that there were
pub once_all : {C : Type 0} (n : ℕ) (tells : ℕ → ℕ → Option C → Type 0) (old sorted new : List Pair) → IsPermutation old sorted → new ≡ dedup same_pair sorted
    → AreAllPairs n tells old → AreAllPairs n tells new
once_all n tells old sorted new moved is =
    all_again n tells old new
    (λ p there. rw is (Contains-dedup equivalence is_same sorted p (Contains-permutation old sorted p moved there)))
    (λ p there. Contains-permutation sorted old p (IsPermutation-sym old sorted moved) (Contains-from_dedup same_pair sorted p (rw is at there)))
