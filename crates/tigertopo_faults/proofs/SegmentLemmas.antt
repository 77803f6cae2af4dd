-- The number of a segment within its chain.
use Rattle.std.proofs.Common.{◌≡◌, ℕ, zero, suc, ◌+◌, ◌-◌, ◌<◌, ◌≤◌, true, false, nat_lt, List, [], ◌∷◌, None, Some, length, take, refl, sym, ap, ◌∙◌, arith, inl, inr}
use Rattle.std.specs.Prelude.{option_map}
use Rattle.std.proofs.lemmas.Bool.{lt-ltb, cases_Bool, ltb-true, ltb-false}
use Rattle.std.proofs.lemmas.List.Sums.{sum_by-cons}
use Rattle.tl_map_county.specs.TheMap.{MapChain}
use Rattle.tl_map_county.specs.Segments.{segments_before, IsSegmentOf}
use Rattle.tigertopo_faults.specs.Records.Ends.{segment_place, segment_within}

pub not_below : (a b : ℕ) → b ≤ a → nat_lt a b ≡ false
not_below a b less = elim (cases_Bool (nat_lt a b)) [
  | inl holds ↦ absurd (let below = ltb-true a b holds in omega (arith, less, below))
  | inr fails ↦ fails
]

pub at_most : (count total s : ℕ) → count ≡ total → count ≤ s → total ≤ s
at_most count total s same less = omega (arith, same, less)

one_found : {A : Type 0} (x y : A) → Some x ≡ Some y → x ≡ y
one_found x y same = let all = same in cc

-- a segment's place is what says which segment it is
pub place_is : (chains : List MapChain) (s c k : ℕ) → IsSegmentOf chains s c k → segment_place chains s ≡ Some (c, k)
place_is [] s c k of = absurd (let wrong = of.is in cc)
place_is (chain ∷ rest) s zero k of =
    let same : chain ≡ of.chain = one_found chain of.chain of.is in
    let length_same : length chain.points ≡ length of.chain.points = ap (λ (c : MapChain). length c.points) same in
    let number : s ≡ k = omega (arith, of.number) in
    let below : nat_lt s (length chain.points - 1) ≡ true = lt-ltb s (length chain.points - 1) (let place = of.place in omega (arith, place, length_same, number)) in
    rw (below, number) refl
place_is (chain ∷ rest) s (suc c) k of =
    let sums = sum_by-cons (λ (z : MapChain). length z.points - 1) chain (take c rest) in
    let number = of.number in
    let past : nat_lt s (length chain.points - 1) ≡ false = not_below s (length chain.points - 1) (omega (arith, number, sums)) in
    let later = place_is rest (s - (length chain.points - 1)) c k (record { chain = of.chain; is = of.is; place = of.place; number = omega (arith, number, sums) }) in
    let next : c + 1 ≡ suc c = omega arith in
    rw (past, later) (ap (λ (n : ℕ). Some (n, k)) next)

-- no segment has a number of all segments or more
pub no_place : (chains : List MapChain) (s : ℕ) → segments_before chains (length chains) ≤ s → segment_place chains s ≡ None
no_place [] s past = refl
no_place (chain ∷ rest) s past =
    let sums = sum_by-cons (λ (z : MapChain). length z.points - 1) chain (take (length rest) rest) in
    let over : nat_lt s (length chain.points - 1) ≡ false = not_below s (length chain.points - 1) (omega (arith, past, sums)) in
    let later = no_place rest (s - (length chain.points - 1)) (omega (arith, past, sums)) in
    rw (over, later) refl

one_chain : (one other : ℕ × ℕ) → Some one ≡ Some other → one.0 ≡ other.0
one_chain one other same = ap (λ (p : ℕ × ℕ). p.0) (one_found one other same)

module _ (chains : List MapChain) where
  -- the number within the chain, by what says which segment it is
  pub within_is : (s c k n : ℕ) → IsSegmentOf chains s c k → k ≡ n → segment_within chains s ≡ Some n
  within_is s c k n at same = ap (option_map (λ (place : ℕ × ℕ). place.1)) (place_is chains s c k at) ∙ ap Some same

  -- no fewer segments of its chain come before it than the one so many before it is of that chain
  pub no_fewer : (s c k j many : ℕ) → many ≤ s → IsSegmentOf chains s c k → IsSegmentOf chains (s - many) c j → many ≤ k
  no_fewer s c k j many within at before = let one = at.number in let two = before.number in omega (arith, within, one, two)

  -- fewer, where that one is of another
  pub fewer : (s c d k j many : ℕ) → 0 < many → many ≤ s → IsSegmentOf chains s c k → IsSegmentOf chains (s - many) d j → (d ≡ c → ⊥) → k ≤ many - 1
  fewer s c d k j many some within at before other = elim (cases_Bool (nat_lt k many)) [
    | inl less ↦ let below = ltb-true k many less in omega (arith, below)
    | inr past ↦
        let most = ltb-false k many past in
        let number = at.number in
        let place = at.place in
        let its : IsSegmentOf chains (s - many) c (k - many) = record { chain = at.chain; is = at.is; place = omega (arith, place, most); number = omega (arith, number, most, within) } in
        absurd (other (one_chain (d, j) (c, k - many) (sym (place_is chains (s - many) d j before) ∙ place_is chains (s - many) c (k - many) its)))
  ]

  -- no more than come before it at all
  pub at_most_own : (s c k : ℕ) → IsSegmentOf chains s c k → k ≤ s
  at_most_own s c k at = let number = at.number in omega (arith, number)
