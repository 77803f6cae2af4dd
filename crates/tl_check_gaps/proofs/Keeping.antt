-- Of sorted gaps one of each two segments is kept.
use Rattle.std.proofs.Common.{◌≡◌, ◌⊎◌, inl, inr, ⊎_elim, ℕ, ◌+◌, ◌-◌, ◌<◌, ◌≤◌, ℤ, pos, ◌+ℤ◌, ◌<ℤ◌, ◌≤ℤ◌, false, Option, None, Some, List, [], ◌∷◌}
use Rattle.std.proofs.Common.{◌++◌, length, get_or, refl, sym, ap, subst, ◌∙◌, arith}
use Rattle.std.specs.Prelude.{All}
use Rattle.std.specs.List.{Contains}
use Rattle.std.specs.List.Sorted.{IsPermutation}
use Rattle.std.specs.Cmp.{IsStrictWeakOrder}
use Rattle.std.specs.Ordering.{nat_cmp, int_cmp, ordering_then, is_lt, MatchOrdering}
use Rattle.std.specs.declared.cmp.Ordering.{Ordering}
use Rattle.std.specs.declared.cmp.Ordering.TheVariants.{Less, Equal, Greater}
use Rattle.std.proofs.lemmas.Bool.{cases_lt, cases_order, true≢false}
use Rattle.std.proofs.lemmas.Int.{ints, by_lt_z}
use Rattle.std.proofs.lemmas.Cmp.{ranked, int_ranked, then_total, on_total, nat_cmp_total, int_cmp_total}
use Rattle.std.proofs.lemmas.List.{get_or_default}
use Rattle.std.proofs.lemmas.List.Elements.{All-nil, All-push}
use Rattle.std.proofs.lemmas.List.Quantifiers.{Any-push, all_pairs_push}
use Rattle.std.proofs.lemmas.List.Sorted.{sorted_far, ranks_by, Contains-permutation, IsPermutation-sym}
use Rattle.tl_map_county.specs.TheMap.{MapChain}
use Rattle.tl_check_planar.specs.Planar.{IsPlanar}
use Rattle.tl_check_planar.specs.ByHeight.Heights.{height, widest}
use Rattle.tl_check_faces.specs.declared.odd.OddGap.{OddGap}
use Rattle.tl_check_faces.specs.Odd.{IsOddGap}
use Rattle.tl_check_planar.specs.Listing.Orders.{IsPairBefore}
use Rattle.tl_check_faces.specs.AllFaults.{order_of}
use Rattle.tl_check_gaps.specs.Gaps.{IsListed, AreLowestOfEach, AreAllOddGaps}
use Rattle.tl_check_gaps.specs.Keeping.Kept.{comes_first, AreSorted, IsGapRepeated, StandsBefore, AreKeptOf, AreKept}
use Rattle.tl_check_gaps.specs.Keeping.Watched.{AreToldOfSlabs}
use Rattle.tl_check_gaps.specs.Telling.{IsKept}
use Rattle.tl_check_gaps.proofs.Unique.{one_list}
use Rattle.tl_check_gaps.proofs.Whole.{listed_more, listed_up}

-- ---- pairs in order

-- a pair that doesn't come behind one and isn't it comes before it
before_or : (a b c d : ℕ) → ¬ IsPairBefore c d a b → ¬ ((a ≡ c) × (b ≡ d)) → IsPairBefore a b c d
before_or a b c d never apart =
    ⊎_elim
    (λ (same : a ≡ c). ⊎_elim (λ (level : b ≡ d). absurd (apart (same, level)))
    (λ w. ⊎_elim (λ lt. inr (same, lt)) (λ gt. absurd (never (inr (sym same, gt)))) w) (cases_order b d))
    (λ w. ⊎_elim (λ lt. inl lt) (λ gt. absurd (never (inl gt))) w)
    (cases_order a c)

-- what doesn't come behind one that comes before another comes before the other
before_far : (a b c d e f : ℕ) → ¬ IsPairBefore c d a b → IsPairBefore c d e f → IsPairBefore a b e f
before_far a b c d e f never before =
    ⊎_elim
    (λ (same : a ≡ c). ⊎_elim
    (λ lt. inl (omega (arith, same, lt)))
    (λ k.
    let is = k.0 in let lt = k.1 in
    ⊎_elim (λ (gt : d < b). absurd (never (inr (sym same, gt)))) (λ le. inr (same ∙ is, omega (arith, lt, le))) (cases_lt d b)) before)
    (λ w. ⊎_elim
    (λ less. ⊎_elim (λ lt. inl (omega (arith, less, lt))) (λ k. let is = k.0 in inl (omega (arith, less, is))) before)
    (λ gt. absurd (never (inl gt))) w)
    (cases_order a c)

pub one_by_order : (o p : Option ℕ) → order_of o ≡ order_of p → o ≡ p
one_by_order None None e = refl
one_by_order None (Some t) e = absurd (omega (arith, e))
one_by_order (Some s) None e = absurd (omega (arith, e))
one_by_order (Some s) (Some t) e = ap Some (let is : s ≡ t = omega (arith, e) in is)

-- one gap comes before another, by the two segments
abbrev IsBefore : OddGap → OddGap → Type 0
IsBefore x y = IsPairBefore (order_of x.west) (order_of x.east) (order_of y.west) (order_of y.east)

-- by the two segments, and of the same by height
abbrev level_of : OddGap → ℤ
level_of x = height widest x.at +ℤ pos 2147483647

abbrev IsAhead : OddGap → OddGap → Type 0
IsAhead x y = IsBefore x y ⊎ ((order_of x.west ≡ order_of y.west) × (order_of x.east ≡ order_of y.east) × (level_of x <ℤ level_of y))

sorted_order : IsStrictWeakOrder comes_first
sorted_order =
    ranks_by (then_total (on_total (λ (p : (ℕ × ℕ) × ℤ). p.0)
    (then_total (on_total (λ (p : ℕ × ℕ). p.0) nat_cmp_total) (on_total (λ (p : ℕ × ℕ). p.1) nat_cmp_total)))
    (on_total (λ (p : (ℕ × ℕ) × ℤ). p.1) int_cmp_total))
    (λ (x : OddGap). ((order_of x.west, order_of x.east), level_of x))

-- three orderings, of which the last counts where the others are equal
not_ahead_by : (o p q : Ordering) (a b c d : ℕ) (h k : ℤ) → MatchOrdering o (a < c) (a ≡ c) (c < a) → MatchOrdering p (b < d) (b ≡ d) (d < b) →
    MatchOrdering q (h <ℤ k) (h ≡ k) (k <ℤ h) → is_lt (ordering_then (ordering_then o p) q) ≡ false →
    ¬ (IsPairBefore a b c d ⊎ ((a ≡ c) × (b ≡ d) × (h <ℤ k)))
not_ahead_by Less p q a b c d h k m n r e ahead = absurd (true≢false e)
not_ahead_by Equal Less q a b c d h k m n r e ahead = absurd (true≢false e)
not_ahead_by Equal Equal Less a b c d h k m n r e ahead = absurd (true≢false e)
not_ahead_by Equal Equal Equal a b c d h k m n r e (inl (inl lt)) = omega (arith, m, lt)
not_ahead_by Equal Equal Equal a b c d h k m n r e (inl (inr w)) = let lt = w.1 in omega (arith, n, lt)
not_ahead_by Equal Equal Equal a b c d h k m n r e (inr w) = let lt = w.2 in omega (arith, ints, r, lt)
not_ahead_by Equal Equal Greater a b c d h k m n r e (inl (inl lt)) = omega (arith, m, lt)
not_ahead_by Equal Equal Greater a b c d h k m n r e (inl (inr w)) = let lt = w.1 in omega (arith, n, lt)
not_ahead_by Equal Equal Greater a b c d h k m n r e (inr w) = let lt = w.2 in omega (arith, ints, r, lt)
not_ahead_by Equal Greater q a b c d h k m n r e (inl (inl lt)) = omega (arith, m, lt)
not_ahead_by Equal Greater q a b c d h k m n r e (inl (inr w)) = let lt = w.1 in omega (arith, n, lt)
not_ahead_by Equal Greater q a b c d h k m n r e (inr w) = let is = w.1 in omega (arith, n, is)
not_ahead_by Greater p q a b c d h k m n r e (inl (inl lt)) = omega (arith, m, lt)
not_ahead_by Greater p q a b c d h k m n r e (inl (inr w)) = let is = w.0 in omega (arith, m, is)
not_ahead_by Greater p q a b c d h k m n r e (inr w) = let is = w.0 in omega (arith, m, is)

not_ahead : (x y : OddGap) → comes_first x y ≡ false → ¬ IsAhead x y
not_ahead x y =
    not_ahead_by (nat_cmp (order_of x.west) (order_of y.west)) (nat_cmp (order_of x.east) (order_of y.east)) (int_cmp (level_of x) (level_of y))
    (order_of x.west) (order_of x.east) (order_of y.west) (order_of y.east) (level_of x) (level_of y)
    (ranked (order_of x.west) (order_of y.west) (nat_cmp (order_of x.west) (order_of y.west)) refl)
    (ranked (order_of x.east) (order_of y.east) (nat_cmp (order_of x.east) (order_of y.east)) refl)
    (int_ranked (level_of x) (level_of y) (int_cmp (level_of x) (level_of y)) refl)

not_behind : (gaps : List OddGap) → AreSorted gaps → (i j : ℕ) (d : OddGap) → i ≤ j → j < length gaps → ¬ IsAhead (get_or gaps j d) (get_or gaps i d)
not_behind gaps sorted i j d le lt = not_ahead (get_or gaps j d) (get_or gaps i d) (sorted_far comes_first sorted_order gaps sorted i j d le lt)

-- ---- one gap more

-- a gap for places where none stands
pub no_gap : OddGap
no_gap = record { at = record { x = pos 0; y = pos 0 }; west = None; east = None }

pub none_kept : (gaps kept : List OddGap) → kept ≡ [] → AreKeptOf 0 gaps kept
none_kept gaps kept e = subst (AreKeptOf 0 gaps) (sym e) (record {
  stand = All-nil (StandsBefore 0 gaps);
  told = λ k d lt within. absurd (omega (arith, lt));
  rising = λ i j d lt within. absurd (omega (arith, within));
})

module _ (gaps : List OddGap) (k : ℕ) (gap : OddGap) (within : k < length gaps) (here : (d : OddGap) → get_or gaps k d ≡ gap) (kept : List OddGap)
    (so_far : AreKeptOf k gaps kept) where
  later : (x : OddGap) → StandsBefore k gaps x → StandsBefore (k + 1) gaps x
  later x stands = record { place = stands.place; before = let lt = stands.before in omega (arith, lt); within = stands.within; is = stands.is }

  all_later : All (StandsBefore (k + 1) gaps) kept
  all_later j d lt = later _ (so_far.stand j d lt)

  told_or : (new : List OddGap) → IsKept kept new → IsListed widest (height widest gap.at) gap.west gap.east new →
      (j : ℕ) (d : OddGap) → j < k + 1 → j < length gaps →
      IsListed widest (height widest (get_or gaps j d).at) (get_or gaps j d).west (get_or gaps j d).east new
  told_or new more own j d lt inside =
      ⊎_elim
      (λ (same : j ≡ k).
      let is : get_or gaps j d ≡ gap = ap (λ m. get_or gaps m d) same ∙ here d in
      subst (λ (g : OddGap). IsListed widest (height widest g.at) g.west g.east new) (sym is) own)
      (λ w. ⊎_elim (λ less. more _ _ _ (so_far.told j d less inside)) (λ past. absurd (omega (arith, lt, past))) w)
      (cases_order j k)

  never : AreSorted gaps → (x : OddGap) (i : ℕ) → i ≤ k → get_or gaps i gap ≡ x → ¬ IsAhead gap x
  never sorted x i le is =
      subst (λ (g : OddGap). ¬ IsAhead gap g) is
      (subst (λ (g : OddGap). ¬ IsAhead g (get_or gaps i gap)) (here gap) (not_behind gaps sorted i k gap le within))

  -- it is between the same two as the one before it
  pub passed_by : AreSorted gaps → IsGapRepeated gaps k → AreKeptOf (k + 1) gaps kept
  passed_by sorted same =
      let some = same.some in
      let last : OddGap = get_or gaps (k - 1) gap in
      let west : last.west ≡ gap.west = same.west gap ∙ ap (λ (g : OddGap). g.west) (here gap) in
      let east : last.east ≡ gap.east = same.east gap ∙ ap (λ (g : OddGap). g.east) (here gap) in
      let low : height widest last.at ≤ℤ height widest gap.at =
      by_lt_z (height widest gap.at) (height widest last.at)
      (λ lt. absurd (never sorted last (k - 1) (omega arith) refl (inr (ap order_of (sym west), ap order_of (sym east), omega (arith, ints, lt)))))
      (λ le. le) in
      record {
        stand = all_later;
        told = told_or kept (λ n w e listed. listed)
            (subst (λ (o : Option ℕ). IsListed widest (height widest gap.at) o gap.east kept) west
            (subst (λ (o : Option ℕ). IsListed widest (height widest gap.at) last.west o kept) east
            (listed_up (height widest last.at) (height widest gap.at) last.west last.east kept low
            (so_far.told (k - 1) gap (omega (arith, some)) (omega (arith, within))))));
        rising = so_far.rising;
      }

  -- it is kept
  module _ (sorted : AreSorted gaps) (fresh : ¬ IsGapRepeated gaps k) where
    last_before : (some : 0 < k) → IsBefore (get_or gaps (k - 1) gap) gap
    last_before some =
        let last : OddGap = get_or gaps (k - 1) gap in
        before_or (order_of last.west) (order_of last.east) (order_of gap.west) (order_of gap.east)
        (λ before. never sorted last (k - 1) (omega arith) refl (inl before))
        (λ both. fresh (record {
          some = some;
          west = λ d. ap (λ (g : OddGap). g.west) (any d) ∙ one_by_order last.west gap.west both.0 ∙ sym (ap (λ (g : OddGap). g.west) (here d));
          east = λ d. ap (λ (g : OddGap). g.east) (any d) ∙ one_by_order last.east gap.east both.1 ∙ sym (ap (λ (g : OddGap). g.east) (here d));
        }))
      where
        any : (d : OddGap) → get_or gaps (k - 1) d ≡ get_or gaps (k - 1) gap
        any d = get_or_default gaps (k - 1) d gap (omega (arith, within))

    before_new : (x : OddGap) → StandsBefore k gaps x → IsBefore x gap
    before_new x stands =
        let lt = stands.before in
        let last : OddGap = get_or gaps (k - 1) gap in
        let not : ¬ IsBefore last x =
        subst (λ (g : OddGap). ¬ IsBefore last g) (stands.is gap)
        (λ before. not_behind gaps sorted stands.place (k - 1) gap (omega (arith, lt)) (omega (arith, within)) (inl before)) in
        before_far (order_of x.west) (order_of x.east) (order_of last.west) (order_of last.east) (order_of gap.west) (order_of gap.east) not
        (last_before (omega (arith, lt)))

    pub kept_too : AreKeptOf (k + 1) gaps (kept ++ gap ∷ [])
    kept_too = record {
      stand = All-push (StandsBefore (k + 1) gaps) kept gap all_later
          (record { place = k; before = omega arith; within = within; is = here });
      told = told_or (kept ++ gap ∷ []) (listed_more gap kept)
          (Any-push (λ (g : OddGap). (g.west ≡ gap.west) × (g.east ≡ gap.east) × (height widest g.at ≤ℤ height widest gap.at)) kept gap
          (refl, refl, omega (arith, ints)));
      rising = all_pairs_push IsBefore kept gap so_far.rising (λ j d lt. before_new _ (so_far.stand j d lt));
    }

pub all_kept : (gaps kept : List OddGap) (k : ℕ) → k ≡ length gaps → AreKeptOf k gaps kept → AreKept gaps kept
all_kept gaps kept k e of = subst (λ n. AreKeptOf n gaps kept) e of

-- ---- the lowest of each

pub lowest : (gaps sorted kept : List OddGap) → IsPermutation gaps sorted → AreKept sorted kept → AreLowestOfEach widest gaps kept
lowest gaps sorted kept moved are = record {
  of_these = λ k d lt.
      let s : StandsBefore (length sorted) sorted (get_or kept k d) = are.stand k d lt in
      Contains-permutation sorted gaps (get_or kept k d) (IsPermutation-sym gaps sorted moved) (s.place, s.within, s.is (get_or kept k d));
  listed = listed;
  in_order = are.rising;
}
  where
    listed : (n : ℤ) (west east : Option ℕ) → IsListed widest n west east gaps → IsListed widest n west east kept
    listed n west east a =
        let there : Contains sorted a.1 = Contains-permutation gaps sorted a.1 moved (a.0, a.2, a.3) in
        let one = are.told there.0 a.1 there.1 there.1 in
        let x : OddGap = a.1 in
        let west_is : x.west ≡ west = a.4.0 in
        let east_is : x.east ≡ east = a.4.1 in
        let own : IsListed widest (height widest x.at) x.west x.east kept =
        subst (λ (g : OddGap). IsListed widest (height widest g.at) g.west g.east kept) there.2 one in
        subst (λ (o : Option ℕ). IsListed widest n o east kept) west_is (subst (λ (o : Option ℕ). IsListed widest n x.west o kept) east_is
        (listed_up (height widest x.at) n x.west x.east kept a.4.2 own))

-- of what is told of all slabs the lowest of each are all
pub all_of_lowest : (chains : List MapChain) → IsPlanar chains → (gaps kept : List OddGap) → AreToldOfSlabs chains gaps → AreLowestOfEach widest gaps kept →
    AreAllOddGaps widest chains kept
all_of_lowest chains planar gaps kept told are = record {
  slabs = λ n. let slab = told.slabs n in (slab.list, slab.listed);
  true_ones = λ k d lt. let c = are.of_these k d lt in subst (IsOddGap widest chains) c.2 (told.true_ones c.0 (get_or kept k d) c.1);
  complete = λ n front back of odd.
      let slab = told.slabs n in
      are.listed n _ _ (slab.told front back (one_list widest n chains told.near planar slab.list (front ++ back) slab.listed of) odd);
  in_order = are.in_order;
}
