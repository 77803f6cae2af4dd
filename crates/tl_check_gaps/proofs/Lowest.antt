-- Of all gaps each is the lowest between its segments; and so is each of the first, below which sides differ nowhere.
use Rattle.std.proofs.Common.{◌≡◌, ⊎_elim, ℕ, ◌<◌, ℤ, ◌≤ℤ◌, List, [], ◌++◌, length, get_or, sym, ap, subst, ◌∙◌, arith}
use Rattle.std.specs.Prelude.{All}
use Rattle.std.proofs.lemmas.Bool.{cases_order}
use Rattle.std.proofs.lemmas.Int.{by_lt_z}
use Rattle.std.proofs.lemmas.List.{get_or_default}
use Rattle.tl_map_county.specs.TheMap.{MapChain}
use Rattle.tl_check_planar.specs.Planar.{IsPlanar}
use Rattle.tl_check_planar.specs.ByHeight.Heights.{height, widest}
use Rattle.tl_check_faces.specs.declared.odd.OddGap.{OddGap}
use Rattle.tl_check_faces.specs.Lists.{AreAllNear}
use Rattle.tl_check_faces.specs.Odd.{IsNamedWest, IsNamedEast, IsOddGap, IsLowestOddGap, first_number, last_number}
use Rattle.tl_check_planar.specs.Listing.Orders.{IsPairBefore}
use Rattle.tl_check_faces.specs.AllFaults.{order_of}
use Rattle.tl_check_gaps.specs.Gaps.{DifferAcross, AreAllOddGaps}
use Rattle.tl_check_gaps.specs.Keeping.Watched.{IsFirst, IsSlabTold}
use Rattle.tl_check_gaps.proofs.Unique.{one_list}

-- the sides that differ at a gap
pub at_odds : (K : ℤ) (chains : List MapChain) (gap : OddGap) (odd : IsOddGap K chains gap) → DifferAcross K chains (last_number odd.front) (first_number odd.back)
at_odds K chains gap odd = record {
  side = odd.west;
  opposite = odd.east;
  named_west = subst (λ o. IsNamedWest K chains o odd.west) odd.is_west odd.named_west;
  named_east = subst (λ o. IsNamedEast K chains o odd.east) odd.is_east odd.named_east;
  differ = odd.differ;
}

pub not_before_itself : (a b : ℕ) → ¬ IsPairBefore a b a b
not_before_itself a b = ⊎_elim (λ lt. omega (arith, lt)) (λ k. let lt = k.1 in omega (arith, lt))

-- one gap comes before another, by the two segments
abbrev IsBefore : OddGap → OddGap → Type 0
IsBefore x y = IsPairBefore (order_of x.west) (order_of x.east) (order_of y.west) (order_of y.east)

never_before : (x y : OddGap) → x.west ≡ y.west → x.east ≡ y.east → ¬ IsBefore x y
never_before x y e f before =
    not_before_itself (order_of y.west) (order_of y.east)
    (subst (λ w. IsPairBefore (order_of w) (order_of y.east) (order_of y.west) (order_of y.east)) e
    (subst (λ o. IsPairBefore (order_of x.west) (order_of o) (order_of y.west) (order_of y.east)) f before))

module _ (K : ℤ) (chains : List MapChain) (gaps : List OddGap) (all : AreAllOddGaps K chains gaps) where
  -- between two segments one stands there
  one_place : (i j : ℕ) (d : OddGap) → i < length gaps → j < length gaps → (get_or gaps i d).west ≡ (get_or gaps j d).west →
      (get_or gaps i d).east ≡ (get_or gaps j d).east → i ≡ j
  one_place i j d lt lt' e f =
      ⊎_elim (λ same. same)
      (λ w. ⊎_elim
      (λ less. absurd (never_before (get_or gaps i d) (get_or gaps j d) e f (all.in_order i j d less lt')))
      (λ more. absurd (never_before (get_or gaps j d) (get_or gaps i d) (sym e) (sym f) (all.in_order j i d more lt))) w)
      (cases_order i j)

  pub all_lowest : All (IsLowestOddGap K chains) gaps
  all_lowest k d lt =
      let gap : OddGap = get_or gaps k d in
      record {
        is = all.true_ones k d lt;
        lowest = λ other odd e f.
            let told = all.complete (height K other.at) odd.front odd.back odd.listed (at_odds K chains other odd) in
            let is : get_or gaps told.0 d ≡ told.1 = get_or_default gaps told.0 d told.1 told.2 ∙ told.3 in
            let west : (get_or gaps told.0 d).west ≡ gap.west = ap (λ (g : OddGap). g.west) is ∙ told.4.0 ∙ sym odd.is_west ∙ e in
            let east : (get_or gaps told.0 d).east ≡ gap.east = ap (λ (g : OddGap). g.east) is ∙ told.4.1 ∙ sym odd.is_east ∙ f in
            let same : get_or gaps told.0 d ≡ gap = ap (λ j. get_or gaps j d) (one_place told.0 k d told.2 lt west east) in
            let low : height K told.1.at ≤ℤ height K other.at = told.4.2 in
            subst (λ (g : OddGap). height K g.at ≤ℤ height K other.at) (sym is ∙ same) low;
      }

-- where sides differ nowhere in a slab, no gap of it is one where they do
none_there : (chains : List MapChain) → AreAllNear widest chains → IsPlanar chains → (gap : OddGap) → IsOddGap widest chains gap →
    ¬ IsSlabTold chains (height widest gap.at) []
none_there chains near planar gap odd slab =
    let told = slab.told odd.front odd.back
    (one_list widest (height widest gap.at) chains near planar slab.list (odd.front ++ odd.back) slab.listed odd.listed)
    (at_odds widest chains gap odd) in
    let lt = told.2 in
    omega (arith, lt)

pub first_lowest : (chains : List MapChain) → AreAllNear widest chains → IsPlanar chains → (gap : OddGap) → IsOddGap widest chains gap →
    IsFirst chains gap → IsLowestOddGap widest chains gap
first_lowest chains near planar gap odd first = record {
  is = odd;
  lowest = λ other is e f.
      by_lt_z (height widest other.at) (height widest gap.at)
      (λ less. absurd (none_there chains near planar other is (first (height widest other.at) less)))
      (λ le. le);
}
