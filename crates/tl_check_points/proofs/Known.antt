-- What is known of the counts at points.
use Rattle.std.proofs.Common.{◌≡◌, ℕ, ◌<◌, Option, Some, None, List, length, get_or, set, All, sym, ap, subst, ◌∙◌, arith, length-set}
use Rattle.std.specs.Prelude.{slice_get}
use Rattle.std.proofs.lemmas.Int.{ints}
use Rattle.std.proofs.lemmas.List.{get_or-set_other, get_or-set_same}
use Rattle.std.proofs.lemmas.Option.{slice_get_within, slice_get-get_or, get_or_from_slice_get}
use Rattle.tl_geom.specs.declared.point.Point.{Point}
use Rattle.tl_map_county.specs.TheMap.{MapChain}
use Rattle.tl_tree_index.proofs.Times.{same_or}
use Rattle.tl_check_planar.specs.Keeping.Apart.{one_found}
use Rattle.tl_check_inside.specs.declared.flanks.Flanks.{Flanks}
use Rattle.tl_check_inside.specs.declared.strips.Site.{Site}
use Rattle.tl_check_inside.specs.Inside.{IsCount, balance}
use Rattle.tl_check_inside.specs.Places.{IsOffChains}
use Rattle.tl_check_inside.specs.Keeping.Tallies.{TellCounts}
use Rattle.tl_check_points.specs.declared.labels.Gap.{Gap}
use Rattle.tl_check_points.specs.declared.visits.Visit.{Visit}
use Rattle.tl_check_points.specs.Counts.{AreCountsAt}
use Rattle.tl_check_points.specs.Keeping.Balances.{HaveOneBalance}
use Rattle.tl_check_points.specs.Keeping.Ways.{TellGap}
use Rattle.tl_check_points.specs.Keeping.Visits.{IsVisit}
use Rattle.tl_check_points.proofs.Treed.{one_way}

-- flanks of one balance tell the same
pub tell_by : (chains : List MapChain) (q : Point) (one other : List Flanks) → HaveOneBalance one other → TellCounts chains q one → TellCounts chains q other
tell_by chains q one other same tell S none =
    subst (IsCount chains q S) (let e = same S none in let is : balance S one ≡ balance S other = omega (arith, ints, e) in is) (tell S none)

module _ (chains : List MapChain) (sites : List Site) where
  pub none_known : (counts : List (Option (List Flanks))) → All (λ known. known ≡ None) counts → AreCountsAt chains sites counts
  none_known counts none k site flanks is at =
      let here = get_or_from_slice_get counts k (Some flanks) None at in
      let no = none k None (slice_get_within counts k (Some flanks) at) in
      absurd (cc)

  pub one_known : (counts new : List (Option (List Flanks))) (place : ℕ) (journal : List Flanks) (site : Site) → new ≡ set counts place (Some journal) →
      AreCountsAt chains sites counts → slice_get sites place ≡ Some site → IsOffChains chains site.point → TellCounts chains site.point journal →
      AreCountsAt chains sites new
  one_known counts new place journal site is_new known is off tell k other flanks is_other at =
      let at' : slice_get (set counts place (Some journal)) k ≡ Some (Some flanks) = ap (λ l. slice_get l k) (sym is_new) ∙ at in
      let here : get_or (set counts place (Some journal)) k None ≡ Some flanks = get_or_from_slice_get (set counts place (Some journal)) k (Some flanks) None at' in
      let long = length-set counts place (Some journal) in
      let within : k < length (set counts place (Some journal)) = slice_get_within (set counts place (Some journal)) k (Some flanks) at' in
      let lt : k < length counts = omega (arith, long, within) in
      same_or k place
      (λ e.
      let is_set : get_or (set counts place (Some journal)) place None ≡ Some journal =
      get_or-set_same counts place (Some journal) None (omega (arith, lt, e)) in
      let same : journal ≡ flanks =
      one_found journal flanks (get_or (set counts place (Some journal)) place None) is_set (ap (λ j. get_or (set counts place (Some journal)) j None) (sym e) ∙ here) in
      let one : site ≡ other = one_found site other (slice_get sites place) is (ap (slice_get sites) (sym e) ∙ is_other) in (
        subst (λ (s : Site). IsOffChains chains s.point) one off,
        subst (λ (s : Site). TellCounts chains s.point flanks) one (subst (TellCounts chains site.point) same tell),
      ))
      (λ ne.
      known k other flanks is_other
      (slice_get-get_or counts k None lt ∙ ap Some (sym (get_or-set_other counts place k (Some journal) None ne) ∙ here)))

  -- at a point that is visited
  pub visit_known : (n : ℕ) (gaps : List Gap) (visit : Visit) (counts new : List (Option (List Flanks))) (journal short : List Flanks) →
      IsVisit n chains sites gaps visit → new ≡ set counts visit.place (Some short) → AreCountsAt chains sites counts → TellGap n gaps visit.gap journal →
      HaveOneBalance journal short → AreCountsAt chains sites new
  visit_known n gaps visit counts new journal short v is_new known told one =
      one_known counts new visit.place short v.site is_new known v.is v.off
      (tell_by chains v.site.point journal short one
      (tell_by chains v.site.point told.way journal told.one
      (subst (TellCounts chains v.site.point) (one_way n gaps visit.gap v.way told.way v.is_way told.is) v.tell)))

  pub still_long : (counts new : List (Option (List Flanks))) (place : ℕ) (short : List Flanks) → new ≡ set counts place (Some short) →
      length counts ≡ length sites → length new ≡ length sites
  still_long counts new place short is long = ap length is ∙ length-set counts place (Some short) ∙ long
