-- Points whose counts are known, and those that are left.
use Rattle.std.proofs.Common.{◌≡◌, inl, inr, ℕ, ◌+◌, ◌<◌, ◌≤◌, Option, Some, None, List, [], ◌∷◌, ◌++◌, length, get_or, All, sym, subst, ap, ◌∙◌, arith}
use Rattle.std.specs.Prelude.{slice_get, MatchOption}
use Rattle.std.proofs.lemmas.List.Elements.{All-contains, Contains-append_left, Contains-push}
use Rattle.tl_map_county.specs.declared.polygons.Polygon.{Polygon}
use Rattle.tl_map_county.specs.TheMap.{TheMap}
use Rattle.tl_check_planar.specs.Keeping.Apart.{one_found}
use Rattle.tl_check_inside.specs.declared.misplaced.Misplaced.{Misplaced}
use Rattle.tl_check_inside.specs.declared.strips.Site.{Site}
use Rattle.tl_check_inside.specs.Placed.{IsPlacedIn, IsTrueMisplaced}
use Rattle.tl_check_inside.specs.Keeping.Tallies.{AreClear}
use Rattle.tl_check_inside.specs.Keeping.Strips.{IsSiteOf, IsPlacedSite}
use Rattle.tl_check_inside.proofs.Stripping.{one_more}
use Rattle.tl_check_points.specs.Keeping.Left.{IsLeft, AreLeft}

-- the first k of these points are placed or left
abbrev pub AreLeftUpTo : TheMap → (sites others : List Site) → ℕ → Type 0
AreLeftUpTo m sites others k = (j : ℕ) (d : Site) → j < k → IsLeft m others (get_or sites j d)

module _ (m : TheMap) where
  pub one_placed : (sites others : List Site) (k : ℕ) (e : Site) → k < length sites → AreLeftUpTo m sites others k → IsPlacedSite m (get_or sites k e) →
      AreLeftUpTo m sites others (k + 1)
  one_placed sites others k e lt before here = one_more (IsLeft m others) sites k e before lt (inr here)

  pub one_left : (sites others new : List Site) (k : ℕ) (e : Site) → k < length sites → new ≡ others ++ get_or sites k e ∷ [] → AreLeftUpTo m sites others k →
      AreLeftUpTo m sites new (k + 1)
  one_left sites others new k e lt pushed before =
      subst (λ xs. AreLeftUpTo m sites xs (k + 1)) (sym pushed)
      (one_more (IsLeft m (others ++ get_or sites k e ∷ [])) sites k e
      (λ j d less. elim (before j d less) [
        | inl left ↦ inl (Contains-append_left others (get_or sites k e ∷ []) (get_or sites j d) left)
        | inr placed ↦ inr placed
      ])
      lt (inl (Contains-push others (get_or sites k e))))

  pub all_left : (sites others : List Site) (k : ℕ) → length sites ≤ k → AreLeftUpTo m sites others k → AreLeft m sites others
  all_left sites others k past before j d lt = before j d (omega (arith, lt, past))

  -- where those that are left are placed, all are
  pub left_placed : (sites others : List Site) → AreLeft m sites others → All (IsPlacedSite m) others → All (IsPlacedSite m) sites
  left_placed sites others left all k d lt = elim (left k d lt) [
    | inl among ↦ All-contains (IsPlacedSite m) others (get_or sites k d) all among
    | inr placed ↦ placed
  ]

  -- what is told of the polygon's point is told of the site
  pub told_of_site : (site : Site) (polygon : Polygon) (found : Option Misplaced) → slice_get m.polygons site.polygon ≡ Some polygon →
      MatchOption found (IsPlacedIn m polygon.point site.polygon) (IsTrueMisplaced m) → MatchOption found (IsPlacedSite m site) (IsTrueMisplaced m)
  told_of_site site polygon (Some wrong) is told = told
  told_of_site site polygon None is told =
      λ other e. subst (λ (p : Polygon). IsPlacedIn m p.point site.polygon) (one_found polygon other (slice_get m.polygons site.polygon) is e) told

  pub point_is : (site : Site) (polygon : Polygon) → IsSiteOf m site → slice_get m.polygons site.polygon ≡ Some polygon → site.point ≡ polygon.point
  point_is site polygon is at =
      is.point ∙ ap (λ (p : Polygon). p.point) (one_found is.polygon polygon (slice_get m.polygons site.polygon) is.is at)

  pub none_left : (sites : List Site) (others : List Site) → AreLeftUpTo m sites others 0
  none_left sites others j d lt = absurd (omega (arith, lt))

pub clear_by : (n : ℕ) (near near' far far' : List ℕ) → near' ≡ near → far' ≡ far → AreClear n near far → AreClear n near' far'
clear_by n near near' far far' e f clear = subst (λ xs. AreClear n xs far') (sym e) (subst (λ xs. AreClear n near xs) (sym f) clear)
