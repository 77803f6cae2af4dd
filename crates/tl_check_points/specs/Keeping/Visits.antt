-- Points that were found to lie in gaps.
use Rattle.std.specs.Prelude.{◌≡◌, ℕ, Some, List, slice_get}
use Rattle.tl_map_county.specs.TheMap.{MapChain}
use Rattle.tl_check_inside.specs.declared.flanks.Flanks.{Flanks}
use Rattle.tl_check_inside.specs.declared.strips.Site.{Site}
use Rattle.tl_check_inside.specs.Places.{IsOffChains}
use Rattle.tl_check_inside.specs.Keeping.Tallies.{TellCounts}
use Rattle.tl_check_points.specs.declared.labels.Gap.{Gap}
use Rattle.tl_check_points.specs.declared.visits.Visit.{Visit}
use Rattle.tl_check_points.specs.Keeping.Ways.{IsWay}

-- the point is on no chain, and the way from its gap tells the counts there
pub record IsVisit (n : ℕ) (chains : List MapChain) (sites : List Site) (gaps : List Gap) (visit : Visit) : Type 0 where
  pub site : Site
  pub is : slice_get sites visit.place ≡ Some site
  pub off : IsOffChains chains site.point
  pub way : List Flanks
  pub is_way : IsWay n gaps visit.gap way
  pub tell : TellCounts chains site.point way
