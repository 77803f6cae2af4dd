-- What is known of the counts of polygons at points.
use Rattle.std.specs.Prelude.{◌≡◌, ℕ, Option, Some, List, slice_get}
use Rattle.tl_map_county.specs.TheMap.{MapChain}
use Rattle.tl_check_inside.specs.declared.flanks.Flanks.{Flanks}
use Rattle.tl_check_inside.specs.declared.strips.Site.{Site}
use Rattle.tl_check_inside.specs.Places.{IsOffChains}
use Rattle.tl_check_inside.specs.Keeping.Tallies.{TellCounts}

-- where flanks are known of a point, it is on no chain, and they tell the counts there
abbrev pub AreCountsAt : List MapChain → List Site → List (Option (List Flanks)) → Type 0
AreCountsAt chains sites counts =
    (k : ℕ) (site : Site) (flanks : List Flanks) → slice_get sites k ≡ Some site → slice_get counts k ≡ Some (Some flanks) →
    IsOffChains chains site.point × TellCounts chains site.point flanks
