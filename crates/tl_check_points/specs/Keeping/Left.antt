-- Points that are left to be looked at.
use Rattle.std.specs.Prelude.{◌⊎◌, List, All, Contains}
use Rattle.tl_map_county.specs.TheMap.{TheMap}
use Rattle.tl_check_inside.specs.declared.strips.Site.{Site}
use Rattle.tl_check_inside.specs.Keeping.Strips.{IsPlacedSite}

-- the point lies where it has to, or is among the others
abbrev pub IsLeft : TheMap → List Site → Site → Type 0
IsLeft m others site = Contains others site ⊎ IsPlacedSite m site

-- so it is of each of these points
abbrev pub AreLeft : TheMap → (sites others : List Site) → Type 0
AreLeft m sites others = All (IsLeft m others) sites
