use Rattle.std.proofs.Common.{◌≡◌, All, take}
use Rattle.tl_check_inside.specs.Keeping.Strips.{IsSiteOf, numbers}
use Rattle.tl_check_points.proofs.sites.sites_of.Given as goal

-- the points of the polygons so far
abbrev pub invariant-loop-k : goal.invariant-loop-k
invariant-loop-k l = record {
  sites : All (IsSiteOf l.map) l.sites.items;
  polygons : numbers l.sites.items ≡ take l.k l.polygons;
}
