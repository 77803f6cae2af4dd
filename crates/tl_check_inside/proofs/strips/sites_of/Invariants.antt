use Rattle.std.proofs.Common.{ℕ, ◌<◌, All, Contains}
use Rattle.tl_check_inside.specs.Keeping.Strips.{IsSiteOf, numbers}
use Rattle.tl_check_inside.proofs.strips.sites_of.Given as goal

-- the points of the polygons so far
abbrev pub invariant-loop-polygon : goal.invariant-loop-polygon
invariant-loop-polygon l = record {
  sites : All (IsSiteOf l.map) l.sites.items;
  whole : (p : ℕ) → p < l.polygon → Contains (numbers l.sites.items) p;
}
