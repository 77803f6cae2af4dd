-- Lists that stand one behind the other, by where they begin and end.
use Rattle.std.specs.Prelude.{ℕ, ◌≤◌, Option, None, Some, List, map, slice_range}
use Rattle.tl_check_inside.specs.declared.flanks.Flanks.{Flanks}
use Rattle.tl_check_points.specs.declared.counts.Part.{Part}

-- the flanks of a part, if there is one
abbrev pub list_in : List Flanks → Option Part → Option (List Flanks)
list_in flanks None = None
list_in flanks (Some part) = Some (slice_range flanks part.from part.to)

-- those of all parts
abbrev pub lists_in : List Flanks → List (Option Part) → List (Option (List Flanks))
lists_in flanks parts = map (list_in flanks) parts

-- if there is a part, it ends within so many
abbrev pub IsPartOf : ℕ → Option Part → Type 0
IsPartOf n None = Unit {0}
IsPartOf n (Some part) = (part.from ≤ part.to) × (part.to ≤ n)
