-- Kept on the way: what is unused of pairs, and which points are left of several that follow one another.
use Rattle.std.specs.Prelude.{Bool, true, false, if◌then◌else◌, Option, Some, None, List, [], ◌∷◌}
use Rattle.tl_geom.specs.declared.point.Point.{Point}
use Rattle.tl_record.specs.Joining.{same_point}

-- is one of the pairs unused
abbrev pub some_unused : List (Option Point) → Bool
some_unused [] = false
some_unused (None ∷ pairs) = true
some_unused (Some p ∷ pairs) = some_unused pairs

-- what dedup leaves of the points that follow p
abbrev pub dedup_after : Point → List Point → List Point
dedup_after p [] = []
dedup_after p (q ∷ qs) = if same_point q p then dedup_after p qs else q ∷ dedup_after q qs
