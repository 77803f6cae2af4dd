-- Meets of conflicts.
use Rattle.std.specs.Prelude.{◌≡◌, ℕ, ◌<◌, List, length, slice_index_or}
use Rattle.tl_geom.specs.declared.rational.Rational.{Rational}
use Rattle.tl_map_county.specs.TheMap.{MapChain}
use Rattle.tl_check_planar.specs.declared.meet.Meet.{Meet}
use Rattle.tl_check_planar.specs.Searching.{IsTrueMeet}
use Rattle.tl_tree_index.specs.declared.items.Conflict.{Conflict}

-- the meet is true, and of the two segments that conflict
pub record IsMeetOf (chains : List MapChain) (conflict : Conflict Rational) (meet : Meet) : Type 0 where
  pub first : meet.s ≡ conflict.i
  pub second : meet.t ≡ conflict.j
  pub is_true : IsTrueMeet chains meet

-- the meets are those of the first n conflicts, in order
pub record AreMeetsOf (chains : List MapChain) (n : ℕ) (conflicts : List (Conflict Rational)) (meets : List Meet) : Type 0 where
  pub long : length meets ≡ n
  pub each : (k : ℕ) (f : Conflict Rational) (m : Meet) → k < n → IsMeetOf chains (slice_index_or conflicts k f) (slice_index_or meets k m)
