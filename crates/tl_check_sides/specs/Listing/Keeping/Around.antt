-- What the list of a map's sorted darts holds.
use Rattle.std.specs.Prelude.{◌≡◌, ◌≢◌, ℕ, ◌<◌, ◌^◌, List, length, slice_index_or, All}
use Rattle.tl_geom.specs.declared.point.Point.{Point}
use Rattle.tl_geom.specs.Turning.{east}
use Rattle.tl_map_county.specs.TheMap.{MapChain}
use Rattle.tl_map_county.specs.Nodes.{AreNodes}
use Rattle.tl_check_sides.specs.Sides.{dart_count}
use Rattle.tl_check_sides.specs.Headed.{AreSorted, IsHeaded}
use Rattle.tl_check_sides.specs.declared.headed.HeadedDart.{HeadedDart}

-- what is never read: it stands for a place behind a list
abbrev pub nowhere : HeadedDart
nowhere = record { node = 0; dart = 0; heading = east }

-- the dart at a place
abbrev pub headed_at : List HeadedDart → ℕ → HeadedDart
headed_at darts k = slice_index_or darts k nowhere

-- the dart of this number is at some place
pub record IsPlaced (darts : List HeadedDart) (d : ℕ) : Type 0 where
  pub place : ℕ
  pub within : place < length darts
  pub is : (headed_at darts place).dart ≡ d

-- all darts, each once, sorted
pub record AreAround (chains : List MapChain) (darts : List HeadedDart) : Type 0 where
  pub nodes : List Point
  pub are : AreNodes chains nodes
  pub few : length darts < 2 ^ 32
  pub long : length darts ≡ dart_count chains
  pub each : All (IsHeaded chains nodes) darts
  pub all : (d : ℕ) → d < dart_count chains → IsPlaced darts d
  pub once : (j k : ℕ) → j < k → k < length darts → (headed_at darts j).dart ≢ (headed_at darts k).dart
  pub sorted : AreSorted darts
