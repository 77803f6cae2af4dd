-- How often sides are near and far over crossed segments, as it is counted for all polygons at once.
use Rattle.std.specs.Prelude.{◌≡◌, ◌≢◌, ℕ, ◌<◌, ◌≤◌, Bool, false, List, length, map, count_by, slice_index}
use Rattle.tl_geom.specs.declared.point.Point.{Point}
use Rattle.tl_map_county.specs.declared.sides.Side.{Side}
use Rattle.tl_map_county.specs.declared.sides.Side.TheVariants.{Outside}
use Rattle.tl_map_county.specs.TheMap.{MapChain}
use Rattle.tl_check_inside.specs.declared.flanks.Flanks.{Flanks}
use Rattle.tl_check_inside.specs.Inside.{flanks_at, balance, is_polygon, IsCount}

-- the flanks of these segments
abbrev pub flanks_in : List MapChain → List ℕ → List Flanks
flanks_in chains segments = map (flanks_at chains) segments

-- these flanks tell the count at q of any sides but the outside
abbrev pub TellCounts : List MapChain → Point → List Flanks → Type 0
TellCounts chains q crossed = (S : Side → Bool) → S Outside ≡ false → IsCount chains q S (balance S crossed)

-- of these flanks, how many have such a side near
abbrev pub near_count : List Flanks → (Side → Bool) → ℕ
near_count crossed S = count_by (λ f. S f.near) crossed

-- and how many have one far
abbrev pub far_count : List Flanks → (Side → Bool) → ℕ
far_count crossed S = count_by (λ f. S f.far) crossed

-- the counts of all polygons
pub record AreTallies (crossed : List Flanks) (near far : List ℕ) : Type 0 where
  pub nears : (p : ℕ) → p < length near → slice_index near p ≡ near_count crossed (is_polygon p)
  pub fars : (p : ℕ) → p < length far → slice_index far p ≡ far_count crossed (is_polygon p)

-- nothing is counted yet
abbrev pub AreNone : List ℕ → Type 0
AreNone counts = (p : ℕ) → p < length counts → slice_index counts p ≡ 0

-- there is a count of each of so many polygons, and nothing is counted yet
pub record AreClear (polygons : ℕ) (near far : List ℕ) : Type 0 where
  pub nears : length near ≡ polygons
  pub fars : length far ≡ polygons
  pub no_near : AreNone near
  pub no_far : AreNone far

-- polygon q, if it is another than p, is near as often as far
abbrev pub IsEven : (near far : List ℕ) (p q : ℕ) → Type 0
IsEven near far p q = q < length near → q ≢ p → slice_index near q ≡ slice_index far q

-- it is another, and isn't
pub record IsOdd (near far : List ℕ) (p q : ℕ) : Type 0 where
  pub within : q < length near
  pub other : q ≢ p
  pub differ : slice_index near q ≢ slice_index far q

-- each polygon that is near or far over one of these flanks is even
pub record AreEven (crossed : List Flanks) (near far : List ℕ) (p : ℕ) : Type 0 where
  pub nears : (q : ℕ) → 1 ≤ near_count crossed (is_polygon q) → IsEven near far p q
  pub fars : (q : ℕ) → 1 ≤ far_count crossed (is_polygon q) → IsEven near far p q
