-- Kept on the way: the place of each key among the polygons.
use Rattle.std.specs.Prelude.{◌≡◌, ℕ, Option, Some, List, slice_get}
use Rattle.std.specs.declared.hash.RandomState.{RandomState}
use Rattle.indexmap.specs.IndexMap.{IndexMap, index_of}
use Rattle.tl_geom.specs.declared.point.Point.{Point}
use Rattle.tl_map_county.specs.declared.polygons.Polygon.{Polygon}
use Rattle.tl_record_key.specs.declared.key.PolyKey.{PolyKey}
use Rattle.tl_map_rules.specs.MapOf.{same_key}

-- a polygon as an entry of a map by keys
abbrev pub entry_of : Polygon → PolyKey × Point
entry_of p = (p.key, p.point)

-- a look-up gives the place of each of the keys, and nothing of any other
pub record Numbers {K : Type 0} (ks : List K) (found : K → Option ℕ) : Type 0 where
  pub each : (j : ℕ) (k : K) → slice_get ks j ≡ Some k → found k ≡ Some j
  pub only : (k : K) (n : ℕ) → found k ≡ Some n → slice_get ks n ≡ Some k

-- the index has the place of each key
abbrev pub Indexes : List PolyKey → IndexMap PolyKey Point RandomState → Type 0
Indexes ks index = Numbers ks (index_of same_key index)
