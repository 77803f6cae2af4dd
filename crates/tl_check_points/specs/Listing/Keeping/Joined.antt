-- The counts at a point of a map of two parts: a planar one, and the chains that were taken out.
use Rattle.std.specs.Prelude.{◌≡◌, ◌⊎◌, ℕ, Bool, List, [], ◌∷◌, ◌++◌, not, map}
use Rattle.tl_geom.specs.declared.point.Point.{Point}
use Rattle.tl_map_county.specs.TheMap.{MapChain}
use Rattle.tl_check_inside.specs.declared.flanks.Flanks.{Flanks}
use Rattle.tl_check_inside.specs.Places.{IsOffChains}
use Rattle.tl_check_inside.specs.Keeping.Tallies.{TellCounts}

-- the marks the other way round
abbrev pub turned : List Bool → List Bool
turned marks = map not marks

-- before these flanks stand others that tell the counts at q of the chains that were taken out
pub record AreJoined (taken : List MapChain) (q : Point) (known joined : List Flanks) : Type 0 where
  pub crossed : List Flanks
  pub tell : TellCounts taken q crossed
  pub is : joined ≡ crossed ++ known

-- no chain that was taken out holds q, and none crosses its ray
pub record IsApart (taken : List MapChain) (q : Point) : Type 0 where
  pub off : IsOffChains taken q
  pub tell : TellCounts taken q []

-- to the suspects polygon p is appended, or its point is apart
abbrev pub IsSifted : (taken : List MapChain) (p : ℕ) → Point → (old new : List ℕ) → Type 0
IsSifted taken p q old new = ((new ≡ old) × IsApart taken q) ⊎ (new ≡ old ++ p ∷ [])
