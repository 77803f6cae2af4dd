-- What is sifted out of the first hits.
use Rattle.std.specs.Prelude.{◌≡◌, ◌⊎◌, ℕ, ◌<◌, List, [], ◌∷◌, ◌++◌, map, take, slice_index, All, Contains}
use Rattle.tl_geom.specs.declared.point.Point.{Point}
use Rattle.tl_map_county.specs.TheMap.{MapChain}
use Rattle.tl_map_county.specs.Segments.{IsSegmentOf}
use Rattle.tl_tree_index.specs.Hits.{times}
use Rattle.tl_check_inside.specs.declared.flanks.Flanks.{Flanks}
use Rattle.tl_check_inside.specs.Inside.{flanks_at, IsCrossed}
use Rattle.tl_check_inside.specs.Places.{IsHeldBy}
use Rattle.tl_check_inside.specs.Keeping.Probing.{IsHolding}

-- none of the first k hits holds the point
abbrev pub AreOff : List MapChain → Point → List ℕ → ℕ → Type 0
AreOff chains q hits k = (j : ℕ) → j < k → ¬ IsHolding chains q (slice_index hits j)

-- those of the first k hits that its ray crosses are listed, and nothing else
pub record AreSifted (chains : List MapChain) (q : Point) (hits crossed : List ℕ) (k : ℕ) : Type 0 where
  pub crossing : (s : ℕ) → IsCrossed chains q s → times s crossed ≡ times s (take k hits)
  pub others : (s : ℕ) → ¬ IsCrossed chains q s → times s crossed ≡ 0

-- and these are the flanks of those that are listed
pub record AreSiftedFlanks (chains : List MapChain) (q : Point) (hits : List ℕ) (flanks : List Flanks) (k : ℕ) : Type 0 where
  pub crossed : List ℕ
  pub sifted : AreSifted chains q hits crossed k
  pub are : flanks ≡ map (flanks_at chains) crossed

-- the flanks of the segment are appended where the ray crosses it, and else nothing
abbrev pub IsKept : List MapChain → Point → ℕ → List Flanks → List Flanks → Type 0
IsKept chains q s old new = (IsCrossed chains q s × (new ≡ old ++ flanks_at chains s ∷ [])) ⊎ ((¬ IsCrossed chains q s) × (new ≡ old))

-- each of these chains holds the point, and those of the first k hits that hold it stand among them
pub record AreHolders (chains : List MapChain) (q : Point) (hits held : List ℕ) (k : ℕ) : Type 0 where
  pub each : All (IsHeldBy chains q) held
  pub all : (j c i : ℕ) → j < k → IsHolding chains q (slice_index hits j) → IsSegmentOf chains (slice_index hits j) c i → Contains held c

-- the chain of the segment is appended where the segment holds the point, and else nothing
abbrev pub IsKeptHolder : List MapChain → Point → ℕ → List ℕ → List ℕ → Type 0
IsKeptHolder chains q s old new =
    (IsHolding chains q s × ((c : ℕ) × (i : ℕ) × IsSegmentOf chains s c i × (new ≡ old ++ c ∷ []))) ⊎ ((¬ IsHolding chains q s) × (new ≡ old))
