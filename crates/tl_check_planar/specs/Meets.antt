-- What two segments of a map's chains share, by the segments' numbers, and what of it is allowed.
use Rattle.std.specs.Prelude.{◌≡◌, ◌≢◌, ◌⊎◌, ℕ, List}
use Rattle.tl_geom.specs.declared.rational.Rational.{Rational}
use Rattle.tl_map_county.specs.TheMap.{MapChain}
use Rattle.tl_map_county.specs.Segments.{IsSegmentOf}
use Rattle.tl_check_planar.specs.Planar.{IsOnSegment, IsChainEnd, MayShareWithin}

-- the rational point lies on segments s and t: s is segment i of chain c, and t is segment j of chain d
pub record IsSharedBy (chains : List MapChain) (s t : ℕ) (r : Rational) : Type 0 where
  pub c : ℕ
  pub i : ℕ
  pub d : ℕ
  pub j : ℕ
  pub first : IsSegmentOf chains s c i
  pub second : IsSegmentOf chains t d j
  pub on_first : IsOnSegment first.chain.points i r
  pub on_second : IsOnSegment second.chain.points j r

-- a shared point is allowed: it is an end of both chains, which are different, or they are one chain whose segments may share it
abbrev pub IsAllowed : (chains : List MapChain) (s t : ℕ) (r : Rational) → IsSharedBy chains s t r → Type 0
IsAllowed chains s t r m =
    ((m.c ≢ m.d) × (IsChainEnd m.first.chain.points r × IsChainEnd m.second.chain.points r))
    ⊎ ((m.c ≡ m.d) × MayShareWithin m.first.chain.points m.i m.j r)

-- segments s and t, s below t, conflict: they share the rational point, and it isn't allowed
pub record IsMeet (chains : List MapChain) (s t : ℕ) (r : Rational) : Type 0 where
  pub shared : IsSharedBy chains s t r
  pub refused : ¬ IsAllowed chains s t r shared

-- segments s and t, s below t, don't conflict: each rational point that they share is allowed
abbrev pub AreFree : List MapChain → (s t : ℕ) → Type 0
AreFree chains s t = (r : Rational) (m : IsSharedBy chains s t r) → IsAllowed chains s t r m
