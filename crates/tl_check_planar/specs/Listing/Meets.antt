-- All meets of a map's segments.
use Rattle.std.specs.Prelude.{◌≡◌, ℕ, ◌<◌, List, All}
use Rattle.std.specs.List.{Any}
use Rattle.tl_geom.specs.declared.rational.Rational.{Rational}
use Rattle.tl_map_county.specs.TheMap.{MapChain}
use Rattle.tl_check_planar.specs.declared.meet.Meet.{Meet}
use Rattle.tl_check_planar.specs.Meets.{IsMeet}
use Rattle.tl_check_planar.specs.Searching.{IsTrueMeet}
use Rattle.tl_check_planar.specs.Listing.Orders.{AreRising}

-- each is true; each two segments that conflict are named; and they rise strictly, so that no two segments are named
-- twice
pub record AreAllMeets (chains : List MapChain) (meets : List Meet) : Type 0 where
  pub true_ones : All (IsTrueMeet chains) meets
  pub complete : (s t : ℕ) (r : Rational) → s < t → IsMeet chains s t r → Any (λ m. (m.s ≡ s) × (m.t ≡ t)) meets
  pub rising : AreRising (λ m. m.s) (λ m. m.t) meets
