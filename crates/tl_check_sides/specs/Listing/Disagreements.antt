-- All places where sides disagree.
use Rattle.std.specs.Prelude.{◌≡◌, ◌≢◌, ℕ, List, All}
use Rattle.std.specs.List.{Any}
use Rattle.tl_map_county.specs.TheMap.{MapChain}
use Rattle.tl_map_county.specs.Darts.{dart_left}
use Rattle.tl_check_sides.specs.declared.fault.Disagreement.{Disagreement}
use Rattle.tl_check_sides.specs.Sides.{IsNext, dart_right}
use Rattle.tl_check_planar.specs.Listing.Orders.{AreRising}

-- dart b is next after a about their node, and what is on the left of a isn't what is on the right of b
pub record HaveSidesAtOdds (chains : List MapChain) (a b : ℕ) : Type 0 where
  pub is_next : IsNext chains a b
  pub differ : dart_left chains a ≢ dart_right chains b

-- each is of two darts whose sides are at odds; each two such darts stand there; and they rise strictly, so that none
-- stands there twice
pub record AreAllDisagreements (chains : List MapChain) (found : List Disagreement) : Type 0 where
  pub true_ones : All (λ d. HaveSidesAtOdds chains d.first d.next) found
  pub complete : (a b : ℕ) → HaveSidesAtOdds chains a b → Any (λ d. (d.first ≡ a) × (d.next ≡ b)) found
  pub rising : AreRising (λ d. d.first) (λ d. d.next) found
