-- Disagreements that are told dart by dart.
use Rattle.std.specs.Prelude.{ℕ, List}
use Rattle.tl_map_county.specs.TheMap.{MapChain}
use Rattle.tl_check_sides.specs.declared.fault.Disagreement.{Disagreement}
use Rattle.tl_check_planar.specs.Listing.Keeping.Reaching.{ReachTo}
use Rattle.tl_check_sides.specs.Listing.Disagreements.{HaveSidesAtOdds}

-- the disagreements of all pairs of darts before the pair of a and b
abbrev pub AreDisagreementsBefore : List MapChain → (a b : ℕ) → List Disagreement → Type 0
AreDisagreementsBefore chains a b found =
    ReachTo (λ (d : Disagreement). d.first) (λ d. d.next) (λ d. HaveSidesAtOdds chains d.first d.next) (HaveSidesAtOdds chains) a b found
