-- There is no fault exactly where faces agree.
use Rattle.std.proofs.Common.{◌≡◌, ◌↔◌, List, [], ◌∷◌, refl, subst}
use Rattle.std.specs.Prelude.{All}
use Rattle.std.specs.List.{AllZip}
use Rattle.std.proofs.lemmas.List.Elements.{All-head}
use Rattle.tl_map_county.specs.TheMap.{TheMap}
use Rattle.tl_check_planar.specs.Planar.{IsPlanar}
use Rattle.tl_check_planar.specs.ByHeight.Heights.{widest}
use Rattle.tl_check_faces.specs.Facing.{FacesAgree}
use Rattle.tl_check_faces.specs.Lists.{AreAllNear}
use Rattle.tl_check_faces.specs.declared.odd.OddGap.{OddGap}
use Rattle.tl_check_faces.specs.declared.fault.FaceFault.{FaceFault}
use Rattle.tl_check_faces.specs.Faults.{IsTrueFaceFault, IsFaultBetween}
use Rattle.tl_check_faces.proofs.Contradicts.{denied}
use Rattle.tl_check_gaps.specs.Gaps.{AreAllOddGaps}
use Rattle.tl_check_gaps.proofs.Agreeing.{none_told}
use Rattle.tl_check_gaps.specs.FaceFaults.Keeping.Told.{AreFaultsOf}

pub agreed : (m : TheMap) (gaps : List OddGap) (faults : List FaceFault) → AreAllNear widest m.chains → IsPlanar m.chains →
    AreAllOddGaps widest m.chains gaps → AreFaultsOf m gaps faults →
    (faults ≡ []) ↔ FacesAgree m.chains
agreed m gaps faults near planar all of = (
  (λ e. none_told m.chains near planar gaps all (no_gap gaps (subst (λ l. AllZip (λ gap fault. IsFaultBetween m gap.west gap.east fault) gaps l) e of.each))),
  (λ agree. no_fault faults of.true_ones agree),
)
  where
    no_gap : (gaps : List OddGap) → AllZip (λ (gap : OddGap) (fault : FaceFault). IsFaultBetween m gap.west gap.east fault) gaps [] → gaps ≡ []
    no_gap [] each = refl
    no_gap (gap ∷ gaps) each = absurd each

    no_fault : (faults : List FaceFault) → All (IsTrueFaceFault m) faults → FacesAgree m.chains → faults ≡ []
    no_fault [] all agree = refl
    no_fault (fault ∷ faults) all agree = absurd (denied m fault (All-head (IsTrueFaceFault m) fault faults all) agree)
