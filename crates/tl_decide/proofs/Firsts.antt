-- What a first fault says of a map, or that there is none.
use Rattle.std.proofs.Common.{◌≡◌, ℕ, Bool, IsTrue, false, List, Option, Some, None, Result, Ok, Err, [], ◌∷◌, refl, option_map}
use Rattle.std.specs.Prelude.{IfOk, MatchOption}
use Rattle.tl_map_county.specs.TheMap.{TheMap}
use Rattle.tl_check_planar.specs.Planar.{IsPlanar}
use Rattle.tl_check_sides.specs.Cells.Cells.{CellsAgree}
use Rattle.tl_check_inside.specs.Placed.{ArePlaced}
use Rattle.tl_check_faces.specs.Crossings.Headings.{AreProper}
use Rattle.tl_check_faces.specs.declared.fault.FaceFault.{FaceFault}
use Rattle.tl_check_faces.specs.Facing.{FacesAgree}
use Rattle.tl_check_faces.specs.Faults.{IsTrueFaceFault}
use Rattle.tl_check_verdict.specs.declared.fault.MapFault.{MapFault}
use Rattle.tl_check_verdict.specs.declared.fault.MapFault.TheVariants.{Face}
use Rattle.tl_check_verdict.specs.Sound.{IsSound, IsSoundFor}
use Rattle.tl_check_verdict.specs.Truth.{IsTrueOfMap, IsTrueOfMapFor}
use Rattle.tl_check_verdict.proofs.Asked.{keeps, disagrees}
use Rattle.tl_check_verdict.proofs.Denials.{not_sound}
use Rattle.tl_tree_index.specs.declared.index.Memory.{Memory}
use Rattle.tl_build_propose.proofs.Soundness.{sound_by}
use Rattle.tl_decide.specs.declared.asked.Depth.TheVariants.{First}
use Rattle.tl_decide.specs.Deciding.{AreDecided, HasRings}

-- a fault that is told alone
pub first_alone : (faces : Bool) (m : TheMap) (f : MapFault) (faults : List MapFault) (touched : ℕ) → IsTrueOfMapFor faces m f → faults ≡ f ∷ []
    → AreDecided First faces m faults touched
first_alone faces m f faults touched true_one is = rw is (record {
  exact = ((λ none. absurd cc), (λ sound. absurd (not_sound faces m f true_one sound)));
  told = true_one;
})

-- and none
pub first_none : (faces : Bool) (m : TheMap) (faults : List MapFault) (touched : ℕ) → IsSoundFor faces m → faults ≡ [] → AreDecided First faces m faults touched
first_none faces m faults touched sound is = rw is (record { exact = ((λ none. sound), (λ s. refl)); told = tt })

-- where zero-cell ids agree too, a point may be found that is misplaced
pub sound_where : (m : TheMap) (rings : ℕ) → HasRings m rings → IsPlanar m.chains → CellsAgree m.chains → (answer : Result (Option MapFault) Memory) →
    IfOk answer (λ found. MatchOption found (ArePlaced m) (IsTrueOfMap m)) → IfOk answer (λ found. MatchOption found (IsSound m) (IsTrueOfMap m))
sound_where m rings has planar cells (Ok None) told = sound_by m has.walks has.are planar (has.agree, cells) told
sound_where m rings has planar cells (Ok (Some fault)) told = told
sound_where m rings has planar cells (Err refused) told = tt

-- ---- faces

pub found_asked : (faces : Bool) (m : TheMap) → IsTrue faces → IsSound m → AreProper m.chains → (found : Option FaceFault) → (found ≡ None → FacesAgree m.chains)
    → ((fault : FaceFault) → found ≡ Some fault → IsTrueFaceFault m fault) → MatchOption (option_map Face found) (IsSoundFor faces m) (IsTrueOfMapFor faces m)
found_asked faces m asked sound proper (Some fault) agree disagree = disagrees faces m fault asked sound proper (disagree fault refl)
found_asked faces m asked sound proper None agree disagree = keeps faces m sound (λ a. agree refl)

-- a map is sound where it keeps what is asked and no faces are
pub sound_alone : (m : TheMap) → IsSound m → IsSoundFor false m
sound_alone m sound = record { sound = sound; facing = λ asked. absurd (cc) }

pub not_asked : (faces : Bool) (m : TheMap) → faces ≡ false → IsSound m → IsSoundFor faces m
not_asked faces m none sound = rw none (sound_alone m sound)
