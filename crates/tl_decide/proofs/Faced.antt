-- What is told of a map where faces may be asked for.
use Rattle.std.proofs.Common.{◌≡◌, ◌≢◌, ℕ, Bool, IsTrue, true, false, zero, List, [], ◌∷◌, ◌++◌, map, inr, inl, refl, sym, subst, append-nil, ◌∙◌, arith}
use Rattle.std.specs.Prelude.{All as AllOf}
use Rattle.tl_map_county.specs.TheMap.{TheMap}
use Rattle.tl_check_planar.specs.Planar.{IsPlanar}
use Rattle.tl_check_planar.specs.declared.meet.Meet.{Meet}
use Rattle.tl_check_sides.specs.declared.fault.Disagreement.{Disagreement}
use Rattle.tl_check_sides.specs.declared.cells.at_odds.CellsAtOdds.{CellsAtOdds}
use Rattle.tl_check_sides.specs.Sides.{SidesAgree}
use Rattle.tl_check_sides.proofs.ListingLemmas.Emptiness.{cells_agree}
use Rattle.tl_check_inside.specs.declared.misplaced.Misplaced.{Misplaced}
use Rattle.tl_check_faces.specs.Crossings.Headings.{AreProper}
use Rattle.tl_check_faces.specs.declared.fault.FaceFault.{FaceFault}
use Rattle.tl_check_faces.specs.Faults.{IsTrueFaceFault}
use Rattle.tl_check_faces.specs.Truth.{AreFacesTrue}
use Rattle.tl_check_faces.proofs.FromTruth.{fault_denies}
use Rattle.tl_check_points.proofs.ListingLemmas.Placed.{placed_where_none}
use Rattle.tl_check_verdict.specs.declared.fault.MapFault.{MapFault}
use Rattle.tl_check_verdict.specs.declared.fault.MapFault.TheVariants as fault
use Rattle.tl_check_verdict.specs.Sound.{IsSound, IsSoundFor}
use Rattle.tl_check_verdict.proofs.Asked.{keeps}
use Rattle.tl_build_propose.proofs.Soundness.{sound_by}
use Rattle.tl_decide.specs.declared.asked.Depth.TheVariants.{All}
use Rattle.tl_decide.specs.MapFaults.{side_fault, AreMapFaults, AreFaultsFor, IsTrueAmong}
use Rattle.tl_decide.specs.Deciding.{begins_with_faces, AreDecided, HasRings}
use Rattle.tl_decide.specs.Keeping.OfMap.{AddsFaces, AddsFacesFor}
use Rattle.tl_decide.proofs.Emptiness.{HasNone, has_none, map_empty, joined_empty}
use Rattle.tl_decide.proofs.Truth.{each_is_true_for, among_denies}

-- of a map that keeps what is asked of it no fault is true, so none is told
none_true : (faces : Bool) (m : TheMap) (faults : List MapFault) → AllOf (IsTrueAmong faces m) faults → IsSoundFor faces m → faults ≡ []
none_true faces m [] all sound = refl
none_true faces m (f ∷ faults) all sound = absurd (among_denies faces m f (all 0 f (omega arith)) sound)

-- the first of other faults isn't of faces
first_of_others : (m : TheMap) (others : List MapFault) (touched : ℕ) → AreMapFaults m others touched → begins_with_faces others ≡ false
first_of_others m others touched all = rw all.are (go all.meets all.sides all.cells all.points)
  where
    go : (meets : List Meet) (sides : List Disagreement) (cells : List CellsAtOdds) (points : List Misplaced)
        → begins_with_faces (map fault.Meet meets ++ map (side_fault m.chains) sides ++ map fault.Cell cells ++ map fault.PolygonPoint points) ≡ false
    go (meet ∷ meets) sides cells points = refl
    go [] (side ∷ sides) cells points = refl
    go [] [] (cell ∷ cells) points = refl
    go [] [] [] (point ∷ points) = refl
    go [] [] [] [] = refl

-- ---- where faces aren't looked at

-- where some chains meet or sides differ, these are all faults
pub alone : (faces : Bool) (m : TheMap) (faults : List MapFault) (touched : ℕ) → faults ≢ [] → AreMapFaults m faults touched
    → (¬ (IsPlanar m.chains × SidesAgree m.chains)) → AreDecided All faces m faults touched
alone faces m faults touched some all not = record {
  exact = ((λ none. absurd (some none)), (λ sound. absurd (not (sound.sound.planar, sound.sound.sides))));
  told = (
    record { others = faults; told = []; all_others = all; all_faces = inr ((λ looked. not looked.1), refl); are = sym (append-nil faults) },
    λ of_faces. absurd (let wrong : false ≡ true = sym (first_of_others m faults touched all) ∙ of_faces in cc),
  );
}

-- ---- where they are

begun : (others more : List MapFault) → begins_with_faces others ≡ false → IsTrue (begins_with_faces (others ++ more)) → others ≡ []
begun [] more other of_faces = refl
begun (f ∷ others) more other of_faces = absurd (let wrong : false ≡ true = sym other ∙ of_faces in cc)

-- where chains are planar and sides agree, those of faces come behind all others
module _ (faces : Bool) (m : TheMap) (others faults : List MapFault) (rings : ℕ) (planar : IsPlanar m.chains) (has : HasRings m rings)
    (all : AreMapFaults m others 0) (adds : AddsFacesFor faces m others faults) where
  sound_otherwise : others ≡ [] → IsSound m
  sound_otherwise none =
      let nothing : HasNone m = has_none m others 0 all none in
      sound_by m has.walks has.are planar (has.agree, cells_agree m.chains nothing.cells) ((placed_where_none m [] nothing.points).1 refl)

  told_for : AreFaultsFor faces m faults 0
  told_for = record { others = others; told = adds.told; all_others = all; all_faces = adds.all; are = adds.are }

  pub agreeing : AreDecided All faces m faults 0
  agreeing = record {
    exact = (
      (λ none.
          let both = joined_empty others (map fault.Face adds.told) (sym adds.are ∙ none) in
          keeps faces m (sound_otherwise both.0) (λ asked. adds.agree asked (map_empty fault.Face adds.told both.1))),
      none_true faces m faults (each_is_true_for faces m faults 0 told_for),
    );
    told = (
      told_for,
      λ of_faces. sound_otherwise (begun others (map fault.Face adds.told) (first_of_others m others 0 all)
          (subst (λ (fs : List MapFault). IsTrue (begins_with_faces fs)) adds.are of_faces)),
    );
  }

-- none of faces are told where they aren't asked for
pub none_for : (faces : Bool) (m : TheMap) (faults : List MapFault) → faces ≡ false → AddsFacesFor faces m faults faults
none_for faces m faults none = record {
  told = [];
  all = inr ((λ looked. let asked = looked.0 in absurd (let wrong : false ≡ true = sym none ∙ asked in cc)), refl);
  agree = λ asked told. absurd (let wrong : false ≡ true = sym none ∙ asked in cc);
  are = sym (append-nil faults);
}

pub all_for : (faces : Bool) (m : TheMap) (old new : List MapFault) → IsTrue faces → IsPlanar m.chains → SidesAgree m.chains → AddsFaces m old new
    → AddsFacesFor faces m old new
all_for faces m old new asked planar agree adds = record {
  told = adds.told;
  all = inl ((asked, (planar, agree)), adds.all);
  agree = λ a. adds.agree;
  are = adds.are;
}

-- ---- faults of faces

-- where some are true faces aren't
pub untrue : (m : TheMap) (told : List FaceFault) → AreProper m.chains → IsPlanar m.chains → SidesAgree m.chains → AllOf (IsTrueFaceFault m) told → told ≢ []
    → ¬ AreFacesTrue m.chains
untrue m [] proper planar agree true_ones some = absurd (some refl)
untrue m (f ∷ rest) proper planar agree true_ones some = fault_denies m f proper planar agree (true_ones zero f (omega arith))
