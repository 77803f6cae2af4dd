-- What a listing of a map says of whether it is sound.
use Rattle.std.proofs.Common.{◌≢◌, ◌↔◌, ℕ, Bool, IsTrue, List, [], ◌∷◌, refl, arith}
use Rattle.std.specs.Prelude.{All, Vec}
use Rattle.std.specs.Global.{Global}
use Rattle.tl_map_county.specs.TheMap.{TheMap}
use Rattle.tl_check_verdict.specs.declared.fault.MapFault.{MapFault}
use Rattle.tl_check_verdict.specs.declared.fault.MapFault.TheVariants as fault
use Rattle.tl_check_verdict.specs.Sound.{IsSound}
use Rattle.tl_check_verdict.proofs.Denials.{not_sound_alone}
use Rattle.tl_list_text.specs.declared.listing.Listing.TheVariants.{Faults}
use Rattle.tl_decide.specs.MapFaults.{IsTrueAmong}
use Rattle.tl_decide.specs.Deciding.{is_of_faces, begins_with_faces}
use Rattle.tl_list.specs.MapListings.{IsListingFor}
use Rattle.tl_decide.proofs.Truth.{each_is_true_for}

module _ (faces : Bool) (m : TheMap) where
  -- of a sound map nothing is true but faults of faces
  of_faces_alone : (f : MapFault) → IsTrueAmong faces m f → IsSound m → IsTrue (is_of_faces f)
  of_faces_alone (fault.Records f) true_one sound = absurd (not_sound_alone m (fault.Records f) true_one sound)
  of_faces_alone (fault.NoRecords lacking) true_one sound = absurd (not_sound_alone m (fault.NoRecords lacking) true_one sound)
  of_faces_alone (fault.Meet meet) true_one sound = absurd (not_sound_alone m (fault.Meet meet) true_one sound)
  of_faces_alone (fault.Side node first next) true_one sound = absurd (not_sound_alone m (fault.Side node first next) true_one sound)
  of_faces_alone (fault.PolygonPoint misplaced) true_one sound = absurd (not_sound_alone m (fault.PolygonPoint misplaced) true_one sound)
  of_faces_alone (fault.Cell odds) true_one sound = absurd (not_sound_alone m (fault.Cell odds) true_one sound)
  of_faces_alone (fault.Face f) true_one sound = refl

  begins : (faults : List MapFault) → faults ≢ [] → All (IsTrueAmong faces m) faults → IsSound m → IsTrue (begins_with_faces faults)
  begins [] some all sound = absurd (some refl)
  begins (f ∷ faults) some all sound = of_faces_alone f (all 0 f (omega arith)) sound

  -- so the first that is listed says whether the map is sound
  pub decided_by_first : (faults : Vec MapFault Global) (touched : ℕ) → IsListingFor faces m (Faults faults touched)
      → IsTrue (begins_with_faces faults.items) ↔ IsSound m
  decided_by_first faults touched told = (told.1.1, begins faults.items told.0 (each_is_true_for faces m faults.items touched told.1.0))
