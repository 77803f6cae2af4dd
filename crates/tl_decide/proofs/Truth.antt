-- Each fault that is told of a map is true of it.
use Rattle.std.proofs.Common.{◌≡◌, ℕ, Bool, Some, List, map, length, sym, subst, ap, ◌∙◌, inl, inr, arith}
use Rattle.std.specs.Option.{unwrap_or}
use Rattle.std.specs.List.{All}
use Rattle.std.proofs.lemmas.List.Elements.{All-append, All-map}
use Rattle.tl_geom.specs.declared.point.Point.{Point}
use Rattle.tl_map_county.specs.TheMap.{TheMap, MapChain}
use Rattle.tl_map_county.specs.Darts.{dart_start}
use Rattle.tl_check_sides.specs.declared.fault.Disagreement.{Disagreement}
use Rattle.tl_check_sides.specs.Listing.Disagreements.{HaveSidesAtOdds}
use Rattle.tl_check_sides.proofs.ListingLemmas.Agreeing.{at_odds}
use Rattle.tl_check_verdict.specs.declared.fault.MapFault.{MapFault}
use Rattle.tl_check_verdict.specs.declared.fault.MapFault.TheVariants as fault
use Rattle.tl_check_verdict.specs.Truth.{IsTrueOfMap}
use Rattle.tl_check_verdict.specs.Sound.{IsSoundFor}
use Rattle.tl_check_verdict.proofs.Denials.{not_sound_alone}
use Rattle.tl_check_faces.specs.declared.fault.FaceFault.{FaceFault}
use Rattle.tl_decide.specs.MapFaults.{nowhere, start_of, side_fault, AreMapFaults, AreFacesTold, AreFaultsFor, IsTrueAmong}

-- a dart that starts somewhere starts at the point that is told
start_known : (chains : List MapChain) (dart : ℕ) (p : Point) → dart_start chains dart ≡ Some p → dart_start chains dart ≡ Some (start_of chains dart)
start_known chains dart p e = e ∙ ap (λ o. Some (unwrap_or o nowhere)) (sym e)

pub start_is : (chains : List MapChain) (dart : ℕ) (p : Point) → dart_start chains dart ≡ Some p → start_of chains dart ≡ p
start_is chains dart p e = ap (λ o. unwrap_or o nowhere) e

side_is_true : (m : TheMap) (d : Disagreement) → HaveSidesAtOdds m.chains d.first d.next → IsTrueOfMap m (side_fault m.chains d)
side_is_true m d odds = record { at = start_known m.chains d.first odds.is_next.node odds.is_next.a_starts; is_next = odds.is_next; differ = odds.differ }

pub each_is_true : (m : TheMap) (faults : List MapFault) (touched : ℕ) → AreMapFaults m faults touched → All (IsTrueOfMap m) faults
each_is_true m faults touched all =
    let P : MapFault → Type 0 = IsTrueOfMap m in
    rw all.are (All-append P _ _ (All-append P _ _ (All-append P _ _
    (All-map P fault.Meet all.meets all.all_meets.true_ones)
    (All-map P (side_fault m.chains) all.sides (λ k d lt. side_is_true m _ (all.all_sides.true_ones k d lt))))
    (All-map P fault.Cell all.cells (λ k d lt. at_odds m.chains _ _ _ _ (all.all_cells.true_ones k d lt))))
    (All-map P fault.PolygonPoint all.points all.all_points.each))

-- so it is among others, where faces may be asked for
among_still : (faces : Bool) (m : TheMap) (f : MapFault) → IsTrueOfMap m f → IsTrueAmong faces m f
among_still faces m (fault.Records f) true_one = true_one
among_still faces m (fault.NoRecords lacking) true_one = true_one
among_still faces m (fault.Meet meet) true_one = true_one
among_still faces m (fault.Side node first next) true_one = true_one
among_still faces m (fault.PolygonPoint misplaced) true_one = true_one
among_still faces m (fault.Cell odds) true_one = true_one
among_still faces m (fault.Face f) true_one = absurd true_one

-- and each of faces is where these are looked at
faces_true : (faces : Bool) (m : TheMap) (told : List FaceFault) → AreFacesTold faces m told → All (IsTrueAmong faces m) (map fault.Face told)
faces_true faces m told (inl looked) =
    All-map (IsTrueAmong faces m) fault.Face told
    (λ k d lt. (looked.0, (looked.1.true_ones k d lt, looked.1.untrue (λ none. let e : length told ≡ 0 = ap length none in omega (arith, lt, e)))))
faces_true faces m told (inr none) = subst (λ (fs : List FaceFault). All (IsTrueAmong faces m) (map fault.Face fs)) (sym none.1) (λ k d lt. absurd (omega (arith, lt)))

pub each_is_true_for : (faces : Bool) (m : TheMap) (faults : List MapFault) (touched : ℕ) → AreFaultsFor faces m faults touched
    → All (IsTrueAmong faces m) faults
each_is_true_for faces m faults touched all =
    rw all.are (All-append (IsTrueAmong faces m) all.others (map fault.Face all.told)
    (λ k d lt. among_still faces m _ (each_is_true m all.others touched all.all_others k d lt)) (faces_true faces m all.told all.all_faces))

-- what is true among others denies what is asked
pub among_denies : (faces : Bool) (m : TheMap) (f : MapFault) → IsTrueAmong faces m f → ¬ IsSoundFor faces m
among_denies faces m (fault.Records f) true_one sound = absurd true_one
among_denies faces m (fault.NoRecords lacking) true_one sound = absurd true_one
among_denies faces m (fault.Meet meet) true_one sound = not_sound_alone m (fault.Meet meet) true_one sound.sound
among_denies faces m (fault.Side node first next) true_one sound = not_sound_alone m (fault.Side node first next) true_one sound.sound
among_denies faces m (fault.PolygonPoint misplaced) true_one sound = not_sound_alone m (fault.PolygonPoint misplaced) true_one sound.sound
among_denies faces m (fault.Cell odds) true_one sound = not_sound_alone m (fault.Cell odds) true_one sound.sound
among_denies faces m (fault.Face f) true_one sound = true_one.1.1 (sound.facing true_one.0.0)
