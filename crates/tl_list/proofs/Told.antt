-- Each fault that is true of a map is told by the list of all.
use Rattle.std.proofs.Common.{◌≡◌, ◌≢◌, ℕ, inl, inr, Bool, Some, List, [], ◌++◌, map, refl, subst, arith}
use Rattle.std.specs.List.{Any, Contains}
use Rattle.std.proofs.lemmas.List.Elements.{All-contains, Contains-append_left, Contains-append_right}
use Rattle.tl_geom.specs.declared.point.Point.{Point}
use Rattle.tl_map_county.specs.TheMap.{TheMap}
use Rattle.tl_map_county.specs.Darts.{dart_start}
use Rattle.tl_check_sides.specs.declared.fault.Disagreement.{Disagreement}
use Rattle.tl_check_inside.specs.declared.misplaced.Misplaced.{Misplaced}
use Rattle.tl_check_inside.specs.declared.misplaced.Misplaced.TheVariants.{OnChain, Outside, InOther}
use Rattle.tl_check_sides.specs.declared.cells.at_odds.CellsAtOdds.{CellsAtOdds}
use Rattle.tl_check_sides.specs.Listing.Touched.{IsTouched}
use Rattle.tl_check_points.specs.Listing.AllMisplaced.{FaultPlace, IsTrueAt, IsSettled}
use Rattle.tl_check_points.proofs.ListingLemmas.Wholes.{place_of}
use Rattle.tl_check_sides.specs.Listing.CellOdds.{AreAllCellsAtOdds}
use Rattle.tl_check_sides.proofs.ListingLemmas.Emptiness.{cells_agree}
use Rattle.tl_check_verdict.specs.declared.fault.MapFault.{MapFault}
use Rattle.tl_check_verdict.specs.declared.fault.MapFault.TheVariants as fault
use Rattle.tl_check_verdict.specs.Truth.{IsTrueOfMap}
use Rattle.tl_check_faces.specs.declared.fault.FaceFault.{FaceFault}
use Rattle.tl_check_faces.specs.Faults.{IsTrueFaceFault}
use Rattle.tl_check_gaps.proofs.FaceFaults.Exact.{told as of_all_gaps}
use Rattle.tl_decide.specs.MapFaults.{side_fault, AreMapFaults, AreLookedAt, AreFacesTold, AreFaultsFor, IsTrueAmong}
use Rattle.tl_list.specs.Telling.{IsCauseOf, IsMeetOf, IsOfSides, IsOfCells, HangsOnSides, StandsInList}
use Rattle.tl_decide.proofs.Emptiness.{odds_deny}
use Rattle.tl_list.proofs.Lists.{held_map, named_by, some_first, contains_or}
use Rattle.tl_decide.proofs.Truth.{start_is}

module _ (m : TheMap) (faults : List MapFault) (touched : ℕ) (all : AreMapFaults m faults touched) where
  among_meets : (f : MapFault) → Contains (map fault.Meet all.meets) f → Contains faults f
  among_meets f held = rw all.are (Contains-append_left _ _ f (Contains-append_left _ _ f (Contains-append_left _ _ f held)))

  among_sides : (f : MapFault) → Contains (map (side_fault m.chains) all.sides) f → Contains faults f
  among_sides f held = rw all.are (Contains-append_left _ _ f (Contains-append_left _ _ f (Contains-append_right (map fault.Meet all.meets) _ f held)))

  among_cells : (f : MapFault) → Contains (map fault.Cell all.cells) f → Contains faults f
  among_cells f held =
      rw all.are (Contains-append_left _ _ f (Contains-append_right (map fault.Meet all.meets ++ map (side_fault m.chains) all.sides) _ f held))

  among_points : (f : MapFault) → Contains (map fault.PolygonPoint all.points) f → Contains faults f
  among_points f held =
      rw all.are (Contains-append_right (map fault.Meet all.meets ++ map (side_fault m.chains) all.sides ++ map fault.Cell all.cells) _ f held)

  -- a disagreement of two darts is told with the node of the first
  side_told : (node : Point) (first next : ℕ) (d : Disagreement) → dart_start m.chains first ≡ Some node → d.first ≡ first
      → d.next ≡ next → side_fault m.chains d ≡ fault.Side node first next
  side_told node first next d at one other = rw (one, other, start_is m.chains first node at) refl

  some_cell : (cells : List CellsAtOdds) → AreAllCellsAtOdds m.chains cells → (odds : CellsAtOdds) → IsTrueOfMap m (fault.Cell odds) → cells ≢ []
  some_cell cells told odds true_one =
      λ none. odds_deny m.chains odds.first odds.second odds.first_id odds.second_id true_one (cells_agree m.chains (rw none at told))

  -- where the place is settled it is listed
  settled_told : (misplaced : Misplaced) (at : FaultPlace) → IsTrueAt m at misplaced → IsSettled (IsTouched m.chains) at → StandsInList faults touched (fault.PolygonPoint misplaced)
  settled_told misplaced at true_one settled =
      inl (among_points (fault.PolygonPoint misplaced) (held_map fault.PolygonPoint all.points misplaced (all.all_points.every at misplaced settled true_one)))

  -- and where a polygon is touched some sides are listed
  touched_told : (misplaced : Misplaced) (p : ℕ) → HangsOnSides misplaced → Contains all.named p → StandsInList faults touched (fault.PolygonPoint misplaced)
  touched_told misplaced p hangs held =
      let t : IsTouched m.chains p = All-contains (IsTouched m.chains) all.named p all.all_named.each held in
      let d = all.all_sides.complete t.first t.next t.odds in
      let lt = held.1 in
      let count = all.count in
      inr (
        hangs,
        (
          omega (arith, lt, count),
          named_by IsOfSides faults (side_fault m.chains d.1) (among_sides _ (held_map (side_fault m.chains) all.sides d.1 (d.0, d.2, d.3))) tt,
        ),
      )

  point_told : (misplaced : Misplaced) → IsTrueOfMap m (fault.PolygonPoint misplaced) → StandsInList faults touched (fault.PolygonPoint misplaced)
  point_told (OnChain key tlid) true_one =
      let at = place_of m (OnChain key tlid) true_one in
      let kind = at.is.kind in
      settled_told (OnChain key tlid) at.at at.is (record { own = λ e. absurd (omega (arith, kind, e)); other = λ e. absurd (omega (arith, kind, e)) })
  point_told (Outside key) true_one =
      let at = place_of m (Outside key) true_one in
      let kind = at.is.kind in
      elim (contains_or all.named at.at.polygon) [
        | inl held ↦ touched_told (Outside key) at.at.polygon tt held
        | inr none ↦ settled_told (Outside key) at.at at.is
            (record { own = λ e t. none (all.all_named.complete at.at.polygon t); other = λ e. absurd (omega (arith, kind, e)) })
      ]
  point_told (InOther key other) true_one =
      let at = place_of m (InOther key other) true_one in
      let kind = at.is.kind in
      elim (contains_or all.named at.at.other) [
        | inl held ↦ touched_told (InOther key other) at.at.other tt held
        | inr none ↦ settled_told (InOther key other) at.at at.is
            (record { own = λ e. absurd (omega (arith, kind, e)); other = λ e t. none (all.all_named.complete at.at.other t) })
      ]

  pub told : (f : MapFault) → IsTrueOfMap m f → StandsInList faults touched f
  told (fault.Records of_records) true_one = absurd true_one
  told (fault.NoRecords lacking) true_one = absurd true_one
  told (fault.Meet meet) true_one =
      let named = all.all_meets.complete meet.s meet.t meet.at true_one.ordered true_one.told.meet in
      named_by (IsMeetOf meet.s meet.t) faults (fault.Meet named.1) (among_meets _ (held_map fault.Meet all.meets named.1 (named.0, named.2, named.3))) named.4
  told (fault.Side node first next) true_one =
      let named = all.all_sides.complete first next (record { is_next = true_one.is_next; differ = true_one.differ }) in
      subst (Contains faults) (side_told node first next named.1 true_one.at named.4.0 named.4.1)
      (among_sides _ (held_map (side_fault m.chains) all.sides named.1 (named.0, named.2, named.3)))
  told (fault.PolygonPoint misplaced) true_one = point_told misplaced true_one
  told (fault.Cell odds) true_one =
      let some = some_first all.cells (some_cell all.cells all.all_cells odds true_one) in
      named_by IsOfCells faults (fault.Cell some.0) (among_cells _ (held_map fault.Cell all.cells some.0 some.1)) tt
  told (fault.Face of_faces) true_one = absurd true_one

-- ---- where faces may be asked for

-- what is told by a list is told by a longer one
module _ (others rest faults : List MapFault) (touched : ℕ) (are : faults ≡ others ++ rest) where
  held_more : (f : MapFault) → Contains others f → Contains faults f
  held_more f held = rw are (Contains-append_left others rest f held)

  any_more : (P : MapFault → Type 0) → Any P others → Any P faults
  any_more P named = named_by P faults named.1 (held_more named.1 (named.0, named.2, named.3)) named.4

  told_more : (f : MapFault) → StandsInList others touched f → StandsInList faults touched f
  told_more (fault.Records f) (inl held) = inl (held_more (fault.Records f) held)
  told_more (fault.Records f) (inr caused) = inr (any_more (IsCauseOf f) caused)
  told_more (fault.NoRecords lacking) told_one = held_more (fault.NoRecords lacking) told_one
  told_more (fault.Meet meet) told_one = any_more (IsMeetOf meet.s meet.t) told_one
  told_more (fault.Side node first next) told_one = held_more (fault.Side node first next) told_one
  told_more (fault.PolygonPoint misplaced) (inl held) = inl (held_more (fault.PolygonPoint misplaced) held)
  told_more (fault.PolygonPoint misplaced) (inr hangs) = inr (hangs.0, (hangs.1.0, any_more IsOfSides hangs.1.1))
  told_more (fault.Cell odds) told_one = any_more IsOfCells told_one
  told_more (fault.Face f) told_one = held_more (fault.Face f) told_one

module _ (faces : Bool) (m : TheMap) (faults : List MapFault) (touched : ℕ) (all : AreFaultsFor faces m faults touched) where
  other_told : (f : MapFault) → IsTrueOfMap m f → StandsInList faults touched f
  other_told f true_one = told_more all.others (map fault.Face all.told) faults touched all.are f (told m all.others touched all.all_others f true_one)

  face_told : (f : FaceFault) → AreLookedAt faces m → IsTrueFaceFault m f → StandsInList faults touched (fault.Face f)
  face_told f looked true_one = go all.all_faces
    where
      go : AreFacesTold faces m all.told → StandsInList faults touched (fault.Face f)
      go (inl are) =
          rw all.are
          (Contains-append_right all.others (map fault.Face all.told) (fault.Face f) (held_map fault.Face all.told f (of_all_gaps m all.told are.1.all f true_one)))
      go (inr none) = absurd (none.0 looked)

  pub told_for : (f : MapFault) → IsTrueAmong faces m f → StandsInList faults touched f
  told_for (fault.Records f) true_one = absurd true_one
  told_for (fault.NoRecords lacking) true_one = absurd true_one
  told_for (fault.Meet meet) true_one = other_told (fault.Meet meet) true_one
  told_for (fault.Side node first next) true_one = other_told (fault.Side node first next) true_one
  told_for (fault.PolygonPoint misplaced) true_one = other_told (fault.PolygonPoint misplaced) true_one
  told_for (fault.Cell odds) true_one = other_told (fault.Cell odds) true_one
  told_for (fault.Face f) true_one = face_told f true_one.0 true_one.1.0
