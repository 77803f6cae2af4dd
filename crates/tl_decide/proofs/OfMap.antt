-- What is told of a map, put together of its parts.
use Rattle.std.proofs.Common.{◌≡◌, ◌≢◌, ◌↔◌, ◌<◌, ℕ, inl, inr, true, false, List, [], ◌++◌, map, length, Contains}
use Rattle.std.proofs.Common.{append-nil, Bool, refl, sym, subst, ap, ◌∙◌, arith}
use Rattle.std.proofs.lemmas.Option.{slice_get_within}
use Rattle.std.proofs.lemmas.List.Elements.{All-contains}
use Rattle.tl_map_county.specs.TheMap.{TheMap, MapChain}
use Rattle.tl_check_planar.specs.declared.meet.Meet.{Meet}
use Rattle.tl_check_planar.specs.Planar.{IsPlanar}
use Rattle.tl_check_planar.proofs.Planes.{meet_not_planar}
use Rattle.tl_check_sides.specs.declared.fault.Disagreement.{Disagreement}
use Rattle.tl_check_sides.specs.Sides.{SidesAgree}
use Rattle.tl_check_inside.specs.declared.misplaced.Misplaced.{Misplaced}
use Rattle.tl_check_inside.specs.declared.misplaced.Misplaced.TheVariants.{OnChain, Outside, InOther}
use Rattle.tl_check_inside.specs.Placed.{ArePlaced, IsTrueMisplaced}
use Rattle.tl_check_planar.specs.Listing.Meets.{AreAllMeets}
use Rattle.tl_check_sides.specs.Listing.Disagreements.{AreAllDisagreements}
use Rattle.tl_check_sides.specs.Listing.Touched.{IsTouched, AreAllTouched}
use Rattle.tl_check_points.specs.Listing.AllMisplaced.{AreAllMisplaced}
use Rattle.tl_check_points.specs.Listing.Hidden.{IsMarked, AreMapsAlikeBut}
use Rattle.tl_check_points.proofs.ListingLemmas.Wholes.{true_at}
use Rattle.tl_check_points.proofs.ListingLemmas.Alike.{alike_itself, hidden_as, misplaced_there}
use Rattle.tl_check_faces.specs.Crossings.Headings.{AreProper}
use Rattle.tl_check_inside.specs.Suspects.{AreSuspects}
use Rattle.tl_check_verdict.specs.declared.fault.MapFault.{MapFault}
use Rattle.tl_check_verdict.specs.declared.fault.MapFault.TheVariants as fault
use Rattle.tl_decide.specs.MapFaults.{side_fault, AreMapFaults}
use Rattle.tl_decide.specs.Keeping.OfMap.{IsFaulty, AddsAgreement, AddsCells, AddsPoints}
use Rattle.tl_check_sides.proofs.ListingLemmas.Emptiness.{sides_agree}
use Rattle.tl_decide.proofs.Emptiness.{one_is_told, none_touched, has_none}

-- planar chains have no meet
pub no_meets : (chains : List MapChain) → IsPlanar chains → AreAllMeets chains []
no_meets chains planar = record {
  true_ones = λ k d lt. absurd (omega (arith, lt));
  complete = λ s t r lt meet. absurd (meet_not_planar chains s t r lt meet planar);
  rising = λ i j d lt within. absurd (omega (arith, within));
}

-- where points are placed, nothing is wrong with them
none_misplaced : (m : TheMap) (misplaced : Misplaced) → ArePlaced m → ¬ IsTrueMisplaced m misplaced
none_misplaced m (OnChain key tlid) placed t = (placed t.p (record { key = key; point = t.point }) t.of).off t.c t.held
none_misplaced m (Outside key) placed t = t.outside (placed t.p (record { key = key; point = t.point }) t.of).inside
none_misplaced m (InOther key other) placed t =
    t.within ((placed t.p (record {
      key =
          key;
      point = t.point;
    }) t.of).clear t.q (slice_get_within m.polygons t.q (record { key = other; point = t.other_point }) t.other_of) t.two)

pub no_points : (H : ℕ → Type 0) (m : TheMap) → ArePlaced m → AreAllMisplaced H m []
no_points H m placed = record {
  each = λ k d lt. absurd (omega (arith, lt));
  every = λ at misplaced s t. absurd (none_misplaced m misplaced placed (true_at m at misplaced t));
  places = [];
  told = tt;
  settled = λ k d lt. absurd (omega (arith, lt));
  whole = λ at misplaced s t. absurd (none_misplaced m misplaced placed (true_at m at misplaced t));
  in_order = λ i j d lt within. absurd (omega (arith, within));
}

-- nothing is appended where no polygon is suspect
placed_all : (m : TheMap) → AreSuspects m [] → ArePlaced m
placed_all m suspects p polygon is = elim (suspects.others p polygon is) [
  | inl listed ↦ absurd (let within : listed.0 < 0 = listed.1 in omega (arith, within))
  | inr placed ↦ placed
]

pub points_placed : (H : ℕ → Type 0) (m : TheMap) (faults : List MapFault) → AreSuspects m [] → AddsPoints H m faults faults
points_placed H m faults suspects = record { points = []; all_points = no_points H m (placed_all m suspects); are = sym (append-nil faults) }

-- the same points are told where the same polygons are hidden
pub points_as : (H G : ℕ → Type 0) (m : TheMap) (old new : List MapFault) → ((p : ℕ) → H p → G p) → ((p : ℕ) → G p → H p) → AddsPoints H m old new → AddsPoints G m old new
points_as H G m old new there back adds = record { points = adds.points; all_points = hidden_as H G m adds.points there back adds.all_points; are = adds.are }

-- and those of a map that is alike but for sides that name hidden polygons
pub points_there : (H G : ℕ → Type 0) (m o : TheMap) (old new : List MapFault) → ((p : ℕ) → H p ↔ G p) → AreMapsAlikeBut H m o → AreProper m.chains → AddsPoints H o old new
    → AddsPoints G m old new
points_there H G m o old new same alike proper adds =
    points_as H G m old new (λ p. (same p).0) (λ p. (same p).1)
    (record { points = adds.points; all_points = misplaced_there H m o adds.points alike proper adds.all_points; are = adds.are })

-- sides that disagree, and zero-cell ids behind them
pub agreement_of : (m : TheMap) (touched : List ℕ) (sides : List Disagreement) (old between new : List MapFault) → AreAllDisagreements m.chains sides
    → AreAllTouched m.chains touched → between ≡ old ++ map (side_fault m.chains) sides → AddsCells m between new → AddsAgreement m touched old new
agreement_of m touched sides old between new all named told cells = record {
  sides = sides;
  cells = cells.cells;
  all_sides = all;
  all_cells = cells.all_cells;
  all_touched = named;
  are = cells.are ∙ ap (λ (fs : List MapFault). fs ++ map fault.Cell cells.cells) told;
}

no_disagreement : (chains : List MapChain) → SidesAgree chains → AreAllDisagreements chains []
no_disagreement chains agree = record {
  true_ones = λ k d lt. absurd (omega (arith, lt));
  complete = λ a b odds. absurd (odds.differ (agree a b odds.is_next));
  rising = λ i j d lt within. absurd (omega (arith, within));
}

no_touched : (chains : List MapChain) → SidesAgree chains → AreAllTouched chains []
no_touched chains agree = record {
  rising = λ k lt. absurd (omega (arith, lt));
  each = λ k d lt. absurd (omega (arith, lt));
  complete = λ p t. absurd (none_touched chains [] (no_disagreement chains agree) refl p t);
}

-- where sides agree, zero-cell ids are all
pub agreeing : (m : TheMap) (old new : List MapFault) → SidesAgree m.chains → AddsCells m old new → AddsAgreement m [] old new
agreeing m old new agree cells = agreement_of m [] [] old old new (no_disagreement m.chains agree) (no_touched m.chains agree) (sym (append-nil old)) cells

-- meets, what tells of sides and cells, and points are all faults
pub all_told : (m : TheMap) (meets : List Meet) (touched : List ℕ) (count : ℕ) (old more faults : List MapFault) → count ≡ length touched → AreAllMeets m.chains meets
    → old ≡ map fault.Meet meets → AddsAgreement m touched old more → AddsPoints (Contains touched) m more faults
    → AreMapFaults m faults count
all_told m meets touched count old more faults long all is agreement adds =
    let points = points_as (Contains touched) (IsTouched m.chains) m more faults
    (λ p held. All-contains (IsTouched m.chains) touched p agreement.all_touched.each held) agreement.all_touched.complete adds in
    record {
      meets = meets;
      sides = agreement.sides;
      cells = agreement.cells;
      points = points.points;
      named = touched;
      all_meets = all;
      all_sides = agreement.all_sides;
      all_cells = agreement.all_cells;
      all_points = points.all_points;
      all_named = agreement.all_touched;
      count = long;
      are = points.are ∙ ap (λ (fs : List MapFault). fs ++ map fault.PolygonPoint points.points)
          (agreement.are ∙ ap (λ (fs : List MapFault). fs ++ map (side_fault m.chains) agreement.sides ++ map fault.Cell agreement.cells) is);
    }

-- where the map has a fault, the list of all isn't empty
pub some_told : (m : TheMap) (faults : List MapFault) (touched : ℕ) → AreMapFaults m faults touched → IsFaulty m → faults ≢ []
some_told m faults touched all faulty = one_is_told m faults touched faulty.0 all faulty.1

-- and so where sides don't agree
pub some_differ : (m : TheMap) (faults : List MapFault) (touched : ℕ) → AreMapFaults m faults touched → (¬ SidesAgree m.chains) → faults ≢ []
some_differ m faults touched all differ = λ none. differ (sides_agree m.chains (has_none m faults touched all none).sides)

-- of planar chains whose sides agree, zero-cell ids and points are all faults
pub all_agreeing : (m : TheMap) (old cells faults : List MapFault) → IsPlanar m.chains → old ≡ [] → SidesAgree m.chains → AddsCells m old cells
    → AddsPoints (IsMarked []) m cells faults → AreMapFaults m faults 0
all_agreeing m old cells faults planar none agree told points =
    all_told m [] [] 0 old cells faults refl (no_meets m.chains planar) none (agreeing m old cells agree told)
    (points_as (IsMarked []) (Contains []) m cells faults (λ p h. absurd (let wrong : false ≡ true = h in cc)) (λ p h. absurd (let lt : h.0 < 0 = h.1 in omega (arith, lt))) points)

-- marks and touched polygons as they are lent
pub same_marks : (marks lent : List Bool) (touched given seen : List ℕ) → lent ≡ marks → given ≡ touched → seen ≡ touched → ((p : ℕ) → IsMarked marks p ↔ Contains seen p)
    → (p : ℕ) → IsMarked lent p ↔ Contains given p
same_marks marks lent touched given seen a b c so p =
    subst (λ l. IsMarked l p ↔ Contains given p) (sym a) (subst (λ t. IsMarked marks p ↔ Contains t p) (c ∙ sym b) (so p))

-- each map is alike itself
pub itself : (H : ℕ → Type 0) (m : TheMap) → AreMapsAlikeBut H m m
itself H m = record { chains = alike_itself H m.chains; polygons = refl }

-- what a look at the map whose sides name no touched polygon tells of the map
pub hidden_points : (marks first second : List Bool) (touched : List ℕ) (m o : TheMap) (old new : List MapFault) → first ≡ marks → second ≡ marks
    → ((p : ℕ) → IsMarked marks p ↔ Contains touched p) → AreMapsAlikeBut (IsMarked first) m o → AreProper m.chains → AddsPoints (IsMarked second) o old new
    → AddsPoints (Contains touched) m old new
hidden_points marks first second touched m o old new a b so alike proper adds =
    points_there (IsMarked marks) (Contains touched) m o old new so (subst (λ l. AreMapsAlikeBut (IsMarked l) m o) a alike) proper
    (subst (λ l. AddsPoints (IsMarked l) o old new) b adds)
