-- A text has one listing, but for the points at which segments meet.
use Rattle.std.proofs.Common.{◌≡◌, ◌≢◌, ◌<◌, inl, inr, ℕ, suc, ◌≤ℤ◌, Bool, List, [], ◌∷◌, ◌++◌, map, length}
use Rattle.std.proofs.Common.{refl, sym, ap, ap₂, subst, ◌∙◌, arith}
use Rattle.std.specs.List.{All, Any, Contains}
use Rattle.std.proofs.lemmas.List.Elements.{All-nil, All-cons, All-contains}
use Rattle.std.proofs.lemmas.List.Kept.{AllPairs-from_increasing}
use Rattle.std.proofs.lemmas.Int.{ints}
use Rattle.tl_record.specs.declared.options.Options.{Options}
use Rattle.tl_record.specs.Layout.{layout_with}
use Rattle.tl_record.specs.declared.stop.Cause.{Cause}
use Rattle.tl_record.specs.declared.refusal.Refusal.{Refusal}
use Rattle.tl_record.specs.Records.{Records, records_of}
use Rattle.tl_record.specs.Searching.{pair_of}
use Rattle.tl_map_rules.specs.Reading.{records_in, lacking_of}
use Rattle.tl_map_rules.proofs.ListingLemmas.OneListLemmas.{one_list as one_list_of_records}
use Rattle.tl_map_county.specs.TheMap.{TheMap}
use Rattle.tl_check_planar.specs.declared.meet.Meet.{Meet}
use Rattle.tl_check_planar.specs.Searching.{IsTrueMeet}
use Rattle.tl_check_sides.specs.declared.fault.Disagreement.{Disagreement}
use Rattle.tl_check_sides.specs.declared.cells.at_odds.CellsAtOdds.{CellsAtOdds}
use Rattle.tl_check_sides.proofs.CellsLemmas.Cells.{one_id}
use Rattle.tl_check_inside.specs.declared.misplaced.Misplaced.{Misplaced}
use Rattle.tl_check_planar.specs.Listing.Meets.{AreAllMeets}
use Rattle.tl_check_sides.specs.Listing.Disagreements.{HaveSidesAtOdds, AreAllDisagreements}
use Rattle.tl_check_sides.specs.Listing.CellOdds.{AreToldAtOdds, AreAllCellsAtOdds}
use Rattle.tl_check_sides.proofs.ListingLemmas.Agreeing.{at_odds}
use Rattle.tl_check_points.specs.Listing.AllMisplaced.{AreAllMisplaced}
use Rattle.tl_check_sides.specs.Listing.Touched.{IsTouched, AreAllTouched}
use Rattle.tl_check_points.proofs.ListingLemmas.Unique.{one_list}
use Rattle.tl_check_verdict.specs.declared.fault.MapFault.{MapFault}
use Rattle.tl_check_verdict.specs.declared.fault.MapFault.TheVariants as fault
use Rattle.tl_check_verdict.specs.declared.verdict.Report.{Report}
use Rattle.tl_check_verdict.specs.Sound.{IsSoundFor}
use Rattle.tl_check_verdict.specs.Verdicts.{IsReport}
use Rattle.tl_check_verdict.specs.Records.{HaveMap}
use Rattle.tl_check_verdict.proofs.OneMap.{both}
use Rattle.tl_list_text.specs.declared.listing.Listing.{Listing}
use Rattle.tl_list_text.specs.declared.listing.Listing.TheVariants.{Sound, Refused, Faults}
use Rattle.tl_decide.specs.MapFaults.{side_fault, AreMapFaults, AreFacesTold, AreFaultsFor}
use Rattle.tl_list.specs.Listings.{AreFaults, IsListingOf, told_with}
use Rattle.tl_list.specs.Alike.{IsSameFault, AreSameFaults, HaveSameNumbers, AreAlike}
use Rattle.tl_list.proofs.OneOrder.{AreOne, AreInOne, one_order}
use Rattle.tl_list.proofs.Listed.{none_is_refused, sound_alone, no_map}
use Rattle.tl_decide.proofs.Emptiness.{map_empty}
use Rattle.tl_check_faces.specs.declared.fault.FaceFault.{FaceFault}
use Rattle.tl_check_faces.specs.Faults.{IsFaultBetween}
use Rattle.tl_check_faces.specs.AllFaults.{WestAndEast, AreAllFaceFaults, order_of}
use Rattle.tl_check_gaps.proofs.Keeping.{one_by_order}
use Rattle.tl_check_gaps.proofs.FaceFaults.Exact.{one_fault}
use Rattle.std.specs.List.{AllZip}

-- ---- lists of the same faults

itself : (f : MapFault) → IsSameFault f f
itself (fault.Records f) = refl
itself (fault.NoRecords lacking) = refl
itself (fault.Meet meet) = (refl, refl)
itself (fault.Side node first next) = refl
itself (fault.PolygonPoint misplaced) = refl
itself (fault.Cell odds) = refl
itself (fault.Face f) = refl

themselves : (faults : List MapFault) → AreSameFaults faults faults
themselves [] = tt
themselves (f ∷ faults) = (itself f, themselves faults)

one_list_same : (a b : List MapFault) → a ≡ b → AreSameFaults a b
one_list_same a b same = subst (AreSameFaults a) same (themselves a)

joined : (a b c d : List MapFault) → AreSameFaults a b → AreSameFaults c d → AreSameFaults (a ++ c) (b ++ d)
joined [] [] c d one other = other
joined [] (g ∷ b) c d one other = absurd one
joined (f ∷ a) [] c d one other = absurd one
joined (f ∷ a) (g ∷ b) c d one other = (one.0, joined a b c d one.1 other)

-- what is told of things with the same pairs of numbers
told_same : {X : Type 0} (first second : X → ℕ) (f : X → MapFault) (P : X → Type 0) →
    ((x y : X) → P x → P y → AreOne first second x y → IsSameFault (f x) (f y)) → (xs ys : List X) → All P xs → All P ys
    → AreInOne first second xs ys → AreSameFaults (map f xs) (map f ys)
told_same first second f P leads [] [] each other one = tt
told_same first second f P leads [] (y ∷ ys) each other one = absurd one
told_same first second f P leads (x ∷ xs) [] each other one = absurd one
told_same first second f P leads (x ∷ xs) (y ∷ ys) each other one = (
  leads x y (each 0 x (omega arith)) (other 0 y (omega arith)) one.0,
  told_same first second f P leads xs ys (λ k d lt. each (suc k) d (omega (arith, lt))) (λ k d lt. other (suc k) d (omega (arith, lt))) one.1,
)

turned_any : {X : Type 0} (first second : X → ℕ) (x : X) (ys : List X) → Any (λ y. (first y ≡ first x) × (second y ≡ second x)) ys → Any
    (AreOne first second x) ys
turned_any first second x ys named = (named.0, named.1, named.2, named.3, record { first_is = sym named.4.0; second_is = sym named.4.1 })

module _ (m : TheMap) where
  meets_in_one : (a b : List Meet) → AreAllMeets m.chains a → AreAllMeets m.chains b → AreInOne (λ x. x.s) (λ x. x.t) a b
  meets_in_one a b all others = one_order (λ x. x.s) (λ x. x.t) a b all.rising others.rising (named a b all others) (named b a others all)
    where
      named : (a b : List Meet) → AreAllMeets m.chains a → AreAllMeets m.chains b → (x : Meet) → Contains a x → Any
          (AreOne (λ y. y.s) (λ y. y.t) x) b
      named a b all others x held =
          let true_one : IsTrueMeet m.chains x = All-contains (IsTrueMeet m.chains) a x all.true_ones held in
          turned_any (λ y. y.s) (λ y. y.t) x b (others.complete x.s x.t x.at true_one.ordered true_one.told.meet)

  sides_in_one : (a b : List Disagreement) → AreAllDisagreements m.chains a → AreAllDisagreements m.chains b → AreInOne (λ x. x.first) (λ x. x.next) a b
  sides_in_one a b all others = one_order (λ x. x.first) (λ x. x.next) a b all.rising others.rising (named a b all others) (named b a others all)
    where
      named : (a b : List Disagreement) → AreAllDisagreements m.chains a → AreAllDisagreements m.chains b → (x : Disagreement) → Contains a x
          → Any (AreOne (λ y. y.first) (λ y. y.next) x) b
      named a b all others x held =
          turned_any (λ y. y.first) (λ y. y.next) x b
          (others.complete x.first x.next (All-contains (λ (d : Disagreement). HaveSidesAtOdds m.chains d.first d.next) a x all.true_ones held))

  cells_in_one : (a b : List CellsAtOdds) → AreAllCellsAtOdds m.chains a → AreAllCellsAtOdds m.chains b → AreInOne (λ x. x.first) (λ x. x.second) a b
  cells_in_one a b all others = one_order (λ x. x.first) (λ x. x.second) a b all.rising others.rising (named a b all others) (named b a others all)
    where
      named : (a b : List CellsAtOdds) → AreAllCellsAtOdds m.chains a → AreAllCellsAtOdds m.chains b → (x : CellsAtOdds) → Contains a x
          → Any (AreOne (λ y. y.first) (λ y. y.second) x) b
      named a b all others x held =
          turned_any (λ y. y.first) (λ y. y.second) x b
          (others.complete x.first x.second x.first_id x.second_id
          (All-contains (λ (o : CellsAtOdds). AreToldAtOdds m.chains o.first o.second o.first_id o.second_id) a x all.true_ones held))

  same_meets : (a b : List Meet) → AreAllMeets m.chains a → AreAllMeets m.chains b → AreSameFaults (map fault.Meet a) (map fault.Meet b)
  same_meets a b all others =
      told_same (λ x. x.s) (λ x. x.t) fault.Meet (IsTrueMeet m.chains)
      (λ x y p q one. (sym one.first_is, sym one.second_is)) a b all.true_ones others.true_ones (meets_in_one a b all others)

  one_side : (x y : Disagreement) → AreOne (λ z. z.first) (λ z. z.next) x y → IsSameFault (side_fault m.chains x) (side_fault m.chains y)
  one_side x y one = rw (one.first_is, one.second_is) refl

  same_sides : (a b : List Disagreement) → AreAllDisagreements m.chains a → AreAllDisagreements m.chains b → AreSameFaults
      (map (side_fault m.chains) a) (map (side_fault m.chains) b)
  same_sides a b all others =
      told_same (λ x. x.first) (λ x. x.next) (side_fault m.chains) (λ (d : Disagreement). HaveSidesAtOdds m.chains d.first d.next)
      (λ x y p q one. one_side x y one) a b all.true_ones others.true_ones (sides_in_one a b all others)

  one_cell : (x y : CellsAtOdds) → AreToldAtOdds m.chains x.first x.second x.first_id x.second_id
      → AreToldAtOdds m.chains y.first y.second y.first_id y.second_id
      → AreOne (λ z. z.first) (λ z. z.second) x y → IsSameFault (fault.Cell x) (fault.Cell y)
  one_cell x y told other one =
      let p = at_odds m.chains x.first x.second x.first_id x.second_id told in
      let q = at_odds m.chains y.first y.second y.first_id y.second_id other in
      let a : x.first_id ≡ y.first_id = one_id m.chains x.first x.first_id y.first_id p.a_has (rw one.first_is q.a_has) in
      let b : x.second_id ≡ y.second_id = one_id m.chains x.second x.second_id y.second_id p.b_has (rw one.second_is q.b_has) in
      λ i. fault.Cell (record { first = one.first_is i; second = one.second_is i; first_id = a i; second_id = b i })

  same_cells : (a b : List CellsAtOdds) → AreAllCellsAtOdds m.chains a → AreAllCellsAtOdds m.chains b → AreSameFaults (map fault.Cell a)
      (map fault.Cell b)
  same_cells a b all others =
      told_same (λ x. x.first) (λ x. x.second) fault.Cell
      (λ (o : CellsAtOdds). AreToldAtOdds m.chains o.first o.second o.first_id o.second_id) one_cell a b all.true_ones others.true_ones
      (cells_in_one a b all others)

  -- as many polygons are touched in both, and one list tells what is wrong with points
  same_named : (s t : List ℕ) → AreAllTouched m.chains s → AreAllTouched m.chains t → s ≡ t
  same_named s t all others =
      one_list (λ x y. x < y) (λ x y a b. omega (arith, a, b)) s t (AllPairs-from_increasing s all.rising) (AllPairs-from_increasing t others.rising)
      (λ p held. others.complete p (All-contains (IsTouched m.chains) s p all.each held))
      (λ p held. all.complete p (All-contains (IsTouched m.chains) t p others.each held))

  module _ (one_points : (a b : List Misplaced) → AreAllMisplaced (IsTouched m.chains) m a → AreAllMisplaced (IsTouched m.chains) m b → a ≡ b) where
    same_of_map : (f g : List MapFault) (l r : ℕ) → AreMapFaults m f l → AreMapFaults m g r → AreSameFaults f g × (l ≡ r)
    same_of_map f g l r a b =
        let points : a.points ≡ b.points = one_points a.points b.points a.all_points b.all_points in
        let told : AreSameFaults
        (map fault.Meet a.meets ++ map (side_fault m.chains) a.sides ++ map fault.Cell a.cells ++ map fault.PolygonPoint a.points)
        (map fault.Meet b.meets ++ map (side_fault m.chains) b.sides ++ map fault.Cell b.cells ++ map fault.PolygonPoint b.points) =
        joined (map fault.Meet a.meets ++ map (side_fault m.chains) a.sides ++ map fault.Cell a.cells)
        (map fault.Meet b.meets ++ map (side_fault m.chains) b.sides ++ map fault.Cell b.cells) _ _
        (joined (map fault.Meet a.meets ++ map (side_fault m.chains) a.sides) (map fault.Meet b.meets ++ map (side_fault m.chains) b.sides) _ _
        (joined (map fault.Meet a.meets) (map fault.Meet b.meets) _ _ (same_meets a.meets b.meets a.all_meets b.all_meets)
        (same_sides a.sides b.sides a.all_sides b.all_sides))
        (same_cells a.cells b.cells a.all_cells b.all_cells))
        (one_list_same _ _ (ap (map fault.PolygonPoint) points))
        in
        (rw (a.are, b.are) told, a.count ∙ ap length (same_named a.named b.named a.all_named b.all_named) ∙ sym b.count)

-- ---- lists of faces that disagree

module _ (m : TheMap) where
  abbrev IsBetween : WestAndEast → FaceFault → Type 0
  IsBetween sides fault = IsFaultBetween m sides.west sides.east fault

  some_fault : (xs : List WestAndEast) (f : List FaceFault) → AllZip IsBetween xs f → All (λ x. (fault : FaceFault) × IsBetween x fault) xs
  some_fault [] f each = All-nil (λ x. (fault : FaceFault) × IsBetween x fault)
  some_fault (x ∷ xs) [] each = absurd each
  some_fault (x ∷ xs) (a ∷ f) each = All-cons (λ x. (fault : FaceFault) × IsBetween x fault) x xs (a, each.0) (some_fault xs f each.1)

  in_one : (f g : List FaceFault) (all : AreAllFaceFaults m f) (others : AreAllFaceFaults m g)
      → AreInOne (λ x. order_of x.west) (λ x. order_of x.east) all.between others.between
  in_one f g all others =
      one_order (λ x. order_of x.west) (λ x. order_of x.east) all.between others.between all.in_order others.in_order (named f g all others)
      (named g f others all)
    where
      named : (f g : List FaceFault) (all : AreAllFaceFaults m f) (others : AreAllFaceFaults m g) (x : WestAndEast) → Contains all.between x
          → Any (AreOne (λ x. order_of x.west) (λ x. order_of x.east) x) others.between
      named f g all others x held =
          let of = All-contains (λ x. (fault : FaceFault) × IsBetween x fault) all.between x (some_fault all.between f all.each) held in
          let found = others.complete of.1.n x of.1.differ in
          (found.0, x, found.1, found.2, record { first_is = refl; second_is = refl })

  one_each : (xs ys : List WestAndEast) (f g : List FaceFault) → AreInOne (λ x. order_of x.west) (λ x. order_of x.east) xs ys
      → AllZip IsBetween xs f → AllZip IsBetween ys g → f ≡ g
  one_each [] [] [] [] one each other = refl
  one_each [] [] [] (b ∷ g) one each other = absurd other
  one_each [] [] (a ∷ f) g one each other = absurd each
  one_each [] (y ∷ ys) f g one each other = absurd one
  one_each (x ∷ xs) [] f g one each other = absurd one
  one_each (x ∷ xs) (y ∷ ys) [] g one each other = absurd each
  one_each (x ∷ xs) (y ∷ ys) (a ∷ f) [] one each other = absurd other
  one_each (x ∷ xs) (y ∷ ys) (a ∷ f) (b ∷ g) one each other =
      ap₂ (λ h t. h ∷ t)
      (one_fault m x.west x.east y.west y.east a b (one_by_order x.west y.west one.0.first_is) (one_by_order x.east y.east one.0.second_is) each.0 other.0)
      (one_each xs ys f g one.1 each.1 other.1)

  same_faces : (faces : Bool) (s t : List FaceFault) → AreFacesTold faces m s → AreFacesTold faces m t → s ≡ t
  same_faces faces s t (inl a) (inl b) =
      one_each a.1.all.between b.1.all.between s t (in_one s t a.1.all b.1.all) a.1.all.each b.1.all.each
  same_faces faces s t (inl a) (inr b) = absurd (b.0 a.0)
  same_faces faces s t (inr a) (inl b) = absurd (a.0 b.0)
  same_faces faces s t (inr a) (inr b) = a.1 ∙ sym b.1

-- ---- listings

-- what is wrong with polygons' points has one list
abbrev pub OnePoints : Type 0
OnePoints = (m : TheMap) (a b : List Misplaced) → AreAllMisplaced (IsTouched m.chains) m a → AreAllMisplaced (IsTouched m.chains) m b → a ≡ b

same_for : OnePoints → (faces : Bool) (m : TheMap) (f g : List MapFault) (l r : ℕ) → AreFaultsFor faces m f l
    → AreFaultsFor faces m g r → AreSameFaults f g × (l ≡ r)
same_for one_points faces m f g l r a b =
    let others = same_of_map m (one_points m) a.others b.others l r a.all_others b.all_others in
    let told : AreSameFaults (a.others ++ map fault.Face a.told) (b.others ++ map fault.Face b.told) = joined a.others b.others _ _ others.0
    (one_list_same _ _ (ap (map fault.Face) (same_faces m faces a.told b.told a.all_faces b.all_faces))) in
    (rw (a.are, b.are) told, others.1)

same_faults : OnePoints → (faces : Bool) (all : Records) (f g : List MapFault) (l r : ℕ) → f ≢ [] → g ≢ [] → AreFaults faces all f l
    → AreFaults faces all g r → AreSameFaults f g × (l ≡ r)
same_faults one_points faces all f g l r some_f some_g (inl a) (inl b) = (
  one_list_same f g (a.0.are ∙ ap (told_with (lacking_of all)) (one_list_of_records (records_in all) a.0.told b.0.told a.0.are_all b.0.are_all) ∙ sym b.0.are),
  a.1 ∙ sym b.1,
)
same_faults one_points faces all f g l r some_f some_g (inl a) (inr have) = absurd (no_map faces all f l _ some_f a.0 have)
same_faults one_points faces all f g l r some_f some_g (inr have) (inl b) = absurd (no_map faces all g r _ some_g b.0 have)
same_faults one_points faces all f g l r some_f some_g (inr have) (inr other) =
    let one = both all (λ m. AreFaultsFor faces m f l) (λ m. AreFaultsFor faces m g r) have other in
    same_for one_points faces one.map f g l r one.so.0 one.so.1

same_refusals : (a b : List Refusal) → map pair_of a ≡ map pair_of b → a ≡ b
same_refusals [] [] same = refl
same_refusals [] (y ∷ b) same = absurd cc
same_refusals (x ∷ a) [] same = absurd cc
same_refusals (x ∷ a) (y ∷ b) same =
    let pair : pair_of x ≡ pair_of y = cc in
    let line : x.line ≡ y.line = ap (λ (p : ℕ × Cause). p.0) pair in
    let cause : x.cause ≡ y.cause = ap (λ (p : ℕ × Cause). p.1) pair in
    let rest : a ≡ b = same_refusals a b cc in
    λ i. record { line = line i; cause = cause i } ∷ rest i

same_numbers : (faces : Bool) (all : Records) (a b : Report) → HaveMap all (λ m. IsSoundFor faces m × IsReport m a)
    → HaveMap all (λ m. IsSoundFor faces m × IsReport m b) → HaveSameNumbers a b
same_numbers faces all a b one other =
    let same = both all (λ m. IsSoundFor faces m × IsReport m a) (λ m. IsSoundFor faces m × IsReport m b) one other in
    let p : IsReport same.map a = same.so.0.1 in
    let q : IsReport same.map b = same.so.1.1 in
    record {
      chains = p.chains ∙ sym q.chains;
      segments = p.segments ∙ sym q.segments;
      polygons = p.polygons ∙ sym q.polygons;
      landmarks = p.landmarks ∙ sym q.landmarks;
    }

pub alike : OnePoints → (options : Options) (text : List ℕ) (a b : Listing) → IsListingOf options text a → IsListingOf options text b → AreAlike a b
alike one_points options text (Sound report) (Sound other) is too = same_numbers options.faces (records_of (layout_with options) text) report other is too
alike one_points options text (Sound report) (Refused others) is too =
    (sound_alone options text (Refused others) too).1 ((sound_alone options text (Sound report) is).0 tt)
alike one_points options text (Sound report) (Faults others left) is too =
    (sound_alone options text (Faults others left) too).1 ((sound_alone options text (Sound report) is).0 tt)
alike one_points options text (Refused list) (Sound other) is too =
    (sound_alone options text (Refused list) is).1 ((sound_alone options text (Sound other) too).0 tt)
alike one_points options text (Refused list) (Refused others) is too = same_refusals list.items others.items (is.1 ∙ sym too.1)
alike one_points options text (Refused list) (Faults others left) is too =
    absurd (is.0 (map_empty pair_of list.items (none_is_refused (layout_with options) text _ is.1 too.1)))
alike one_points options text (Faults faults left) (Sound other) is too =
    (sound_alone options text (Faults faults left) is).1 ((sound_alone options text (Sound other) too).0 tt)
alike one_points options text (Faults faults left) (Refused others) is too =
    absurd (too.0 (map_empty pair_of others.items (none_is_refused (layout_with options) text _ too.1 is.1)))
alike one_points options text (Faults faults left) (Faults others right) is too =
    same_faults one_points options.faces (records_of (layout_with options) text) faults.items others.items left right is.0 too.0 is.2 too.2
