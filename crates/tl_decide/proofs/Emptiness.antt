-- A map that has a fault has one that is told, and where one is told it isn't sound.
use Rattle.std.proofs.Common.{◌≡◌, ◌≢◌, ℕ, ◌<◌, inl, inr, List, [], ◌∷◌, ◌++◌, map, refl, sym, subst}
use Rattle.std.proofs.Common.{◌∙◌, arith}
use Rattle.std.specs.List.{Any, Contains}
use Rattle.tl_map_county.specs.TheMap.{TheMap, MapChain}
use Rattle.tl_check_sides.specs.declared.fault.Disagreement.{Disagreement}
use Rattle.tl_check_sides.specs.Cells.Cells.{CellsAgree, AreCellsAtOdds}
use Rattle.tl_check_planar.specs.Listing.Meets.{AreAllMeets}
use Rattle.tl_check_sides.specs.Listing.Disagreements.{AreAllDisagreements}
use Rattle.tl_check_sides.specs.Listing.Touched.{IsTouched}
use Rattle.tl_check_sides.specs.Listing.CellOdds.{AreAllCellsAtOdds}
use Rattle.tl_check_sides.proofs.ListingLemmas.Emptiness.{cells_agree}
use Rattle.tl_check_points.specs.Listing.AllMisplaced.{AreAllMisplaced, NoneHidden}
use Rattle.tl_check_points.proofs.ListingLemmas.Wholes.{place_of}
use Rattle.tl_check_points.proofs.ListingLemmas.Alike.{hidden_as}
use Rattle.tl_check_verdict.specs.declared.fault.MapFault.{MapFault}
use Rattle.tl_check_verdict.specs.declared.fault.MapFault.TheVariants as fault
use Rattle.tl_check_verdict.specs.Truth.{IsTrueOfMap}
use Rattle.tl_decide.specs.MapFaults.{side_fault, AreMapFaults}

-- an empty list has no element
none_named : {X : Type 0} (P : X → Type 0) → ¬ Any P []
none_named P named = let within : named.0 < 0 = named.2 in omega (arith, within)

pub none_held : {X : Type 0} (x : X) → ¬ Contains [] x
none_held x held = let within : held.0 < 0 = held.1 in omega (arith, within)

-- and what makes an empty list is empty
pub map_empty : {X Y : Type 0} (f : X → Y) (xs : List X) → map f xs ≡ [] → xs ≡ []
map_empty f [] e = refl
map_empty f (x ∷ xs) e = absurd cc

pub joined_empty : {X : Type 0} (xs ys : List X) → xs ++ ys ≡ [] → (xs ≡ []) × (ys ≡ [])
joined_empty [] ys e = (refl, e)
joined_empty (x ∷ xs) ys e = absurd cc

-- where no sides are at odds no polygon is touched
pub none_touched : (chains : List MapChain) (sides : List Disagreement) → AreAllDisagreements chains sides → sides ≡ [] → (p : ℕ) → ¬ IsTouched chains p
none_touched chains sides all none p t = none_named _ (subst (Any (λ d. (d.first ≡ t.first) × (d.next ≡ t.next))) none (all.complete t.first t.next t.odds))

-- nothing is to be told of the map
pub record HasNone (m : TheMap) : Type 0 where
  pub meets : AreAllMeets m.chains []
  pub sides : AreAllDisagreements m.chains []
  pub cells : AreAllCellsAtOdds m.chains []
  pub points : AreAllMisplaced NoneHidden m []

pub has_none : (m : TheMap) (faults : List MapFault) (touched : ℕ) → AreMapFaults m faults touched → faults ≡ [] → HasNone m
has_none m faults touched all none =
    let a = joined_empty _ (map fault.PolygonPoint all.points) (sym all.are ∙ none) in
    let b = joined_empty _ (map fault.Cell all.cells) a.0 in
    let c = joined_empty (map fault.Meet all.meets) (map (side_fault m.chains) all.sides) b.0 in
    let no_meet : all.meets ≡ [] = map_empty fault.Meet all.meets c.0 in
    let no_side : all.sides ≡ [] = map_empty (side_fault m.chains) all.sides c.1 in
    let no_cell : all.cells ≡ [] = map_empty fault.Cell all.cells b.1 in
    let no_point : all.points ≡ [] = map_empty fault.PolygonPoint all.points a.1 in
    record {
      meets = subst (AreAllMeets m.chains) no_meet all.all_meets;
      sides = subst (AreAllDisagreements m.chains) no_side all.all_sides;
      cells = subst (AreAllCellsAtOdds m.chains) no_cell all.all_cells;
      points = subst (AreAllMisplaced NoneHidden m) no_point
          (hidden_as (IsTouched m.chains) NoneHidden m all.points (none_touched m.chains all.sides all.all_sides no_side) (λ p h. absurd h) all.all_points);
    }

-- darts that are at odds deny that cells agree
pub odds_deny : (chains : List MapChain) (a b id_a id_b : ℕ) → AreCellsAtOdds chains a b id_a id_b → ¬ CellsAgree chains
odds_deny chains a b id_a id_b odds agree = elim odds.odd [
  | inl same ↦ same.1 ((agree a b id_a id_b odds.a_has odds.b_has).0 same.0)
  | inr start ↦ start.1 ((agree a b id_a id_b odds.a_has odds.b_has).1 start.0)
]

no_fault : (m : TheMap) (f : MapFault) → HasNone m → ¬ IsTrueOfMap m f
no_fault m (fault.Records told) none true_one = absurd true_one
no_fault m (fault.NoRecords lacking) none true_one = absurd true_one
no_fault m (fault.Meet meet) none true_one = none_named _ (none.meets.complete meet.s meet.t meet.at true_one.ordered true_one.told.meet)
no_fault m (fault.Side node first next) none true_one =
    none_named _ (none.sides.complete first next (record { is_next = true_one.is_next; differ = true_one.differ }))
no_fault m (fault.PolygonPoint misplaced) none true_one = none_held misplaced (let at = place_of m misplaced true_one in none.points.every at.at misplaced (record { own = λ e h. h; other = λ e h. h }) at.is)
no_fault m (fault.Cell odds) none true_one = odds_deny m.chains odds.first odds.second odds.first_id odds.second_id true_one (cells_agree m.chains none.cells)
no_fault m (fault.Face told) none true_one = absurd true_one

-- where a fault is true of the map, the list of all isn't empty
pub one_is_told : (m : TheMap) (faults : List MapFault) (touched : ℕ) (f : MapFault) → AreMapFaults m faults touched → IsTrueOfMap m f
    → faults ≢ []
one_is_told m faults touched f all true_one = λ none. no_fault m f (has_none m faults touched all none) true_one
