-- Where nothing is listed, there is nothing, and the other way round.
use Rattle.std.proofs.Common.{◌≡◌, inl, inr, ◌<◌, List, [], ◌∷◌, refl, ap, arith}
use Rattle.std.proofs.lemmas.Bool.{cases_eq}
use Rattle.tl_map_county.specs.declared.sides.Side.{Side}
use Rattle.tl_map_county.specs.declared.sides.Side.TheVariants.{Outside, Polygon}
use Rattle.tl_map_county.specs.TheMap.{MapChain}
use Rattle.tl_map_county.specs.Darts.{dart_start, dart_left}
use Rattle.tl_check_sides.specs.declared.fault.Disagreement.{Disagreement}
use Rattle.tl_check_sides.specs.Sides.{SidesAgree, dart_right}
use Rattle.tl_check_sides.specs.declared.cells.at_odds.CellsAtOdds.{CellsAtOdds}
use Rattle.tl_check_sides.specs.Cells.Cells.{CellsAgree, AreCellsAtOdds}
use Rattle.tl_check_planar.proofs.ListingLemmas.Deciding.{Decided, same_option}
use Rattle.tl_check_sides.specs.Listing.Disagreements.{AreAllDisagreements}
use Rattle.tl_check_sides.specs.Listing.CellOdds.{AreAllCellsAtOdds}
use Rattle.tl_check_sides.proofs.ListingLemmas.Agreeing.{agree, at_odds}

same_side : (a b : Side) → Decided (a ≡ b)
same_side Outside Outside = inl refl
same_side Outside (Polygon n) = inr (λ e. absurd cc)
same_side (Polygon n) Outside = inr (λ e. absurd cc)
same_side (Polygon n) (Polygon m) = elim (cases_eq n m) [
  | inl same ↦ inl (ap Polygon same)
  | inr other ↦ inr (λ e. other (let s : Polygon n ≡ Polygon m = e in cc))
]

pub sides_agree : (chains : List MapChain) → AreAllDisagreements chains [] → SidesAgree chains
sides_agree chains all a b next = elim (same_option same_side (dart_left chains a) (dart_right chains b)) [
  | inl same ↦ same
  | inr differ ↦
      let named = all.complete a b (record { is_next = next; differ = differ }) in
      absurd (let within : named.0 < 0 = named.2 in omega (arith, within))
]

pub no_disagreement : (chains : List MapChain) (found : List Disagreement) → AreAllDisagreements chains found → SidesAgree chains → found ≡ []
no_disagreement chains [] all agree = refl
no_disagreement chains (d ∷ found) all agree =
    let first = all.true_ones 0 d (omega arith) in
    absurd (first.differ (agree d.first d.next first.is_next))

pub cells_agree : (chains : List MapChain) → AreAllCellsAtOdds chains [] → CellsAgree chains
cells_agree chains all = agree chains (λ a b id_a id_b told.
    let named = all.complete a b id_a id_b told in
    let within : named.0 < 0 = named.2 in
    omega (arith, within))

pub no_pair : (chains : List MapChain) (found : List CellsAtOdds) → AreAllCellsAtOdds chains found → CellsAgree chains → found ≡ []
no_pair chains [] all same = refl
no_pair chains (o ∷ found) all same =
    let odds = at_odds chains o.first o.second o.first_id o.second_id (all.true_ones 0 o (omega arith)) in
    absurd (differ odds (same o.first o.second o.first_id o.second_id odds.a_has odds.b_has))
  where
    differ : AreCellsAtOdds chains o.first o.second o.first_id o.second_id → ((o.first_id ≡ o.second_id) → dart_start chains o.first ≡ dart_start chains o.second) × ((dart_start chains o.first ≡ dart_start chains o.second) → o.first_id ≡ o.second_id) → ⊥
    differ odds both = elim odds.odd [
      | inl one ↦ one.1 (both.0 one.0)
      | inr two ↦ two.1 (both.1 two.0)
    ]
