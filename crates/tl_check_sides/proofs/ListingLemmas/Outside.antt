-- Sides of a map that has no polygons: all are the outside.
use Rattle.std.proofs.Common.{◌≡◌, ℕ, zero, suc, ◌*◌, ◌/◌, ◌<◌, Bool, true, false, if◌then◌else◌, Some, List, [], ◌∷◌, length, refl, sym, ap, ◌∙◌, subst, arith}
use Rattle.std.specs.Prelude.{All, slice_get}
use Rattle.std.specs.Option.{option_map}
use Rattle.std.proofs.lemmas.List.Elements.{All-nil, All-head, All-tail}
use Rattle.tl_map_county.specs.declared.sides.Side.{Side}
use Rattle.tl_map_county.specs.declared.sides.Side.TheVariants.{Outside, Polygon}
use Rattle.tl_map_county.specs.TheMap.{MapChain}
use Rattle.tl_map_county.specs.Sides.{IsSideAmong, HasSidesAmong}
use Rattle.tl_map_county.specs.Darts.{dart_left, reverse_dart, is_along}
use Rattle.tl_check_sides.proofs.Headings.{dart_within}
use Rattle.tl_check_sides.specs.Listing.Disagreements.{HaveSidesAtOdds, AreAllDisagreements}
use Rattle.tl_check_sides.proofs.ListingLemmas.Rows.{reverse_within}

outside : (side : Side) → IsSideAmong 0 side → side ≡ Outside
outside Outside among = refl
outside (Polygon p) among = absurd (let none : p < 0 = among in omega (arith, none))

chosen : (b : Bool) (chain : MapChain) → HasSidesAmong 0 chain → (if b then chain.left else chain.right) ≡ Outside
chosen true chain among = outside chain.left among.left
chosen false chain among = outside chain.right among.right

left_outside : (chains : List MapChain) (d : ℕ) → All (HasSidesAmong 0) chains → d < 2 * length chains → dart_left chains d ≡ Some Outside
left_outside chains d among within = go chains (d / 2) among (omega (arith, within))
  where
    go : (cs : List MapChain) (i : ℕ) → All (HasSidesAmong 0) cs → i < length cs → option_map (λ (c : MapChain). if is_along d then c.left else c.right) (slice_get cs i) ≡ Some Outside
    go [] i all lt = absurd (omega (arith, lt))
    go (c ∷ cs) zero all lt = ap Some (chosen (is_along d) c (All-head (HasSidesAmong 0) c cs all))
    go (c ∷ cs) (suc i) all lt = go cs i (All-tail (HasSidesAmong 0) c cs all) (omega (arith, lt))

none_at_odds : (chains : List MapChain) → All (HasSidesAmong 0) chains → (a b : ℕ) → ¬ HaveSidesAtOdds chains a b
none_at_odds chains among a b odd =
    let first = dart_within chains a odd.is_next.node odd.is_next.a_starts in
    let next = dart_within chains b odd.is_next.node odd.is_next.b_starts in
    odd.differ (left_outside chains a among first ∙ sym (left_outside chains (reverse_dart b) among (reverse_within (length chains) b next)))

-- so there is nothing to list
pub none_without_polygons : (chains : List MapChain) (polygons : ℕ) → polygons ≡ 0 → All (HasSidesAmong polygons) chains → AreAllDisagreements chains []
none_without_polygons chains polygons none all =
    let among = subst (λ n. All (HasSidesAmong n) chains) none all in
    record {
      true_ones = All-nil _;
      complete = λ a b odd. absurd (none_at_odds chains among a b odd);
      rising = λ i j d lt within. absurd (omega (arith, within));
    }
