-- The pairs of a dart and those that are next after it.
use Rattle.std.proofs.Common.{◌≡◌, ◌≢◌, inl, ℕ, ◌*◌, ◌%◌, ◌<◌, ◌≤◌, Bool, true, false, Some, List, length, get_or, refl, sym, ap, ◌∙◌, arith}
use Rattle.std.specs.Prelude.{slice_index}
use Rattle.std.proofs.lemmas.Bool.{eqb-true}
use Rattle.std.proofs.lemmas.List.{get_or-map, length-map}
use Rattle.tl_map_county.specs.declared.sides.Side.{Side}
use Rattle.tl_map_county.specs.TheMap.{MapChain}
use Rattle.tl_map_county.specs.Darts.{dart_left, reverse_dart, is_along}
use Rattle.tl_check_sides.specs.Sides.{IsNext, dart_count}
use Rattle.tl_check_sides.specs.declared.fault.Disagreement.{Disagreement}
use Rattle.tl_check_sides.proofs.Headings.{dart_within}
use Rattle.tl_check_sides.specs.declared.headed.HeadedDart.{HeadedDart}
use Rattle.tl_check_sides.specs.Listing.Disagreements.{HaveSidesAtOdds, AreAllDisagreements}
use Rattle.tl_check_sides.specs.Listing.Keeping.Telling.{AreDisagreementsBefore}
use Rattle.tl_check_sides.specs.Listing.Keeping.Grouped.{numbers_of}

pub number_at : (next : List HeadedDart) (k : ℕ) (d : HeadedDart) → k < length next → slice_index (numbers_of next) k ≡ (get_or next k d).dart
number_at next k d lt = get_or-map (λ (s : HeadedDart). s.dart) next k d 0 lt

pub in_numbers : (next : List HeadedDart) (k : ℕ) → k < length next → k < length (numbers_of next)
in_numbers next k lt = omega (arith, lt, length-map next (λ (s : HeadedDart). s.dart))

pub all_numbers : (next : List HeadedDart) (k : ℕ) → length next ≤ k → length (numbers_of next) ≤ k
all_numbers next k le = omega (arith, le, length-map next (λ (s : HeadedDart). s.dart))

pub reverse_within : (m d : ℕ) → d < 2 * m → reverse_dart d < 2 * m
reverse_within m d h = go (is_along d) refl
  where
    go : (b : Bool) → is_along d ≡ b → reverse_dart d < 2 * m
    go true e =
        let even : d % 2 ≡ 0 = eqb-true (d % 2) 0 e in
        rw e (omega (arith, even, h))
    go false e = rw e (omega (arith, h))

-- what is on the left of one isn't what is on the right of the other
pub at_odds : (chains : List MapChain) (a b back : ℕ) (left right : Side) → IsNext chains a b → dart_left chains a ≡ Some left → back ≡ reverse_dart b → dart_left chains back ≡ Some right → left ≢ right → HaveSidesAtOdds chains a b
at_odds chains a b back left right next is_left reversed is_right other = record {
  is_next = next;
  differ = λ same. other (one (sym is_left ∙ same ∙ ap (dart_left chains) (sym reversed) ∙ is_right));
}
  where
    one : Some left ≡ Some right → left ≡ right
    one e = cc

-- it is
pub agree : (chains : List MapChain) (a b back : ℕ) (left right : Side) → dart_left chains a ≡ Some left → back ≡ reverse_dart b → dart_left chains back ≡ Some right → left ≡ right → ¬ HaveSidesAtOdds chains a b
agree chains a b back left right is_left reversed is_right same odd = odd.differ (is_left ∙ ap Some same ∙ sym is_right ∙ ap (dart_left chains) reversed)

-- those of all darts are all
pub all_of : (chains : List MapChain) (n : ℕ) (found : List Disagreement) → dart_count chains ≤ n → AreDisagreementsBefore chains n 0 found → AreAllDisagreements chains found
all_of chains n found end r = record {
  true_ones = r.good;
  complete = λ a b odd. let lt = dart_within chains a odd.is_next.node odd.is_next.a_starts in r.each a b odd (inl (omega (arith, lt, end)));
  rising = r.rising;
}
