-- Polygons that sides at odds name, told one disagreement behind the other.
use Rattle.std.proofs.Common.{◌≡◌, inl, inr, ◌↔◌, ℕ, ◌+◌, ◌<◌, ◌≤◌, Some, List, [], ◌++◌, length, All, Contains, refl, sym, subst, ap, ◌∙◌, arith}
use Rattle.std.specs.Prelude.{slice_get}
use Rattle.std.specs.List.Sorted.{IsStrictlyIncreasing}
use Rattle.std.proofs.lemmas.Bool.{cases_lt}
use Rattle.std.proofs.lemmas.Option.{slice_get-get_or, same_Some}
use Rattle.std.proofs.lemmas.List.Elements.{All-nil, All-append, All-cons, Contains-append_left, Contains-append_right}
use Rattle.tl_map_county.specs.declared.sides.Side.{Side}
use Rattle.tl_map_county.specs.declared.sides.Side.TheVariants.{Outside, Polygon}
use Rattle.tl_map_county.specs.TheMap.{MapChain}
use Rattle.tl_map_county.specs.Darts.{dart_left}
use Rattle.tl_check_planar.specs.Keeping.Apart.{one_found}
use Rattle.tl_check_sides.specs.Sides.{dart_right}
use Rattle.tl_check_sides.specs.declared.fault.Disagreement.{Disagreement}
use Rattle.tl_check_sides.specs.Listing.Disagreements.{HaveSidesAtOdds, AreAllDisagreements}
use Rattle.tl_check_sides.specs.Listing.Touched.{IsTouched, AreAllTouched}
use Rattle.tl_check_sides.specs.Listing.Keeping.Named.{named, AreNamed, AreNamedBefore}
use Rattle.tl_check_sides.proofs.ListingLemmas.Listing.{listed_once}

pub none_named : (chains : List MapChain) (sides : List Disagreement) (touched : List ℕ) → touched ≡ [] → AreNamedBefore chains sides 0 touched
none_named chains sides touched none = rw none (record {
  each = All-nil (IsTouched chains);
  lefts = λ k p odds lt is names. absurd (omega (arith, lt));
  rights = λ k p odds lt is names. absurd (omega (arith, lt));
})

-- what a side names is touched
each_named : (chains : List MapChain) (side : Side) → ((p : ℕ) → side ≡ Polygon p → IsTouched chains p) → All (IsTouched chains) (named side)
each_named chains Outside so = All-nil (IsTouched chains)
each_named chains (Polygon p) so = All-cons (IsTouched chains) p [] (so p refl) (All-nil (IsTouched chains))

names_it : (side : Side) (p : ℕ) → side ≡ Polygon p → Contains (named side) p
names_it side p is = rw is (0, omega arith, refl)

module _ (chains : List MapChain) (sides : List Disagreement) (k : ℕ) (odds : Disagreement) (lt : k < length sides) (is : slice_get sides k ≡ Some odds)
    (at_odds : HaveSidesAtOdds chains odds.first odds.next) (old new : List ℕ) (n : AreNamed chains odds old new) (before : AreNamedBefore chains sides k old) where
  left_touched : (p : ℕ) → n.left ≡ Polygon p → IsTouched chains p
  left_touched p e = record { first = odds.first; next = odds.next; odds = at_odds; names = inl (n.left_is ∙ ap Some e) }

  right_touched : (p : ℕ) → n.right ≡ Polygon p → IsTouched chains p
  right_touched p e = record { first = odds.first; next = odds.next; odds = at_odds; names = inr (n.right_is ∙ ap Some e) }

  pub named_more : AreNamedBefore chains sides (k + 1) new
  named_more = rw n.are (record {
    each = All-append (IsTouched chains) (old ++ named n.left) (named n.right)
        (All-append (IsTouched chains) old (named n.left) before.each (each_named chains n.left left_touched)) (each_named chains n.right right_touched);
    lefts = λ j p other low found names. Contains-append_left (old ++ named n.left) (named n.right) p (elim (cases_lt j k) [
      | inl less ↦ Contains-append_left old (named n.left) p (before.lefts j p other less found names)
      | inr last ↦
          let same : other ≡ odds = here j other low last found in
          let side : n.left ≡ Polygon p = same_Some n.left (Polygon p) (sym n.left_is ∙ subst (λ (o : Disagreement). dart_left chains o.first ≡ Some (Polygon p)) same names) in
          Contains-append_right old (named n.left) p (names_it n.left p side)
    ]);
    rights = λ j p other low found names. elim (cases_lt j k) [
      | inl less ↦ Contains-append_left (old ++ named n.left) (named n.right) p (Contains-append_left old (named n.left) p (before.rights j p other less found names))
      | inr last ↦
          let same : other ≡ odds = here j other low last found in
          let side : n.right ≡ Polygon p = same_Some n.right (Polygon p) (sym n.right_is ∙ subst (λ (o : Disagreement). dart_right chains o.next ≡ Some (Polygon p)) same names) in
          Contains-append_right (old ++ named n.left) (named n.right) p (names_it n.right p side)
    ];
  })
    where
      here : (j : ℕ) (other : Disagreement) → j < k + 1 → k ≤ j → slice_get sides j ≡ Some other → other ≡ odds
      here j other low last found =
          let one : j ≡ k = omega (arith, low, last) in
          one_found other odds (slice_get sides k) (subst (λ i. slice_get sides i ≡ Some other) one found) is

-- all of them, sorted
pub named_all : (chains : List MapChain) (sides : List Disagreement) (k : ℕ) (named_ones touched : List ℕ) → length sides ≤ k → AreAllDisagreements chains sides
    → IsStrictlyIncreasing touched → ((x : ℕ) → Contains touched x ↔ Contains named_ones x) → AreNamedBefore chains sides k named_ones → AreAllTouched chains touched
named_all chains sides k named_ones touched past all up same n =
    let listed = listed_once (IsTouched chains) named_ones touched up same n.each complete in
    record { rising = listed.rising; each = listed.each; complete = listed.complete }
  where
    complete : (p : ℕ) → IsTouched chains p → Contains named_ones p
    complete p t =
        let told = all.complete t.first t.next t.odds in
        let at : slice_get sides told.0 ≡ Some told.1 = slice_get-get_or sides told.0 told.1 told.2 ∙ ap Some told.3 in
        let low : told.0 < k = let within = told.2 in omega (arith, within, past) in
        elim t.names [
          | inl left ↦ n.lefts told.0 p told.1 low at (subst (λ d. dart_left chains d ≡ Some (Polygon p)) (sym told.4.0) left)
          | inr right ↦ n.rights told.0 p told.1 low at (subst (λ d. dart_right chains d ≡ Some (Polygon p)) (sym told.4.1) right)
        ]
