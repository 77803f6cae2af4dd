-- Headings that rise so far.
use Rattle.std.proofs.Common.{◌≡◌, ◌⊎◌, ℕ, suc, ◌+◌, ◌-◌, ◌<◌, List, length, sym, subst, ◌∙◌, arith, inl, inr}
use Rattle.std.specs.declared.cmp.Ordering.{Ordering}
use Rattle.std.specs.declared.cmp.Ordering.TheVariants.{Less, Equal, Greater}
use Rattle.std.specs.Prelude.{slice_index}
use Rattle.std.proofs.lemmas.Bool.{cases_lt}
use Rattle.tl_geom.specs.declared.direction.Direction.{Direction}
use Rattle.tl_geom.specs.Turning.{IsBelow}
use Rattle.tl_map_county.specs.TheMap.{MapChain}
use Rattle.tl_map_county.specs.Darts.{Heads}
use Rattle.tl_check_sides.specs.Rounds.{HeadsBefore, HasFall}

-- the heading of the dart before the place, and what is known of the darts so far
pub record RiseSoFar (chains : List MapChain) (round : List ℕ) (place : ℕ) (heading : Direction) : Type 0 where
  pub low : 0 < place
  pub heads : Heads chains (slice_index round (place - 1)) heading
  pub rising : (k : ℕ) → suc k < place → HeadsBefore chains (slice_index round k) (slice_index round (suc k))
  pub headed : (k : ℕ) → k < place → (h : Direction) × Heads chains (slice_index round k) h

pub rise_first : (chains : List MapChain) (round : List ℕ) (u : Direction) → Heads chains (slice_index round 0) u → RiseSoFar chains round 1 u
rise_first chains round u h = record {
  low = omega arith;
  heads = h;
  rising = λ k l. absurd (omega (arith, l));
  headed = λ k l. let e : 0 ≡ k = omega (arith, l) in (u, subst (λ j. Heads chains (slice_index round j) u) e h);
}

pub rise_more : (chains : List MapChain) (round : List ℕ) (place : ℕ) (u v : Direction) → RiseSoFar chains round place u → Heads chains (slice_index round place) v → IsBelow u v → RiseSoFar chains round (place + 1) v
rise_more chains round place u v so h below = record {
  low = omega arith;
  heads = let e : place ≡ place + 1 - 1 = omega arith in subst (λ j. Heads chains (slice_index round j) v) e h;
  rising = λ k l. elim (cases_lt (suc k) place) [
    | inl earlier ↦ so.rising k earlier
    | inr last ↦
        let low = so.low in
        let e : place ≡ suc k = omega (arith, l, last) in
        let f : place - 1 ≡ k = omega (arith, e) in
        record {
          first = u;
          second = v;
          d_heads = subst (λ j. Heads chains (slice_index round j) u) f so.heads;
          e_heads = subst (λ j. Heads chains (slice_index round j) v) e h;
          rises = below;
        }
  ];
  headed = λ k l. elim (cases_lt k place) [
    | inl earlier ↦ so.headed k earlier
    | inr last ↦ let e : place ≡ k = omega (arith, l, last) in (v, subst (λ j. Heads chains (slice_index round j) v) e h)
  ];
}

pub falls_at : (chains : List MapChain) (round : List ℕ) (place : ℕ) (u v : Direction) → RiseSoFar chains round place u → place < length round → Heads chains (slice_index round place) v → ¬ IsBelow u v → HasFall chains round
falls_at chains round place u v so l h not =
    let low = so.low in
    let e : place ≡ suc (place - 1) = omega (arith, low) in
    record {
      place = place - 1;
      within = omega (arith, l, low);
      first = u;
      second = v;
      place_heads = so.heads;
      behind_heads = subst (λ j. Heads chains (slice_index round j) v) e h;
      falls = not;
    }

-- what is equal or greater isn't less
pub not_less : (o : Ordering) → o ≡ Less → (o ≡ Equal) ⊎ (o ≡ Greater) → ⊥
not_less o less (inl e) = let x : Less ≡ Equal = sym less ∙ e in cc
not_less o less (inr e) = let x : Less ≡ Greater = sym less ∙ e in cc
