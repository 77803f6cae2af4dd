-- Where sides agree, next permutes the darts, so that as much counts on their left as on their right.
use Rattle.std.proofs.Common.{◌≡◌, inl, inr, ℕ, ◌<◌, ℤ, pos, Bool, List, sym, subst, ◌∙◌, arith}
use Rattle.std.proofs.lemmas.Bool.{cases_lt}
use Rattle.std.proofs.lemmas.Int.{ints}
use Rattle.tl_geom.specs.declared.point.Point.{Point}
use Rattle.tl_map_county.specs.declared.sides.Side.{Side}
use Rattle.tl_map_county.specs.TheMap.{MapChain}
use Rattle.tl_map_county.specs.Darts.{dart_start}
use Rattle.tl_check_sides.specs.Sides.{dart_count, IsNext, SidesAgree}
use Rattle.tl_check_sides.proofs.Headings.{dart_within}
use Rattle.tl_check_inside.specs.Inside.{balance}
use Rattle.tl_check_faces.specs.Crossings.Heights.{is_above, crossed_at}
use Rattle.tl_check_faces.specs.Crossings.Headings.{AreProper, HeadApart}
use Rattle.tl_check_faces.proofs.CrossingsLemmas.Sums.{sum_same, sum_permuted}
use Rattle.tl_check_faces.proofs.CrossingsLemmas.Nexts.{next_of, one_next}
use Rattle.tl_check_faces.proofs.CrossingsLemmas.Telescoping.{near_count, far_count, left_ends, right_ends, telescoped}
use Rattle.tl_check_faces.proofs.CrossingsLemmas.Ends.{weight_of, left_weight, right_weight, left_sum, right_sum}

module _ (chains : List MapChain) (proper : AreProper chains) (apart : HeadApart chains) (agree : SidesAgree chains) where
  next : ℕ → ℕ
  next d = elim (cases_lt d (dart_count chains)) [ inl lt ↦ (next_of chains proper d lt).0 | inr le ↦ d ]

  is_next : (d : ℕ) → d < dart_count chains → IsNext chains d (next d)
  unfolding next
  is_next d lt = elim (cases_lt d (dart_count chains)) as (λ o. IsNext chains d (elim o [ inl lt ↦ (next_of chains proper d lt).0 | inr le ↦ d ])) [
    | inl low ↦ (next_of chains proper d low).1
    | inr le ↦ absurd (omega (arith, lt, le))
  ]

  below : (d : ℕ) → d < dart_count chains → next d < dart_count chains
  below d lt = let n : IsNext chains d (next d) = is_next d lt in dart_within chains (next d) n.node n.b_starts

  one : (d e : ℕ) → d < dart_count chains → e < dart_count chains → next d ≡ next e → d ≡ e
  one d e lt less same =
      let n : IsNext chains d (next d) = is_next d lt in
      let m : IsNext chains e (next e) = is_next e less in
      one_next chains apart d e (next d) n (subst (IsNext chains e) (sym same) m)

  -- by any weight of points
  module _ (has : Point → Bool) (S : Side → Bool) where
    step : (d : ℕ) → d < dart_count chains → left_weight has S chains d ≡ right_weight has S chains (next d)
    unfolding left_weight right_weight
    step d lt =
        let n : IsNext chains d (next d) = is_next d lt in
        let start : dart_start chains d ≡ dart_start chains (next d) = n.a_starts ∙ sym n.b_starts in
        (λ i. weight_of has S (start i) (agree d (next d) n i))

    pub as_much : left_ends has S chains ≡ right_ends has S chains
    as_much =
        sym (left_sum has S chains)
        ∙ sum_same (left_weight has S chains) (λ d. right_weight has S chains (next d)) (dart_count chains) step
        ∙ sum_permuted (dart_count chains) next below one (right_weight has S chains)
        ∙ right_sum has S chains

  -- so at a height
  module _ (y : ℤ) (S : Side → Bool) where
    pub near_is_far : near_count y S (crossed_at y chains) ≡ far_count y S (crossed_at y chains)
    near_is_far = let both = telescoped y S chains in let ends = as_much (is_above y) S in omega (arith, both, ends)

    pub cancelled : balance S (crossed_at y chains) ≡ pos 0
    unfolding near_count far_count
    cancelled = let same = near_is_far in omega (arith, ints, same)
