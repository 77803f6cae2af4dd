-- Among the darts of a node by rising headings each is next after the one before it.
use Rattle.std.proofs.Common.{◌≡◌, ℕ, zero, suc, ◌-◌, ◌<◌, Some, List, length, sym, subst, ◌∙◌, arith}
use Rattle.std.specs.Prelude.{slice_index}
use Rattle.std.proofs.lemmas.List.{get_or_default}
use Rattle.tl_geom.specs.declared.point.Point.{Point}
use Rattle.tl_geom.specs.declared.direction.Direction.{Direction}
use Rattle.tl_geom.specs.Turning.{IsWithin}
use Rattle.tl_map_county.specs.TheMap.{MapChain}
use Rattle.tl_map_county.specs.Darts.{dart_start, Heads}
use Rattle.tl_check_sides.specs.Lists.{before}
use Rattle.tl_check_sides.specs.Sides.{IsNext}
use Rattle.tl_check_sides.proofs.WholeRounds.{none_inside, none_around}
use Rattle.tl_check_faces.specs.Crossings.Neighbours.{AreDartsOf}

module _ (chains : List MapChain) (node : Point) (darts : List ℕ) (are : AreDartsOf chains node darts) where
  -- a dart that starts at the node stands at a place
  record StandsAt (d : ℕ) : Type 0 where
    place : ℕ
    within : place < length darts
    at : slice_index darts place ≡ d

  place_of : (d : ℕ) → dart_start chains d ≡ Some node → StandsAt d
  place_of d starts =
      let found = are.all d starts in
      record { place = found.0; within = found.1; at = get_or_default darts found.0 0 d found.1 ∙ found.2 }

  -- where no dart at a place heads within the turn from one place to another, its dart is next
  next_of : (j k : ℕ) → j < length darts → k < length darts → ((u w v : Direction) (i : ℕ) → i < length darts → Heads chains (slice_index darts j) u → Heads chains (slice_index darts k) w → Heads chains (slice_index darts i) v → ¬ IsWithin u w v) → IsNext chains (slice_index darts j) (slice_index darts k)
  next_of j k hj hk none =
      let u = are.headed j hj in
      let w = are.headed k hk in
      record {
        node = node;
        a_starts = are.starts j hj;
        b_starts = are.starts k hk;
        from = u.0;
        to = w.0;
        a_heads = u.1;
        b_heads = w.1;
        none_between = λ c heading starts heads.
            let p : StandsAt c = place_of c starts in
            none u.0 w.0 heading p.place p.within u.1 w.1 (subst (λ d. Heads chains d heading) (sym p.at) heads);
      }

  pub next_after : (k : ℕ) → k < length darts → IsNext chains (before darts k) (slice_index darts k)
  next_after zero h =
      let j : ℕ = length darts - 1 in
      let last : suc j ≡ length darts = omega (arith, h) in
      next_of j 0 (omega (arith, last)) h (λ u w v i hi hu hw hv. none_around chains darts are.rising i j u w v hi last hu hw hv)
  next_after (suc k) h =
      next_of k (suc k) (omega (arith, h)) h (λ u w v i hi hu hw hv. none_inside chains darts are.rising i k u w v hi h hu hw hv)
