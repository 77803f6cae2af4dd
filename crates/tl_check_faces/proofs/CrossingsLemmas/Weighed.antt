-- The balance of sides over the segments that the ray crosses is what the chains add, weighed by their sides.
use Rattle.std.proofs.Common.{◌≡◌, ⊎_elim, ℕ, ◌<◌, ℤ, pos, ◌+ℤ◌, ◌<ℤ◌, Bool, true, false, List, [], ◌∷◌, length, map, refl, sym, ap, ap₂, ◌∙◌, arith}
use Rattle.std.proofs.lemmas.Int.{ints}
use Rattle.tl_geom.specs.declared.point.Point.{Point}
use Rattle.tl_map_county.specs.declared.sides.Side.{Side}
use Rattle.tl_map_county.specs.TheMap.{MapChain}
use Rattle.tl_map_county.specs.Segments.{segments_before}
use Rattle.tl_tree_index.specs.Hits.{times}
use Rattle.tl_check_inside.specs.Inside.{flanks_at, balance, AreCrossed}
use Rattle.tl_check_faces.specs.Crossings.Headings.{AreProper}
use Rattle.tl_check_faces.specs.Crossings.Rings.{goes_up_across, crossing, crossings_from, crossings}
use Rattle.tl_check_faces.proofs.CrossingsLemmas.Telescoping.{bit}
use Rattle.tl_check_faces.proofs.CrossingsLemmas.Located.{IsLocated}
use Rattle.tl_check_faces.proofs.CrossingsLemmas.Crossing.{crossed_there, crossed_back}
use Rattle.tl_check_faces.proofs.CrossingsLemmas.Across.{IsUpward, upward_of, upward_is, crossed_upward, crossed_downward, crossed_either}
use Rattle.tl_check_faces.proofs.CrossingsLemmas.Signed.{weigh, is_either, adds_from, adds_along, all_add, balance_by}

module _ (q : Point) (S : Side → Bool) where
  -- what a chain counts, and all chains
  abbrev pub chain_weight : MapChain → ℤ
  chain_weight c = weigh (S c.left) (S c.right) (crossings q c.points)

  abbrev pub chains_weight : List MapChain → ℤ
  chains_weight [] = pos 0
  chains_weight (c ∷ chains) = chain_weight c +ℤ chains_weight chains

  from_adds : (a : Point) (points : List Point) → adds_from (goes_up_across q) a points ≡ crossings_from q a points
  from_adds a [] = refl
  from_adds a (b ∷ points) = ap (λ n. crossing q a b +ℤ n) (from_adds b points)

  along_adds : (points : List Point) → adds_along (goes_up_across q) points ≡ crossings q points
  along_adds [] = refl
  along_adds (a ∷ points) = from_adds a points

  weight_is : (chains : List MapChain) → all_add (goes_up_across q) S chains ≡ chains_weight chains
  weight_is [] = refl
  weight_is (c ∷ chains) = ap₂ (λ n m. weigh (S c.left) (S c.right) n +ℤ m) (along_adds c.points) (weight_is chains)

-- ---- the crossed segments

up_rises : (q a b : Point) → goes_up_across q a b ≡ true → a.y <ℤ b.y
up_rises q a b e = let h : IsUpward q a b = upward_of q a b e in let low = h.0 in let high = h.1 in omega (arith, ints, low, high)

module _ (chains : List MapChain) (proper : AreProper chains) (q : Point) (crossed : List ℕ) (are : AreCrossed chains q crossed) where
  crossed_once : (s : ℕ) → s < segments_before chains (length chains) → (at : IsLocated chains s) →
      times s crossed ≡ bit (is_either (goes_up_across q) at.segment.a at.segment.b)
  crossed_once s lt at = go (goes_up_across q at.segment.a at.segment.b) (goes_up_across q at.segment.b at.segment.a) refl refl
    where
      go : (t u : Bool) → goes_up_across q at.segment.a at.segment.b ≡ t → goes_up_across q at.segment.b at.segment.a ≡ u →
          times s crossed ≡ bit (is_either (goes_up_across q) at.segment.a at.segment.b)
      go true u e f = rw e (are.once s lt (crossed_back chains q s at (crossed_upward at.segment q (upward_of q at.segment.a at.segment.b e))))
      go false true e f = rw (e, f) (are.once s lt (crossed_back chains q s at (crossed_downward at.segment q (upward_of q at.segment.b at.segment.a f))))
      go false false e f =
          rw (e, f) (are.others s (λ h. ⊎_elim
          (λ up. apart (sym e ∙ upward_is q at.segment.a at.segment.b up))
          (λ down. apart (sym f ∙ upward_is q at.segment.b at.segment.a down))
          (crossed_either at.segment q (crossed_there chains q s at h))))
        where
          apart : false ≡ true → ⊥
          apart p = cc

  pub balance_is : (S : Side → Bool) → balance S (map (flanks_at chains) crossed) ≡ chains_weight q S chains
  balance_is S = balance_by (goes_up_across q) (up_rises q) chains proper crossed crossed_once are.known S ∙ weight_is q S chains
