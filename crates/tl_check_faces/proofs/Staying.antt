-- Where sides agree, a count stays along a straight line that doesn't meet the boundary of what is counted.
use Rattle.std.proofs.Common.{◌≡◌, ◌≢◌, ◌⊎◌, ◌↔◌, inl, inr, ⊎_elim, ℕ, suc, ◌+◌, ◌<◌, ℤ, ◌*ℤ◌, ◌≤ℤ◌, Bool, true, false, Some, List, length, map, get_or, refl, sym, ap, ◌∙◌, arith}
use Rattle.std.specs.Prelude.{slice_get}
use Rattle.std.proofs.lemmas.Bool.{false≢true}
use Rattle.std.proofs.lemmas.Int.{ints, by_lt_z}
use Rattle.std.proofs.lemmas.Option.{slice_get-get_or, slice_get_within}
use Rattle.tl_geom.specs.declared.point.Point.{Point}
use Rattle.tl_geom.specs.declared.rational.Rational.{Rational}
use Rattle.tl_geom.specs.declared.segment.Segment.{Segment}
use Rattle.tl_geom.specs.Plane.{IsOn}
use Rattle.tl_map_county.specs.Chains.{IsProperChain}
use Rattle.tl_map_county.specs.declared.sides.Side.{Side}
use Rattle.tl_map_county.specs.TheMap.{MapChain}
use Rattle.tl_map_county.specs.Segments.{segments_before}
use Rattle.tl_tree_index.specs.Hits.{times}
use Rattle.tl_check_planar.specs.Planar.{IsOnChain}
use Rattle.tl_check_planar.specs.Keeping.Apart.{one_found}
use Rattle.tl_check_planar.proofs.Numbering.{HaveSameEnds, same_ends}
use Rattle.tl_check_sides.specs.Sides.{SidesAgree}
use Rattle.tl_check_inside.specs.Inside.{flanks_at, balance, IsCrossedAt, AreCrossedAt, IsCountAt}
use Rattle.tl_check_faces.specs.Crossings.Headings.{AreProper, HeadApart}
use Rattle.tl_check_faces.proofs.CrossingsLemmas.Telescoping.{bit}
use Rattle.tl_check_faces.proofs.CrossingsLemmas.Located.{IsLocated, located}
use Rattle.tl_check_faces.proofs.CrossingsLemmas.Listing.{all_hits}
use Rattle.tl_check_faces.proofs.CrossingsLemmas.Signed.{is_either, all_add, balance_by}
use Rattle.tl_check_faces.proofs.CrossingsLemmas.Gaining.{AreAllGaining, no_gain}
use Rattle.tl_check_faces.specs.Clear.{IsClearAlong}
use Rattle.tl_check_faces.proofs.Crossing.{IsEast, east_of_crossed, crossed_of_east}
use Rattle.tl_check_faces.proofs.Touching.{IsApart, apart_turned}
use Rattle.tl_check_faces.proofs.Upward.{goes_up, is_beside, up_of, up_is, up_rises, gains}

-- ---- the count at a place is what all chains add there

module _ (chains : List MapChain) (q : Rational) (s : ℕ) (at : IsLocated chains s) where
  crossed_there : IsCrossedAt chains q s → IsEast at.segment q
  crossed_there h =
      let e : HaveSameEnds h.segment at.segment = same_ends chains s h.c h.k at.c at.k h.segment at.segment h.number h.joins at.number at.joins in
      rw (sym e.first, sym e.last) (east_of_crossed h.segment q h.crosses)

  crossed_back : IsEast at.segment q → IsCrossedAt chains q s
  crossed_back h = record { c = at.c; k = at.k; segment = at.segment; number = at.number; joins = at.joins; crosses = crossed_of_east at.segment q h }

  -- the ray crosses it exactly where it goes up or down
  told : (P : Type 0) → (IsCrossedAt chains q s → is_either (goes_up q) at.segment.a at.segment.b ≡ true → P) →
      (¬ IsCrossedAt chains q s → is_either (goes_up q) at.segment.a at.segment.b ≡ false → P) → P
  told P if_crossed if_not = go (goes_up q at.segment.a at.segment.b) (goes_up q at.segment.b at.segment.a) refl refl
    where
      go : (t u : Bool) → goes_up q at.segment.a at.segment.b ≡ t → goes_up q at.segment.b at.segment.a ≡ u → P
      go true u e f = if_crossed (crossed_back (inl (up_of q at.segment.a at.segment.b e))) (rw e refl)
      go false true e f = if_crossed (crossed_back (inr (up_of q at.segment.b at.segment.a f))) (rw (e, f) refl)
      go false false e f =
          if_not (λ h. ⊎_elim
          (λ up. false≢true (sym e ∙ up_is q at.segment.a at.segment.b up))
          (λ down. false≢true (sym f ∙ up_is q at.segment.b at.segment.a down))
          (crossed_there h)) (rw (e, f) refl)

module _ (chains : List MapChain) (proper : AreProper chains) (q : Rational) where
  crossed_once : (crossed : List ℕ) → AreCrossedAt chains q crossed → (s : ℕ) → s < segments_before chains (length chains) → (at : IsLocated chains s) →
      times s crossed ≡ bit (is_either (goes_up q) at.segment.a at.segment.b)
  crossed_once crossed are s lt at =
      told chains q s at (times s crossed ≡ bit (is_either (goes_up q) at.segment.a at.segment.b))
      (λ h e. are.once s lt h ∙ sym (ap bit e)) (λ never e. are.others s never ∙ sym (ap bit e))

  balance_is : (S : Side → Bool) (crossed : List ℕ) → AreCrossedAt chains q crossed → balance S (map (flanks_at chains) crossed) ≡ all_add (goes_up q) S chains
  balance_is S crossed are = balance_by (goes_up q) (up_rises q) chains proper crossed (crossed_once crossed are) are.known S

  some_crossed : (crossed : List ℕ) × AreCrossedAt chains q crossed
  some_crossed =
      all_hits (IsCrossedAt chains q) (segments_before chains (length chains))
      (λ s lt. told chains q s (located chains proper s lt) (IsCrossedAt chains q s ⊎ (¬ IsCrossedAt chains q s)) (λ h e. inl h) (λ never e. inr never))

  pub count_is : (S : Side → Bool) (n : ℤ) → IsCountAt chains q S n → n ≡ all_add (goes_up q) S chains
  count_is S n k = k.counted ∙ balance_is S k.crossed k.are

  pub is_count : (S : Side → Bool) (n : ℤ) → n ≡ all_add (goes_up q) S chains → IsCountAt chains q S n
  is_count S n e = go some_crossed
    where
      go : (crossed : List ℕ) × AreCrossedAt chains q crossed → IsCountAt chains q S n
      go (crossed, are) = record { crossed = crossed; are = are; counted = e ∙ sym (balance_is S crossed are) }

-- ---- along a line that doesn't meet the boundary

module _ (chains : List MapChain) (proper : AreProper chains) (S : Side → Bool) (p q : Rational) (clear : IsClearAlong chains S p q) where
  module _ (c : ℕ) (chain : MapChain) (is : slice_get chains c ≡ Some chain) (differ : S chain.left ≢ S chain.right)
      (k : ℕ) (a b : Point) (from : slice_get chain.points k ≡ Some a) (to : slice_get chain.points (k + 1) ≡ Some b) where
    two : a ≢ b
    two e =
        let lt : k + 1 < length chain.points = slice_get_within chain.points (k + 1) b to in
        let own : IsProperChain chain.points = proper c chain is in
        let first : a ≡ get_or chain.points k a =
        one_found a (get_or chain.points k a) (slice_get chain.points k) from (slice_get-get_or chain.points k a (omega (arith, lt))) in
        let last : b ≡ get_or chain.points (k + 1) a =
        one_found b (get_or chain.points (k + 1) a) (slice_get chain.points (k + 1)) to (slice_get-get_or chain.points (k + 1) a lt) in
        own.distinct k a lt (sym first ∙ e ∙ last)

    segment : Segment
    segment = record { a = a; b = b; different = two }

    on_chain : (r : Rational) → IsOn segment r → IsOnChain chain.points r
    unfolding segment
    on_chain r on = (k, record { segment = segment; from = from; to = to; on = on })

    is_apart : IsApart p q segment
    is_apart = record {
      first = λ on. clear.first c chain is differ (on_chain p on);
      last = λ on. clear.last c chain is differ (on_chain q on);
      between = λ r at on. clear.between r at c chain is differ (on_chain r on);
    }

  after : (k : ℕ) → suc k ≡ k + 1
  after k = omega arith

  gain_up : (p.y *ℤ q.d) ≤ℤ (q.y *ℤ p.d) → AreAllGaining (goes_up p) (goes_up q) (is_beside p q) S chains
  unfolding segment
  gain_up level c chain is differ k a b from to =
      let next : slice_get chain.points (k + 1) ≡ Some b = sym (ap (slice_get chain.points) (after k)) ∙ to in
      gains p q level (segment c chain is differ k a b from next) (is_apart c chain is differ k a b from next)

  gain_down : (q.y *ℤ p.d) ≤ℤ (p.y *ℤ q.d) → AreAllGaining (goes_up q) (goes_up p) (is_beside q p) S chains
  unfolding segment
  gain_down level c chain is differ k a b from to =
      let next : slice_get chain.points (k + 1) ≡ Some b = sym (ap (slice_get chain.points) (after k)) ∙ to in
      gains q p level (segment c chain is differ k a b from next)
      (apart_turned p q (segment c chain is differ k a b from next) (is_apart c chain is differ k a b from next))

  module _ (head_apart : HeadApart chains) (agree : SidesAgree chains) where
    same_add : all_add (goes_up p) S chains ≡ all_add (goes_up q) S chains
    same_add =
        by_lt_z (q.y *ℤ p.d) (p.y *ℤ q.d)
        (λ down. sym (no_gain (goes_up q) (goes_up p) (is_beside q p) S chains proper head_apart agree (gain_down (omega (arith, ints, down)))))
        (λ level. no_gain (goes_up p) (goes_up q) (is_beside p q) S chains proper head_apart agree (gain_up level))

    pub stays : (n : ℤ) → IsCountAt chains p S n ↔ IsCountAt chains q S n
    stays n = (
      λ k. is_count chains proper q S n (count_is chains proper p S n k ∙ same_add),
      λ k. is_count chains proper p S n (count_is chains proper q S n k ∙ sym same_add),
    )
