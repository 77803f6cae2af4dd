-- The points of chains are near one another.
use Rattle.std.proofs.Common.{◌≡◌, inl, inr, ℕ, ◌+◌, ◌-◌, ◌<◌, Some, List, length, get_or, refl, ap, subst, ◌∙◌, arith}
use Rattle.std.specs.Prelude.{slice_get}
use Rattle.std.proofs.lemmas.Bool.{cases_lt}
use Rattle.std.proofs.lemmas.Option.{slice_get_within, slice_get-get_or}
use Rattle.tl_geom.specs.declared.point.Point.{Point}
use Rattle.tl_geom.specs.declared.segment.Segment.{Segment}
use Rattle.tl_map_county.specs.TheMap.{MapChain}
use Rattle.tl_map_county.specs.Segments.{segments_before}
use Rattle.tl_check_faces.specs.Crossings.Headings.{AreProper}
use Rattle.tl_check_planar.specs.Keeping.Apart.{one_found}
use Rattle.tl_check_planar.specs.ByHeight.Heights.{widest}
use Rattle.tl_check_planar.specs.ByHeight.Neighbours.{IsNumbered}
use Rattle.tl_check_planar.specs.ByHeight.Slabs.{IsChainPoint}
use Rattle.tl_check_active.specs.Ranges.{IsInRange, AreInRange}
use Rattle.tl_check_active.proofs.Wide.{near_by_range}
use Rattle.tl_check_faces.specs.Lists.{AreAllNear}

-- ---- the points of chains, which are ends of segments

module _ (chains : List MapChain) (proper : AreProper chains) (ranges : AreInRange chains) where
  segment_at : (c k : ℕ) (chain : MapChain) → slice_get chains c ≡ Some chain → (p : Point) → slice_get chain.points k ≡ Some p → k + 1 < length chain.points →
      (u : Segment) × IsNumbered chains (segments_before chains c + k) u × (u.a ≡ p) × (slice_get chain.points (k + 1) ≡ Some u.b)
  segment_at c k chain is p at lt =
      let here : get_or chain.points k p ≡ p =
      one_found (get_or chain.points k p) p (slice_get chain.points k) (slice_get-get_or chain.points k p (slice_get_within chain.points k p at)) at in
      let there : slice_get chain.points (k + 1) ≡ Some (get_or chain.points (k + 1) p) = slice_get-get_or chain.points (k + 1) p lt in
      let differ : ¬ (p ≡ get_or chain.points (k + 1) p) = λ e. (proper c chain is).distinct k p lt (here ∙ e) in (
        record { a = p; b = get_or chain.points (k + 1) p; different = differ },
        record {
          c = c;
          k = k;
          number = record { chain = chain; is = is; place = lt; number = refl };
          joins = record { chain = chain; is = is; from = at; to = there };
        },
        refl,
        there,
      )

  in_range : (c k : ℕ) (p : Point) → IsChainPoint chains c k p → IsInRange p
  in_range c k p one =
      let several = (proper c one.chain one.is).several in
      let within = slice_get_within one.chain.points k p one.point in
      elim (cases_lt (k + 1) (length one.chain.points)) [
        | inl more ↦
            let u : (u : Segment) × IsNumbered chains (segments_before chains c + k) u × (u.a ≡ p) × (slice_get one.chain.points (k + 1) ≡ Some u.b) =
            segment_at c k one.chain one.is p one.point more in
            subst IsInRange u.2 (ranges (segments_before chains c + k) u.0 u.1).0
        | inr last ↦
            let before : k - 1 + 1 ≡ k = omega (arith, last, several) in
            let u : (u : Segment) × IsNumbered chains (segments_before chains c + (k - 1)) u ×
            (u.a ≡ get_or one.chain.points (k - 1) p) × (slice_get one.chain.points (k - 1 + 1) ≡ Some u.b) =
            segment_at c (k - 1) one.chain one.is (get_or one.chain.points (k - 1) p)
            (slice_get-get_or one.chain.points (k - 1) p (omega (arith, within, last, several))) (omega (arith, within, last, several)) in
            subst IsInRange (one_found u.0.b p (slice_get one.chain.points (k - 1 + 1)) u.3 (ap (slice_get one.chain.points) before ∙ one.point))
            (ranges (segments_before chains c + (k - 1)) u.0 u.1).1
      ]

  pub all_near : AreAllNear widest chains
  all_near c k d j p q one other = near_by_range p q (in_range c k p one) (in_range d j q other)
