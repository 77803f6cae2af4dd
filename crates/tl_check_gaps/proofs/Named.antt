-- What is named on a side of a gap is one side.
use Rattle.std.proofs.Common.{◌≡◌, ◌≢◌, ℕ, Bool, true, false, not, IsTrue, ◌↔◌, Option, None, Some, List, refl, sym, ◌∙◌}
use Rattle.tl_map_county.specs.declared.sides.Side.{Side}
use Rattle.tl_map_county.specs.TheMap.{MapChain}
use Rattle.tl_check_planar.specs.ByHeight.Heights.{widest}
use Rattle.tl_check_faces.specs.Odd.{IsNamedWest, IsNamedEast}
use Rattle.tl_check_gaps.proofs.Sides.{one_west, one_east}
use Rattle.tl_check_gaps.specs.Gaps.{DifferAcross}

pub one_named_west : (chains : List MapChain) (s : Option ℕ) (side other : Side) → IsNamedWest widest chains s side → IsNamedWest widest chains s other →
    side ≡ other
one_named_west chains None side other a b = a ∙ sym b
one_named_west chains (Some s) side other a b = a.names ∙ one_east chains s a.segment b.segment a.is b.is ∙ sym b.names

pub one_named_east : (chains : List MapChain) (s : Option ℕ) (side other : Side) → IsNamedEast widest chains s side → IsNamedEast widest chains s other →
    side ≡ other
one_named_east chains None side other a b = a ∙ sym b
one_named_east chains (Some s) side other a b = a.names ∙ one_west chains s a.segment b.segment a.is b.is ∙ sym b.names

module _ (chains : List MapChain) (west east : Option ℕ) (one other : Side) (named_west : IsNamedWest widest chains west one)
    (named_east : IsNamedEast widest chains east other) where
  pub at_odds : one ≢ other → DifferAcross widest chains west east
  at_odds differ = record { side = one; opposite = other; named_west = named_west; named_east = named_east; differ = differ }

  pub differ_there : DifferAcross widest chains west east → one ≢ other
  differ_there odd e =
      odd.differ (one_named_west chains west odd.side one odd.named_west named_west ∙ e
      ∙ one_named_east chains east other odd.opposite named_east odd.named_east)

  pub odds_by : (same : Bool) → IsTrue same ↔ (one ≡ other) → IsTrue (not same) ↔ DifferAcross widest chains west east
  odds_by true is = ((λ h. absurd (cc)), (λ odd. absurd (differ_there odd (is.0 refl))))
  odds_by false is = ((λ h. at_odds (λ e. absurd (let yes : IsTrue false = is.1 e in cc))), (λ odd. refl))
