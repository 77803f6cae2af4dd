-- What a segment names is by its number.
use Rattle.std.proofs.Common.{◌≡◌, ℕ, List, ap, ◌∙◌}
use Rattle.std.specs.Prelude.{int_lt, slice_get, if◌then◌else◌}
use Rattle.tl_geom.specs.declared.segment.Segment.{Segment}
use Rattle.tl_map_county.specs.TheMap.{MapChain}
use Rattle.tl_check_planar.specs.Keeping.Apart.{one_found}
use Rattle.tl_check_planar.proofs.Numbering.{HaveSameEnds, one_chain}
use Rattle.tl_check_planar.specs.ByHeight.Heights.{height, widest}
use Rattle.tl_check_planar.specs.ByHeight.Neighbours.{IsNumbered}
use Rattle.tl_check_planar.proofs.ByHeight.Numbered.{one_segment}
use Rattle.tl_check_faces.specs.Lists.{west_side, east_side}

module _ (chains : List MapChain) (s : ℕ) (u w : Segment) (is : IsNumbered chains s u) (is' : IsNumbered chains s w) where
  ends : HaveSameEnds u w
  ends = one_segment chains s u w is is'

  pub one_chain_of : is.joins.chain ≡ is'.joins.chain
  one_chain_of =
      one_found is.joins.chain is'.joins.chain (slice_get chains is.c) is.joins.is
      (ap (λ n. slice_get chains n) (one_chain chains s is.c is.k is'.c is'.k is.number is'.number) ∙ is'.joins.is)

  pub one_west : west_side widest is.joins.chain u ≡ west_side widest is'.joins.chain w
  one_west = λ i. if int_lt (height widest (ends.first i)) (height widest (ends.last i)) then (one_chain_of i).left else (one_chain_of i).right

  pub one_east : east_side widest is.joins.chain u ≡ east_side widest is'.joins.chain w
  one_east = λ i. if int_lt (height widest (ends.first i)) (height widest (ends.last i)) then (one_chain_of i).right else (one_chain_of i).left
