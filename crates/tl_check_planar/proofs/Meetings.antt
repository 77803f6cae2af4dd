-- What a search over the segments says of the chains.
use Rattle.std.proofs.Common.{◌≡◌, ℕ, Some, List, length, ap, subst, ◌∙◌}
use Rattle.std.specs.Prelude.{slice_get}
use Rattle.tl_map_county.specs.TheMap.{MapChain}
use Rattle.tl_map_county.specs.Segments.{segments_before, IsSegmentOf}
use Rattle.tl_tree_index.specs.Searches.{IsConflict, IsFreeOfConflicts}
use Rattle.tl_check_planar.specs.declared.meet.Meet.{Meet}
use Rattle.tl_check_planar.specs.Rectangles.{segment_rect}
use Rattle.tl_check_planar.specs.Searching.{MayTell, IsTrueMeet, ArePlanarWithin}
use Rattle.tl_check_planar.specs.Keeping.Apart.{one_found}
use Rattle.tl_check_planar.proofs.Numbering.{below_total, one_chain}
use Rattle.tl_check_planar.proofs.Planes.{free_planar}

-- the TLID of a segment's chain, as it was looked up
pub record HasTlid (chains : List MapChain) (s tlid : ℕ) : Type 0 where
  pub c : ℕ
  pub k : ℕ
  pub number : IsSegmentOf chains s c k
  pub chain : MapChain
  pub is : slice_get chains c ≡ Some chain
  pub tlid_is : tlid ≡ chain.tlid

one_tlid : (chains : List MapChain) (s tlid d i : ℕ) → HasTlid chains s tlid → (number : IsSegmentOf chains s d i) → tlid ≡ number.chain.tlid
one_tlid chains s tlid d i h number =
    let e : d ≡ h.c = one_chain chains s d i h.c h.k number h.number in
    h.tlid_is ∙ ap (λ (z : MapChain). z.tlid) (one_found h.chain number.chain (slice_get chains h.c) h.is (subst (λ n. slice_get chains n ≡ Some number.chain) e number.is))

pub true_meet : (chains cs : List MapChain) (m : Meet) → cs ≡ chains → IsConflict (segments_before cs (length cs)) (MayTell cs) m.s m.t m.at → HasTlid chains m.s m.tlid → HasTlid chains m.t m.other → IsTrueMeet chains m
true_meet chains cs m e conflict first second =
    let k : IsConflict (segments_before chains (length chains)) (MayTell chains) m.s m.t m.at =
    subst (λ (z : List MapChain). IsConflict (segments_before z (length z)) (MayTell z) m.s m.t m.at) e conflict in
    record {
      ordered = k.ordered;
      told = k.told;
      tlid = one_tlid chains m.s m.tlid k.told.meet.shared.c k.told.meet.shared.i first k.told.meet.shared.first;
      other = one_tlid chains m.t m.other k.told.meet.shared.d k.told.meet.shared.j second k.told.meet.shared.second;
    }

pub planar_within : (chains cs : List MapChain) (budget : ℕ) → cs ≡ chains → IsFreeOfConflicts (segments_before cs (length cs)) (segment_rect cs) (MayTell cs) budget → ArePlanarWithin chains budget
planar_within chains cs budget e clear =
    let k : IsFreeOfConflicts (segments_before chains (length chains)) (segment_rect chains) (MayTell chains) budget =
    subst (λ (z : List MapChain). IsFreeOfConflicts (segments_before z (length z)) (segment_rect z) (MayTell z) budget) e clear in
    record {
      planar = free_planar chains (λ s t lt r m. k.none s t lt (below_total chains t m.d m.j m.second) r m);
      within = k.within;
    }
