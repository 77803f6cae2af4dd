use Rattle.std.proofs.Common.{refl}
use Rattle.tl_map_rules.proofs.ListingLemmas.ChainLemmas.{tlid_order}
use Rattle.tl_map_rules.proofs.ListingLemmas.CountedLemmas.{chain_tlids}
use Rattle.tl_map_rules.proofs.ListingLemmas.PartLemmas.{chains_moved}
use Rattle.tl_map_rules.proofs.listing.all.push_of_chains.Goals as goal

pub returns-clause-ordered : goal.returns-clause-ordered
returns-clause-ordered c = rw (c.in_ok-tlids.ensures, c.deref.ensures.value) (tlid_order c.sort_chains.new.chains.items c.in_ok-sort_chains.ensures.ordered)

pub returns-clause-told : goal.returns-clause-told
returns-clause-told c = λ rs has.
    let moved = chains_moved rs c.args.chains.items c.sort_chains.new.chains.items c.args.shapes.items c.sort_shapes.new.shapes.items has c.in_ok-sort_chains.ensures.moved c.in_ok-sort_shapes.ensures.moved in
    record {
      are = rw (c.in_ok-tlids.ensures, c.deref.ensures.value) (chain_tlids rs _ c.sort_chains.new.chains.items refl moved.of_chains);
      segments_told = c.in_ok-segments.ensures rs (rw (c.deref-3.ensures.value, c.deref-4.ensures.value) moved);
    }

pub push_sorted-requires : goal.push_sorted-requires
push_sorted-requires c = record {
  none = c.requires;
  chains = rw c.deref-3.ensures.value c.in_ok-sort_chains.ensures.ordered;
  shapes = rw c.deref-4.ensures.value c.in_ok-sort_shapes.ensures.ordered;
  chain_tlids = rw (c.deref-5.ensures.value, c.deref-3.ensures.value, c.in_ok-tlids.ensures, c.deref.ensures.value) refl;
  shape_tlids = rw (c.deref-6.ensures.value, c.deref-4.ensures.value, c.in_ok-shape_tlids.ensures, c.deref-2.ensures.value) refl;
}
