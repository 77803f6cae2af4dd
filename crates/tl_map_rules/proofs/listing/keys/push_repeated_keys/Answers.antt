use Rattle.std.proofs.Common.{◌∙◌, sym, arith}
use Rattle.tl_map_rules.specs.declared.fault.RecordFault.TheVariants.{DuplicatePolygon}
use Rattle.tl_map_rules.proofs.ListingLemmas.NumberLemmas.{next_none, next_more, next_other, next_all}
use Rattle.tl_map_rules.proofs.ListingLemmas.KeyLemmas.{other_key}
use Rattle.tl_map_rules.proofs.listing.keys.push_repeated_keys.Goals as goal
use Rattle.tl_map_rules.proofs.listing.keys.push_repeated_keys.Goals.{then-eq+in_ok-push, else-eq}
use Rattle.tl_map_rules.proofs.KeyLemmas.{same_key-is}

pub loop-place-init : goal.loop-place-init
loop-place-init c = next_none DuplicatePolygon c.args.keys.now 1 c.args.faults.now.items (omega arith)

pub loop-place-preserved : goal.loop-place-preserved
loop-place-preserved c = elim c.if-eq.branch [
  | then-eq+in_ok-push w ↦ rw (w.faults-is, w.in_ok-push.ensures.items) (next_more DuplicatePolygon c.args.keys.now c.loop-place.place _ _ c.args.faults.now.items c.loop-place.faults.items (omega arith) (omega arith) (same_key-is _ _ (sym c.eq.ensures ∙ w.if-eq.true)) c.loop-place.invariant)
  | else-eq w ↦ rw w.faults-is (next_other DuplicatePolygon c.args.keys.now c.loop-place.place _ _ c.args.faults.now.items c.loop-place.faults.items (omega arith) (omega arith) (other_key _ _ (sym c.eq.ensures ∙ w.if-eq.false)) c.loop-place.invariant)
]

pub returns : goal.returns
returns c = next_all DuplicatePolygon c.args.keys.now c.loop-place.place _ _ (omega arith) c.loop-place.invariant
