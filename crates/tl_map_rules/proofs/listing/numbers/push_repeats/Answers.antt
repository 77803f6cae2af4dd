use Rattle.std.proofs.Common.{arith}
use Rattle.tl_map_rules.specs.Listing.Keeping.Numbers.{fault_of}
use Rattle.tl_map_rules.proofs.ListingLemmas.NumberLemmas.{next_none, next_more, next_other, next_all}
use Rattle.tl_map_rules.proofs.listing.numbers.push_repeats.Goals as goal
use Rattle.tl_map_rules.proofs.listing.numbers.push_repeats.Goals.{then-numbers-place+in_ok-push, else-numbers-place}

pub loop-place-init : goal.loop-place-init
loop-place-init c = next_none (fault_of c.args.what) c.args.numbers.now 1 c.args.faults.now.items (omega arith)

pub loop-place-preserved : goal.loop-place-preserved
loop-place-preserved c = elim c.if-numbers-place.branch [
  | then-numbers-place+in_ok-push w ↦ rw (w.faults-is, w.in_ok-push.ensures.items, w.fault_with.ensures) (next_more (fault_of c.args.what) c.args.numbers.now c.loop-place.place _ _ c.args.faults.now.items c.loop-place.faults.items (omega arith) (omega arith) w.if-numbers-place.true c.loop-place.invariant)
  | else-numbers-place w ↦ rw w.faults-is (next_other (fault_of c.args.what) c.args.numbers.now c.loop-place.place _ _ c.args.faults.now.items c.loop-place.faults.items (omega arith) (omega arith) w.if-numbers-place.false c.loop-place.invariant)
]

pub returns : goal.returns
returns c = next_all (fault_of c.args.what) c.args.numbers.now c.loop-place.place _ _ (omega arith) c.loop-place.invariant
