use Rattle.std.proofs.Common.{ℕ, ◌<◌, length, get_or, arith}
use Rattle.tl_map_rules.specs.Listing.Keeping.Numbers.{fault_of}
use Rattle.tl_map_rules.proofs.ListingLemmas.NumberLemmas.{missing_none, missing_known, missing_more, missing_all, passed_all, found_at, not_found, below_next}
use Rattle.tl_map_rules.proofs.listing.numbers.push_missing.Goals as goal
use Rattle.tl_map_rules.proofs.listing.numbers.push_missing.Goals.{then-place-known+in_ok-push, then-place-known-via-then-place-known, then-place-known-via-else-place-known+then-known-place, else-place-known+else-known-place}

pub loop-number-init : goal.loop-number-init
loop-number-init c = record { within = omega arith; passed = λ k less lt. absurd (omega arith); told = missing_none (fault_of c.args.what) (λ (n : ℕ). n) c.args.known.now c.args.faults.now.items }

pub loop-number-preserved : goal.loop-number-preserved
loop-number-preserved c =
    let numbers = c.args.numbers.now in
    let known = c.args.known.now in
    let i = c.loop-number.number-index in
    let b = c.first_not_below-place.result in
    let lt : i < length numbers = c.loop-number-test.true in
    let below = passed_all numbers known i c.loop-number.place b _ lt c.loop-number.invariant.passed c.first_not_below-place.ensures.below in
    record {
      within = c.first_not_below-place.ensures.within;
      passed = below_next numbers known i b _ c.requires.numbers lt below;
      told = elim c.if-place-known.branch [
        | then-place-known+in_ok-push w ↦ rw (w.faults-is, w.in_ok-push.ensures.items, w.fault_with.ensures)
            (missing_more (fault_of c.args.what) (λ (n : ℕ). n) numbers known i 0 c.args.faults.now.items c.loop-number.faults.items lt
            (not_found known b (get_or numbers i 0) c.requires.known below (elim w.then-place-known.branch [
              | then-place-known-via-then-place-known v ↦ λ inside. absurd (omega (arith, inside, v.if-place-known.true))
              | then-place-known-via-else-place-known+then-known-place v ↦ λ inside. omega (arith, inside, v.if-known-place.true, c.first_not_below-place.ensures.stops 0 inside)
            ])) c.loop-number.invariant.told)
        | else-place-known+else-known-place w ↦ rw w.faults-is (missing_known (fault_of c.args.what) (λ (n : ℕ). n) numbers known i 0 c.args.faults.now.items c.loop-number.faults.items lt (found_at known b _ (omega (arith, c.first_not_below-place.ensures.within, w.if-place-known.false)) w.if-known-place.false) c.loop-number.invariant.told)
      ];
    }

pub returns : goal.returns
returns c = missing_all (fault_of c.args.what) (λ (n : ℕ). n) c.args.numbers.now c.args.known.now c.loop-number.number-index _ _ c.loop-number-test.false c.loop-number.invariant.told
