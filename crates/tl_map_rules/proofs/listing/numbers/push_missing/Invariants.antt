use Rattle.std.proofs.Common.{ℕ, ◌<◌, ◌≤◌, length, take, get_or}
use Rattle.tl_map_rules.specs.Listing.Keeping.Told.{Tells}
use Rattle.tl_map_rules.specs.Listing.Keeping.Numbers.{fault_of, IsMissing}
use Rattle.tl_map_rules.proofs.listing.numbers.push_missing.Given as goal

abbrev pub invariant-loop-number : goal.invariant-loop-number
invariant-loop-number l = record {
  within : l.place ≤ length l.known;
  passed : (k : ℕ) → k < l.place → l.number-index < length l.numbers → get_or l.known k 0 < get_or l.numbers l.number-index 0;
  told : Tells (IsMissing (fault_of l.what) (λ (n : ℕ). n) (take l.number-index l.numbers) l.known) l.fn.faults.items l.faults.items;
}
