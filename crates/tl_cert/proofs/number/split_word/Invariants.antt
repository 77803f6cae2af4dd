use Rattle.std.proofs.Common.{◌≤◌, ◌<◌, ◌≢◌, ◌-◌, ℕ, length, slice_index_or}
use Rattle.tl_cert.proofs.number.split_word.Given as goal

abbrev pub invariant-loop-end : goal.invariant-loop-end
invariant-loop-end l = record {
  within : l.end ≤ length l.others;
  none : (k d : ℕ) → k < l.end → slice_index_or l.others k d ≢ 32;
}

abbrev pub decreases-loop-end : goal.decreases-loop-end
decreases-loop-end l = length l.others - l.end
