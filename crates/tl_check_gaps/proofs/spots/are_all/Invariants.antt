use Rattle.std.proofs.Common.{◌≡◌, ◌<◌, ℕ, true, false}
use Rattle.std.specs.Prelude.{slice_index_or}
use Rattle.tl_check_gaps.proofs.spots.are_all.Given as goal

-- those so far are marked
abbrev pub invariant-loop-mark : goal.invariant-loop-mark
invariant-loop-mark l = (p : ℕ) → p < l.mark-index → slice_index_or l.marks p false ≡ true
