use Rattle.std.proofs.Common.{ℕ, ◌+◌, ◌<◌, get_or}
use Rattle.tl_map_rules.specs.declared.entry.ChainEntry.{ChainEntry}
use Rattle.tl_map.proofs.passes.have_own_tlids.Given as goal

abbrev pub invariant-loop-place : goal.invariant-loop-place
invariant-loop-place l = (k : ℕ) (d : ChainEntry) → k + 1 < l.place → (get_or l.chains k d).tlid < (get_or l.chains (k + 1) d).tlid
