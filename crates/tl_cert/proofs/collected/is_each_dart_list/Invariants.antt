use Rattle.std.proofs.Common.{ℕ, ◌<◌, slice_index_or, Vec, Global}
use Rattle.tl_cert.specs.Certificates.{IsDartList}
use Rattle.tl_cert.proofs.collected.is_each_dart_list.Given as goal

abbrev pub invariant-loop-darts : goal.invariant-loop-darts
invariant-loop-darts l = (k : ℕ) (d : Vec ℕ Global) → k < l.darts-index → IsDartList (slice_index_or l.lists k d).items
