use Rattle.std.proofs.Common.{All, ℕ, ◌<◌, slice_index_or, Vec, Global}
use Rattle.tl_cert.specs.Certificates.{IsNumber}
use Rattle.tl_cert.proofs.range.look_at_lists.Given as goal

-- the numbers of the lists so far are in range
abbrev pub invariant-loop-list : goal.invariant-loop-list
invariant-loop-list l = (k : ℕ) (d : Vec ℕ Global) → k < l.list-index → All IsNumber (slice_index_or l.lists k d).items
