use Rattle.std.proofs.Common.{arith}
use Rattle.tigertopo_files.proofs.CountsLemmas.{set_goes_on, none_goes_on}
use Rattle.tigertopo_files.proofs.counting.count_at.Goals as goal

pub returns-then-place-len : goal.returns-then-place-len
returns-then-place-len c =
    set_goes_on c.args.bytes.now c.args.counts.now.items c.args.place _ c.with.result (omega (arith, c.if-place-len.true, c.len.ensures, c.args.counts.now.ok.0)) (rw c.index.ensures at c.with.ensures)

pub returns-else-place-len : goal.returns-else-place-len
returns-else-place-len c = none_goes_on c.args.bytes.now c.args.counts.now.items c.args.place (omega (arith, c.if-place-len.false, c.len.ensures, c.args.counts.now.ok.0))
