use Rattle.std.proofs.Common.{arith}
use Rattle.tigertopo_files.proofs.CountsLemmas.{none_read, read_on, read_all, all_read}
use Rattle.tigertopo_files.proofs.counting.count_rest.Goals as goal

pub loop-init : goal.loop-init
loop-init g c = none_read (g.S.Source.remaining c.args.source.now) c.args.count

pub loop-preserved : goal.loop-preserved
loop-preserved g c =
    read_on (g.S.Source.remaining c.args.source.now) (g.S.Source.remaining c.loop.source) (g.S.Source.remaining c.fetch.new.self) c.args.count c.loop.all c.with-all.result c.loop.counter c.in_ok-taken.taken c.fetch.new.buf
    c.loop.invariant c.in_ok-taken.ensures.bytes.0 c.with-all.ensures c.in_ok-taken.ensures.bound.0 c.if-taken-eq0.false

pub returns-then-taken-eq0-clause-counted : goal.returns-then-taken-eq0-clause-counted
returns-then-taken-eq0-clause-counted g c =
    read_all (g.S.Source.remaining c.args.source.now) (g.S.Source.remaining c.loop.source) (g.S.Source.remaining c.fetch.new.self) c.args.count c.loop.all c.loop.counter c.in_ok-taken.taken c.fetch.new.buf c.if-taken-eq0.true
    c.loop.invariant c.in_ok-taken.ensures.bytes.0 (c.in_ok-taken.ensures.bytes.1 c.if-taken-eq0.true (omega (arith, c.fetch.auto.buf)))

pub returns-clause-counted : goal.returns-clause-counted
returns-clause-counted g c = all_read (g.S.Source.remaining c.args.source.now) (g.S.Source.remaining c.loop.source) c.args.count c.loop.all c.loop.counter c.loop.invariant c.loop-test.false
