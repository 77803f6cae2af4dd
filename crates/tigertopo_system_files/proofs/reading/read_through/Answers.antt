use Rattle.std.proofs.Common.{refl, ◌∙◌}
use Rattle.std.proofs.lemmas.Result.{err_from_is_err_and}
use Rattle.tigertopo_system_files.proofs.ReadLemmas.{none_read, read_on, all_counted}
use Rattle.tigertopo_system_files.proofs.reading.read_through.Goals as goal

pub loop-init : goal.loop-init
loop-init g c = (refl, none_read (g.S.Source.remaining c.args.source.now))

pub loop-preserved : goal.loop-preserved
loop-preserved g c = (
  c.in_ok-fetch.ensures.failures ∙ c.loop.invariant.0,
  read_on (g.S.Source.remaining c.args.source.now) (g.S.Source.remaining c.loop.source) (g.S.Source.remaining c.fetch.new.self) c.loop.counter c.in_ok-fetch.field-0
      c.fetch.new.buf c.loop.invariant.1 c.in_ok-fetch.ensures.bytes.0 c.in_ok-fetch.ensures.bound.0 c.if-branch-eq0.false,
)

pub returns-in_err-fetch-clause-end : goal.returns-in_err-fetch-clause-end
returns-in_err-fetch-clause-end g c = let p = err_from_is_err_and c.from_residual.result c.from_residual.ensures.1 in rw p.1 tt

pub returns-clause-end : goal.returns-clause-end
returns-clause-end g c =
    all_counted (g.S.Source.remaining c.args.source.now) (g.S.Source.remaining c.loop.source) c.loop.counter c.loop.invariant.1 c.loop-test.false
