use Rattle.std.proofs.Common.{length, arith, ap, refl, sym, ◌∙◌}
use Rattle.std.proofs.lemmas.List.{at_drop_all}
use Rattle.tigertopo_files.specs.Joining.{failures_from}
use Rattle.tigertopo_files.proofs.joined.JoinedSourcesSource.failures.Goals as goal

pub loop-reader-init : goal.loop-reader-init
loop-reader-init g c = refl

pub returns : goal.returns
returns g c =
    let long = ap length c.deref-reader-items.ensures.value in
    sym (at_drop_all (failures_from g.R.Source.failure_count c.loop-reader.failures) c.args.self.now.readers.items c.loop-reader.reader-index (omega (arith, c.loop-reader-test.false, long))) ∙ c.loop-reader.invariant
