use Rattle.std.proofs.Common.{◌≡◌, drop}
use Rattle.tigertopo_files.specs.Joining.{failures_from, failures_of}
use Rattle.tigertopo_files.proofs.joined.JoinedSourcesSource.failures.Given as goal

abbrev pub invariant-loop-reader : goal.invariant-loop-reader
invariant-loop-reader g l =
    failures_from g.R.Source.failure_count l.failures (drop l.reader-index l.self.readers.items) ≡ failures_of g.R.Source.failure_count l.self.readers.items
