use Rattle.std.proofs.Common.{◌≡◌, ◌+◌, List, ℕ}
use Rattle.std.specs.Prelude.{Option}
use Rattle.std.specs.Io.KnownBytes.{prepend_known}
use Rattle.tigertopo_faults.specs.Places.Finding.{PassesTo}
use Rattle.tigertopo_faults.proofs.places.lines.find_ahead.Given as goal

abbrev pub invariant-lines : goal.invariant-lines
invariant-lines g l = record {
  at : l.passed + 1 ≡ l.line;
  passes : (text : Option (List ℕ)) → PassesTo l.initial.passed text (prepend_known l.initial.buffer (g.R.Source.remaining l.initial.source))
      → PassesTo l.passed text (prepend_known l.buffer (g.R.Source.remaining l.source));
  failures : g.R.Source.failure_count l.source ≡ g.R.Source.failure_count l.initial.source;
}
