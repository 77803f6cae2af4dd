use Rattle.std.proofs.Common.{◌≡◌, List, ℕ}
use Rattle.std.specs.Prelude.{Option}
use Rattle.std.specs.Io.KnownBytes.{prepend_known}
use Rattle.tigertopo_faults.specs.Places.Finding.{PassesTo}
use Rattle.tigertopo_faults.proofs.HintLemmas.KindLemmas.{AreLooked}
use Rattle.tigertopo_faults.proofs.hint.holding.kinds_ahead.Given as goal

abbrev pub invariant-lines : goal.invariant-lines
invariant-lines g l = record {
  passes : (text : Option (List ℕ)) → PassesTo 0 text (prepend_known l.initial.buffer (g.S.Source.remaining l.initial.source))
      → PassesTo l.count text (prepend_known l.buffer (g.S.Source.remaining l.source));
  looked : (text : Option (List ℕ)) → PassesTo 0 text (prepend_known l.initial.buffer (g.S.Source.remaining l.initial.source)) → AreLooked text l.count l.is_any_read;
  failures : g.S.Source.failure_count l.source ≡ g.S.Source.failure_count l.initial.source;
}
