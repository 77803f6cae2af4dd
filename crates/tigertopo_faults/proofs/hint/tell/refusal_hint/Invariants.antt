use Rattle.std.proofs.Common.{◌≡◌, ℕ, true, List, map, drop, string_bytes}
use Rattle.tigertopo_faults.specs.Hint.Advice.{asking}
use Rattle.tigertopo_faults.specs.Hint.Hints.{refusal_at}
use Rattle.tigertopo_faults.specs.Hint.Telling.{HaveTexts}
use Rattle.tigertopo_faults.proofs.hint.tell.refusal_hint.Given as goal

abbrev pub invariant-loop-name : goal.invariant-loop-name
invariant-loop-name g l = record {
  stays : g.F.FileSystem.under l.files ≡ g.F.FileSystem.under l.initial.files;
  same : g.F.FileSystem.knows ≡ true → g.F.FileSystem.log l.files ≡ g.F.FileSystem.log l.initial.files;
  left : (texts : List (List ℕ)) → HaveTexts (g.F.FileSystem.under l.initial.files) (map string_bytes l.names) texts
      → refusal_at (asking l.by) (map string_bytes (drop l.name-index l.names)) (drop l.name-index texts) (l.number, l.cause)
      ≡ refusal_at (asking l.by) (map string_bytes l.names) texts (l.line, l.cause);
}
