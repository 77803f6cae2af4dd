use Rattle.std.proofs.Common.{◌≡◌, ℕ, true, List, length, map, string_bytes}
use Rattle.tigertopo_faults.specs.Hint.Advice.{asking}
use Rattle.tigertopo_faults.specs.Hint.Telling.{HaveTexts}
use Rattle.tigertopo_faults.proofs.HintLemmas.UnreadLemmas.{AreHeldBy}
use Rattle.tigertopo_faults.proofs.hint.unread.unread_hint.Given as goal

abbrev pub invariant-loop-name : goal.invariant-loop-name
invariant-loop-name g l = record {
  counted : length l.held.items ≡ l.name-index;
  stays : g.F.FileSystem.under l.files ≡ g.F.FileSystem.under l.initial.files;
  same : g.F.FileSystem.knows ≡ true → g.F.FileSystem.log l.files ≡ g.F.FileSystem.log l.initial.files;
  held : (texts : List (List ℕ)) (have : HaveTexts (g.F.FileSystem.under l.initial.files) (map string_bytes l.names) texts)
      → AreHeldBy string_bytes (asking l.by) (g.F.FileSystem.under l.initial.files) l.names texts have l.name-index l.held.items;
}
