use Rattle.std.proofs.Common.{◌≡◌, map, drop, string_bytes, ℕ, List}
use Rattle.tigertopo_faults.specs.Hint.Telling.{TellsTrouble}
use Rattle.tigertopo_faults.proofs.hint.tell.trouble_hint.Given as goal

abbrev pub invariant-loop-name : goal.invariant-loop-name
invariant-loop-name g l = (text : List ℕ) → TellsTrouble (g.F.FileSystem.under l.files) (map string_bytes (drop l.name-index l.names)) (λ told. text ≡ told)
    → TellsTrouble (g.F.FileSystem.under l.files) (map string_bytes l.names) (λ told. text ≡ told)
