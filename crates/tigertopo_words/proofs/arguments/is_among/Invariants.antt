use Rattle.std.proofs.Common.{◌≡◌, drop}
use Rattle.std.specs.List.{list_any}
use Rattle.std.specs.Str.{bytes_eq}
use Rattle.tigertopo_words.specs.declared.table.Argument.{Argument}
use Rattle.tigertopo_words.proofs.arguments.is_among.Given as goal

abbrev pub invariant-loop-argument : goal.invariant-loop-argument
invariant-loop-argument l =
    list_any (λ (a : Argument). bytes_eq l.name a.name.now) (drop l.argument-index l.arguments) ≡ list_any (λ (a : Argument). bytes_eq l.name a.name.now) l.arguments
