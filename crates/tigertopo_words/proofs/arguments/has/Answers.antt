use Rattle.std.proofs.Common.{List, ap, ◌∙◌}
use Rattle.std.specs.List.{list_any}
use Rattle.std.specs.Str.{bytes_eq}
use Rattle.clap.specs.Walk.{Rule}
use Rattle.tigertopo_words.proofs.TableLemmas.{by_rules}
use Rattle.tigertopo_words.proofs.arguments.has.Goals as goal

pub returns : goal.returns
returns c =
    c.is_among.ensures ∙ by_rules c.args.name.now c.row_of.result.now.arguments.now
    ∙ ap (λ (rules : List Rule). list_any (λ (rule : Rule). bytes_eq c.args.name.now rule.id) rules) c.row_of.ensures.arguments
