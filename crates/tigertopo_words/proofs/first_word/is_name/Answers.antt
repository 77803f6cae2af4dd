use Rattle.std.proofs.Common.{List, [], ◌∷◌, ◌++◌, codes, ap, ◌∙◌}
use Rattle.std.specs.List.{list_any}
use Rattle.std.specs.Str.{bytes_eq}
use Rattle.clap.specs.Walk.{Text}
use Rattle.tigertopo_words.proofs.first_word.is_name.Goals as goal

pub returns : goal.returns
returns c = c.is_among.ensures ∙ ap (λ (names : List Text). list_any (bytes_eq c.args.word.now) (names ++ codes "help" ∷ [])) c.rows.ensures.names
