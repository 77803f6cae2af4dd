use Rattle.std.proofs.Common.{map, sym, ◌∙◌}
use Rattle.tigertopo_words.proofs.FirstWord.{no_use}
use Rattle.tigertopo_words.proofs.first_word.unread.Goals as goal

pub returns-else-may_be_use-clause-stops : goal.returns-else-may_be_use-clause-stops
returns-else-may_be_use-clause-stops g c = no_use (map g.S.AsStr.text c.args.words.now) (sym c.may_be_use.ensures ∙ c.if-may_be_use.false)
