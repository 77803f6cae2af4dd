use Rattle.std.proofs.Common.{Some, sym, ap, ◌∙◌}
use Rattle.tigertopo_words.proofs.ArgumentLemmas.{not_given, is_given}
use Rattle.tigertopo_words.proofs.arguments.word_of.Goals as goal

pub returns-in_ok-from_str-in-Some : goal.returns-in_ok-from_str-in-Some
returns-in_ok-from_str-in-Some c = ap Some c.in_ok-from_str-in-Some.ensures.ok ∙ sym (is_given c.given.result _ c.in-Some.word c.given.ensures c.in-Some.is)

pub returns-in-None : goal.returns-in-None
returns-in-None c = sym (not_given c.given.result _ c.given.ensures c.in-None.is)
