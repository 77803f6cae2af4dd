use Rattle.std.proofs.Common.{List, Option, ℕ, subst}
use Rattle.tigertopo_words.specs.Arguments.{IsSwitch}
use Rattle.tigertopo_words.proofs.arguments.switch_of.Goals as goal

pub returns : goal.returns
returns c = subst (λ (value : Option (List ℕ)). IsSwitch value c.is_set.result) c.given.ensures c.is_set.ensures
