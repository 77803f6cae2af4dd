use Rattle.std.proofs.Common.{List, Option, ℕ, refl, subst}
use Rattle.tigertopo_words.specs.Arguments.{IsSwitch}
use Rattle.tigertopo_words.proofs.TableLemmas.{others_faced}
use Rattle.tigertopo_words.proofs.arguments.are_faced.Goals as goal

pub returns-in-Border : goal.returns-in-Border
returns-in-Border c = rw c.in-Border.is (λ right. refl, λ same. refl)

pub returns-in_default : goal.returns-in_default
returns-in_default c =
    subst (λ (given : Option (List ℕ)). IsSwitch given c.is_on.result) (others_faced c.args.named.now _ c.in_default.not-Border) c.is_on.ensures
