use Rattle.std.proofs.Common.{subst, rules}
use Rattle.tigertopo_words.specs.Spelling.{MaySpell}
use Rattle.tigertopo_words.proofs.BudgetLemmas.{no_number, is_read, not_read}
use Rattle.tigertopo_words.proofs.budget.number_of.Goals as goal

pub returns-then-not-may_spell : goal.returns-then-not-may_spell
returns-then-not-may_spell c =
    let other : MaySpell c.as_bytes.result.now → ⊥ = search rules in
    no_number c.args.text.now (subst (λ bytes. MaySpell bytes → ⊥) c.as_bytes.ensures.value other)

pub returns-in-Ok : goal.returns-in-Ok
returns-in-Ok c =
    let may : MaySpell c.as_bytes.result.now = search rules in
    is_read c.args.text.now c.in-Ok.number c.parse.result (subst MaySpell c.as_bytes.ensures.value may) c.parse.ensures.value.0 c.in-Ok.is

pub returns-in-Err : goal.returns-in-Err
returns-in-Err c = not_read c.args.text.now c.in-Err.field-0 c.parse.result c.parse.ensures.value.0 c.in-Err.is
