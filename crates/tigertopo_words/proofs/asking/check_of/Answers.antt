use Rattle.std.proofs.Common.{Option, List, ℕ, refl, sym, subst}
use Rattle.tigertopo_words.specs.Arguments.{IsBudget}
use Rattle.tigertopo_words.proofs.ArgumentLemmas.{word_given}
use Rattle.tigertopo_words.proofs.asking.check_of.Goals as goal

pub returns-in_default : goal.returns-in_default
returns-in_default c = λ needs.
    let tests = c.given.ensures in
    c.in_default.ensures needs.1.0 (subst (λ (given : Option (List ℕ)). IsBudget given needs.1.0) (sym tests) needs.1.1)

pub returns-in-Some-2 : goal.returns-in-Some-2
returns-in-Some-2 c =
    let tests = c.given.ensures in (
      refl,
      record {
        by = word_given c.in_ok-cert.field-0 _ c.in-Some-2.cert c.in_ok-cert.ensures c.in-Some-2.is;
        tests = subst (λ (given : Option (List ℕ)). IsBudget given c.in-Some.budget) tests c.in-Some.ensures;
      },
    )
