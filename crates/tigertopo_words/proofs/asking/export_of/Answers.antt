use Rattle.std.proofs.Common.{Option, List, ℕ, refl, sym, subst}
use Rattle.tigertopo_words.specs.Arguments.{IsLayer}
use Rattle.tigertopo_words.proofs.ArgumentLemmas.{word_given}
use Rattle.tigertopo_words.proofs.asking.export_of.Goals as goal

pub returns-in_default : goal.returns-in_default
returns-in_default c = λ needs.
    let layer = c.given.ensures in
    c.in_default.ensures needs.1.0 (subst (λ (given : Option (List ℕ)). IsLayer given needs.1.0) (sym layer) needs.1.1)

pub returns-in-Some-2 : goal.returns-in-Some-2
returns-in-Some-2 c =
    let layer = c.given.ensures in (
      refl,
      record {
        to = word_given c.in_ok-made.field-0 _ c.in-Some-2.made c.in_ok-made.ensures c.in-Some-2.is;
        of = subst (λ (given : Option (List ℕ)). IsLayer given c.in-Some.layer) layer c.in-Some.ensures;
      },
    )
