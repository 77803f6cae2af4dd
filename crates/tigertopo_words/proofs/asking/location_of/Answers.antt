use Rattle.std.proofs.Common.{Option, List, ℕ, refl, sym, subst}
use Rattle.tigertopo_words.specs.Arguments.{IsPlace}
use Rattle.tigertopo_words.proofs.asking.location_of.Goals as goal

pub returns-in-Some : goal.returns-in-Some
returns-in-Some c =
    let place = c.given.ensures in
    (refl, subst (λ (given : Option (List ℕ)). IsPlace given c.in-Some.point) place c.in-Some.ensures)

pub returns-in-None : goal.returns-in-None
returns-in-None c = λ needs.
    let place = c.given.ensures in
    c.in-None.ensures needs.0 (subst (λ (given : Option (List ℕ)). IsPlace given needs.0) (sym place) needs.1)
