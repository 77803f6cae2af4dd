use Rattle.std.proofs.Common.{sym, ap, subst, ◌∙◌, refl}
use Rattle.tl_check_planar.specs.ByHeight.Heights.{widest}
use Rattle.tl_check_faces.specs.Odd.{IsNamedWest}
use Rattle.tl_map_county.specs.declared.sides.Side.TheVariants.{Outside}
use Rattle.tl_check_planar.specs.Keeping.Apart.{one_found}
use Rattle.tl_check_gaps.specs.Keeping.Facing.{last_far, raised}
use Rattle.tl_check_gaps.proofs.Counts.{far_of_last, none_before}
use Rattle.tl_check_gaps.proofs.facing.far_of.Goals as goal

pub returns-in_ok-find_flanks-in-Some-clause-side : goal.returns-in_ok-find_flanks-in-Some-clause-side
returns-in_ok-find_flanks-in-Some-clause-side c = λ side front e is.
    sym (one_found _ _ _ refl e) ∙ ap (λ f. f.far) (c.in_ok-find_flanks-in-Some.ensures.flanks _ refl)
    ∙ sym (far_of_last (raised c.args.map.now.chains) Outside front c.in-Some.s (sym is ∙ c.in-Some.is))

pub returns-in-None-clause-side : goal.returns-in-None-clause-side
returns-in-None-clause-side c = λ side front e is.
    sym (one_found _ _ _ refl e) ∙ ap (last_far (raised c.args.map.now.chains) Outside) (sym (none_before front (sym is ∙ c.in-None.is)))

pub returns-in_err-find_flanks-in-Some-clause-named : goal.returns-in_err-find_flanks-in-Some-clause-named
returns-in_err-find_flanks-in-Some-clause-named c =
    rw c.from_residual.ensures (λ side named.
    let own = subst (λ o. IsNamedWest widest c.args.map.now.chains o side) c.in-Some.is named in
    c.in_err-find_flanks-in-Some.ensures.named own.segment own.is)
