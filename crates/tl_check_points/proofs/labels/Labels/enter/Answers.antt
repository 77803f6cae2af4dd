use Rattle.std.proofs.Common.{length, sym, subst, refl, ◌∷◌, arith}
use Rattle.tl_check_planar.specs.Keeping.Apart.{one_found}
use Rattle.tl_check_points.specs.Keeping.Ways.{TellGap, AreKept}
use Rattle.tl_check_points.proofs.Treed.{kept_more, told_more}
use Rattle.tl_check_points.proofs.labels.Labels.enter.Goals as goal

pub returns-clause-kept : goal.returns-clause-kept
returns-clause-kept c =
    subst (AreKept _ c.args.self.now.gaps.items) (sym c.in_ok-push.ensures.items) (kept_more _ c.args.self.now.gaps.items _)

pub returns-clause-told : goal.returns-clause-told
returns-clause-told c = λ g e flanks told.
    subst (λ f. TellGap (length c.args.map.now.polygons) c.push.new.self.items g (f ∷ flanks)) c.in-Some.ensures.flanks
    (told_more _ c.args.self.now.gaps.items c.push.new.self.items _ g flanks c.in_ok-push.ensures.items
    (let same = one_found c.len-gap.result g _ refl e in omega (arith, same, c.len-gap.ensures, c.args.self.now.gaps.ok.0)) (omega arith) c.in-Some.ensures.among told)
