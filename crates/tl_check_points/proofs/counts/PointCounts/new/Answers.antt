use Rattle.std.proofs.Common.{rules, ◌≡◌, None, replicate, All, refl, sym, subst}
use Rattle.std.proofs.lemmas.List.Elements.{All-replicate}
use Rattle.tl_check_points.proofs.Parted.{none_in}
use Rattle.tl_check_points.proofs.counts.PointCounts.new.Goals as goal

pub returns-clause-none : goal.returns-clause-none
returns-clause-none c =
    let parts = c.in_ok-parts.parts.items in
    let none : parts ≡ replicate c.args.points None = c.in_ok-parts.ensures.items_if_clones_equal (λ part e. search rules) in
    none_in _ parts (subst (All (λ part. part ≡ None)) (sym none) (All-replicate (λ part. part ≡ None) c.args.points None refl))
