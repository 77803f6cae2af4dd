use Rattle.std.proofs.Common.{sym, subst, refl}
use Rattle.std.proofs.lemmas.Bool.{iff_false}
use Rattle.tl_check_planar.specs.Keeping.Allowing.{IsRefused}
use Rattle.tl_check_planar.proofs.Pairs.{ends_free, ends_refused, crossing_refused}
use Rattle.tl_check_planar.proofs.pair.refused_point.Goals as goal

pub returns-then-has_point : goal.returns-then-has_point
returns-then-has_point c =
    ends_free c.args.s c.args.t c.args.allowed c.in-AtEnds.p ((c.contact.ensures.at_ends c.in-AtEnds.p).0 c.in-AtEnds.is) (c.has_point.ensures.0 c.if-has_point.true)

pub returns-then-has : goal.returns-then-has
returns-then-has c = c.refused_end.ensures c.in-Crossing.r c.in-Crossing.ensures.crossing (c.has.ensures.0 c.if-has.true)

pub returns-else-has : goal.returns-else-has
returns-else-has c =
    crossing_refused c.args.s c.args.t c.args.allowed c.in-Crossing.r c.in-Crossing.ensures.crossing (iff_false c.has.ensures c.if-has.false)

pub returns-in-Apart : goal.returns-in-Apart
returns-in-Apart c = λ r shared. absurd (c.in-Apart.ensures.apart.0 refl r shared)

pub returns-else-has_point : goal.returns-else-has_point
returns-else-has_point c =
    subst (IsRefused c.args.s c.args.t c.args.allowed) (sym c.from.ensures)
    (ends_refused c.args.s c.args.t c.args.allowed c.in-AtEnds.p ((c.contact.ensures.at_ends c.in-AtEnds.p).0 c.in-AtEnds.is) (iff_false c.has_point.ensures c.if-has_point.false))
