use Rattle.std.proofs.Common.{sym, subst}
use Rattle.tl_check_planar.specs.Keeping.Allowing.{IsRefused}
use Rattle.tl_check_planar.proofs.Pairs.{crossing_free, overlap_refused}
use Rattle.tl_check_planar.proofs.pair.refused_end.Goals as goal

pub returns-in-Some : goal.returns-in-Some
returns-in-Some c =
    λ m crossing h. subst (λ q. IsRefused c.args.s c.args.t c.args.allowed q) (sym c.from.ensures)
    (overlap_refused c.args.s c.args.t c.args.allowed m c.in-Some.o c.other_end.result c.in-Some.ensures.overlap crossing h c.other_end.ensures)

pub returns-in-None : goal.returns-in-None
returns-in-None c = λ m crossing h. crossing_free c.args.s c.args.t c.args.allowed m c.in-None.ensures.none crossing h
