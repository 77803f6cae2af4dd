use Rattle.std.proofs.Common.{arith, map, refl}
use Rattle.tigertopo_pictures.proofs.SvgLemmas.FillLemmas.{around_more, around_all}
use Rattle.tigertopo_pictures.proofs.svg.filled.around_walks.Goals as goal

pub loop-at-init : goal.loop-at-init
loop-at-init c ns goes = record { rest = ns; goes = goes; is = refl }

pub loop-at-preserved : goal.loop-at-preserved
loop-at-preserved c ns goes =
    rw (c.next-at.ensures.next, c.around_darts-rect.ensures, c.walk_at.ensures.walk)
    (around_more c.args.map.now.chains (map (λ w. w.items) c.args.walks.now) c.args.rings.now.next c.loop-at.at ns c.loop-at.rect (omega (arith, c.loop-at-test.true, c.items.ensures)) (c.loop-at.invariant ns goes))

pub returns : goal.returns
returns c ns goes =
    around_all c.args.map.now.chains (map (λ w. w.items) c.args.walks.now) c.args.rings.now.next c.loop-at.at ns c.loop-at.rect (omega (arith, c.loop-at-test.false, c.items.ensures)) (c.loop-at.invariant ns goes)
