use Rattle.std.proofs.Common.{map, arith, refl}
use Rattle.tigertopo_pictures.proofs.GeojsonLemmas.HoleLemmas.{look_on, look_end}
use Rattle.tigertopo_pictures.proofs.geojson.holes.innermost.Goals as goal

pub loop-at-init : goal.loop-at-init
loop-at-init c = record {
  way = λ ns goes. rw c.next-at.ensures.next (record { rest = ns; goes = goes; whole = refl });
  within = c.requires.first;
}

pub loop-at-preserved : goal.loop-at-preserved
loop-at-preserved c = record {
  way = λ ns goes. rw (c.next-at-in-loop-at.ensures.next, c.closer-found.ensures.found)
      (look_on c.args.map.now.chains (map (λ w. w.items) c.args.walks.now) c.args.q c.args.first c.args.outers.now.next c.loop-at.at ns c.loop-at.found (omega (arith, c.loop-at-test.true, c.items.ensures))
      (c.loop-at.invariant.way ns goes));
  within = c.closer-found.ensures.within;
}

pub returns-clause-found : goal.returns-clause-found
returns-clause-found c ns goes =
    look_end c.args.map.now.chains (map (λ w. w.items) c.args.walks.now) c.args.q c.args.first c.args.outers.now.next c.loop-at.at ns c.loop-at.found (omega (arith, c.loop-at-test.false, c.items.ensures))
    (c.loop-at.invariant.way ns goes)
