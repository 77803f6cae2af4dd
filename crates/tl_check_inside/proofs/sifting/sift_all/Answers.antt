use Rattle.tl_check_inside.proofs.SiftLemmas.{holders_more, sifted_more, all_held, all_tell}
use Rattle.tl_check_inside.proofs.sifting.sift_all.Goals as goal

pub loop-place-preserved : goal.loop-place-preserved
loop-place-preserved c = record {
  held =
      holders_more c.args.map.now.chains c.args.point c.args.hits.now c.loop-place.held.items c.keep_if_holding.new.held.items c.loop-place.place c.loop-place.invariant.held
      c.in_ok-keep_if_holding.ensures;
  sifted =
      sifted_more c.args.map.now.chains c.args.point c.args.hits.now c.loop-place.crossed.items c.keep_if_crossed.new.crossed.items c.loop-place.place c.loop-place-test.true
      c.loop-place.invariant.sifted c.in_ok-keep_if_crossed.ensures;
}

pub returns-clause-all : goal.returns-clause-all
returns-clause-all c =
    all_held c.args.map.now.chains c.args.point c.args.hits.now c.loop-place.place c.loop-place-test.false c.requires.enough c.loop-place.held.items c.loop-place.invariant.held

pub returns-clause-tell : goal.returns-clause-tell
returns-clause-tell c =
    all_tell c.args.map.now.chains c.args.point c.args.hits.now c.loop-place.crossed.items c.loop-place.place c.loop-place-test.false c.loop-place.invariant.sifted c.requires.enough
