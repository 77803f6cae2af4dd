use Rattle.std.proofs.Common.{arith, ◌∙◌}
use Rattle.std.proofs.lemmas.Result.{err_from_is_err_and}
use Rattle.tl_check_points.proofs.ListingLemmas.Joined.{copied_more, none_sifted, sifted_more, sifted_next, sifted_all}
use Rattle.tl_check_points.proofs.listing.beside.suspects_beside.Goals as goal

pub loop-p-init : goal.loop-p-init
loop-p-init g c = record {
  more = copied_more c.args.map.now c.args.part.now c.in_ok-suspects.suspects.items c.requires.part (c.in_ok-suspects.ensures ∙ c.deref.ensures.value);
  sifted = none_sifted c.args.map.now c.args.taken.now c.in_ok-suspects.suspects.items;
}

pub loop-p-preserved : goal.loop-p-preserved
loop-p-preserved g c = record {
  more = sifted_more c.args.map.now c.args.taken.now c.args.part.now.suspects.items c.loop-p.suspects.items c.sift.new.suspects.items c.loop-p.p _ c.polygon.ensures c.loop-p.invariant.more c.in_ok-sift.ensures;
  sifted = sifted_next c.args.map.now c.args.taken.now c.loop-p.suspects.items c.sift.new.suspects.items c.loop-p.p _ c.polygon.ensures c.loop-p.invariant.sifted c.in_ok-sift.ensures;
}

pub returns : goal.returns
returns g c = sifted_all c.args.map.now c.args.part.now c.args.taken.now c.loop-p.suspects.items c.loop-p.p c.requires.part c.requires.taken c.has_proper_chains.ensures c.loop-p.invariant.more c.loop-p.invariant.sifted
    (omega (arith, c.polygons-p-end.ensures, c.loop-p-test.false))

pub returns-in_err-room : goal.returns-in_err-room
returns-in_err-room g c = let p = err_from_is_err_and c.from_residual.result c.from_residual.ensures.1 in rw p.1 tt

pub returns-in_err-suspects : goal.returns-in_err-suspects
returns-in_err-suspects g c = let p = err_from_is_err_and c.from_residual-in_err-suspects.result c.from_residual-in_err-suspects.ensures.1 in rw p.1 tt

pub returns-in_err-sift : goal.returns-in_err-sift
returns-in_err-sift g c = let p = err_from_is_err_and c.from_residual-in_err-sift.result c.from_residual-in_err-sift.ensures.1 in rw p.1 tt
