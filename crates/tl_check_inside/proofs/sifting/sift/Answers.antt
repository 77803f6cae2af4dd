use Rattle.std.proofs.Common.{sym, ◌∙◌}
use Rattle.std.proofs.lemmas.Bool.{false≢true}
use Rattle.std.proofs.lemmas.Result.{err_from_is_err_and}
use Rattle.tl_check_inside.proofs.SiftLemmas.{off_more, sifted_more, held_by, none_holds, all_tell}
use Rattle.tl_check_inside.proofs.sifting.sift.Goals as goal

pub returns-clause-held : goal.returns-clause-held
returns-clause-held c = none_holds c.args.map.now.chains c.args.point c.args.hits.now c.loop-place.place c.loop-place-test.false c.requires.enough c.loop-place.invariant.off

pub returns-clause-tell : goal.returns-clause-tell
returns-clause-tell c = all_tell c.args.map.now.chains c.args.point c.args.hits.now c.loop-place.crossed.items c.loop-place.place c.loop-place-test.false c.loop-place.invariant.sifted c.requires.enough

pub returns-then-is_holding-clause-held : goal.returns-then-is_holding-clause-held
returns-then-is_holding-clause-held c =
    held_by c.args.map.now.chains c.args.point _ c.segment_chain.result c.segment_chain.ensures.0 (c.is_holding.ensures.0 c.if-is_holding.true) c.segment_chain.ensures.1

pub loop-place-preserved : goal.loop-place-preserved
loop-place-preserved c = record {
  off =
      off_more c.args.map.now.chains c.args.point c.args.hits.now c.loop-place.place c.loop-place.invariant.off
      (λ h. false≢true (sym c.if-is_holding.false ∙ c.is_holding.ensures.1 h));
  sifted =
      sifted_more c.args.map.now.chains c.args.point c.args.hits.now c.loop-place.crossed.items c.keep_if_crossed.new.crossed.items c.loop-place.place c.loop-place-test.true c.loop-place.invariant.sifted
      c.in_ok-keep_if_crossed.ensures;
}

pub returns-in_err-keep_if_crossed-clause-held : goal.returns-in_err-keep_if_crossed-clause-held
returns-in_err-keep_if_crossed-clause-held c = let p = err_from_is_err_and c.from_residual.result c.from_residual.ensures.1 in rw p.1 tt

pub returns-in_err-keep_if_crossed-clause-tell : goal.returns-in_err-keep_if_crossed-clause-tell
returns-in_err-keep_if_crossed-clause-tell c = let p = err_from_is_err_and c.from_residual.result c.from_residual.ensures.1 in rw p.1 tt

pub returns-then-is_holding-clause-tell : goal.returns-then-is_holding-clause-tell
returns-then-is_holding-clause-tell c = tt

pub is_holding-requires : goal.is_holding-requires
is_holding-requires c = c.requires.enough.known c.loop-place.place _ c.loop-place-test.true

pub segment_chain-requires : goal.segment_chain-requires
segment_chain-requires c = c.requires.enough.known c.loop-place.place _ c.loop-place-test.true

pub keep_if_crossed-requires : goal.keep_if_crossed-requires
keep_if_crossed-requires c = c.requires.enough.known c.loop-place.place _ c.loop-place-test.true
