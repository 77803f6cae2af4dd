use Rattle.std.proofs.Common.{◌<◌, length, ap, ◌∙◌, sym, arith}
use Rattle.std.proofs.lemmas.List.{map_more, take_all}
use Rattle.std.proofs.lemmas.Result.{err_from_is_err_and}
use Rattle.tl_map_rules.specs.declared.entry.SidesEntry.{SidesEntry}
use Rattle.tl_map.specs.Keeping.Sided.{sides_tlids}
use Rattle.tl_map.proofs.PairLemmas.{no_sides}
use Rattle.tl_map.proofs.left.tlids_of_sides.Goals as goal

pub loop-place-init : goal.loop-place-init
loop-place-init c = c.in_ok-made.ensures.items

pub loop-place-preserved : goal.loop-place-preserved
loop-place-preserved c =
    let lt : c.loop-place.place < length c.args.sides.now = omega (arith, c.loop-place-test.true, c.len-count.ensures) in
    rw (c.in_ok-push.ensures.items, c.loop-place.invariant, c.get.ensures no_sides) (sym (map_more (λ (s : SidesEntry). s.tlid) c.args.sides.now c.loop-place.place no_sides lt))

pub returns : goal.returns
returns c = c.loop-place.invariant ∙ ap sides_tlids (take_all c.loop-place.place c.args.sides.now (omega (arith, c.loop-place-test.false, c.len-count.ensures)))

pub returns-in_err-made : goal.returns-in_err-made
returns-in_err-made c = let p = err_from_is_err_and c.from_residual.result c.from_residual.ensures.1 in rw p.1 tt

pub returns-in_err-push : goal.returns-in_err-push
returns-in_err-push c = let p = err_from_is_err_and c.from_residual-in_err-push.result c.from_residual-in_err-push.ensures.1 in rw p.1 tt
