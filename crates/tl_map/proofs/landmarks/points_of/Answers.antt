use Rattle.std.proofs.Common.{◌∙◌, ℕ, Option, None, ◌++◌, ◌∷◌, [], take, sym, ap, arith}
use Rattle.std.proofs.lemmas.Option.{slice_get-get_or, get_or_from_slice_get}
use Rattle.tl_geom.specs.declared.point.Point.{Point}
use Rattle.tl_map.proofs.LinkedLemmas.{take_more}
use Rattle.tl_map.proofs.landmarks.points_of.Goals as goal

pub unreachable-requires : goal.unreachable-requires
unreachable-requires c =
    let none = rw c.in-None.is at c.get_index.ensures.entry in
    let some = slice_get-get_or c.args.firsts.now.entries c.loop-number.number (0, None) (omega (arith, c.loop-number-test.true, c.len-count.ensures.len)) in
    cc

pub loop-number-preserved : goal.loop-number-preserved
loop-number-preserved c =
    let x : ℕ × Option Point = (0, None) in
    let e : ℕ × Option Point = (c.in-Some.land.now, c.in-Some.point.now) in
    let at = get_or_from_slice_get c.args.firsts.now.entries c.loop-number.number e x (sym (rw c.in-Some.is at c.get_index.ensures.entry)) in
    c.in_ok-push-in-Some.ensures.items ∙ ap (λ ps. ps ++ e ∷ []) c.loop-number.invariant
    ∙ ap (λ y. take c.loop-number.number c.args.firsts.now.entries ++ y ∷ []) (sym at)
    ∙ sym (take_more c.args.firsts.now.entries c.loop-number.number x (omega (arith, c.loop-number-test.true, c.len-count.ensures.len)))
