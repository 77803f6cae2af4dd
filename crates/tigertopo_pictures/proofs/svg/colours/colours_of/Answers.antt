use Rattle.std.proofs.Common.{arith}
use Rattle.std.proofs.lemmas.Result.{err_from_is_err_and}
use Rattle.tigertopo_pictures.proofs.SvgLemmas.ColourLemmas.{marked_none, one_marked}
use Rattle.tigertopo_pictures.proofs.svg.colours.colours_of.Goals as goal

pub loop-polygon-init : goal.loop-polygon-init
loop-polygon-init c = rw (c.new-colours.ensures.items, c.new-marks.ensures.items) (marked_none c.args.map.now.chains)

pub loop-polygon-preserved : goal.loop-polygon-preserved
loop-polygon-preserved c =
    let marked = rw c.as_slice-in-loop-polygon.ensures.value at c.mark_taken.ensures.marked in
    let taken = rw c.as_slice-in-loop-polygon.ensures.value at c.mark_taken.ensures.taken in
    one_marked c.args.map.now.chains c.loop-polygon.polygon c.loop-polygon.colours.items c.loop-polygon.marks.items c.mark_taken.new.marks.items c.add_colour.new.colours.items c.add_colour.new.marks.items
    c.loop-polygon.invariant (omega (arith, c.mark_taken.ensures.len)) marked (λ k within same. taken k (omega (arith, within)) same)
    (λ k within. c.mark_taken.ensures.bound k (omega (arith, within))) c.in_ok-add_colour.ensures

pub returns-in_err-lefts : goal.returns-in_err-lefts
returns-in_err-lefts c = let p = err_from_is_err_and c.from_residual.result c.from_residual.ensures.1 in rw p.1 tt

pub returns-in_err-darts : goal.returns-in_err-darts
returns-in_err-darts c = let p = err_from_is_err_and c.from_residual-in_err-darts.result c.from_residual-in_err-darts.ensures.1 in rw p.1 tt

pub returns-in_err-add_colour : goal.returns-in_err-add_colour
returns-in_err-add_colour c = let p = err_from_is_err_and c.from_residual-in_err-add_colour.result c.from_residual-in_err-add_colour.ensures.1 in rw p.1 tt
