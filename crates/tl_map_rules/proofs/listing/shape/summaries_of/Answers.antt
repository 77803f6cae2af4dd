use Rattle.std.proofs.Common.{◌≡◌, ◌+◌, ◌-◌, drop, take, map, ap, ◌∙◌, sym, get_or, arith}
use Rattle.std.proofs.lemmas.List.{map_more, take_all}
use Rattle.std.proofs.lemmas.Result.{err_from_is_err_and}
use Rattle.tl_map_rules.specs.declared.entry.ShapeEntry.{ShapeEntry}
use Rattle.tl_map_rules.specs.declared.entry.Fill.TheVariants.{Full}
use Rattle.tl_map_rules.specs.Listing.Shapes.{summary_in, entry_points}
use Rattle.tl_map_rules.proofs.listing.shape.summaries_of.Goals as goal

pub loop-shape-init : goal.loop-shape-init
loop-shape-init c = c.in_ok-made.ensures.items

pub loop-shape-preserved : goal.loop-shape-preserved
loop-shape-preserved c =
    let d : ShapeEntry = record { tlid = 0; first = 0; rtsq = 0; used = 0; fill = Full } in
    let x : ShapeEntry = get_or c.args.shapes.now c.loop-shape.shape-index d in
    let cut : take (x.first + c.from.result - x.first) (drop x.first c.args.pool.now) ≡ entry_points c.args.pool.now x = ap (λ n. take n (drop x.first c.args.pool.now)) (omega (arith, c.from.ensures)) in
    rw (c.in_ok-push.ensures.items, c.loop-shape.invariant, c.seen_by.ensures, cut) (sym (map_more (summary_in c.args.pool.now) c.args.shapes.now c.loop-shape.shape-index d c.loop-shape-test.true))

pub returns : goal.returns
returns c = c.loop-shape.invariant ∙ ap (map (summary_in c.args.pool.now)) (take_all c.loop-shape.shape-index c.args.shapes.now c.loop-shape-test.false)

pub returns-in_err-made : goal.returns-in_err-made
returns-in_err-made c = let p = err_from_is_err_and c.from_residual.result c.from_residual.ensures.1 in rw p.1 tt

pub returns-in_err-push : goal.returns-in_err-push
returns-in_err-push c = let p = err_from_is_err_and c.from_residual-in_err-push.result c.from_residual-in_err-push.ensures.1 in rw p.1 tt
