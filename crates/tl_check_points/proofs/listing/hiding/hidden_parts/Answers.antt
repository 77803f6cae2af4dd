use Rattle.std.proofs.Common.{◌≡◌, length, subst, arith}
use Rattle.std.proofs.lemmas.Result.{err_from_is_err_and}
use Rattle.tl_check_points.specs.Listing.Hidden.{IsMarked}
use Rattle.tl_check_points.specs.Listing.Keeping.Hiding.{ArePartsBefore}
use Rattle.tl_check_points.proofs.ListingLemmas.HidingLemmas.{none_put, one_put, room_before, room_after, number_fits}
use Rattle.tl_check_points.proofs.listing.hiding.hidden_parts.Goals as goal

pub loop-c-init : goal.loop-c-init
loop-c-init c =
    none_put (IsMarked c.args.marks.now) c.args.map.now c.in_ok-points.points.items c.in_ok-rows.rows.items c.in_ok-sides.sides c.in_ok-points.ensures.items
    c.in_ok-rows.ensures.items c.in_ok-sides.ensures

pub push_row-requires-clause-room : goal.push_row-requires-clause-room
push_row-requires-clause-room c =
    let long = c.loop-c.invariant.long in
    let room = room_before c.args.map.now c.loop-c.c _ _ _ _ c.chain-chain.ensures.chain in
    let several = c.chain-chain.ensures.points.several in
    let few = c.segments-segments.ensures.few in
    let test = c.loop-c-test.true in
    omega (arith, long, room, several, few, c.segments-segments.ensures.count, test, c.chains-count.ensures, c.requires)

pub push-requires-clause-left : goal.push-requires-clause-left
push-requires-clause-left c = number_fits c.args.map.now c.hidden.result c.polygons-polygons.ensures c.polygons-polygons.type_inv (c.hidden.ensures.among _ c.chain-chain.ensures.left)

pub push-requires-clause-right : goal.push-requires-clause-right
push-requires-clause-right c =
    number_fits c.args.map.now c.hidden-in-loop-c.result c.polygons-polygons.ensures c.polygons-polygons.type_inv (c.hidden-in-loop-c.ensures.among _ c.chain-chain.ensures.right)

pub loop-c-preserved : goal.loop-c-preserved
loop-c-preserved c =
    one_put (IsMarked c.args.marks.now) c.args.map.now c.loop-c.c c.chain-chain.result.tlid c.chain-chain.result.points.now c.chain-chain.result.left c.chain-chain.result.right _
    c.loop-c.points.items c.push_row.new.points.items c.loop-c.rows.items c.push_row.new.rows.items c.loop-c.sides c.push.new.self
    c.chain-chain.ensures.chain c.chain-chain.ensures.points c.hidden.ensures.alike c.hidden-in-loop-c.ensures.alike
    (record { left = c.hidden.ensures.among _ c.chain-chain.ensures.left; right = c.hidden-in-loop-c.ensures.among _ c.chain-chain.ensures.right })
    c.in_ok-push_row.ensures c.in_ok-push.ensures c.loop-c.invariant

pub returns-clause-parts : goal.returns-clause-parts
returns-clause-parts c =
    let past = c.loop-c-test.false in
    subst (λ n. ArePartsBefore (IsMarked c.args.marks.now) c.args.map.now n c.loop-c.points.items c.loop-c.rows.items c.loop-c.sides)
    (let at : c.loop-c.c ≡ length c.args.map.now.chains = omega (arith, past, c.chains-count.ensures, c.loop-c.auto.c-end) in at) c.loop-c.invariant

pub returns-clause-segments : goal.returns-clause-segments
returns-clause-segments c =
    let long = c.loop-c.invariant.long in
    let count = c.loop-c.invariant.count in
    let less = room_after c.args.map.now c.loop-c.c in
    let few = c.segments-segments.ensures.few in
    omega (arith, long, count, less, few, c.segments-segments.ensures.count)

pub returns-in_err-rows : goal.returns-in_err-rows
returns-in_err-rows c = let p = err_from_is_err_and c.from_residual.result c.from_residual.ensures.1 in rw p.1 (record { parts = tt; segments = tt })

pub returns-in_err-points : goal.returns-in_err-points
returns-in_err-points c = let p = err_from_is_err_and c.from_residual-in_err-points.result c.from_residual-in_err-points.ensures.1 in rw p.1 (record { parts = tt; segments = tt })

pub returns-in_err-sides : goal.returns-in_err-sides
returns-in_err-sides c = let p = err_from_is_err_and c.from_residual-in_err-sides.result c.from_residual-in_err-sides.ensures.1 in rw p.1 (record { parts = tt; segments = tt })

pub returns-in_err-push_row : goal.returns-in_err-push_row
returns-in_err-push_row c = let p = err_from_is_err_and c.from_residual-in_err-push_row.result c.from_residual-in_err-push_row.ensures.1 in rw p.1 (record { parts = tt; segments = tt })

pub returns-in_err-push : goal.returns-in_err-push
returns-in_err-push c = let p = err_from_is_err_and c.from_residual-in_err-push.result c.from_residual-in_err-push.ensures.1 in rw p.1 (record { parts = tt; segments = tt })
