use Rattle.std.proofs.Common.{◌≡◌, ◌+◌, ◌-◌, ◌<◌, ◌≤◌, get_or, length, take, sym, ◌∙◌, arith}
use Rattle.std.proofs.lemmas.Option.{slice_get-get_or, get_or_from_slice_get}
use Rattle.std.proofs.lemmas.List.{get_or_default}
use Rattle.std.proofs.lemmas.List.Sums.{sum_by_more, sum_by-take-le}
use Rattle.tl_map_county.specs.Chains.{CompleteChain, segment_count}
use Rattle.tl_map_county.proofs.RemainingLemmas.{no_chain, no_sides, has_number, none_remain, one_taken, one_kept, all_remain}
use Rattle.tl_map_county.proofs.without.remaining_chains.Goals as goal

pub loop-c-init : goal.loop-c-init
loop-c-init c =
    none_remain c.args.marks.now c.args.chains.now.chains c.args.sides.now c.requires.paired c.args.polygons c.in_ok-points.points.items c.in_ok-rows.rows.items
    c.in_ok-rest.rest c.in_ok-points.ensures.items c.in_ok-rows.ensures.items c.in_ok-rest.ensures

pub loop-c-preserved-then-is_marked : goal.loop-c-preserved-then-is_marked
loop-c-preserved-then-is_marked c =
    let lt : c.loop-c.c < length c.args.chains.now.chains = omega (arith, c.loop-c-test.true, c.len-count.ensures) in
    one_taken c.args.marks.now c.args.chains.now.chains c.args.sides.now c.requires.paired c.args.polygons c.loop-c.c lt
    (get_or c.args.sides.now c.loop-c.c no_sides) (get_or_default c.args.sides.now c.loop-c.c no_sides _ (omega (arith, lt, c.requires.paired)))
    c.loop-c.points.items c.loop-c.rows.items c.loop-c.rest (sym c.is_marked.ensures ∙ c.if-is_marked.true) c.loop-c.invariant

pub add_chain-requires-clause-few : goal.add_chain-requires-clause-few
add_chain-requires-clause-few c = λ chain is.
    let cs = c.args.chains.now.chains in
    let lt : c.loop-c.c < length cs = omega (arith, c.loop-c-test.true, c.len-count.ensures) in
    let here = get_or_from_slice_get cs c.loop-c.c chain chain is in
    let more : segment_count (take (c.loop-c.c + 1) cs) ≡ segment_count (take c.loop-c.c cs) + (length chain.points - 1) =
    rw here at (sum_by_more (λ (k : CompleteChain). length k.points - 1) cs c.loop-c.c chain lt) in
    let all : segment_count (take (c.loop-c.c + 1) cs) ≤ segment_count cs = sum_by-take-le (λ (k : CompleteChain). length k.points - 1) cs (c.loop-c.c + 1) in
    let room = c.loop-c.invariant.room in
    omega (arith, room, more, all, c.segments.ensures.count, c.segments.ensures.few)

pub push-requires-clause-left : goal.push-requires-clause-left
push-requires-clause-left c =
    let lt : c.loop-c.c < length c.args.sides.now = omega (arith, c.loop-c-test.true, c.len-count.ensures, c.requires.paired) in
    let among = rw (← c.get.ensures no_sides) at (c.requires.among c.loop-c.c no_sides lt) in
    has_number c.args.polygons c.get.result.left c.ranges.polygons.fits among.left

pub push-requires-clause-right : goal.push-requires-clause-right
push-requires-clause-right c =
    let lt : c.loop-c.c < length c.args.sides.now = omega (arith, c.loop-c-test.true, c.len-count.ensures, c.requires.paired) in
    let among = rw (← c.get.ensures no_sides) at (c.requires.among c.loop-c.c no_sides lt) in
    has_number c.args.polygons c.get.result.right c.ranges.polygons.fits among.right

pub loop-c-preserved : goal.loop-c-preserved
loop-c-preserved c =
    let cs = c.args.chains.now.chains in
    let lt : c.loop-c.c < length cs = omega (arith, c.loop-c-test.true, c.len-count.ensures) in
    one_kept c.args.marks.now cs c.args.sides.now c.requires.paired c.args.polygons c.loop-c.c lt c.get.result (c.get.ensures _)
    c.loop-c.points.items c.loop-c.rows.items c.loop-c.rest c.add_chain.new.points.items c.add_chain.new.rows.items c.push.new.self
    (sym c.is_marked.ensures ∙ c.if-is_marked.false) (c.requires.proper c.loop-c.c no_chain lt)
    (rw (← c.get.ensures no_sides) at (c.requires.among c.loop-c.c no_sides (omega (arith, lt, c.requires.paired))))
    (c.in_ok-add_chain.ensures (get_or cs c.loop-c.c no_chain) (slice_get-get_or cs c.loop-c.c no_chain lt)) c.in_ok-push.ensures c.loop-c.invariant

pub returns-clause-are : goal.returns-clause-are
returns-clause-are c =
    rw c.new.ensures
    (all_remain c.args.marks.now c.args.chains.now.chains c.args.sides.now c.requires.paired c.args.polygons c.loop-c.c c.loop-c.points.items c.loop-c.rows.items
    c.loop-c.rest (omega (arith, c.loop-c-test.false, c.len-count.ensures)) c.loop-c.invariant)
