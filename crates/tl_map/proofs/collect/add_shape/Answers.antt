use Rattle.std.proofs.Common.{◌≡◌, ◌-◌, ◌≤◌, ap, length, arith}
use Rattle.std.proofs.lemmas.List.{length-append}
use Rattle.tl_map_rules.specs.ChainsOf.{used}
use Rattle.tl_map.proofs.CollectLemmas.{AreShapeEntries-push, summaries_push, length-used}
use Rattle.tl_map.proofs.collect.add_shape.Goals as goal

pub overflow_cast-used : goal.overflow_cast-used
overflow_cast-used c =
    let few : c.len.result - c.len-first.result ≤ 10 = omega (arith, c.len.ensures, c.len-first.ensures, c.append_used.new.pool.ok.0, c.args.pool.now.ok.0, ap length c.in_ok-fill.ensures.points, length-append c.args.pool.now.items (used c.args.pairs.now), length-used c.args.pairs.now, c.told-pairs) in
    omega (arith, few)

pub returns-clause-entries : goal.returns-clause-entries
returns-clause-entries c = λ rs h.
    let many : c.len.result - c.len-first.result ≡ length (used c.args.pairs.now) = omega (arith, c.len.ensures, c.len-first.ensures, c.append_used.new.pool.ok.0, c.args.pool.now.ok.0, ap length c.in_ok-fill.ensures.points, length-append c.args.pool.now.items (used c.args.pairs.now)) in
    rw c.in_ok-push.ensures.items
    (AreShapeEntries-push rs c.args.pool.now.items c.append_used.new.pool.items c.args.shapes.now.items c.args.tlid c.args.rtsq c.len-first.result (c.len.result - c.len-first.result) c.in_ok-fill.fill c.args.pairs.now
    c.in_ok-fill.ensures.points (omega (arith, c.len-first.ensures, c.args.pool.now.ok.0)) many c.in_ok-fill.ensures.fill h)

pub returns-clause-summaries : goal.returns-clause-summaries
returns-clause-summaries c = λ inside.
    let many : c.len.result - c.len-first.result ≡ length (used c.args.pairs.now) = omega (arith, c.len.ensures, c.len-first.ensures, c.append_used.new.pool.ok.0, c.args.pool.now.ok.0, ap length c.in_ok-fill.ensures.points, length-append c.args.pool.now.items (used c.args.pairs.now)) in
    rw c.in_ok-push.ensures.items
    (summaries_push c.args.pool.now.items c.append_used.new.pool.items c.args.shapes.now.items c.args.tlid c.args.rtsq c.len-first.result (c.len.result - c.len-first.result) c.in_ok-fill.fill c.args.pairs.now
    c.in_ok-fill.ensures.points (omega (arith, c.len-first.ensures, c.args.pool.now.ok.0)) many c.in_ok-fill.ensures.fill inside)
