use Rattle.std.proofs.Common.{◌≡◌, ◌+◌, ◌*◌, length, refl, subst, arith}
use Rattle.tl_map_county.specs.Keeping.Noded.{start_in}
use Rattle.tl_map_county.proofs.NumberLemmas.{several_told}
use Rattle.tl_map_county.proofs.NodeLemmas.{Told, starts_told, told_more, told_whole}
use Rattle.tl_map_county.proofs.nodes.dart_starts.Goals as goal

pub point_along-first-requires : goal.point_along-first-requires
point_along-first-requires c =
    let h = several_told c.args.chains.now.chains c.loop-c.c c.points-points.result.now (omega (arith, c.loop-c-test.true, c.len-c-end.ensures)) c.points-points.ensures c.requires in
    omega (arith, h)

pub point_along-last-requires : goal.point_along-last-requires
point_along-last-requires c =
    let h = several_told c.args.chains.now.chains c.loop-c.c c.points-points.result.now (omega (arith, c.loop-c-test.true, c.len-c-end.ensures)) c.points-points.ensures c.requires in
    omega (arith, h)

pub loop-c-preserved : goal.loop-c-preserved
loop-c-preserved c =
    let start = start_in c.args.chains.now.chains in
    let dart = 2 * c.loop-c.c in
    let told = starts_told c.args.chains.now.chains c.loop-c.c c.points-points.result.now c.point_along-first.result c.point_along-last.result
    c.points-points.ensures c.point_along-first.ensures c.point_along-last.ensures in
    let one = told_more start dart c.loop-c.starts.items _ refl told.0 c.loop-c.invariant in
    let both = told_more start (dart + 1) c.push.new.self.items _ refl told.1 (rw c.in_ok-push.ensures.items one) in
    let more : dart + 1 + 1 ≡ 2 * (c.loop-c.c + 1) = omega arith in
    subst (λ n. Told start n c.push-in-loop-c.new.self.items) more (rw c.in_ok-push-2.ensures.items both)

pub returns-clause-starts : goal.returns-clause-starts
returns-clause-starts c =
    let whole : c.loop-c.c ≡ length c.args.chains.now.chains = omega (arith, c.loop-c-test.false, c.loop-c.auto.c-end, c.len-c-end.ensures) in
    told_whole (start_in c.args.chains.now.chains) _ _ (rw whole at c.loop-c.invariant)
