use Rattle.std.proofs.lemmas.Result.{err_from_is_err_and}
use Rattle.std.proofs.lemmas.List.{take_all}
use Rattle.std.proofs.Common.{◌≡◌, ◌-◌, ◌<◌, take, List, [], ◌+◌, length, ap, sym, refl, subst, arith}
use Rattle.tl_map_county.specs.Chains.{CompleteChain, segment_count}
use Rattle.tl_map_county.specs.Keeping.Numbered.{NumberUpTo}
use Rattle.tl_map_county.proofs.NumberLemmas.{number_none, number_more, points_told, several_told}
use Rattle.tl_map_county.proofs.segments.number_segments.Goals as goal

pub overflow_sub-count : goal.overflow_sub-count
overflow_sub-count c =
    let h = several_told c.args.chains.now.chains c.loop-c.c c.points.result.now (omega (arith, c.loop-c-test.true, c.len-c-end.ensures)) c.points.ensures c.requires in
    omega (arith, h)

pub loop-c-preserved : goal.loop-c-preserved
loop-c-preserved c =
    let d : CompleteChain = record { tlid = 0; points = [] } in
    let cs = c.args.chains.now.chains in
    let lt : c.loop-c.c < length cs = omega (arith, c.loop-c-test.true, c.len-c-end.ensures) in
    let points = points_told cs c.loop-c.c c.points.result.now lt c.points.ensures d in
    let old = c.loop-c.of.ok.0 in
    let long : length c.resize.new.self.items ≡ length c.loop-c.of.items + (length c.points.result.now - 1) = omega (arith, c.in_ok-resize.ensures.len, c.resize.new.self.ok.0, c.len.ensures, c.loop-c.of.ok.0) in
    number_more cs c.loop-c.c d c.loop-c.of.items c.resize.new.self.items (length c.points.result.now - 1) lt (ap (λ (ps : List _). length ps - 1) (sym points)) long
    (λ k e low. c.in_ok-resize.ensures.by_index.0 k e (omega (arith, low, c.len.ensures, old)) (omega (arith, low, old)))
    (λ k e low high. c.in_ok-resize.ensures.by_index.1 k e refl (omega (arith, low, old)) (omega (arith, high, long, c.len.ensures, old)))
    c.loop-c.invariant

pub returns : goal.returns
returns c =
    let cs = c.args.chains.now.chains in
    let whole : c.loop-c.c ≡ length c.args.chains.now.chains = omega (arith, c.loop-c-test.false, c.len-c-end.ensures, c.loop-c.auto.c-end) in
    let all : segment_count (take c.loop-c.c c.args.chains.now.chains) ≡ segment_count c.args.chains.now.chains = ap segment_count (take_all c.loop-c.c cs (omega (arith, whole))) in
    (subst (λ n. NumberUpTo c.args.chains.now.chains n c.loop-c.of.items) whole c.loop-c.invariant, omega (arith, c.loop-c.invariant.count, all, c.segments-total.ensures.count, c.segments-total.ensures.few))

pub returns-in_err-of : goal.returns-in_err-of
returns-in_err-of c =
    let p = err_from_is_err_and c.from_residual.result c.from_residual.ensures.1 in
    rw p.1 tt

pub returns-in_err-resize : goal.returns-in_err-resize
returns-in_err-resize c =
    let p = err_from_is_err_and c.from_residual-in_err-resize.result c.from_residual-in_err-resize.ensures.1 in
    rw p.1 tt

pub loop-c-init : goal.loop-c-init
loop-c-init c = number_none c.args.chains.now.chains _ c.in_ok-of.ensures.items
