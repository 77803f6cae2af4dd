use Rattle.std.proofs.Common.{◌≡◌, ◌+◌, ◌++◌, ◌<◌, List, [], length, take, ap, subst, ◌∙◌, arith}
use Rattle.std.proofs.lemmas.List.{take_all}
use Rattle.std.proofs.lemmas.List.Elements.{All-get_or}
use Rattle.tl_check_active.specs.declared.events.Event.{Event}
use Rattle.tl_check_active.specs.Events.{AreMet, joined, one_or_two}
use Rattle.tl_check_gaps.specs.Keeping.Vertices.{AreInOrderUpTo, IsInOrderAt}
use Rattle.tl_check_active.proofs.Joining.{before_further, none_joined}
use Rattle.tl_check_sweep.proofs.Pushing.{pushed_all, first_all, last_before_place}
use Rattle.tl_check_gaps.proofs.Found.{vertices_tested, no_event}
use Rattle.tl_check_sweep.proofs.meets.meet_at_vertex.Goals as goal

pub returns-then-len-eq0-clause-none : goal.returns-then-len-eq0-clause-none
returns-then-len-eq0-clause-none c = λ h.
    let none = ap length (none_joined c.args.events.now (omega (arith, c.if-len-eq0.true, c.len.ensures))) in
    vertices_tested c.args.map.now.chains (joined c.args.events.now) (λ k d lt. absurd (omega (arith, lt, none))) c.requires.events c.requires.wide no_event c.requires.proper

pub loop-k-init : goal.loop-k-init
loop-k-init c =
    let chains = c.args.map.now.chains in
    let some : 0 < length c.args.events.now = omega (arith, c.if-len-eq0.false, c.len.ensures) in
    let first : joined (take 1 c.args.events.now) ≡ one_or_two c.at-first.result.0 c.at-first.result.1 = before_further c.args.events.now 0 [] some ∙ c.at-first.ensures.events [] in
    let met = subst (AreMet chains) (c.at-first.ensures.events []) (All-get_or (AreMet chains) c.args.events.now 0 [] some c.requires.met) in
    rw first (first_all chains c.at-first.result.0 c.at-first.result.1 met c.at-first.ensures.level)

pub loop-k-preserved : goal.loop-k-preserved
loop-k-preserved c =
    let chains = c.args.map.now.chains in
    let lt : c.loop-k.k < length c.args.events.now = omega (arith, c.loop-k-test.true, c.len-k-end.ensures) in
    let events : List Event = joined (take c.loop-k.k c.args.events.now) in
    let order : IsInOrderAt chains c.args.events.now c.loop-k.k = c.meet_before.ensures.none c.in-None.is in
    let more : joined (take (c.loop-k.k + 1) c.args.events.now) ≡ joined (take c.loop-k.k c.args.events.now) ++ one_or_two order.first order.second =
    before_further c.args.events.now c.loop-k.k [] lt ∙ ap (λ g. joined (take c.loop-k.k c.args.events.now) ++ g) order.are in
    let met = subst (AreMet chains) order.are (All-get_or (AreMet chains) c.args.events.now c.loop-k.k [] lt c.requires.met) in
    rw more
    (pushed_all chains events order.last order.first order.second c.loop-k.invariant
    (last_before_place c.args.events.now c.loop-k.k order.last (omega arith) (omega (arith, lt)) order.is_last) order.order met order.level)

pub returns-clause-none : goal.returns-clause-none
returns-clause-none c = λ h.
    let all : joined (take c.loop-k.k c.args.events.now) ≡ joined c.args.events.now = ap joined (take_all c.loop-k.k c.args.events.now (omega (arith, c.loop-k-test.false, c.len-k-end.ensures))) in
    vertices_tested c.args.map.now.chains (joined c.args.events.now) (subst (λ es. AreInOrderUpTo c.args.map.now.chains (length es) es) all c.loop-k.invariant)
    c.requires.events c.requires.wide no_event c.requires.proper
