use Rattle.std.proofs.Common.{◌≡◌, ◌+◌, ℕ, subst, arith}
use Rattle.std.proofs.lemmas.Option.{slice_get_within}
use Rattle.tl_check_planar.proofs.Numbering.{below_total}
use Rattle.tl_check_sweep.specs.Keeping.Pairs.{AreFreeBothWays}
use Rattle.tl_check_sweep.proofs.Freeing.{free_of_ends}
use Rattle.tl_check_sweep.proofs.suspects.meet_in_chain.Goals as goal

pub returns-then-s-segments-clause-none : goal.returns-then-s-segments-clause-none
returns-then-s-segments-clause-none c = λ none d k x l is end way.
    let few = below_total c.args.map.now.chains c.args.s d k is in
    let count = c.segments.ensures.count in
    let past = c.if-s-segments.true in
    absurd (omega (arith, few, count, past))

pub returns-in-None-clause-none : goal.returns-in-None-clause-none
returns-in-None-clause-none c = λ none.
    let chains = c.args.map.now.chains in
    let place = c.segment_chain-own.ensures in
    let within = slice_get_within chains c.segment_chain-own.result place.1.chain place.1.is in
    let next : c.saturating_add.result ≡ c.segment_chain-own.result + 1 = omega (arith, within, c.chains-chains.ensures, c.saturating_add.ensures) in
    let behind : ℕ = c.begin_of_chain-behind.result in
    free_of_ends chains c.has_proper_chains.ensures c.args.s c.segment_chain-own.result c.begin_of_chain.result c.begin_of_chain-behind.result place
    c.begin_of_chain.ensures.below c.begin_of_chain.ensures.above
    (λ x d k lt is. let d' = c.begin_of_chain-behind.ensures.below x d k lt is in omega (arith, d', next))
    (λ x d k le is. let d' = c.begin_of_chain-behind.ensures.above x d k le is in omega (arith, d', next))
    c.begin_of_chain-behind.ensures.within
    (c.meet_of.ensures.none c.in-None.is)
    (subst (AreFreeBothWays chains c.args.s) c.saturating_sub.ensures (c.meet_of-in-None.ensures.none none))
