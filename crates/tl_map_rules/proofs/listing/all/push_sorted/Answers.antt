use Rattle.std.proofs.Common.{refl}
use Rattle.std.proofs.lemmas.Result.{err_from_is_err_and}
use Rattle.tl_map_rules.proofs.ListingLemmas.ChainLemmas.{tlid_order}
use Rattle.tl_map_rules.proofs.ListingLemmas.PartLemmas.{told_sorted, shape_order}
use Rattle.tl_map_rules.proofs.listing.all.push_sorted.Goals as goal

pub push_chains-requires-clause-chains : goal.push_chains-requires-clause-chains
push_chains-requires-clause-chains c = rw c.requires.chain_tlids (tlid_order c.args.chains.now c.requires.chains)

pub push_chains-requires-clause-tlids : goal.push_chains-requires-clause-tlids
push_chains-requires-clause-tlids c = rw c.requires.shape_tlids (shape_order c.args.shapes.now c.requires.shapes)

pub returns-then-joined : goal.returns-then-joined
returns-then-joined c = λ rs sorted.
    told_sorted rs c.args.chains.now c.args.shapes.now c.args.chain_tlids.now c.args.shape_tlids.now c.in_ok-joined.joined _ _ _ sorted c.requires.shapes c.requires.chain_tlids c.requires.shape_tlids
    (c.in_ok-joined.ensures rs) c.in_ok-push_points.ensures (rw c.if-joined.true c.count_segments.ensures)

pub returns-else-joined : goal.returns-else-joined
returns-else-joined c = λ rs sorted.
    told_sorted rs c.args.chains.now c.args.shapes.now c.args.chain_tlids.now c.args.shape_tlids.now c.in_ok-joined.joined _ _ _ sorted c.requires.shapes c.requires.chain_tlids c.requires.shape_tlids
    (c.in_ok-joined.ensures rs) c.in_ok-push_points.ensures (rw c.if-joined.false refl)

pub returns-in_err-joined : goal.returns-in_err-joined
returns-in_err-joined c = λ rs sorted. let p = err_from_is_err_and c.from_residual.result c.from_residual.ensures.1 in rw p.1 tt

pub returns-in_err-push_points : goal.returns-in_err-push_points
returns-in_err-push_points c = λ rs sorted. let p = err_from_is_err_and c.from_residual-in_err-push_points.result c.from_residual-in_err-push_points.ensures.1 in rw p.1 tt

pub push_points-requires : goal.push_points-requires
push_points-requires c = record { chains = c.requires.chains; shapes = c.requires.shapes }

pub count_segments-requires : goal.count_segments-requires
count_segments-requires c = record { chains = c.requires.chains; shapes = c.requires.shapes }

pub push_chains-requires-clause-none : goal.push_chains-requires-clause-none
push_chains-requires-clause-none c = c.requires.none

pub push_chains-requires-clause-shapes : goal.push_chains-requires-clause-shapes
push_chains-requires-clause-shapes c = c.requires.shapes
