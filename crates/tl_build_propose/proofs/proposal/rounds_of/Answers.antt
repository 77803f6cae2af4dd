use Rattle.std.proofs.Common.{◌≡◌, length, ap, ◌∙◌, ◌*◌, arith}
use Rattle.std.proofs.lemmas.List.{length-map}
use Rattle.std.proofs.lemmas.Result.{err_from_is_err_and}
use Rattle.tl_check_faces.proofs.CrossingsLemmas.Apart.{apart}
use Rattle.tl_check_sides.specs.declared.headed.HeadedDart.{HeadedDart}
use Rattle.tl_build_propose.specs.Keeping.Lists.{darts_in, lists_in}
use Rattle.tl_build_propose.proofs.ListLemmas.{all_in}
use Rattle.tl_build_propose.proofs.Holding.{held_once, dart_lists}
use Rattle.tl_build_propose.proofs.RoundLemmas.{are_rounds}
use Rattle.tl_build_propose.proofs.proposal.rounds_of.Goals as goal

pub returns-clause-hold : goal.returns-clause-hold
returns-clause-hold c =
    held_once (2 * length c.args.map.now.chains) (lists_in c.in_ok-rounds.rounds.items) (darts_in c.args.starts.now) c.in_ok-rounds.ensures.whole c.requires.all

pub returns-clause-are_rounds : goal.returns-clause-are_rounds
returns-clause-are_rounds c = λ proper planar.
    let chains = c.args.map.now.chains in
    are_rounds chains c.nodes.ensures.0 c.nodes.ensures.1 c.args.starts.now c.requires.each (lists_in c.in_ok-rounds.rounds.items) (c.in_ok-rounds.ensures.cut c.requires.sorted)
    (returns-clause-hold c) (apart chains planar proper)

pub returns-clause-counted : goal.returns-clause-counted
returns-clause-counted c =
    let long : length (all_in c.in_ok-rounds.rounds.items) ≡ length c.args.starts.now =
    ap length c.in_ok-rounds.ensures.whole ∙ length-map c.args.starts.now (λ (s : HeadedDart). s.dart) in
    dart_lists c.in_ok-rounds.rounds.items c.in_ok-rounds.ensures.some (omega (arith, long, c.requires.few))

pub returns-in_err-rounds-clause-hold : goal.returns-in_err-rounds-clause-hold
returns-in_err-rounds-clause-hold c = let p = err_from_is_err_and c.from_residual.result c.from_residual.ensures.1 in rw p.1 tt

pub returns-in_err-rounds-clause-are_rounds : goal.returns-in_err-rounds-clause-are_rounds
returns-in_err-rounds-clause-are_rounds c = let p = err_from_is_err_and c.from_residual.result c.from_residual.ensures.1 in rw p.1 tt

pub returns-in_err-rounds-clause-counted : goal.returns-in_err-rounds-clause-counted
returns-in_err-rounds-clause-counted c = let p = err_from_is_err_and c.from_residual.result c.from_residual.ensures.1 in rw p.1 tt
