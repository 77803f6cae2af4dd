use Rattle.std.proofs.Common.{◌≡◌, ◌*◌, ◌<◌, zero, length, ap, sym, subst, ◌∙◌, arith}
use Rattle.std.proofs.lemmas.Result.{err_from_is_err_and}
use Rattle.tl_tree_index.specs.Lists.{HoldsAll}
use Rattle.tl_check_sides.specs.Lists.{HoldOnce}
use Rattle.tl_build_propose.specs.Keeping.Lists.{darts_in, lists_in}
use Rattle.tl_build_propose.specs.Keeping.Following.{IsLinkedBy, GoesBy}
use Rattle.tl_build_propose.proofs.Holding.{dart_lists, held_once}
use Rattle.tl_build_propose.proofs.RingLemmas.{one_to_one, each_of, are_walks}
use Rattle.tl_build_propose.proofs.RoundLemmas.{are_rounds}
use Rattle.tl_build_propose.proofs.proposal.walks_of.Goals as goal

pub link_darts-requires-clause-all : goal.link_darts-requires-clause-all
link_darts-requires-clause-all c = rw c.deref.ensures.value (subst (λ n. HoldsAll n (darts_in c.args.starts.items)) (sym c.requires.long) c.requires.all)

pub link_darts-requires-clause-paired : goal.link_darts-requires-clause-paired
link_darts-requires-clause-paired c = let long = ap length c.deref.ensures.value in omega (arith, long, c.requires.long)

pub returns-clause-hold : goal.returns-clause-hold
returns-clause-hold c =
    let long : length c.deref-2.result.now ≡ 2 * length c.args.map.now.chains =
    ap length c.deref-2.ensures.value ∙ (c.in_ok-following.ensures.long ∙ ap length c.deref.ensures.value ∙ c.requires.long) in
    subst (λ n. HoldOnce n (lists_in c.in_ok-walks.walks.items)) long c.in_ok-walks.ensures.hold

pub returns-clause-are_walks : goal.returns-clause-are_walks
returns-clause-are_walks c = λ proper apart.
    let chains = c.args.map.now.chains in
    let m = length chains in
    let following = c.deref-2.result.now in
    let long : length following ≡ 2 * m = ap length c.deref-2.ensures.value ∙ (c.in_ok-following.ensures.long ∙ ap length c.deref.ensures.value ∙ c.requires.long) in
    let by : IsLinkedBy c.args.starts.items following = subst (λ starts. IsLinkedBy starts following) c.deref.ensures.value (subst (IsLinkedBy c.deref.result.now) (sym c.deref-2.ensures.value) c.in_ok-following.ensures.linked) in
    let hold : HoldOnce (2 * m) by.rounds = held_once (2 * m) by.rounds (darts_in c.args.starts.items) by.whole c.requires.all in
    let is = are_rounds chains c.nodes-nodes.ensures.0 c.nodes-nodes.ensures.1 c.args.starts.items c.requires.each by.rounds (by.cut c.requires.sorted) hold apart in
    let only = one_to_one m by.rounds following hold long by.linked in
    are_walks chains proper by.rounds is following long by.linked (lists_in c.in_ok-walks.walks.items) (returns-clause-hold c)
    (each_of (λ w. zero < length w) c.in_ok-walks.walks.items c.in_ok-walks.ensures.some)
    (each_of (GoesBy following) c.in_ok-walks.walks.items (c.in_ok-walks.ensures.goes only))

pub returns-clause-counted : goal.returns-clause-counted
returns-clause-counted c =
    let long : length c.deref-2.result.now ≡ length c.args.starts.items = ap length c.deref-2.ensures.value ∙ c.in_ok-following.ensures.long ∙ ap length c.deref.ensures.value in
    dart_lists c.in_ok-walks.walks.items c.in_ok-walks.ensures.some (omega (arith, long, c.in_ok-walks.ensures.counted, c.requires.few))

pub returns-in_err-following-clause-hold : goal.returns-in_err-following-clause-hold
returns-in_err-following-clause-hold c = let p = err_from_is_err_and c.from_residual.result c.from_residual.ensures.1 in rw p.1 tt

pub returns-in_err-following-clause-are_walks : goal.returns-in_err-following-clause-are_walks
returns-in_err-following-clause-are_walks c = let p = err_from_is_err_and c.from_residual.result c.from_residual.ensures.1 in rw p.1 tt

pub returns-in_err-following-clause-counted : goal.returns-in_err-following-clause-counted
returns-in_err-following-clause-counted c = let p = err_from_is_err_and c.from_residual.result c.from_residual.ensures.1 in rw p.1 tt

pub returns-in_err-walks-clause-hold : goal.returns-in_err-walks-clause-hold
returns-in_err-walks-clause-hold c = let p = err_from_is_err_and c.from_residual-in_err-walks.result c.from_residual-in_err-walks.ensures.1 in rw p.1 tt

pub returns-in_err-walks-clause-are_walks : goal.returns-in_err-walks-clause-are_walks
returns-in_err-walks-clause-are_walks c = let p = err_from_is_err_and c.from_residual-in_err-walks.result c.from_residual-in_err-walks.ensures.1 in rw p.1 tt

pub returns-in_err-walks-clause-counted : goal.returns-in_err-walks-clause-counted
returns-in_err-walks-clause-counted c = let p = err_from_is_err_and c.from_residual-in_err-walks.result c.from_residual-in_err-walks.ensures.1 in rw p.1 tt
