use Rattle.std.proofs.Common.{◌≡◌, ◌*◌, length, ap, sym, subst, ◌∙◌, arith}
use Rattle.tl_tree_index.specs.Lists.{HoldsAll}
use Rattle.tl_check_sides.specs.Lists.{HoldOnce}
use Rattle.tl_build_propose.specs.Keeping.Lists.{darts_in}
use Rattle.tl_build_propose.specs.Keeping.Following.{IsLinkedBy}
use Rattle.tl_build_propose.proofs.CountLemmas.{told_of}
use Rattle.tl_build_propose.proofs.Holding.{held_once}
use Rattle.tl_build_propose.proofs.RoundLemmas.{are_rounds}
use Rattle.tl_build_propose.proofs.proposal.count_walks_of.Goals as goal

pub link_darts-requires-clause-all : goal.link_darts-requires-clause-all
link_darts-requires-clause-all c = rw c.deref.ensures.value (subst (λ n. HoldsAll n (darts_in c.args.starts.items)) (sym c.requires.long) c.requires.all)

pub link_darts-requires-clause-paired : goal.link_darts-requires-clause-paired
link_darts-requires-clause-paired c = let long = ap length c.deref.ensures.value in omega (arith, long, c.requires.long)

pub count_traced-requires-clause-darts : goal.count_traced-requires-clause-darts
count_traced-requires-clause-darts c = ap length c.deref-2.ensures.value ∙ (c.in_ok-following.ensures.long ∙ ap length c.deref.ensures.value ∙ c.requires.long)

pub returns : goal.returns
returns c =
    let chains = c.args.map.now.chains in
    let m = length chains in
    let following = c.deref-2.result.now in
    let long : length following ≡ 2 * m = ap length c.deref-2.ensures.value ∙ (c.in_ok-following.ensures.long ∙ ap length c.deref.ensures.value ∙ c.requires.long) in
    let by : IsLinkedBy c.args.starts.items following = subst (λ starts. IsLinkedBy starts following) c.deref.ensures.value (subst (IsLinkedBy c.deref.result.now) (sym c.deref-2.ensures.value) c.in_ok-following.ensures.linked) in
    let hold : HoldOnce (2 * m) by.rounds = held_once (2 * m) by.rounds (darts_in c.args.starts.items) by.whole c.requires.all in
    told_of chains following by.rounds long by.linked hold
    (λ apart. are_rounds chains c.nodes-nodes.ensures.0 c.nodes-nodes.ensures.1 c.args.starts.items c.requires.each by.rounds (by.cut c.requires.sorted) hold apart)
    c.count_traced.result c.count_traced.ensures
