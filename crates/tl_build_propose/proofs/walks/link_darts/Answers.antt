use Rattle.std.proofs.Common.{◌≡◌, ◌%◌, ◌<◌, All, length, ap, sym, ◌∙◌, subst, arith}
use Rattle.std.proofs.lemmas.Result.{err_from_is_err_and}
use Rattle.tl_tree_index.specs.Lists.{HoldsAll}
use Rattle.tl_build_propose.specs.Keeping.Following.{IsLinkedBy}
use Rattle.tl_build_propose.specs.Keeping.Lists.{darts_in}
use Rattle.tl_build_propose.proofs.LinkLemmas.{written}
use Rattle.tl_build_propose.proofs.walks.link_darts.Goals as goal

pub link_rounds-requires-clause-all : goal.link_rounds-requires-clause-all
link_rounds-requires-clause-all c =
    let long : length c.args.starts.now ≡ length c.deref_mut.result.now = let one = c.deref_mut.ensures.len in let other = c.in_ok-following.ensures.len in omega (arith, one, other) in
    subst (λ n. HoldsAll n (darts_in c.args.starts.now)) long c.requires.all

pub link_rounds-requires-clause-paired : goal.link_rounds-requires-clause-paired
link_rounds-requires-clause-paired c =
    let long : length c.args.starts.now ≡ length c.deref_mut.result.now = let one = c.deref_mut.ensures.len in let other = c.in_ok-following.ensures.len in omega (arith, one, other) in
    subst (λ n. n % 2 ≡ 0) long c.requires.paired

pub returns-in_err-following-clause-long : goal.returns-in_err-following-clause-long
returns-in_err-following-clause-long c = let p = err_from_is_err_and c.from_residual.result c.from_residual.ensures.1 in rw p.1 tt

pub returns-in_err-following-clause-known : goal.returns-in_err-following-clause-known
returns-in_err-following-clause-known c = let p = err_from_is_err_and c.from_residual.result c.from_residual.ensures.1 in rw p.1 tt

pub returns-in_err-following-clause-linked : goal.returns-in_err-following-clause-linked
returns-in_err-following-clause-linked c = let p = err_from_is_err_and c.from_residual.result c.from_residual.ensures.1 in rw p.1 tt

pub returns-clause-long : goal.returns-clause-long
returns-clause-long c =
    let new = c.link_rounds.new.following in
    let one = c.deref_mut.ensures.len in
    let other = c.in_ok-following.ensures.len in
    let long = c.link_rounds.ensures.long in
    let e = ap length (written c.in_ok-following.following.len new c.in_ok-following.following.items (long ∙ one) (ap length (sym c.deref_mut.ensures.value) ∙ one)) in
    omega (arith, e, one, other, long)

pub returns-clause-known : goal.returns-clause-known
returns-clause-known c =
    let new = c.link_rounds.new.following in
    let one = c.deref_mut.ensures.len in
    let long : length c.deref_mut.result.now ≡ length c.args.starts.now = let other = c.in_ok-following.ensures.len in omega (arith, one, other) in
    let e = written c.in_ok-following.following.len new c.in_ok-following.following.items (c.link_rounds.ensures.long ∙ one) (ap length (sym c.deref_mut.ensures.value) ∙ one) in
    subst (All (λ d. d < length c.args.starts.now)) (sym e) (subst (λ n. All (λ d. d < n) new) long c.link_rounds.ensures.kept)

pub returns-clause-linked : goal.returns-clause-linked
returns-clause-linked c =
    let new = c.link_rounds.new.following in
    let one = c.deref_mut.ensures.len in
    let e = written c.in_ok-following.following.len new c.in_ok-following.following.items (c.link_rounds.ensures.long ∙ one) (ap length (sym c.deref_mut.ensures.value) ∙ one) in
    subst (IsLinkedBy c.args.starts.now) (sym e) c.link_rounds.ensures.linked
