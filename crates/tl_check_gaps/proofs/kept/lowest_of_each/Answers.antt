use Rattle.std.proofs.Common.{subst}
use Rattle.std.proofs.lemmas.Result.{IfOk-weaker}
use Rattle.tl_check_gaps.specs.Keeping.Kept.{AreKept}
use Rattle.tl_check_gaps.proofs.Keeping.{lowest}
use Rattle.tl_check_gaps.proofs.kept.lowest_of_each.Goals as goal

pub returns : goal.returns
returns c =
    IfOk-weaker c.keep_one_each.result _ _
    (λ kept are. lowest c.args.gaps.items c.sort_gaps.new.gaps.items kept.items c.in_ok-sort_gaps.ensures.moved
    (subst (λ gaps. AreKept gaps kept.items) c.deref.ensures.value are))
    c.keep_one_each.ensures
