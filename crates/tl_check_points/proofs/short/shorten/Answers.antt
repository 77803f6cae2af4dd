use Rattle.std.proofs.Common.{Vec, Global, sym, ap, subst}
use Rattle.tl_check_inside.specs.declared.flanks.Flanks.{Flanks}
use Rattle.tl_check_points.specs.Keeping.Balances.{HaveOneBalance}
use Rattle.tl_check_points.proofs.short.shorten.Goals as goal

pub returns-clause-one : goal.returns-clause-one
returns-clause-one c =
    subst (λ l. HaveOneBalance l c.args.journal.now.items) (sym (ap (λ (v : Vec Flanks Global). v.items) c.swap.ensures.x_after))
    (subst (λ l. HaveOneBalance c.settle_all.new.short.items l) c.deref-2.ensures.value c.in_ok-settle_all.ensures.one)
