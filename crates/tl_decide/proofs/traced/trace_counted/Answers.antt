use Rattle.std.proofs.Common.{subst}
use Rattle.std.specs.Prelude.{MatchOption}
use Rattle.tl_check_sides.specs.Sides.{SidesAgree}
use Rattle.tl_build_propose.specs.Keeping.Counted.{HaveWalksInAgreement}
use Rattle.tl_decide.proofs.Decisions.{counted_alone}
use Rattle.tl_decide.proofs.traced.trace_counted.Goals as goal

pub returns-in-Ok-Some : goal.returns-in-Ok-Some
returns-in-Ok-Some c =
    let chains = c.args.map.now.chains in
    counted_alone c.args.map.now (record { rings = c.in-Ok-Some.rings; walks = c.new.result })
    (subst (λ told. MatchOption told (¬ SidesAgree chains) (HaveWalksInAgreement chains)) c.in-Ok-Some.field-0-is
    (c.in-Ok-Some.ensures c.has_proper_chains.ensures c.requires))
