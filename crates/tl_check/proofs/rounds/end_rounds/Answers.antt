use Rattle.std.proofs.Common.{sym, subst}
use Rattle.tl_check.specs.Keeping.Parts.{Holds, Leads}
use Rattle.tl_check.proofs.Rounding.{ended_before}
use Rattle.tl_check.proofs.rounds.end_rounds.Goals as goal

pub begin_walks-requires : goal.begin_walks-requires
begin_walks-requires c = record { held = (c.requires.held.0, subst (Holds c.args.map.now c.requires.held.0) c.in-Rounding.is c.requires.held.1) }

pub returns-in-Rounding : goal.returns-in-Rounding
returns-in-Rounding c = subst (λ old. Leads c.args.map.now (λ cert. cert) old c.begin_walks.result) (sym c.in-Rounding.is) c.begin_walks.ensures

pub returns-in_default : goal.returns-in_default
returns-in_default c = ended_before c.args.map.now c.args.state c.in_default.not-Rounding
