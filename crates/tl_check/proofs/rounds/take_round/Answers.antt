use Rattle.std.proofs.Common.{sym, subst}
use Rattle.tl_check_sides.specs.Rounds.{IsRoundFault}
use Rattle.tl_check.specs.Keeping.Parts.{Holds, AreRoundsSoFar, IsSearched, IsBehindSearch}
use Rattle.tl_check.proofs.Rounding.{round_laid, round_passed}
use Rattle.tl_check.proofs.rounds.take_round.Goals as goal

pub take-requires-clause-sized : goal.take-requires-clause-sized
take-requires-clause-sized c =
    let so : AreRoundsSoFar c.args.map.now c.requires.held.0 c.in-Rounding.rounds c.in-Rounding.left = subst (Holds c.args.map.now c.requires.held.0) c.in-Rounding.is c.requires.held.1 in
    so.sized

pub take-requires-clause-some : goal.take-requires-clause-some
take-requires-clause-some c = c.requires.some

pub returns-in-Ok : goal.returns-in-Ok
returns-in-Ok c = record {
  holds = λ cert held.
      let so : AreRoundsSoFar c.args.map.now cert c.in-Rounding.rounds c.in-Rounding.left = subst (Holds c.args.map.now cert) c.in-Rounding.is held in
      round_laid c.args.map.now cert c.args.round.now c.in-Rounding.rounds c.take.new.self c.in-Rounding.left c.take.ensures.sized (c.in-Ok.ensures.taken cert.rounds so.taken) so;
  takes = tt;
  searched = λ n searched. subst (IsSearched c.args.map.now n) c.in-Rounding.is searched;
  behind = λ behind. subst (IsBehindSearch c.args.map.now) c.in-Rounding.is behind;
}

pub returns-in-Err : goal.returns-in-Err
returns-in-Err c = record {
  holds = λ cert held d on.
      let so : AreRoundsSoFar c.args.map.now cert c.in-Rounding.rounds c.in-Rounding.left = subst (Holds c.args.map.now cert) c.in-Rounding.is held in
      subst (λ rounds. IsRoundFault c.args.map.now.chains rounds c.in-Err.fault) (sym on.rounds) (c.in-Err.ensures.fault cert.rounds on.more_rounds so.taken);
  takes = tt;
  searched = λ n searched. tt;
  behind = λ behind of_darts. subst (IsBehindSearch c.args.map.now) c.in-Rounding.is behind;
}

pub returns-in_default : goal.returns-in_default
returns-in_default c = round_passed c.args.map.now c.args.round.now c.args.state c.requires.takes c.in_default.not-Rounding
