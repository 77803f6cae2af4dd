use Rattle.std.proofs.Common.{sym, subst}
use Rattle.tl_check_sides.specs.Walks.{IsWalkFault}
use Rattle.tl_check.specs.Keeping.Parts.{Holds, AreWalksSoFar, IsSearched, IsBehindSearch}
use Rattle.tl_check.proofs.Walking.{walk_laid, walk_passed}
use Rattle.tl_check.proofs.walks.take_walk.Goals as goal

pub take-requires-clause-ready : goal.take-requires-clause-ready
take-requires-clause-ready c =
    let so : AreWalksSoFar c.args.map.now c.requires.held.0 c.in-Walking.walks c.in-Walking.left = subst (Holds c.args.map.now c.requires.held.0) c.in-Walking.is c.requires.held.1 in
    so.ready

pub take-requires-clause-some : goal.take-requires-clause-some
take-requires-clause-some c = c.requires.some

pub returns-in-Ok : goal.returns-in-Ok
returns-in-Ok c = record {
  holds = λ cert held.
      let so : AreWalksSoFar c.args.map.now cert c.in-Walking.walks c.in-Walking.left = subst (Holds c.args.map.now cert) c.in-Walking.is held in
      walk_laid c.args.map.now cert c.args.walk.now c.in-Walking.walks c.take.new.self c.in-Walking.left c.in-Ok.ensures.ready (c.in-Ok.ensures.taken cert.walks so.walked) so;
  takes = tt;
  searched = λ n searched. subst (IsSearched c.args.map.now n) c.in-Walking.is searched;
  behind = λ behind. subst (IsBehindSearch c.args.map.now) c.in-Walking.is behind;
}

pub returns-in-Err : goal.returns-in-Err
returns-in-Err c = record {
  holds = λ cert held d on.
      let so : AreWalksSoFar c.args.map.now cert c.in-Walking.walks c.in-Walking.left = subst (Holds c.args.map.now cert) c.in-Walking.is held in
      subst (λ walks. IsWalkFault c.args.map.now.chains walks c.in-Err.fault) (sym on.walks) (c.in-Err.ensures.fault cert.walks on.more_walks so.walked);
  takes = tt;
  searched = λ n searched. tt;
  behind = λ behind of_darts. subst (IsBehindSearch c.args.map.now) c.in-Walking.is behind;
}

pub returns-in_default : goal.returns-in_default
returns-in_default c = walk_passed c.args.map.now c.args.walk.now c.args.state c.requires.takes c.in_default.not-Walking
