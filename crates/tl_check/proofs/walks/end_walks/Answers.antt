use Rattle.std.proofs.Common.{subst}
use Rattle.tl_check.specs.Keeping.Parts.{Holds, AreWalksSoFar, TakesWalks, IsSearched, IsBehindSearch}
use Rattle.tl_check.proofs.Whole.{goes_on_with_nothing}
use Rattle.tl_check.proofs.walks.end_walks.Goals as goal

pub end-requires : goal.end-requires
end-requires c =
    let so : AreWalksSoFar c.args.map.now c.requires.held.0 c.in-Walking.walks c.in-Walking.left = subst (Holds c.args.map.now c.requires.held.0) c.in-Walking.is c.requires.held.1 in
    record { ready = so.ready }

pub returns-in-Ok-clause-ended : goal.returns-in-Ok-clause-ended
returns-in-Ok-clause-ended c = record {
  walked = λ cert held.
      let so : AreWalksSoFar c.args.map.now cert c.in-Walking.walks c.in-Walking.left = subst (Holds c.args.map.now cert) c.in-Walking.is held in
      let whole = c.in-Ok.ensures.whole cert.walks so.walked in
      record {
        valid = record { counts = so.founded.counts; tree = so.founded.tree; rounds = so.rounds; walks = whole.0 };
        planar = so.founded.planar;
        sides = so.sides;
        cells = so.founded.cells;
        counted = whole.1;
        no_more = so.no_more;
      };
  searched = λ n searched. subst (IsSearched c.args.map.now n) c.in-Walking.is searched;
}

pub returns-in-Ok-clause-faulty : goal.returns-in-Ok-clause-faulty
returns-in-Ok-clause-faulty c = tt

pub returns-in-Err-clause-ended : goal.returns-in-Err-clause-ended
returns-in-Err-clause-ended c = tt

pub returns-in-Err-clause-faulty : goal.returns-in-Err-clause-faulty
returns-in-Err-clause-faulty c = record {
  fault = λ cert held.
      let so : AreWalksSoFar c.args.map.now cert c.in-Walking.walks c.in-Walking.left = subst (Holds c.args.map.now cert) c.in-Walking.is held in
      c.in-Err.ensures.fault cert.walks so.walked;
  behind = λ behind of_darts. subst (IsBehindSearch c.args.map.now) c.in-Walking.is behind;
}

pub returns-in-Unrounded-clause-ended : goal.returns-in-Unrounded-clause-ended
returns-in-Unrounded-clause-ended c = tt

pub returns-in-Unrounded-clause-faulty : goal.returns-in-Unrounded-clause-faulty
returns-in-Unrounded-clause-faulty c = record {
  fault = λ cert held. subst (Holds c.args.map.now cert) c.in-Unrounded.is held;
  behind = λ behind of_darts. subst (IsBehindSearch c.args.map.now) c.in-Unrounded.is behind;
}

pub returns-in-Wrong-clause-ended : goal.returns-in-Wrong-clause-ended
returns-in-Wrong-clause-ended c = tt

pub returns-in-Wrong-clause-faulty : goal.returns-in-Wrong-clause-faulty
returns-in-Wrong-clause-faulty c = record {
  fault = λ cert held. (subst (Holds c.args.map.now cert) c.in-Wrong.is held) cert (goes_on_with_nothing cert);
  behind = subst (IsBehindSearch c.args.map.now) c.in-Wrong.is;
}

pub unreachable-requires : goal.unreachable-requires
unreachable-requires c = subst TakesWalks c.in-Rounding.is c.requires.takes
