use Rattle.tl_check.specs.Keeping.Parts.{Holds, TakesRounds, TakesWalks, IsSearched, IsBehindSearch}
use Rattle.tl_check.proofs.Prefixes.{first_rounds, first_walks}
use Rattle.tl_check.proofs.in_memory.check_whole.Given as goal

-- the state holds of the rounds so far
abbrev pub invariant-loop-round : goal.invariant-loop-round
invariant-loop-round l = record {
  holds : Holds l.map (first_rounds l.cert l.round-index) l.state;
  takes : TakesRounds l.state;
  searched : IsSearched l.map l.budget l.state;
  behind : IsBehindSearch l.map l.state;
}

-- the state holds of the walks so far
abbrev pub invariant-loop-walk : goal.invariant-loop-walk
invariant-loop-walk l = record {
  holds : Holds l.map (first_walks l.cert l.walk-index) l.state;
  takes : TakesWalks l.state;
  searched : IsSearched l.map l.budget l.state;
  behind : IsBehindSearch l.map l.state;
}
