use Rattle.std.proofs.Common.{arith}
use Rattle.tl_build_propose.proofs.CutLemmas.{one_run, run_apart}
use Rattle.tl_build_propose.proofs.rounds.first_round.Goals as goal

pub returns : goal.returns
returns c =
    let some = c.run_end.ensures.from in
    record {
      some = omega (arith, some);
      within = c.run_end.ensures.within;
      together = one_run c.args.starts.now c.index-starts-0.result c.key.result c.run_end.result c.requires c.index-starts-0.is c.key.ensures c.run_end.ensures.same;
      apart = run_apart c.args.starts.now c.index-starts-0.result c.key.result c.run_end.result c.requires c.index-starts-0.is c.key.ensures c.run_end.ensures.same some c.run_end.ensures.stops;
    }
