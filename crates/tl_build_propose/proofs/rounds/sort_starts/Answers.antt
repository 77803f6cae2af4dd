use Rattle.std.proofs.lemmas.Result.{IfOk-weaker}
use Rattle.tl_build_propose.proofs.StartLemmas.{are_starts}
use Rattle.tl_build_propose.proofs.rounds.sort_starts.Goals as goal

pub returns : goal.returns
returns c = IfOk-weaker c.sort_darts.result _ _ (λ darts are. are_starts c.args.map.now.chains darts.items are) c.sort_darts.ensures
