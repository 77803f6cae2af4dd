use Rattle.tigertopo_system_files.proofs.FrontLemmas.{may_be_left_by_front}
use Rattle.tigertopo_system_files.proofs.front.is_unfinished.Goals as goal

pub returns : goal.returns
returns g c = may_be_left_by_front (g.T.Read.remaining c.args.file.now) c.args.size c.args.kind c.in_ok-front.front.now c.may_be_left.result c.in_ok-front.ensures c.may_be_left.ensures
