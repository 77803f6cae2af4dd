use Rattle.tigertopo_system_files.proofs.FrontLemmas.{may_go_by_front}
use Rattle.tigertopo_system_files.proofs.front.is_of_kind.Goals as goal

pub returns : goal.returns
returns g c = may_go_by_front (g.T.Read.remaining c.args.file.now) c.args.size c.args.kind c.in_ok-front.front.now c.may_go.result c.in_ok-front.ensures c.may_go.ensures
