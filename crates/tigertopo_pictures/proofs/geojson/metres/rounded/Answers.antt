use Rattle.std.proofs.Common.{arith}
use Rattle.tigertopo_pictures.proofs.GeojsonLemmas.MetresLemmas.{taken_apart}
use Rattle.tigertopo_pictures.proofs.geojson.metres.rounded.Goals as goal

pub returns : goal.returns
returns c = taken_apart c.args.size c.args.degree 10000000000000000 20000000000000000 (omega arith)
