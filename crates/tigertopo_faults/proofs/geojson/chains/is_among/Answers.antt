use Rattle.tigertopo_faults.proofs.GeojsonLemmas.ChainLemmas.{among_found}
use Rattle.tigertopo_faults.proofs.geojson.chains.is_among.Goals as goal

pub returns : goal.returns
returns c = rw c.is_ok.ensures.value (among_found c.args.tlids.now c.args.tlid c.binary_search.result c.requires c.binary_search.ensures.position)
