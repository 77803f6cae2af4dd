use Rattle.std.proofs.Common.{◌<◌, length}
use Rattle.std.proofs.lemmas.List.{length-map}
use Rattle.tl_map_county.specs.Chains.{CompleteChain}
use Rattle.tl_map_county.proofs.RowLemmas.{row_read}
use Rattle.tl_map_county.proofs.chains.Chains.tlid.Goals as goal

pub returns : goal.returns
returns c =
    let within : c.args.c < length c.self.inside.rows.items = simp length-map at (rw (← c.self.view_is) at c.requires) in
    rw (← c.self.view_is) (row_read (λ (chain : CompleteChain). chain.tlid) c.self.inside.points.items c.self.inside.rows.items c.args.c c.index.result.now within c.index.ensures)
