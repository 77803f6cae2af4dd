use Rattle.std.proofs.Common.{◌<◌, length, map}
use Rattle.tl_map.specs.Keeping.Kept.{kept_in}
use Rattle.tl_map.proofs.KeptLemmas.{tlid_of}
use Rattle.tl_map.proofs.kept.KeptSides.tlid.Goals as goal

pub returns : goal.returns
returns c =
    let within : c.args.place < length (map (kept_in c.self.inside.more.items) c.self.inside.rows.items) = rw (← c.self.view_is) at c.requires in
    rw (← c.self.view_is) (tlid_of c.self.inside.more.items c.self.inside.rows.items c.args.place c.index.result.now within c.index.ensures)
