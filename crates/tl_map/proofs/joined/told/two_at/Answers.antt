use Rattle.std.proofs.Common.{◌∙◌, ap}
use Rattle.tl_map.specs.Joined.Keeping.Told.{two_of}
use Rattle.tl_map.proofs.JoinedLemmas.TwinLemmas.{two_or_none}
use Rattle.tl_map.proofs.joined.told.two_at.Goals as goal

pub returns : goal.returns
returns c = two_or_none c.args.records.now c.args.place.now _ c.two_of.result (c.requires c.args.place.now)
    (c.two_of.ensures ∙ ap two_of (c.copied.ensures ∙ c.get.ensures.value))
