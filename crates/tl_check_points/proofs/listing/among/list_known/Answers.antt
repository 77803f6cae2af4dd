use Rattle.std.proofs.Common.{◌∙◌}
use Rattle.std.proofs.lemmas.Result.{err_from_is_err_and}
use Rattle.tl_check_points.proofs.ListingLemmas.Known.{none_held}
use Rattle.tl_check_points.proofs.listing.among.list_known.Goals as goal

pub push_wrong-requires-clause-held : goal.push_wrong-requires-clause-held
push_wrong-requires-clause-held c =
    none_held c.args.map.now c.polygon-polygon.result.point c.deref.result.now (c.deref.ensures.value ∙ c.clear.ensures.items)
    (c.requires.tell.off c.polygon-polygon.result c.polygon-polygon.ensures)

pub push_wrong-requires-clause-outside : goal.push_wrong-requires-clause-outside
push_wrong-requires-clause-outside c =
    c.in_ok-outside.ensures.outside c.polygon-polygon.result.point (c.requires.tell.tell c.polygon-polygon.result c.polygon-polygon.ensures)

pub push_wrong-requires-clause-odd : goal.push_wrong-requires-clause-odd
push_wrong-requires-clause-odd c =
    rw c.deref-2.ensures.value
    (c.in_ok-outside.ensures.odd c.polygon-polygon.result.point (c.requires.tell.tell c.polygon-polygon.result c.polygon-polygon.ensures))

pub returns-in_err-outside : goal.returns-in_err-outside
returns-in_err-outside c = let p = err_from_is_err_and c.from_residual.result c.from_residual.ensures.1 in rw p.1 (record { part = tt; clear = tt })
