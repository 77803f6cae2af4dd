use Rattle.std.proofs.Common.{refl, sym}
use Rattle.std.proofs.lemmas.Option.{slice_get_past, slice_get_read}
use borrow.Author.Tests.{ltb-true, ltb-false}
use Rattle.tigertopo_faults.proofs.ColumnLemmas.{lat_at}
use Rattle.tigertopo_faults.proofs.places.columns.of_lat.Goals as goal

pub returns-in-Some : goal.returns-in-Some
returns-in-Some c =
    let within = ltb-true _ _ (sym c.in-Some.ensures.lookup.0) in
    lat_at c.args.columns.now c.args.pair _ _ c.if-pair-eq0.false c.from.ensures
    (slice_get_read c.args.columns.now.pairs _ _ c.in-Some.point.now refl within c.in-Some.ensures.lookup.1)

pub returns-in-None : goal.returns-in-None
returns-in-None c =
    let past = ltb-false _ _ (sym c.in-None.ensures.lookup.0) in
    lat_at c.args.columns.now c.args.pair _ _ c.if-pair-eq0.false c.from.ensures (slice_get_past c.args.columns.now.pairs _ past)
