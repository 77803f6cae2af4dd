use Rattle.std.proofs.Common.{◌∙◌, sym}
use Rattle.std.proofs.lemmas.Option.{slice_get_within}
use Rattle.tl_map.proofs.JoinedLemmas.ApartLemmas.{fits_of_two}
use Rattle.tl_map.proofs.joined.join.are_two.Goals as goal

pub bounds-records-first : goal.bounds-records-first
bounds-records-first c = let two = c.in-Some.ensures in slice_get_within c.args.records.now c.in-Some.first two.told two.here

pub bounds-records-second : goal.bounds-records-second
bounds-records-second c = let two = c.in-Some.ensures in slice_get_within c.args.records.now c.in-Some.second two.again two.there

pub returns-in-Some : goal.returns-in-Some
returns-in-Some c = c.fits.ensures ∙ fits_of_two c.args.records.now c.args.place.now c.in-Some.first c.in-Some.second _ _ c.in-Some.ensures

pub returns-in-None : goal.returns-in-None
returns-in-None c = sym c.in-None.ensures
