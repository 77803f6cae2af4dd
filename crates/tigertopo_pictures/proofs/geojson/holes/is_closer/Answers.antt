use Rattle.std.proofs.Common.{◌<◌, length, map, arith, refl, to_z-of_z}
use Rattle.std.specs.Int.{w128}
use Rattle.std.proofs.lemmas.Int.{fits_signed_from_abs}
use Rattle.tl_check_sides.specs.Lists.{list_at}
use Rattle.tigertopo_pictures.specs.Geojson.Holes.{ring_area}
use Rattle.tigertopo_pictures.proofs.WalkLemmas.{many_lists}
use Rattle.tigertopo_pictures.proofs.geojson.holes.is_closer.Goals as goal

pub bounds-areas-other : goal.bounds-areas-other
bounds-areas-other c = omega (arith, c.requires.areas.long, many_lists c.args.walks.now, c.requires.other)

pub bounds-areas-number : goal.bounds-areas-number
bounds-areas-number c = omega (arith, c.requires.areas.long, many_lists c.args.walks.now, c.requires.number)

pub holds-requires : goal.holds-requires
holds-requires c = record { walks = c.requires.walks; number = c.requires.other }

pub holds-requires-2 : goal.holds-requires-2
holds-requires-2 c = record { walks = c.requires.walks; number = c.requires.number }

pub returns : goal.returns
returns c =
    let chains = c.args.map.now.chains in
    let lists = map (λ w. w.items) c.args.walks.now in
    let other : c.args.other < length lists = omega (arith, c.requires.other, many_lists c.args.walks.now) in
    let number : c.args.number < length lists = omega (arith, c.requires.number, many_lists c.args.walks.now) in
    let first = to_z-of_z {z = ring_area chains (list_at lists c.args.other)} (fits_signed_from_abs w128 _ (c.requires.areas.small c.args.other other)) in
    let second = to_z-of_z {z = ring_area chains (list_at lists c.args.number)} (fits_signed_from_abs w128 _ (c.requires.areas.small c.args.number number)) in
    rw (c.holds.ensures, c.holds-2.ensures, c.requires.areas.each c.args.other other, c.requires.areas.each c.args.number number, first, second) refl
