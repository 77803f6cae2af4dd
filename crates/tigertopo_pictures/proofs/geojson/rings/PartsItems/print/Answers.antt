use Rattle.std.proofs.Common.{map, arith}
use Rattle.std.proofs.lemmas.List.{length-map}
use Rattle.tigertopo_pictures.specs.Geojson.Holes.{home}
use Rattle.tigertopo_pictures.specs.Geojson.Rings.{part_text}
use Rattle.tl_cert_output.proofs.PageLemmas.{both}
use Rattle.tigertopo_pictures.proofs.WalkLemmas.{few_walks, many_lists}
use Rattle.tigertopo_pictures.proofs.geojson.rings.PartsItems.print.Goals as goal

pub returns : goal.returns
unfolding part_text
returns g c =
    let page = g.met.P.Page.adding in
    let holes = c.requires.1.each c.args.number c.requires.2 in
    both page (both page (both page (both page c.add.ensures c.print.ensures) c.add-2.ensures) (c.print_items.ensures _ (rw c.first-first.ensures holes))) c.add-3.ensures

pub overflow_cast-number : goal.overflow_cast-number
overflow_cast-number g c =
    let rings = c.args.self.now.rings in
    let few = few_walks rings.map.now.chains (map (λ w. w.items) rings.walks.now) c.requires.0 in
    omega (arith, few, many_lists rings.walks.now, c.darts-darts.ensures, c.darts-darts.type_inv, c.requires.2)

pub print-requires : goal.print-requires
print-requires g c = (c.requires.0, c.requires.2)

pub print_items-requires : goal.print_items-requires
print_items-requires g c n within =
    let rings = c.args.self.now.rings in
    let lists = map (λ w. w.items) rings.walks.now in
    (c.requires.0, omega (arith, within, c.requires.1.items, length-map lists (home rings.map.now.chains lists), many_lists rings.walks.now))

pub first-first-requires : goal.first-first-requires
first-first-requires g c = omega (arith, c.requires.1.counted, c.requires.2)
