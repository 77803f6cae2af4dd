use Rattle.std.proofs.Common.{map, ap, length, ◌∙◌, arith}
use Rattle.std.proofs.lemmas.Result.{err_from_is_err_and}
use Rattle.std.proofs.lemmas.List.{length-map}
use Rattle.tigertopo_pictures.specs.Geojson.Holes.{outer_polygon, home}
use Rattle.tigertopo_pictures.proofs.WalkLemmas.{few_walks, many_lists}
use Rattle.tigertopo_pictures.proofs.geojson.county.Shapes.new.Goals as goal

pub overflow_cast-walks : goal.overflow_cast-walks
overflow_cast-walks c =
    let few = few_walks c.args.map.now.chains (map (λ w. w.items) c.args.walks.now) c.requires in
    omega (arith, few, many_lists c.args.walks.now, c.darts-darts.ensures, c.darts-darts.type_inv)

pub count_some-requires : goal.count_some-requires
count_some-requires c =
    let lists = map (λ w. w.items) c.args.walks.now in
    let long = ap length (c.as_slice-5.ensures.value ∙ c.in_ok-polygons.ensures) ∙ length-map lists (outer_polygon c.args.map.now.chains) in
    omega (arith, few_walks c.args.map.now.chains lists c.requires, long, c.darts-darts.ensures, c.darts-darts.type_inv)

pub count_some-requires-2 : goal.count_some-requires-2
count_some-requires-2 c =
    let lists = map (λ w. w.items) c.args.walks.now in
    let long = ap length (c.as_slice-6.ensures.value ∙ c.in_ok-homes.ensures) ∙ length-map lists (home c.args.map.now.chains lists) in
    omega (arith, few_walks c.args.map.now.chains lists c.requires, long, c.darts-darts.ensures, c.darts-darts.type_inv)

pub returns-in_err-areas : goal.returns-in_err-areas
returns-in_err-areas c = let p = err_from_is_err_and c.from_residual.result c.from_residual.ensures.1 in rw p.1 tt

pub returns-in_err-polygons : goal.returns-in_err-polygons
returns-in_err-polygons c = let p = err_from_is_err_and c.from_residual-in_err-polygons.result c.from_residual-in_err-polygons.ensures.1 in rw p.1 tt

pub returns-in_err-outers : goal.returns-in_err-outers
returns-in_err-outers c = let p = err_from_is_err_and c.from_residual-in_err-outers.result c.from_residual-in_err-outers.ensures.1 in rw p.1 tt

pub returns-in_err-homes : goal.returns-in_err-homes
returns-in_err-homes c = let p = err_from_is_err_and c.from_residual-in_err-homes.result c.from_residual-in_err-homes.ensures.1 in rw p.1 tt

pub returns-in_err-holes : goal.returns-in_err-holes
returns-in_err-holes c = let p = err_from_is_err_and c.from_residual-in_err-holes.result c.from_residual-in_err-holes.ensures.1 in rw p.1 tt

pub list_outers-requires : goal.list_outers-requires
list_outers-requires c = record { walks = c.requires; areas = rw c.as_slice.ensures.value c.in_ok-areas.ensures }

pub list_homes-requires : goal.list_homes-requires
list_homes-requires c =
    let grouped = c.in_ok-outers.ensures in
    record {
      walks = c.requires;
      areas = rw c.as_slice-3.ensures.value c.in_ok-areas.ensures;
      outers = rw (c.as_slice-2.ensures.value, c.in_ok-polygons.ensures, c.polygons.ensures) at grouped;
    }
