use Rattle.std.proofs.lemmas.Result.{err_from_is_err_and}
use Rattle.tigertopo_pictures.proofs.svg.fills.Fills.new.Goals as goal

pub polygons_of-requires : goal.polygons_of-requires
polygons_of-requires c = rw c.as_slice.ensures.value c.requires

pub returns-in_err-polygons : goal.returns-in_err-polygons
returns-in_err-polygons c = let p = err_from_is_err_and c.from_residual.result c.from_residual.ensures.1 in rw p.1 tt

pub returns-in_err-rings : goal.returns-in_err-rings
returns-in_err-rings c = let p = err_from_is_err_and c.from_residual-in_err-rings.result c.from_residual-in_err-rings.ensures.1 in rw p.1 tt

pub returns-in_err-colours : goal.returns-in_err-colours
returns-in_err-colours c = let p = err_from_is_err_and c.from_residual-in_err-colours.result c.from_residual-in_err-colours.ensures.1 in rw p.1 tt
