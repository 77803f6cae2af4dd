use Rattle.std.proofs.lemmas.Result.{err_from_is_err_and}
use Rattle.tl_map.proofs.landmarks.link_indexed.Goals as goal

pub link_landmarks-requires : goal.link_landmarks-requires
link_landmarks-requires c = record { polygons = c.requires.polygons; few = c.requires.few; keys = c.requires.keys; lands = c.requires.lands }

pub returns-in_err-rows : goal.returns-in_err-rows
returns-in_err-rows c =
    let p = err_from_is_err_and c.from_residual.result c.from_residual.ensures.1 in
    rw (p.1, p.2) c.in_err-rows.ensures

pub returns-in_err-points : goal.returns-in_err-points
returns-in_err-points c =
    let p = err_from_is_err_and c.from_residual-in_err-points.result c.from_residual-in_err-points.ensures.1 in
    rw (p.1, p.2) tt

pub returns : goal.returns
returns c = (c.in_ok-points.ensures, c.in_ok-rows.ensures)
