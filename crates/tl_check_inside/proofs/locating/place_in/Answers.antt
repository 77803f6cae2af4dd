use Rattle.std.proofs.Common.{sym, subst}
use Rattle.tl_check_inside.specs.Inside.{IsPolygonCount}
use Rattle.tl_check_inside.specs.Places.{AreCounted, IsCountOf}
use Rattle.std.proofs.Common.{length}
use Rattle.std.proofs.lemmas.Result.{err_from_is_err_and}
use Rattle.tl_check_inside.proofs.Placing.{polygons_at, landmarks_at}
use Rattle.tl_check_inside.proofs.locating.place_in.Goals as goal

pub returns : goal.returns
returns c = λ q crossed tell t off. (
  off,
  subst (AreCounted (length c.args.map.now.polygons) (IsPolygonCount c.args.map.now.chains q)) (sym c.in_ok-polygons.ensures)
      (polygons_at c.args.map.now q crossed c.args.near.now c.args.far.now tell t c.requires.nears c.requires.fars),
  subst (AreCounted (length c.args.map.now.landmarks) (IsCountOf c.args.map.now q)) (sym c.in_ok-landmarks.ensures.listed)
      (landmarks_at c.args.map.now q crossed c.args.near.now c.args.far.now tell t c.requires.nears c.requires.fars c.in_ok-landmarks.ensures.polygons),
)

pub returns-in_err-polygons : goal.returns-in_err-polygons
returns-in_err-polygons c = let p = err_from_is_err_and c.from_residual.result c.from_residual.ensures.1 in rw p.1 tt

pub returns-in_err-landmarks : goal.returns-in_err-landmarks
returns-in_err-landmarks c = let p = err_from_is_err_and c.from_residual-in_err-landmarks.result c.from_residual-in_err-landmarks.ensures.1 in rw p.1 tt
