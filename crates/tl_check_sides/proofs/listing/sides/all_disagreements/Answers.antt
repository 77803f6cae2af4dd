use Rattle.std.proofs.Common.{◌≡◌, length, arith}
use Rattle.std.proofs.lemmas.Result.{err_from_is_err_and}
use Rattle.tl_check_planar.proofs.ListingLemmas.Reaching.{none_yet}
use Rattle.tl_check_sides.proofs.ListingLemmas.Rows.{all_of}
use Rattle.tl_check_sides.proofs.ListingLemmas.Outside.{none_without_polygons}
use Rattle.tl_check_sides.proofs.listing.sides.all_disagreements.Goals as goal

pub returns-then-polygons-eq0 : goal.returns-then-polygons-eq0
returns-then-polygons-eq0 c =
    let none : length c.args.map.now.polygons ≡ 0 = omega (arith, c.polygons.ensures, c.if-polygons-eq0.true) in
    rw c.new-found.ensures.items (none_without_polygons c.args.map.now.chains (length c.args.map.now.polygons) none c.names_its_polygons.ensures)

pub loop-dart-init : goal.loop-dart-init
loop-dart-init c = record { grouped = c.in-Ok.ensures; found = rw c.new-found.ensures.items (none_yet _ _ _ _) }

pub returns : goal.returns
returns c =
    let past = c.loop-dart-test.false in
    let count = c.darts-dart-end.ensures in
    all_of c.args.map.now.chains c.loop-dart.dart c.loop-dart.found.items (omega (arith, past, count)) c.loop-dart.invariant.found

pub returns-in_err-push_next : goal.returns-in_err-push_next
returns-in_err-push_next c = let p = err_from_is_err_and c.from_residual.result c.from_residual.ensures.1 in rw p.1 tt
