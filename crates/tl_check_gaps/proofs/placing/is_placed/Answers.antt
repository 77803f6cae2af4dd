use Rattle.std.proofs.Common.{◌≡◌, ◌++◌, to_z, of_z, w64, sym, subst, ◌∙◌, arith}
use Rattle.std.proofs.lemmas.Int.{ints}
use Rattle.std.proofs.lemmas.Result.{err_from_is_err_and}
use Rattle.tl_map_county.specs.declared.polygons.Polygon.{Polygon}
use Rattle.tl_check_planar.specs.Keeping.Apart.{one_found}
use Rattle.tl_check_inside.specs.Placed.{IsPlacedIn}
use Rattle.tl_check_active.specs.Blocks.Lined.{list_of}
use Rattle.tl_check_active.specs.Events.{before, joined}
use Rattle.tl_check_active.specs.Ranges.{IsInRange}
use Rattle.tl_check_gaps.proofs.Spotting.{spotted}
use Rattle.tl_check_active.proofs.Tests.{never}
use Rattle.tl_check_gaps.proofs.placing.is_placed.Goals as goal

pub returns-clause-placed : goal.returns-clause-placed
returns-clause-placed c = λ h polygon e.
    let range : IsInRange c.polygon.result.point = record { west = omega (arith, ints); east = omega (arith, ints) } in
    let parted : list_of c.args.line.now ≡ c.go_to.new.line.front ++ c.go_to.new.line.back = sym c.in_ok-go_to.ensures in
    let fits = c.height.type_inv in
    let bits : to_z w64 (of_z w64 c.height.result) ≡ c.height.result = omega (arith, ints, fits) in
    subst (λ (x : Polygon). IsPlacedIn c.args.map.now x.point c.args.polygon) (one_found c.polygon.result polygon _ c.polygon.ensures e)
    (spotted c.args.map.now (joined c.args.events.now) (before c.args.from c.args.events.now) (list_of c.args.line.now) c.go_to.new.line.front c.go_to.new.line.back c.polygon.result.point (to_z w64 (of_z w64 c.height.result)) c.args.polygon
    c.requires.events c.requires.rising c.requires.ranges range c.requires.swept (bits ∙ c.height.ensures) (λ d some within. c.is_between.ensures.below c.if-not-is_between.false d some) (λ d lt. c.is_between.ensures.above c.if-not-is_between.false d)
    parted (c.requires.counted 0 (c.are_facing.ensures c.if-not-are_facing.false)) (c.sees.ensures.east h) (c.sees.ensures.west h) (c.sees.ensures.sees h))

pub returns-then-not-are_facing-clause-placed : goal.returns-then-not-are_facing-clause-placed
returns-then-not-are_facing-clause-placed c = λ h. never h

pub returns-then-not-is_between-clause-placed : goal.returns-then-not-is_between-clause-placed
returns-then-not-is_between-clause-placed c = λ h. never h

pub returns-in_err-go_to-clause-list : goal.returns-in_err-go_to-clause-list
returns-in_err-go_to-clause-list c = let p = err_from_is_err_and c.from_residual.result c.from_residual.ensures.1 in rw p.1 tt

pub returns-in_err-go_to-clause-placed : goal.returns-in_err-go_to-clause-placed
returns-in_err-go_to-clause-placed c = let p = err_from_is_err_and c.from_residual.result c.from_residual.ensures.1 in rw p.1 tt
