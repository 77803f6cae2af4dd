use Rattle.std.proofs.Common.{None, map, ap, ◌∙◌, sym}
use Rattle.std.proofs.lemmas.List.{map_more, take_all}
use Rattle.std.proofs.lemmas.Result.{err_from_is_err_and}
use Rattle.tl_map_rules.specs.declared.entry.LandmarkEntry.{LandmarkEntry}
use Rattle.tl_map.proofs.left.lands_of.Goals as goal

pub loop-landmark-init : goal.loop-landmark-init
loop-landmark-init c = c.in_ok-made.ensures.items

pub loop-landmark-preserved : goal.loop-landmark-preserved
loop-landmark-preserved c =
    let d : LandmarkEntry = record { land = 0; point = None } in
    rw (c.in_ok-push.ensures.items, c.loop-landmark.invariant) (sym (map_more (λ (x : LandmarkEntry). x.land) c.args.landmarks.now c.loop-landmark.landmark-index d c.loop-landmark-test.true))

pub returns : goal.returns
returns c = c.loop-landmark.invariant ∙ ap (map (λ (x : LandmarkEntry). x.land)) (take_all c.loop-landmark.landmark-index c.args.landmarks.now c.loop-landmark-test.false)

pub returns-in_err-made : goal.returns-in_err-made
returns-in_err-made c = let p = err_from_is_err_and c.from_residual.result c.from_residual.ensures.1 in rw p.1 tt

pub returns-in_err-push : goal.returns-in_err-push
returns-in_err-push c = let p = err_from_is_err_and c.from_residual-in_err-push.result c.from_residual-in_err-push.ensures.1 in rw p.1 tt
