-- The report of a map of which no fault is told.
use Rattle.std.proofs.Common.{◌≡◌, []}
use Rattle.tl_map_county.specs.TheMap.{TheMap}
use Rattle.tl_check_verdict.specs.declared.verdict.Report.{Report}
use Rattle.tl_check_verdict.specs.Sound.{IsSoundFor}
use Rattle.tl_check_verdict.specs.Verdicts.{AreNumbers, IsReport}
use Rattle.tl_build_propose.proofs.Soundness.{report_by}
use Rattle.tl_decide.specs.declared.asked.Asked.{Asked}
use Rattle.tl_decide.specs.declared.asked.Decided.{Decided}
use Rattle.tl_decide.specs.Deciding.{IsDecided, HasRings}

pub reported : (asked : Asked) (m : TheMap) (decided : Decided) (r : Report) → IsDecided asked m decided → decided.faults.items ≡ [] → AreNumbers m decided.rings r
    → IsSoundFor asked.faces m × IsReport m r
reported asked m decided r is none numbers =
    let sound : IsSoundFor asked.faces m = is.faults.exact.0 none in
    let has : HasRings m decided.rings = is.rings sound.sound.planar sound.sound.sides in
    (sound, report_by m has.walks decided.rings r has.are has.counted numbers)
