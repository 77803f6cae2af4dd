use Rattle.std.proofs.lemmas.Result.{IfOk-weaker}
use Rattle.tl_check_planar.specs.ByHeight.Heights.{widest}
use Rattle.tl_check_gaps.proofs.Lowest.{all_lowest}
use Rattle.tl_check_gaps.proofs.FaceFaults.Agreeing.{agreed}
use Rattle.tl_check_gaps.proofs.FaceFaults.Along.{all_faults}
use Rattle.tl_check_gaps.proofs.face_faults.all.all_face_faults.Goals as goal

pub faults_of-requires-clause-odd : goal.faults_of-requires-clause-odd
faults_of-requires-clause-odd c = all_lowest widest c.args.map.now.chains c.args.gaps.now c.requires.told

pub returns-clause-agree : goal.returns-clause-agree
returns-clause-agree c =
    IfOk-weaker c.faults_of.result _ _
    (λ faults of. agreed c.args.map.now c.args.gaps.now faults.items c.has_near_points.ensures c.requires.planar c.requires.told of)
    c.faults_of.ensures

pub returns-clause-all : goal.returns-clause-all
returns-clause-all c =
    IfOk-weaker c.faults_of.result _ _
    (λ faults of.
    all_faults c.args.map.now c.requires.planar c.has_near_points.ensures c.args.gaps.now faults.items c.requires.told of.each)
    c.faults_of.ensures
