use Rattle.std.proofs.Common.{take, All}
use Rattle.std.specs.List.{AllZip}
use Rattle.tl_check_faces.specs.Faults.{IsTrueFaceFault, IsFaultBetween}
use Rattle.tl_check_gaps.proofs.face_faults.all.faults_of.Given as goal

-- those of the gaps so far
abbrev pub invariant-loop-k : goal.invariant-loop-k
invariant-loop-k l = record {
  each : AllZip (λ gap fault. IsFaultBetween l.map gap.west gap.east fault) (take l.k l.gaps) l.faults.items;
  true_ones : All (IsTrueFaceFault l.map) l.faults.items;
}
