use Rattle.std.proofs.Common.{◌+◌, take, sym, subst, All}
use Rattle.std.proofs.lemmas.List.Elements.{All-push}
use Rattle.std.specs.List.{AllZip}
use Rattle.tl_check_faces.specs.Faults.{IsTrueFaceFault, IsFaultBetween}
use Rattle.tl_check_gaps.proofs.FaceFaults.Zipped.{zipped_next}
use Rattle.tl_check_gaps.proofs.face_faults.all.faults_of.Goals as goal

pub loop-k-preserved : goal.loop-k-preserved
loop-k-preserved c =
    record {
      each = subst (AllZip (λ gap fault. IsFaultBetween c.args.map.now gap.west gap.east fault) (take (c.loop-k.k + 1) c.args.gaps.now)) (sym c.in_ok-push.ensures.items)
          (zipped_next (λ gap fault. IsFaultBetween c.args.map.now gap.west gap.east fault) c.args.gaps.now c.loop-k.faults.items c.loop-k.k _ _ c.loop-k-test.true c.loop-k.invariant.each
          c.face_fault.ensures.between);
      true_ones = subst (All (IsTrueFaceFault c.args.map.now)) (sym c.in_ok-push.ensures.items)
          (All-push (IsTrueFaceFault c.args.map.now) c.loop-k.faults.items _ c.loop-k.invariant.true_ones c.face_fault.ensures.true_one);
    }
