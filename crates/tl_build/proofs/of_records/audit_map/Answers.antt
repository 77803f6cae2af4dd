use Rattle.tl_check_verdict.specs.Sound.{IsSoundFor}
use Rattle.tl_build.proofs.Decided.{on_sound, reported, faulty, exactly, stops}
use Rattle.tl_build.proofs.of_records.audit_map.Goals as goal

pub returns : goal.returns
returns c =
    let faces = c.args.faces in
    let m = c.args.map.now in
    let answer = c.audit_for.result in
    let says = c.audit_for.ensures in
    record {
      sound = on_sound faces m (IsSoundFor faces m) (λ s. s) answer says;
      report = reported faces m answer says;
      fault = faulty faces m answer says;
      exactly = exactly faces m answer says;
      stops = stops faces m answer says;
    }
