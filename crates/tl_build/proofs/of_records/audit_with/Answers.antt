use Rattle.std.proofs.Common.{ℕ, List}
use Rattle.tl_record.specs.Layout.{layout_with}
use Rattle.tl_record.specs.Records.{records_of}
use Rattle.tl_check_verdict.specs.Sound.{IsSoundFor}
use Rattle.tl_check_verdict.specs.Verdicts.{IsReport}
use Rattle.tl_build.proofs.Recorded.{if_sound, faulty, exactly, stops, tells, unspent}
use Rattle.tl_build.proofs.of_records.audit_with.Goals as goal

pub returns : goal.returns
returns g c =
    let faces = c.args.options.faces in
    let of = λ (t : List ℕ). records_of (layout_with c.args.options) t in
    let text = g.R.Source.remaining c.args.records.now in
    let r = c.read_map_with-read in
    let answer = c.audit_read.result in
    let says = c.audit_read.ensures in
    record {
      sound = if_sound faces of text answer (λ m r. IsSoundFor faces m) (λ m r s is. s) r.result says r.ensures.map;
      report = if_sound faces of text answer IsReport (λ m r s is. is) r.result says r.ensures.map;
      fault = faulty faces of text answer r.result says r.ensures.map r.ensures.stops;
      exactly = exactly faces of text answer r.result says r.ensures.map r.ensures.stops;
      stops = stops faces of text answer r.result says r.ensures.map r.ensures.stops;
      budget = unspent faces answer r.result says;
      failures = tells faces _ _ answer r.result says r.ensures.failures;
    }
