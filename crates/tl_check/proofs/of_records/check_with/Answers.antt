use Rattle.std.proofs.Common.{ℕ, List}
use Rattle.tl_record.specs.Layout.{layout_with}
use Rattle.tl_record.specs.Records.{records_of}
use Rattle.tl_check_verdict.specs.Sound.{IsSoundFor}
use Rattle.tl_check_verdict.specs.Verdicts.{IsReport, IsWithinBudget}
use Rattle.tl_check_verdict.specs.Texts.{IsTrueWhereKnown, IsValidWhereKnown, AllowsSearchWhereKnown, IsPlanarWhereAllowed}
use Rattle.tl_check.proofs.Reading.{read_on_sound, read_but_faces, read_if_sound, read_map_fault, read_cert_fault, read_behind, read_meets}
use Rattle.tl_check.proofs.Reading.{read_searched, read_stops, read_unread, read_tells}
use Rattle.tl_check.proofs.of_records.check_with.Goals as goal

pub returns : goal.returns
returns g c =
    let rem = g.S.Source.remaining in
    let fails = g.S.Source.failure_count in
    let of = λ (t : List ℕ). records_of (layout_with c.args.options) t in
    let text = g.R.Source.remaining c.args.records.now in
    let faces = c.args.options.faces in
    let budget = c.args.budget in
    let old = c.args.cert.now in
    let new = c.check_read.new.cert in
    let answer = c.check_read.result in
    let read = c.read_map_with-read.result in
    let so = c.check_read.ensures in
    let is = c.read_map_with-read.ensures.map in
    let stops = c.read_map_with-read.ensures.stops in
    record {
      sound = read_on_sound rem fails of text faces budget old new answer read so is stops (IsSoundFor faces) (λ m k. k.decides.sound);
      valid = read_but_faces rem fails of text faces budget old new answer read so is stops (IsValidWhereKnown (rem old)) (λ m k. k.decides.is_valid);
      within = read_but_faces rem fails of text faces budget old new answer read so is stops (IsWithinBudget budget) (λ m k. k.decides.within);
      report = read_if_sound rem fails of text faces budget old new answer read so is stops IsReport (λ m k. k.decides.report);
      map_fault = read_map_fault rem fails of text faces budget old new answer read so is stops;
      cert_fault =
          read_cert_fault rem fails of text faces budget old new answer read so is stops (IsTrueWhereKnown (rem old))
          (λ m k. k.decides.cert_fault);
      behind = read_behind rem fails of text faces budget old new answer read so is stops;
      meets =
          read_meets rem fails of text faces budget old new answer read so is stops (IsPlanarWhereAllowed (rem old))
          (λ m k. k.decides.meets);
      searched =
          read_searched rem fails of text faces budget old new answer read so is stops (AllowsSearchWhereKnown (rem old))
          (λ m k. k.decides.searched);
      stops = read_stops rem fails of text faces budget old new answer read so is stops;
      unread = read_unread rem fails of text faces budget old new answer read so is stops;
      failures = read_tells rem fails faces budget old new answer _ _ read so c.read_map_with-read.ensures.failures;
    }
