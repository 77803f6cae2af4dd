use Rattle.std.proofs.Common.{◌≡◌, ◌<◌, ℕ, Ok, Err, Some, None, refl, ap, ◌∙◌}
use Rattle.tl_record.specs.Failures.{one_more}
use Rattle.tl_cert.specs.declared.place.NextPart.{NextPart}
use Rattle.tl_cert.specs.declared.place.NextPart.TheVariants.{Start}
use Rattle.tl_cert.specs.declared.reader.Standing.{Standing}
use Rattle.tl_cert.specs.declared.reader.Standing.TheVariants.{Reading}
use Rattle.tl_cert.specs.declared.stop.CertStop.{CertStop}
use Rattle.tl_cert.specs.declared.stop.CertStop.TheVariants.{Text, Memory, Device}
use Rattle.tl_cert.specs.Certificates.{TheCertificate}
use Rattle.tl_cert.specs.Given.{parts_left}
use Rattle.tl_cert.specs.Reading.{TellsFailure, TellsDevice, standing_of}
use Rattle.tl_cert.specs.Keeping.Collecting.{left_of}
use Rattle.tl_cert.proofs.CollectLemmas.{gives_here, tells_here, collects_none, collects_more, collects_all, stops_all, memory_lacks}
use Rattle.tl_cert.proofs.read.collect_parts.Goals as goal

fewer_left : (place next : NextPart) (old new : Standing) → old ≡ Reading place → new ≡ Reading next → parts_left next < parts_left place → left_of new < left_of old
fewer_left place next old new is now fewer = rw (is, now) fewer

device_told : (T : Type 0) (place : NextPart) (old mid new : ℕ) (stop : CertStop) → mid ≡ old → TellsFailure (Reading place) mid new (Err stop) → TellsDevice {T = T} old new (Err stop)
device_told T place old mid new (Text line) same tells = tells ∙ same
device_told T place old mid new Memory same tells = tells ∙ same
device_told T place old mid new Device same tells = tells ∙ ap one_more same

pub parts-init : goal.parts-init
parts-init g c = record {
  place = Start;
  collects = collects_none g.R.Source.remaining c.args.reader.now c.empty-parts.result c.requires.standing c.requires.lines c.empty-parts.ensures;
  failures = refl;
  same = refl;
}

pub parts-preserved : goal.parts-preserved
parts-preserved g c =
    let so_far = c.parts.invariant in
    let gives = c.in-Ok-Some.ensures.gives in
    let given = gives_here g.R.Source.remaining c.parts.reader c.next_part.new.self (Ok (Some c.in-Ok-Some.part)) so_far.place so_far.collects.standing (rw c.in-Ok-Some.field-0-is at gives) in
    record {
      place = given.0;
      collects = collects_more g.R.Source.remaining so_far.place c.args.reader.now c.parts.reader c.next_part.new.self c.parts.parts c.take.new.self c.in-Ok-Some.part so_far.collects given c.in-Ok.ensures;
      failures = tells_here (standing_of c.parts.reader) so_far.place _ _ (Ok c.in-Ok-Some.field-0) so_far.collects.standing c.in-Ok-Some.ensures.failures ∙ so_far.failures;
      same = c.in-Ok-Some.ensures.same_reference ∙ so_far.same;
    }

pub parts-smaller : goal.parts-smaller
parts-smaller g c =
    let so_far = c.parts.invariant in
    let gives = c.in-Ok-Some.ensures.gives in
    let given = gives_here g.R.Source.remaining c.parts.reader c.next_part.new.self (Ok (Some c.in-Ok-Some.part)) so_far.place so_far.collects.standing (rw c.in-Ok-Some.field-0-is at gives) in
    fewer_left so_far.place given.0 (standing_of c.parts.reader) (standing_of c.next_part.new.self) so_far.collects.standing given.1 given.2

pub returns-in-Err-take-clause-stops : goal.returns-in-Err-take-clause-stops
returns-in-Err-take-clause-stops g c = memory_lacks g.R.Source.remaining c.args.reader.now

pub returns-in-Err-take-clause-failures : goal.returns-in-Err-take-clause-failures
returns-in-Err-take-clause-failures g c =
    let so_far = c.parts.invariant in
    tells_here (standing_of c.parts.reader) so_far.place _ _ (Ok c.in-Ok-Some.field-0) so_far.collects.standing c.in-Ok-Some.ensures.failures ∙ so_far.failures

pub returns-in-Err-take-clause-same_reference : goal.returns-in-Err-take-clause-same_reference
returns-in-Err-take-clause-same_reference g c = c.in-Ok-Some.ensures.same_reference ∙ c.parts.invariant.same

pub of_parts-requires : goal.of_parts-requires
of_parts-requires g c =
    let so_far = c.parts.invariant in
    let gives = c.in-Ok-None.ensures.gives in
    let given = gives_here g.R.Source.remaining c.parts.reader c.next_part.new.self (Ok None) so_far.place so_far.collects.standing (rw c.in-Ok-None.field-0-is at gives) in
    let all = collects_all g.R.Source.remaining so_far.place c.args.reader.now c.parts.reader c.next_part.new.self c.parts.parts so_far.collects given in
    all.0.0

pub returns-in-Ok-None-clause-certificate : goal.returns-in-Ok-None-clause-certificate
returns-in-Ok-None-clause-certificate g c =
    let so_far = c.parts.invariant in
    let gives = c.in-Ok-None.ensures.gives in
    let given = gives_here g.R.Source.remaining c.parts.reader c.next_part.new.self (Ok None) so_far.place so_far.collects.standing (rw c.in-Ok-None.field-0-is at gives) in
    let all = collects_all g.R.Source.remaining so_far.place c.args.reader.now c.parts.reader c.next_part.new.self c.parts.parts so_far.collects given in
    rw c.of_parts.ensures all.0

pub returns-in-Ok-None-clause-text : goal.returns-in-Ok-None-clause-text
returns-in-Ok-None-clause-text g c =
    let so_far = c.parts.invariant in
    let gives = c.in-Ok-None.ensures.gives in
    let given = gives_here g.R.Source.remaining c.parts.reader c.next_part.new.self (Ok None) so_far.place so_far.collects.standing (rw c.in-Ok-None.field-0-is at gives) in
    let all = collects_all g.R.Source.remaining so_far.place c.args.reader.now c.parts.reader c.next_part.new.self c.parts.parts so_far.collects given in
    rw c.of_parts.ensures all.1

pub returns-in-Ok-None-clause-ended : goal.returns-in-Ok-None-clause-ended
returns-in-Ok-None-clause-ended g c =
    let so_far = c.parts.invariant in
    let gives = c.in-Ok-None.ensures.gives in
    (gives_here g.R.Source.remaining c.parts.reader c.next_part.new.self (Ok None) so_far.place so_far.collects.standing (rw c.in-Ok-None.field-0-is at gives)).0

pub returns-in-Ok-None-clause-failures : goal.returns-in-Ok-None-clause-failures
returns-in-Ok-None-clause-failures g c =
    let so_far = c.parts.invariant in
    tells_here (standing_of c.parts.reader) so_far.place _ _ (Ok c.in-Ok-None.field-0) so_far.collects.standing c.in-Ok-None.ensures.failures ∙ so_far.failures

pub returns-in-Ok-None-clause-same_reference : goal.returns-in-Ok-None-clause-same_reference
returns-in-Ok-None-clause-same_reference g c = c.in-Ok-None.ensures.same_reference ∙ c.parts.invariant.same

pub returns-in-Err-clause-stops : goal.returns-in-Err-clause-stops
returns-in-Err-clause-stops g c =
    let so_far = c.parts.invariant in
    stops_all g.R.Source.remaining so_far.place c.args.reader.now c.parts.reader c.next_part.new.self c.parts.parts c.in-Err.stop so_far.collects
    (gives_here g.R.Source.remaining c.parts.reader c.next_part.new.self (Err c.in-Err.stop) so_far.place so_far.collects.standing c.in-Err.ensures.gives)

pub returns-in-Err-clause-failures : goal.returns-in-Err-clause-failures
returns-in-Err-clause-failures g c =
    let so_far = c.parts.invariant in
    device_told TheCertificate so_far.place _ _ _ c.in-Err.stop so_far.failures
    (tells_here (standing_of c.parts.reader) so_far.place _ _ (Err c.in-Err.stop) so_far.collects.standing c.in-Err.ensures.failures)

pub returns-in-Err-clause-same_reference : goal.returns-in-Err-clause-same_reference
returns-in-Err-clause-same_reference g c = c.in-Err.ensures.same_reference ∙ c.parts.invariant.same

pub returns-in-Err-take-clause-certificate : goal.returns-in-Err-take-clause-certificate
returns-in-Err-take-clause-certificate g c = tt

pub returns-in-Err-take-clause-text : goal.returns-in-Err-take-clause-text
returns-in-Err-take-clause-text g c = tt

pub returns-in-Err-take-clause-ended : goal.returns-in-Err-take-clause-ended
returns-in-Err-take-clause-ended g c = tt

pub returns-in-Ok-None-clause-stops : goal.returns-in-Ok-None-clause-stops
returns-in-Ok-None-clause-stops g c = tt

pub returns-in-Err-clause-certificate : goal.returns-in-Err-clause-certificate
returns-in-Err-clause-certificate g c = tt

pub returns-in-Err-clause-text : goal.returns-in-Err-clause-text
returns-in-Err-clause-text g c = tt

pub returns-in-Err-clause-ended : goal.returns-in-Err-clause-ended
returns-in-Err-clause-ended g c = tt
