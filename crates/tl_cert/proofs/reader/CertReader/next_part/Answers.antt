use Rattle.std.proofs.Common.{◌≡◌, ℕ, List, Option, Result, Ok, Err, Some, None, refl, sym, subst}
use Rattle.tl_cert.specs.declared.place.NextPart.{NextPart}
use Rattle.tl_cert.specs.declared.place.CertPart.{CertPart}
use Rattle.tl_cert.specs.declared.reader.CertReader.{CertReader}
use Rattle.tl_cert.specs.declared.reader.Standing.{Standing}
use Rattle.tl_cert.specs.declared.reader.Standing.TheVariants.{Reading, Ended, Stopped}
use Rattle.tl_cert.specs.declared.stop.CertStop.{CertStop}
use Rattle.tl_cert.specs.declared.stop.CertStop.TheVariants.{Text, Memory, Device}
use Rattle.tl_cert.specs.Reading.{Gives, TellsFailure, standing_of}
use Rattle.tl_cert.specs.Keeping.Places.{ReadsPart}
use Rattle.tl_cert.specs.Keeping.Lines.{at, TellsRead}
use Rattle.tl_cert.proofs.ReaderLemmas.{given_part, given_end, at_place, stop_at_place}
use Rattle.tl_cert.proofs.reader.CertReader.next_part.Goals as goal

-- the answer of a reader that reads no more
ended_again : {R : Type 0} (remaining : R → Option (List ℕ)) (reader : CertReader R) (standing : Standing) → standing ≡ Ended → Gives remaining reader reader (Ok None) standing
ended_again remaining reader standing is = subst (Gives remaining reader reader (Ok None)) (sym is) (refl, refl)

stopped_again : {R : Type 0} (remaining : R → Option (List ℕ)) (reader : CertReader R) (standing : Standing) (stop : CertStop) → standing ≡ Stopped stop → Gives remaining reader reader (Err stop) standing
stopped_again remaining reader standing stop is = subst (Gives remaining reader reader (Err stop)) (sym is) (refl, refl)

-- its count of failures, and that of one that reads
none_fails : (standing : Standing) (count : ℕ) (answer : Result (Option CertPart) CertStop) → standing ≡ Ended → TellsFailure standing count count answer
none_fails standing count answer is = subst (λ s. TellsFailure s count count answer) (sym is) refl

none_stops : (standing : Standing) (count : ℕ) (answer : Result (Option CertPart) CertStop) (stop : CertStop) → standing ≡ Stopped stop → TellsFailure standing count count answer
none_stops standing count answer stop is = subst (λ s. TellsFailure s count count answer) (sym is) refl

part_tells : (standing : Standing) (place : NextPart) (old new : ℕ) (given : Option CertPart) → standing ≡ Reading place → new ≡ old → TellsFailure standing old new (Ok given)
part_tells standing place old new given is same = subst (λ s. TellsFailure s old new (Ok given)) (sym is) same

stop_tells : (V : Type 0) (standing : Standing) (place : NextPart) (old new : ℕ) (stop : CertStop) → standing ≡ Reading place → TellsRead {V = V} old new (Err stop) → TellsFailure standing old new (Err stop)
stop_tells V standing place old new (Text line) is tells = subst (λ s. TellsFailure s old new (Err (Text line))) (sym is) tells
stop_tells V standing place old new Memory is tells = subst (λ s. TellsFailure s old new (Err Memory)) (sym is) tells
stop_tells V standing place old new Device is tells = subst (λ s. TellsFailure s old new (Err Device)) (sym is) tells

pub returns-in-Ok-Some-clause-gives : goal.returns-in-Ok-Some-clause-gives
returns-in-Ok-Some-clause-gives g c =
    let reads = subst (λ a. ReadsPart g.R.Source.remaining c.in-Reading.place (at c.args.self.now.lines c.args.self.now.source) (at c.read_part.new.lines c.read_part.new.source) (Ok a)) c.in-Ok-Some.field-0-is c.in-Ok-Some.ensures.reads in
    at_place g.R.Source.remaining c.args.self.now _ (Ok (Some c.in-Ok-Some.part)) c.args.self.now.standing c.in-Reading.place c.in-Reading.is
    (c.in-Ok-Some.next, refl, reads.4, given_part g.R.Source.remaining c.in-Reading.place c.in-Ok-Some.next c.in-Ok-Some.part (at c.args.self.now.lines c.args.self.now.source) (at c.read_part.new.lines c.read_part.new.source) reads, reads.5)

pub returns-in-Ok-None-clause-gives : goal.returns-in-Ok-None-clause-gives
returns-in-Ok-None-clause-gives g c =
    let reads = subst (λ a. ReadsPart g.R.Source.remaining c.in-Reading.place (at c.args.self.now.lines c.args.self.now.source) (at c.read_part.new.lines c.read_part.new.source) (Ok a)) c.in-Ok-None.field-0-is c.in-Ok-None.ensures.reads in
    at_place g.R.Source.remaining c.args.self.now _ (Ok None) c.args.self.now.standing c.in-Reading.place c.in-Reading.is
    (given_end g.R.Source.remaining c.in-Reading.place (at c.args.self.now.lines c.args.self.now.source) (at c.read_part.new.lines c.read_part.new.source) reads)

pub returns-in-Err-clause-gives : goal.returns-in-Err-clause-gives
returns-in-Err-clause-gives g c =
    stop_at_place g.R.Source.remaining c.args.self.now _ (at c.read_part.new.lines c.read_part.new.source) c.in-Err.stop c.args.self.now.standing c.in-Reading.place c.in-Reading.is c.in-Err.ensures.reads

pub returns-in-Ended-clause-gives : goal.returns-in-Ended-clause-gives
returns-in-Ended-clause-gives g c = ended_again g.R.Source.remaining c.args.self.now (standing_of c.args.self.now) c.in-Ended.is

pub returns-in-Ended-clause-settles : goal.returns-in-Ended-clause-settles
returns-in-Ended-clause-settles g c = c.in-Ended.is

pub returns-in-Ended-clause-failures : goal.returns-in-Ended-clause-failures
returns-in-Ended-clause-failures g c = none_fails (standing_of c.args.self.now) _ (Ok None) c.in-Ended.is

pub returns-in-Ended-clause-same_reference : goal.returns-in-Ended-clause-same_reference
returns-in-Ended-clause-same_reference g c = refl

pub returns-in-Stopped-clause-gives : goal.returns-in-Stopped-clause-gives
returns-in-Stopped-clause-gives g c = stopped_again g.R.Source.remaining c.args.self.now (standing_of c.args.self.now) c.in-Stopped.stop c.in-Stopped.is

pub returns-in-Stopped-clause-settles : goal.returns-in-Stopped-clause-settles
returns-in-Stopped-clause-settles g c = c.in-Stopped.is

pub returns-in-Stopped-clause-failures : goal.returns-in-Stopped-clause-failures
returns-in-Stopped-clause-failures g c = none_stops (standing_of c.args.self.now) _ (Err c.in-Stopped.stop) c.in-Stopped.stop c.in-Stopped.is

pub returns-in-Stopped-clause-same_reference : goal.returns-in-Stopped-clause-same_reference
returns-in-Stopped-clause-same_reference g c = refl

pub returns-in-Ok-Some-clause-settles : goal.returns-in-Ok-Some-clause-settles
returns-in-Ok-Some-clause-settles g c = (c.in-Ok-Some.next, refl)

pub returns-in-Ok-Some-clause-failures : goal.returns-in-Ok-Some-clause-failures
returns-in-Ok-Some-clause-failures g c = part_tells (standing_of c.args.self.now) c.in-Reading.place _ _ (Some c.in-Ok-Some.part) c.in-Reading.is c.in-Ok-Some.ensures.failures

pub returns-in-Ok-Some-clause-same_reference : goal.returns-in-Ok-Some-clause-same_reference
returns-in-Ok-Some-clause-same_reference g c = c.in-Ok-Some.ensures.same_reference

pub returns-in-Ok-None-clause-settles : goal.returns-in-Ok-None-clause-settles
returns-in-Ok-None-clause-settles g c = refl

pub returns-in-Ok-None-clause-failures : goal.returns-in-Ok-None-clause-failures
returns-in-Ok-None-clause-failures g c = part_tells (standing_of c.args.self.now) c.in-Reading.place _ _ None c.in-Reading.is c.in-Ok-None.ensures.failures

pub returns-in-Ok-None-clause-same_reference : goal.returns-in-Ok-None-clause-same_reference
returns-in-Ok-None-clause-same_reference g c = c.in-Ok-None.ensures.same_reference

pub returns-in-Err-clause-settles : goal.returns-in-Err-clause-settles
returns-in-Err-clause-settles g c = refl

pub returns-in-Err-clause-failures : goal.returns-in-Err-clause-failures
returns-in-Err-clause-failures g c = stop_tells (Option (CertPart × NextPart)) (standing_of c.args.self.now) c.in-Reading.place _ _ c.in-Err.stop c.in-Reading.is c.in-Err.ensures.failures

pub returns-in-Err-clause-same_reference : goal.returns-in-Err-clause-same_reference
returns-in-Err-clause-same_reference g c = c.in-Err.ensures.same_reference

pub invariant_of-self : goal.invariant_of-self
invariant_of-self g c =
    let reads = subst (λ a. ReadsPart g.R.Source.remaining c.in-Reading.place (at c.args.self.now.lines c.args.self.now.source) (at c.read_part.new.lines c.read_part.new.source) (Ok a)) c.in-Ok-Some.field-0-is c.in-Ok-Some.ensures.reads in
    record { few_lines = reads.3 }

pub invariant_of-self-in-Ok-None : goal.invariant_of-self-in-Ok-None
invariant_of-self-in-Ok-None g c = record { few_lines = tt }

pub invariant_of-self-in-Err : goal.invariant_of-self-in-Err
invariant_of-self-in-Err g c = record { few_lines = tt }
