use Rattle.std.proofs.Common.{Ok, Err, subst, ◌∙◌}
use Rattle.tl_cert.specs.Given.{with_part}
use Rattle.tl_cert.specs.Reading.{Gives, source_of, standing_of}
use Rattle.tl_cert.proofs.CollectLemmas.{tells_here}
use Rattle.tl_check.specs.Keeping.Answers.{answer_of, stop_of}
use Rattle.tl_check_verdict.specs.Valid.{AreCounts, IsTree}
use Rattle.tl_check.proofs.Searched.{stopped_searched, stopped_behind, stopped_within, answered_behind, answered_within, ended_searched, searched_so}
use Rattle.tl_check.proofs.Facing.{sound_so}
use Rattle.tl_check.proofs.Streaming.{stop_decides, part_read, end_decides, no_device, fewer_left}
use Rattle.tl_check.proofs.Stopping.{stopped_tells, answered_tells, ended_decides}
use Rattle.tl_check.proofs.Meeting.{meets_so}
use Rattle.tl_check.proofs.as_read.check_parts.Goals as goal

pub take_head-requires-clause-standing : goal.take_head-requires-clause-standing
take_head-requires-clause-standing g c = c.requires.standing

pub take_head-requires-clause-lines : goal.take_head-requires-clause-lines
take_head-requires-clause-lines g c = c.requires.lines

pub returns-in-Err-clause-answers : goal.returns-in-Err-clause-answers
returns-in-Err-clause-answers g c = c.in-Err.ensures.answers

pub returns-in-Err-clause-same_reference : goal.returns-in-Err-clause-same_reference
returns-in-Err-clause-same_reference g c = c.take_head.ensures.same_reference

pub parts-init : goal.parts-init
parts-init g c =
    let b = c.in-Ok.ensures.begins in
    record {
      stands = b.stands;
      searched = b.searched;
      behind = b.behind;
      allowed = b.allowed;
      planar = b.planar;
      failures = b.no_failure;
      same = c.take_head.ensures.same_reference;
    }

pub take_part-requires-clause-comes : goal.take_part-requires-clause-comes
take_part-requires-clause-comes g c =
    let gives = subst (λ a. Gives g.R.Source.remaining c.parts.reader c.next_part.new.self (Ok a) (standing_of c.parts.reader)) c.in-Ok-Some.field-0-is c.in-Ok-Some.ensures.gives in
    (part_read g.R.Source.remaining c.args.map.now c.args.budget c.args.reader.now c.parts.reader c.next_part.new.self c.parts.state c.in-Ok-Some.part c.parts.invariant.stands gives).1

pub take_part-requires-clause-held : goal.take_part-requires-clause-held
take_part-requires-clause-held g c = (c.parts.invariant.stands.cert, c.parts.invariant.stands.holds)

pub parts-preserved : goal.parts-preserved
parts-preserved g c =
    let gives = subst (λ a. Gives g.R.Source.remaining c.parts.reader c.next_part.new.self (Ok a) (standing_of c.parts.reader)) c.in-Ok-Some.field-0-is c.in-Ok-Some.ensures.gives in
    let st = c.parts.invariant.stands in
    let r = (part_read g.R.Source.remaining c.args.map.now c.args.budget c.args.reader.now c.parts.reader c.next_part.new.self c.parts.state c.in-Ok-Some.part c.parts.invariant.stands gives).0 in
    let led = c.in-Ok-take_part.ensures in
    record {
      stands = record {
        place = r.place;
        cert = with_part st.cert c.in-Ok-Some.part;
        collects = r.collects;
        holds = led.holds st.cert st.holds;
        suits = r.suits c.in-Ok-take_part.next led.takes;
      };
      searched = led.searched c.args.budget c.parts.invariant.searched;
      behind = led.behind c.parts.invariant.behind;
      allowed = λ allows. c.parts.invariant.allowed (record { counts = subst (AreCounts c.args.map.now) r.counts allows.counts; tree = subst (IsTree c.args.map.now) r.tree allows.tree });
      planar = c.parts.invariant.planar;
      failures = tells_here (standing_of c.parts.reader) st.place (g.R.Source.failure_count (source_of c.parts.reader)) (g.R.Source.failure_count (source_of c.next_part.new.self)) (Ok c.in-Ok-Some.field-0) st.collects.standing c.in-Ok-Some.ensures.failures ∙ c.parts.invariant.failures;
      same = c.next_part.ensures.same_reference ∙ c.parts.invariant.same;
    }

pub parts-smaller : goal.parts-smaller
parts-smaller g c =
    let gives = subst (λ a. Gives g.R.Source.remaining c.parts.reader c.next_part.new.self (Ok a) (standing_of c.parts.reader)) c.in-Ok-Some.field-0-is c.in-Ok-Some.ensures.gives in
    fewer_left g.R.Source.remaining c.parts.invariant.stands.place c.parts.reader c.next_part.new.self c.in-Ok-Some.part c.parts.invariant.stands.collects.standing gives

pub returns-in-Err-take_part-clause-answers : goal.returns-in-Err-take_part-clause-answers
returns-in-Err-take_part-clause-answers g c =
    let st = c.parts.invariant.stands in
    let halt = c.in-Err-take_part.halt in
    rw c.answer.ensures (record {
      decides = ended_decides c.args.map.now c.args.budget _ halt c.in-Err-take_part.ensures.halts;
      within = answered_within halt _;
      behind = answered_behind halt _;
      meets = meets_so (answer_of halt) _ c.parts.invariant.planar;
      searched = ended_searched halt _ (c.parts.invariant.allowed (c.in-Err-take_part.ensures.allowed st.cert st.holds));
      tells = answered_tells halt (g.R.Source.failure_count (source_of c.args.reader.now)) (g.R.Source.failure_count (source_of c.next_part.new.self))
          (tells_here (standing_of c.parts.reader) st.place (g.R.Source.failure_count (source_of c.parts.reader)) (g.R.Source.failure_count (source_of c.next_part.new.self)) (Ok c.in-Ok-Some.field-0) st.collects.standing c.in-Ok-Some.ensures.failures ∙ c.parts.invariant.failures);
    })

pub returns-in-Err-take_part-clause-same_reference : goal.returns-in-Err-take_part-clause-same_reference
returns-in-Err-take_part-clause-same_reference g c = c.next_part.ensures.same_reference ∙ c.parts.invariant.same

pub returns-in-Ok-None-clause-answers : goal.returns-in-Ok-None-clause-answers
returns-in-Ok-None-clause-answers g c =
    let st = c.parts.invariant.stands in
    let gives = subst (λ a. Gives g.R.Source.remaining c.parts.reader c.next_part.new.self (Ok a) (standing_of c.parts.reader)) c.in-Ok-None.field-0-is c.in-Ok-None.ensures.gives in
    let so = c.conclude.ensures.concluded.concludes st.cert st.holds in
    record {
      decides = end_decides g.R.Source.remaining c.args.map.now c.args.budget c.args.reader.now c.parts.reader c.next_part.new.self c.parts.state c.conclude.result st gives so;
      within = c.conclude.ensures.concluded.within c.args.budget c.parts.invariant.searched;
      behind = c.conclude.ensures.concluded.behind c.parts.invariant.behind;
      meets = meets_so c.conclude.result _ c.parts.invariant.planar;
      searched = searched_so c.conclude.result _ _ c.conclude.ensures.concluded.allowed (λ allows. c.parts.invariant.allowed (allows st.cert st.holds));
      tells = no_device c.args.map.now st.cert c.conclude.result (g.R.Source.failure_count (source_of c.args.reader.now)) (g.R.Source.failure_count (source_of c.next_part.new.self)) so
          (tells_here (standing_of c.parts.reader) st.place (g.R.Source.failure_count (source_of c.parts.reader)) (g.R.Source.failure_count (source_of c.next_part.new.self)) (Ok c.in-Ok-None.field-0) st.collects.standing c.in-Ok-None.ensures.failures ∙ c.parts.invariant.failures);
    }

pub returns-in-Ok-None-clause-same_reference : goal.returns-in-Ok-None-clause-same_reference
returns-in-Ok-None-clause-same_reference g c = c.next_part.ensures.same_reference ∙ c.parts.invariant.same

pub returns-in-Err-next_part-clause-answers : goal.returns-in-Err-next_part-clause-answers
returns-in-Err-next_part-clause-answers g c =
    let st = c.parts.invariant.stands in
    rw c.stopped.ensures (record {
      decides = stop_decides g.R.Source.remaining c.args.map.now c.args.budget c.args.reader.now st.place c.parts.reader c.next_part.new.self st.cert c.in-Err-next_part.stop st.collects c.in-Err-next_part.ensures.gives;
      within = stopped_within c.in-Err-next_part.stop _;
      behind = stopped_behind c.in-Err-next_part.stop _;
      meets = meets_so (stop_of c.in-Err-next_part.stop) _ c.parts.invariant.planar;
      searched = stopped_searched c.in-Err-next_part.stop _;
      tells = stopped_tells c.in-Err-next_part.stop st.place (g.R.Source.failure_count (source_of c.args.reader.now)) (g.R.Source.failure_count (source_of c.parts.reader)) (g.R.Source.failure_count (source_of c.next_part.new.self))
          (tells_here (standing_of c.parts.reader) st.place (g.R.Source.failure_count (source_of c.parts.reader)) (g.R.Source.failure_count (source_of c.next_part.new.self)) (Err c.in-Err-next_part.stop) st.collects.standing c.in-Err-next_part.ensures.failures)
          c.parts.invariant.failures;
    })

pub returns-in-Err-next_part-clause-same_reference : goal.returns-in-Err-next_part-clause-same_reference
returns-in-Err-next_part-clause-same_reference g c = c.next_part.ensures.same_reference ∙ c.parts.invariant.same

pub conclude-requires : goal.conclude-requires
conclude-requires g c = let st = c.parts.invariant.stands in record { held = (st.cert, st.holds) }

pub returns-in-Err-take_part-clause-told : goal.returns-in-Err-take_part-clause-told
returns-in-Err-take_part-clause-told g c = rw c.answer.ensures (answered_within c.in-Err-take_part.halt _)

pub returns-in-Err-next_part-clause-told : goal.returns-in-Err-next_part-clause-told
returns-in-Err-next_part-clause-told g c = rw c.stopped.ensures (stopped_within c.in-Err-next_part.stop _)

pub returns-in-Err-clause-told : goal.returns-in-Err-clause-told
returns-in-Err-clause-told g c = sound_so c.in-Err.early ⊥ _ c.in-Err.ensures.early (λ no. absurd no)
