use Rattle.std.proofs.Common.{Ok, Err, refl, sym, subst, ◌∙◌}
use Rattle.tl_cert.specs.declared.place.NextPart.TheVariants.{Start, Counted, Treed}
use Rattle.tl_cert.specs.declared.place.CertPart.TheVariants as part
use Rattle.tl_cert.specs.Reading.{source_of, standing_of}
use Rattle.tl_cert.proofs.CollectLemmas.{tells_here}
use Rattle.tl_check_verdict.specs.Valid.{AreCounts, IsTree}
use Rattle.tl_check.proofs.Searched.{stopped_searched, stopped_behind, stopped_within, answered_behind, answered_within, halted_searched, reads_allowed}
use Rattle.tl_check.proofs.Streaming.{stop_decides, nothing, begun, counts_read, tree_read, gives_as}
use Rattle.tl_check.proofs.Stopping.{stopped_tells, answered_tells, halted_decides}
use Rattle.tl_check.proofs.Meeting.{halted_meets, planar_by, start_meets, counted_meets, taken_planar}
use Rattle.tl_check.proofs.as_read.take_head.Goals as goal

pub returns-in-Err-clause-begins : goal.returns-in-Err-clause-begins
returns-in-Err-clause-begins g c = tt

pub returns-in-Err-clause-answers : goal.returns-in-Err-clause-answers
returns-in-Err-clause-answers g c =
    let none = begun g.R.Source.remaining c.args.map.now c.args.budget c.args.reader.now c.requires.standing c.requires.lines in
    rw c.stopped.ensures (record {
      decides = stop_decides g.R.Source.remaining c.args.map.now c.args.budget c.args.reader.now Start c.args.reader.now c.next_part.new.self (nothing g.R.Source.remaining c.args.map.now c.args.budget c.args.reader.now) c.in-Err.stop none c.in-Err.ensures.gives;
      within = stopped_within c.in-Err.stop _;
      behind = stopped_behind c.in-Err.stop _;
      meets = start_meets g.R.Source.remaining c.args.map.now c.args.reader.now c.next_part.new.self (nothing g.R.Source.remaining c.args.map.now c.args.budget c.args.reader.now) c.in-Err.stop none c.in-Err.ensures.gives;
      searched = stopped_searched c.in-Err.stop _;
      tells = stopped_tells c.in-Err.stop Start (g.R.Source.failure_count (source_of c.args.reader.now)) (g.R.Source.failure_count (source_of c.args.reader.now)) (g.R.Source.failure_count (source_of c.next_part.new.self))
          (tells_here (standing_of c.args.reader.now) Start (g.R.Source.failure_count (source_of c.args.reader.now)) (g.R.Source.failure_count (source_of c.next_part.new.self)) (Err c.in-Err.stop) c.requires.standing c.in-Err.ensures.failures) refl;
    })

pub returns-in-Err-clause-same_reference : goal.returns-in-Err-clause-same_reference
returns-in-Err-clause-same_reference g c = c.next_part.ensures.same_reference

pub returns-in-Err-next_part-clause-begins : goal.returns-in-Err-next_part-clause-begins
returns-in-Err-next_part-clause-begins g c = tt

pub returns-in-Err-next_part-clause-answers : goal.returns-in-Err-next_part-clause-answers
returns-in-Err-next_part-clause-answers g c =
    let first = gives_as g.R.Source.remaining c.args.reader.now c.next_part.new.self c.in-Ok-Some-Counts.field-0 c.in-Ok-Some-Counts.field-0-0 (part.Counts c.in-Ok-Some-Counts.counts c.in-Ok-Some-Counts.field-0-0-1) c.in-Ok-Some-Counts.field-0-is c.in-Ok-Some-Counts.field-0-0-is c.in-Ok-Some-Counts.ensures.gives in
    let r = counts_read g.R.Source.remaining c.args.map.now c.args.budget c.args.reader.now c.next_part.new.self c.in-Ok-Some-Counts.counts c.in-Ok-Some-Counts.field-0-0-1 c.requires.standing c.requires.lines first in
    rw c.stopped-in-Err-next_part.ensures (record {
      decides = stop_decides g.R.Source.remaining c.args.map.now c.args.budget c.args.reader.now (Counted r.version) c.next_part.new.self c.next_part-2.new.self r.cert c.in-Err-next_part.stop r.collects c.in-Err-next_part.ensures.gives;
      within = stopped_within c.in-Err-next_part.stop _;
      behind = stopped_behind c.in-Err-next_part.stop _;
      meets = counted_meets g.R.Source.remaining c.args.map.now c.args.reader.now r.version c.next_part.new.self c.next_part-2.new.self r.cert c.in-Err-next_part.stop r.collects c.in-Err-next_part.ensures.gives;
      searched = stopped_searched c.in-Err-next_part.stop _;
      tells = stopped_tells c.in-Err-next_part.stop (Counted r.version) (g.R.Source.failure_count (source_of c.args.reader.now)) (g.R.Source.failure_count (source_of c.next_part.new.self)) (g.R.Source.failure_count (source_of c.next_part-2.new.self))
          (tells_here (standing_of c.next_part.new.self) (Counted r.version) (g.R.Source.failure_count (source_of c.next_part.new.self)) (g.R.Source.failure_count (source_of c.next_part-2.new.self)) (Err c.in-Err-next_part.stop) r.collects.standing c.in-Err-next_part.ensures.failures)
          (tells_here (standing_of c.args.reader.now) Start (g.R.Source.failure_count (source_of c.args.reader.now)) (g.R.Source.failure_count (source_of c.next_part.new.self)) (Ok c.in-Ok-Some-Counts.field-0) c.requires.standing c.in-Ok-Some-Counts.ensures.failures);
    })

pub returns-in-Err-next_part-clause-same_reference : goal.returns-in-Err-next_part-clause-same_reference
returns-in-Err-next_part-clause-same_reference g c = c.next_part-2.ensures.same_reference ∙ c.next_part.ensures.same_reference

pub take_counted-requires-clause-whole : goal.take_counted-requires-clause-whole
take_counted-requires-clause-whole g c =
    let first = gives_as g.R.Source.remaining c.args.reader.now c.next_part.new.self c.in-Ok-Some-Counts.field-0 c.in-Ok-Some-Counts.field-0-0 (part.Counts c.in-Ok-Some-Counts.counts c.in-Ok-Some-Counts.field-0-0-1) c.in-Ok-Some-Counts.field-0-is c.in-Ok-Some-Counts.field-0-0-is c.in-Ok-Some-Counts.ensures.gives in
    let r = counts_read g.R.Source.remaining c.args.map.now c.args.budget c.args.reader.now c.next_part.new.self c.in-Ok-Some-Counts.counts c.in-Ok-Some-Counts.field-0-0-1 c.requires.standing c.requires.lines first in
    let second = gives_as g.R.Source.remaining c.next_part.new.self c.next_part-2.new.self c.in-Ok-Some-Tree.field-0 c.in-Ok-Some-Tree.field-0-0 (part.Tree c.in-Ok-Some-Tree.nodes) c.in-Ok-Some-Tree.field-0-is c.in-Ok-Some-Tree.field-0-0-is c.in-Ok-Some-Tree.ensures.gives in
    let t = tree_read g.R.Source.remaining c.args.map.now c.args.budget c.args.reader.now c.next_part.new.self c.next_part-2.new.self c.in-Ok-Some-Counts.counts c.in-Ok-Some-Tree.nodes r second in
    rw c.deref.ensures.value t.preorder

pub take_counted-requires-clause-numbered : goal.take_counted-requires-clause-numbered
take_counted-requires-clause-numbered g c =
    let first = gives_as g.R.Source.remaining c.args.reader.now c.next_part.new.self c.in-Ok-Some-Counts.field-0 c.in-Ok-Some-Counts.field-0-0 (part.Counts c.in-Ok-Some-Counts.counts c.in-Ok-Some-Counts.field-0-0-1) c.in-Ok-Some-Counts.field-0-is c.in-Ok-Some-Counts.field-0-0-is c.in-Ok-Some-Counts.ensures.gives in
    let r = counts_read g.R.Source.remaining c.args.map.now c.args.budget c.args.reader.now c.next_part.new.self c.in-Ok-Some-Counts.counts c.in-Ok-Some-Counts.field-0-0-1 c.requires.standing c.requires.lines first in
    let second = gives_as g.R.Source.remaining c.next_part.new.self c.next_part-2.new.self c.in-Ok-Some-Tree.field-0 c.in-Ok-Some-Tree.field-0-0 (part.Tree c.in-Ok-Some-Tree.nodes) c.in-Ok-Some-Tree.field-0-is c.in-Ok-Some-Tree.field-0-0-is c.in-Ok-Some-Tree.ensures.gives in
    let t = tree_read g.R.Source.remaining c.args.map.now c.args.budget c.args.reader.now c.next_part.new.self c.next_part-2.new.self c.in-Ok-Some-Counts.counts c.in-Ok-Some-Tree.nodes r second in
    rw c.deref.ensures.value t.few

pub returns-in-Ok-take_counted-clause-begins : goal.returns-in-Ok-take_counted-clause-begins
returns-in-Ok-take_counted-clause-begins g c =
    let first = gives_as g.R.Source.remaining c.args.reader.now c.next_part.new.self c.in-Ok-Some-Counts.field-0 c.in-Ok-Some-Counts.field-0-0 (part.Counts c.in-Ok-Some-Counts.counts c.in-Ok-Some-Counts.field-0-0-1) c.in-Ok-Some-Counts.field-0-is c.in-Ok-Some-Counts.field-0-0-is c.in-Ok-Some-Counts.ensures.gives in
    let r = counts_read g.R.Source.remaining c.args.map.now c.args.budget c.args.reader.now c.next_part.new.self c.in-Ok-Some-Counts.counts c.in-Ok-Some-Counts.field-0-0-1 c.requires.standing c.requires.lines first in
    let second = gives_as g.R.Source.remaining c.next_part.new.self c.next_part-2.new.self c.in-Ok-Some-Tree.field-0 c.in-Ok-Some-Tree.field-0-0 (part.Tree c.in-Ok-Some-Tree.nodes) c.in-Ok-Some-Tree.field-0-is c.in-Ok-Some-Tree.field-0-0-is c.in-Ok-Some-Tree.ensures.gives in
    let t = tree_read g.R.Source.remaining c.args.map.now c.args.budget c.args.reader.now c.next_part.new.self c.next_part-2.new.self c.in-Ok-Some-Counts.counts c.in-Ok-Some-Tree.nodes r second in
    let holds = c.in-Ok-take_counted.ensures.holds t.cert t.counts_are (t.tree_is ∙ sym c.deref.ensures.value) t.no_rounds t.no_walks in
    record {
      stands = record { place = Treed t.version; cert = t.cert; collects = t.collects; holds = holds; suits = c.in-Ok-take_counted.ensures.rounds };
      searched = c.in-Ok-take_counted.ensures.searched;
      behind = c.in-Ok-take_counted.ensures.behind;
      allowed = reads_allowed g.R.Source.remaining c.args.map.now t.version t.cert c.args.reader.now c.next_part-2.new.self t.collects;
      planar = taken_planar g.R.Source.remaining c.args.map.now c.args.reader.now t.version c.next_part-2.new.self t.cert c.in-Ok-take_counted.state t.collects holds c.in-Ok-take_counted.ensures.behind;
      no_failure =
          tells_here (standing_of c.next_part.new.self) (Counted r.version) (g.R.Source.failure_count (source_of c.next_part.new.self)) (g.R.Source.failure_count (source_of c.next_part-2.new.self)) (Ok c.in-Ok-Some-Tree.field-0) r.collects.standing c.in-Ok-Some-Tree.ensures.failures
          ∙ tells_here (standing_of c.args.reader.now) Start (g.R.Source.failure_count (source_of c.args.reader.now)) (g.R.Source.failure_count (source_of c.next_part.new.self)) (Ok c.in-Ok-Some-Counts.field-0) c.requires.standing c.in-Ok-Some-Counts.ensures.failures;
    }

pub returns-in-Ok-take_counted-clause-answers : goal.returns-in-Ok-take_counted-clause-answers
returns-in-Ok-take_counted-clause-answers g c = tt

pub returns-in-Ok-take_counted-clause-same_reference : goal.returns-in-Ok-take_counted-clause-same_reference
returns-in-Ok-take_counted-clause-same_reference g c = c.next_part-2.ensures.same_reference ∙ c.next_part.ensures.same_reference

pub returns-clause-begins : goal.returns-clause-begins
returns-clause-begins g c = tt

pub returns-clause-answers : goal.returns-clause-answers
returns-clause-answers g c =
    let first = gives_as g.R.Source.remaining c.args.reader.now c.next_part.new.self c.in-Ok-Some-Counts.field-0 c.in-Ok-Some-Counts.field-0-0 (part.Counts c.in-Ok-Some-Counts.counts c.in-Ok-Some-Counts.field-0-0-1) c.in-Ok-Some-Counts.field-0-is c.in-Ok-Some-Counts.field-0-0-is c.in-Ok-Some-Counts.ensures.gives in
    let r = counts_read g.R.Source.remaining c.args.map.now c.args.budget c.args.reader.now c.next_part.new.self c.in-Ok-Some-Counts.counts c.in-Ok-Some-Counts.field-0-0-1 c.requires.standing c.requires.lines first in
    let second = gives_as g.R.Source.remaining c.next_part.new.self c.next_part-2.new.self c.in-Ok-Some-Tree.field-0 c.in-Ok-Some-Tree.field-0-0 (part.Tree c.in-Ok-Some-Tree.nodes) c.in-Ok-Some-Tree.field-0-is c.in-Ok-Some-Tree.field-0-0-is c.in-Ok-Some-Tree.ensures.gives in
    let t = tree_read g.R.Source.remaining c.args.map.now c.args.budget c.args.reader.now c.next_part.new.self c.next_part-2.new.self c.in-Ok-Some-Counts.counts c.in-Ok-Some-Tree.nodes r second in
    rw c.answer.ensures (record {
      decides = halted_decides c.args.map.now c.args.budget _ c.in-Err-take_counted.halt c.in-Err-take_counted.ensures.halts;
      within = answered_within c.in-Err-take_counted.halt _;
      behind = answered_behind c.in-Err-take_counted.halt _;
      meets = halted_meets c.in-Err-take_counted.halt _ _ c.in-Err-take_counted.ensures.meets (planar_by c.args.map.now _);
      searched = halted_searched c.in-Err-take_counted.halt _ _ c.in-Err-take_counted.ensures.tree
          (λ so. reads_allowed g.R.Source.remaining c.args.map.now t.version t.cert c.args.reader.now c.next_part-2.new.self t.collects (record {
            counts = subst (AreCounts c.args.map.now) (sym t.counts_are) so.0;
            tree = subst (IsTree c.args.map.now) (c.deref.ensures.value ∙ sym t.tree_is) so.1;
          }));
      tells = answered_tells c.in-Err-take_counted.halt (g.R.Source.failure_count (source_of c.args.reader.now)) (g.R.Source.failure_count (source_of c.next_part-2.new.self))
          (tells_here (standing_of c.next_part.new.self) (Counted r.version) (g.R.Source.failure_count (source_of c.next_part.new.self)) (g.R.Source.failure_count (source_of c.next_part-2.new.self)) (Ok c.in-Ok-Some-Tree.field-0) r.collects.standing c.in-Ok-Some-Tree.ensures.failures
          ∙ (tells_here (standing_of c.args.reader.now) Start (g.R.Source.failure_count (source_of c.args.reader.now)) (g.R.Source.failure_count (source_of c.next_part.new.self)) (Ok c.in-Ok-Some-Counts.field-0) c.requires.standing c.in-Ok-Some-Counts.ensures.failures));
    })

pub returns-clause-same_reference : goal.returns-clause-same_reference
returns-clause-same_reference g c = c.next_part-2.ensures.same_reference ∙ c.next_part.ensures.same_reference

pub returns-in-Err-clause-early : goal.returns-in-Err-clause-early
returns-in-Err-clause-early g c = rw c.stopped.ensures (stopped_within c.in-Err.stop _)

pub returns-in-Err-next_part-clause-early : goal.returns-in-Err-next_part-clause-early
returns-in-Err-next_part-clause-early g c = rw c.stopped-in-Err-next_part.ensures (stopped_within c.in-Err-next_part.stop _)

pub returns-clause-early : goal.returns-clause-early
returns-clause-early g c = rw c.answer.ensures (answered_within c.in-Err-take_counted.halt _)
