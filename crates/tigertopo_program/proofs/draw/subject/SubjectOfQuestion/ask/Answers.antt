use Rattle.std.specs.Bool.{⊤}
use Rattle.tl_record.specs.Layout.{layout_with}
use Rattle.tigertopo_program.proofs.RecordLemmas.{fault_of, any_fault}
use Rattle.tigertopo_program.proofs.draw.subject.SubjectOfQuestion.ask.Goals as goal

pub returns-then-self-clause-answered : goal.returns-then-self-clause-answered
returns-then-self-clause-answered g c =
    rw c.if-self.true (c.subject_of.ensures.found c.args.self.now.options (g.R.Source.remaining c.args.records.now) c.in_ok-found.ensures.found.whole c.in_ok-found.ensures.of_map)

pub returns-then-self-clause-stopped : goal.returns-then-self-clause-stopped
returns-then-self-clause-stopped g c = c.subject_of.ensures.stopped c.args.self.now.options (g.R.Source.remaining c.args.records.now) c.in_ok-found.ensures.found.whole

pub returns-in_ok-fault_of_records-in-Err-clause-answered : goal.returns-in_ok-fault_of_records-in-Err-clause-answered
returns-in_ok-fault_of_records-in-Err-clause-answered g c =
    fault_of (layout_with c.args.self.now.options) (g.R.Source.remaining c.args.records.now) (λ fault. ⊤) c.in-Err.stop c.in_ok-fault_of_records-in-Err.field-0 c.in_ok-fault_of_records-in-Err.ensures
    c.in-Err.ensures.stops (any_fault c.in-Err.stop)

pub subject_of-requires : goal.subject_of-requires
subject_of-requires g c = c.in_ok-found.ensures.found.why
