use Rattle.std.specs.Bool.{⊤}
use Rattle.tl_record.specs.Layout.{layout_with}
use Rattle.tigertopo_program.proofs.RecordLemmas.{fault_of, any_fault}
use Rattle.tigertopo_program.proofs.records.MapOfQuestion.ask.Goals as goal

pub returns-in_ok-fault_of_records-in-Err-clause-answered :
    goal.returns-in_ok-fault_of_records-in-Err-clause-answered
returns-in_ok-fault_of_records-in-Err-clause-answered g c =
    fault_of (layout_with c.args.self.now.options) (g.R.Source.remaining c.args.records.now) (λ fault. ⊤) c.in-Err.stop c.in_ok-fault_of_records-in-Err.field-0 c.in_ok-fault_of_records-in-Err.ensures
    c.in-Err.ensures.stops (any_fault c.in-Err.stop)
