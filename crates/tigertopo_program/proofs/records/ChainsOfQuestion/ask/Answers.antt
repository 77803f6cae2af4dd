use Rattle.std.proofs.Common.{inr}
use Rattle.tl_record.specs.Layout.{layout_with}
use Rattle.tl_map_rules.specs.Faults.{IsFaultOfChains}
use Rattle.tigertopo_program.proofs.RecordLemmas.{fault_of, tells_fault}
use Rattle.tigertopo_program.proofs.records.ChainsOfQuestion.ask.Goals as goal

pub returns-in_ok-fault_of_records-in-Err-clause-answered : goal.returns-in_ok-fault_of_records-in-Err-clause-answered
returns-in_ok-fault_of_records-in-Err-clause-answered g c =
    let of = fault_of (layout_with c.args.self.now.options) _ IsFaultOfChains c.in-Err.stop _ c.in_ok-fault_of_records-in-Err.ensures c.in-Err.ensures.stops c.in-Err.ensures.of_chains in
    rw c.fault.ensures (inr (tells_fault (layout_with c.args.self.now.options) _ IsFaultOfChains c.in_ok-fault_of_records-in-Err.field-0 of))
