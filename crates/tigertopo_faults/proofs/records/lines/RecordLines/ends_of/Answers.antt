use Rattle.std.proofs.Common.{sym, ◌∙◌}
use Rattle.tigertopo_faults.specs.Records.Kept.{in_lists}
use Rattle.tigertopo_faults.proofs.WalkedLemmas.{ends_there}
use Rattle.tigertopo_faults.proofs.records.lines.RecordLines.ends_of.Goals as goal

pub returns : goal.returns
returns c =
    let lines = c.args.self.now in
    let its = c.at-lines.result.now in
    let k = c.in-Some.segment in
    rw c.in-Some.is (c.add_ends-2.ensures.lines
    ∙ rw (c.add_ends.ensures.lines, c.new-found.ensures, c.segment_of-first.ensures, c.segment_of-second.ensures, c.as_slice.ensures.value, c.as_slice-2.ensures.value)
    (ends_there lines.kept.subjects.keys lines.kept.lines.items c.args.tlid k c.in-Some-number_of.number its (in_lists lines.first.items) (in_lists lines.second.items)
    (sym c.number_of.ensures ∙ c.in-Some-number_of.is) c.at-lines.ensures lines.first_walked lines.second_walked))
