use Rattle.tl_record.specs.Leaving.{left_to_come}
use Rattle.tl_list.proofs.Gathering.{keeps_taken}
use Rattle.tl_list.proofs.reading.read_all.Goals as goal

pub returns-in_ok-kept-in-Some-clause-read : goal.returns-in_ok-kept-in-Some-clause-read
returns-in_ok-kept-in-Some-clause-read g c =
    let read = c.in_ok-refused.ensures.read in
    let taken = rw c.in-Some.is at read in
    (keeps_taken c.args.joins (left_to_come g.R.Source.remaining c.args.reader.now) _ c.in-Some.taken c.in_ok-kept-in-Some.kept c.in_ok-kept-in-Some.ensures taken.0, taken.1)

pub returns-in_ok-kept-in-Some-clause-records : goal.returns-in_ok-kept-in-Some-clause-records
returns-in_ok-kept-in-Some-clause-records g c =
    let records = c.in_ok-refused.ensures.records in rw c.in-Some.is at records
