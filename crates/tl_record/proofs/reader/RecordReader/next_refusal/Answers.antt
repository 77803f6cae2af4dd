use Rattle.std.proofs.Common.{refl}
use Rattle.tl_record.proofs.reader.RecordReader.next_refusal.Goals as goal

pub returns-in-Reading : goal.returns-in-Reading
returns-in-Reading g c =
    let finds = c.search_on.ensures.finds in
    rw c.in-Reading.is (record {
      gives = finds.gives;
      settles = finds.settles;
      repeats = tt;
      failures = finds.failures;
      endless = λ goes. finds.endless;
      same_reference = c.search_on.ensures.same_reference;
    })

pub returns-in-Stopped-Refused : goal.returns-in-Stopped-Refused
returns-in-Stopped-Refused g c =
    let finds = c.search_on-in-Stopped-Refused.ensures.finds in
    let known = rw c.in-Stopped-Refused.is at c.in-Stopped-Refused.field-0-is in
    rw (c.in-Stopped-Refused.is, known) (record {
      gives = finds.gives;
      settles = finds.settles;
      repeats = tt;
      failures = finds.failures;
      endless = λ goes. finds.endless;
      same_reference = c.search_on-in-Stopped-Refused.ensures.same_reference;
    })

pub returns-in-Ended : goal.returns-in-Ended
returns-in-Ended g c =
    rw c.in-Ended.is (record {
      gives = refl;
      settles = refl;
      repeats = (refl, refl);
      failures = refl;
      endless = λ goes. absurd (let wrong = goes in cc);
      same_reference = refl;
    })
