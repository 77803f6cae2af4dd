use Rattle.tl_record.proofs.LeftLemmas.{few_left, many_left}
use Rattle.tl_record.proofs.laws.what_is_left_has_the_accepted_records.Goals as goal

pub returns-clause-few : goal.returns-clause-few
returns-clause-few c = few_left

pub returns-clause-many : goal.returns-clause-many
returns-clause-many c = many_left
