use Rattle.tl_check_verdict.proofs.Deciding.{not_sound_records}
use Rattle.tl_check_verdict.proofs.laws.records_of_a_sound_map_have_no_fault.Goals as goal

pub returns : goal.returns
returns c = not_sound_records
