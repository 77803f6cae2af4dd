use Rattle.tl_check_verdict.proofs.Denials.{not_sound}
use Rattle.tl_check_verdict.proofs.laws.a_sound_map_has_no_fault.Goals as goal

pub returns : goal.returns
returns c = not_sound
