use Rattle.tl_check_verdict.proofs.Deciding.{passes}
use Rattle.tl_check_verdict.proofs.laws.a_sound_map_with_a_valid_text_passes.Goals as goal

pub returns : goal.returns
returns c = passes
