use Rattle.tl_list.proofs.Listed.{sound_alone}
use Rattle.tl_list.proofs.laws.a_sound_map_alone_is_listed_as_sound.Goals as goal

pub returns : goal.returns
returns c = sound_alone
