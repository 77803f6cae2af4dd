use Rattle.tl_check_verdict.specs.Sound.{IsSound}
use Rattle.tl_check_verdict.specs.Truth.{IsTrueOfMap}
use Rattle.tl_check_verdict.proofs.Denials.{true_alone}
use Rattle.tl_check.proofs.Facing.{sound_so, fault_so}
use Rattle.tl_check.proofs.in_memory.check_map.Goals as goal

pub returns-clause-sound : goal.returns-clause-sound
returns-clause-sound c = sound_so c.check_map_with.result _ (IsSound c.args.map.now) c.check_map_with.ensures.sound (λ so. so.sound)

pub returns-clause-map_fault : goal.returns-clause-map_fault
returns-clause-map_fault c = fault_so c.check_map_with.result _ (IsTrueOfMap c.args.map.now) c.check_map_with.ensures.map_fault (true_alone c.args.map.now)
