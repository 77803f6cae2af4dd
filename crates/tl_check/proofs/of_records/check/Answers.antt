use Rattle.std.proofs.lemmas.Option.{IfSome_then}
use Rattle.tl_record.specs.Layout.{tiger_2006}
use Rattle.tl_record.specs.Records.{lines_read}
use Rattle.tl_check_verdict.specs.Sound.{IsSound}
use Rattle.tl_check_verdict.proofs.OneMap.{weaker}
use Rattle.tl_check_verdict.proofs.Recording.{true_of_records_alone}
use Rattle.tl_check.proofs.Facing.{sound_so, fault_so}
use Rattle.tl_check.proofs.of_records.check.Goals as goal

pub returns-clause-sound : goal.returns-clause-sound
returns-clause-sound g c =
    sound_so c.check_with.result _ _ c.check_with.ensures.sound
    (λ is. IfSome_then (g.R.Source.remaining c.args.records.now) is (λ t have. weaker _ _ IsSound (λ m so. so.sound) have))

pub returns-clause-map_fault : goal.returns-clause-map_fault
returns-clause-map_fault g c =
    fault_so c.check_with.result _ _ c.check_with.ensures.map_fault
    (λ fault is. IfSome_then (g.R.Source.remaining c.args.records.now) is (λ t true. true_of_records_alone (lines_read tiger_2006 t) fault true))
