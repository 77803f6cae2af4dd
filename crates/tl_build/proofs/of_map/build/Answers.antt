use Rattle.std.proofs.Common.{◌↔◌, false}
use Rattle.tl_check_verdict.specs.Sound.{IsSound, IsSoundFor}
use Rattle.tl_check_verdict.specs.Truth.{IsTrueOfMap}
use Rattle.tl_check_verdict.proofs.Denials.{true_alone}
use Rattle.tl_build.specs.Building.{HasCert}
use Rattle.tl_decide.proofs.Firsts.{sound_alone}
use Rattle.tl_build.proofs.Decided.{cert_leads, fault_leads, built_leads}
use Rattle.tl_build.proofs.of_map.build.Goals as goal

pub returns-clause-sound : goal.returns-clause-sound
returns-clause-sound c = cert_leads c.build_with.result _ (IsSound c.args.map.now) c.build_with.ensures.sound (λ so. so.sound)

pub returns-clause-fault : goal.returns-clause-fault
returns-clause-fault c = fault_leads c.build_with.result _ (IsTrueOfMap c.args.map.now) c.build_with.ensures.fault (true_alone c.args.map.now)

pub returns-clause-exactly : goal.returns-clause-exactly
returns-clause-exactly c =
    built_leads c.build_with.result (λ b. HasCert b ↔ IsSoundFor false c.args.map.now) (λ b. HasCert b ↔ IsSound c.args.map.now) c.build_with.ensures.exactly
    (λ b both. ((λ has. (both.0 has).sound), (λ sound. both.1 (sound_alone c.args.map.now sound))))
