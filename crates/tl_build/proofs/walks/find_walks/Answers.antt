use Rattle.std.proofs.Common.{◌≡◌, ◌<◌, ◌^◌, ℕ, [], length, Vec, Global, refl, subst, arith}
use Rattle.std.proofs.lemmas.List.{nil_from_length, length-map}
use Rattle.tl_cert_output.specs.declared.stop.Stop.TheVariants.{Memory}
use Rattle.tl_cert_output.proofs.StopLemmas.{by_stop}
use Rattle.tl_check_verdict.specs.Sound.{IsSound}
use Rattle.tl_decide.proofs.Firsts.{sound_alone}
use Rattle.tl_build.specs.Auditing.{IsMemoryStop}
use Rattle.tl_build.proofs.walks.find_walks.Goals as goal

pub returns-then-is_empty : goal.returns-then-is_empty
returns-then-is_empty c =
    let m = c.args.map.now in
    let decided = c.in_ok-faults.field-0 in
    let none : length decided.faults.items ≡ 0 = grind (arith, c.is_empty.ensures, c.if-is_empty.true) in
    let sound : IsSound m = (c.in_ok-faults.ensures.faults.exact.0 (nil_from_length decided.faults.items none)).sound in
    let walks = c.in_ok-faults.ensures.walks refl sound.planar sound.sides in
    record { sound = sound; walks = walks.are; counted = subst (λ n. n < 2 ^ 32) (length-map decided.walks.items (λ (w : Vec ℕ Global). w.items)) walks.few; stops = tt }

pub returns-clause-sound : goal.returns-clause-sound
returns-clause-sound c = λ sound.
    let decided = c.in_ok-faults.field-0 in
    let none : decided.faults.items ≡ [] = c.in_ok-faults.ensures.faults.exact.1 (sound_alone c.args.map.now sound) in
    let long : length decided.faults.items ≡ 0 = rw none refl in
    grind (arith, long, c.is_empty.ensures, c.if-is_empty.false)

pub returns-in_err-faults-clause-stops : goal.returns-in_err-faults-clause-stops
returns-in_err-faults-clause-stops c = by_stop c.from_residual.result Memory IsMemoryStop c.from_residual.ensures.1 tt
