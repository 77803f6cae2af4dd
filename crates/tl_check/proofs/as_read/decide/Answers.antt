use Rattle.tl_check_verdict.specs.Sound.{IsSound}
use Rattle.tl_check.proofs.Facing.{decided, sound_so, told}
use Rattle.tl_check.proofs.as_read.decide.Goals as goal

pub with_faces-requires : goal.with_faces-requires
with_faces-requires g c =
    record {
      sound = sound_so c.check_text-decided.result _ (IsSound c.args.map.now) c.check_text-decided.ensures.decides.sound (λ so. so.sound);
      told = rw c.deref.ensures.value c.check_text-decided.ensures.told;
    }

pub returns : goal.returns
returns g c =
    let answer = c.check_text-decided.result in
    record {
      decides =
          decided c.args.faces c.args.map.now c.args.budget _ _ _ _ _ answer c.with_faces.result c.with_faces.ensures
          c.check_text-decided.ensures.decides;
      failures = told c.args.faces c.args.map.now _ _ answer c.with_faces.result c.with_faces.ensures c.check_text-decided.ensures.failures;
    }
