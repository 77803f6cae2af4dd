use Rattle.std.proofs.Common.{IsTrue, refl, sym, subst, ◌↔◌, ◌∙◌, ap}
use Rattle.tl_check_verdict.specs.Sound.{IsSound}
use Rattle.tl_list.specs.MapListings.{IsListingFor}
use Rattle.tl_decide.specs.Deciding.{begins_with_faces}
use Rattle.tl_list.proofs.Sounding.{decided_by_first}
use Rattle.tl_list.proofs.sound.has_sound_map.Goals as goal

pub returns-in-Sound : goal.returns-in-Sound
returns-in-Sound c = λ faces m told. let is = subst (IsListingFor faces m) c.in-Sound.is told in ((λ said. is.0.sound), (λ sound. refl))

pub returns-in-Refused : goal.returns-in-Refused
returns-in-Refused c = λ faces m told. absurd (subst (IsListingFor faces m) c.in-Refused.is told)

pub returns-in-Faults : goal.returns-in-Faults
returns-in-Faults c = λ faces m told.
    subst (λ b. IsTrue b ↔ IsSound m) (sym (c.begins_with_faces.ensures ∙ ap begins_with_faces c.deref.ensures.value))
    (decided_by_first faces m c.in-Faults.faults c.in-Faults.touched (subst (IsListingFor faces m) c.in-Faults.is told))
