use Rattle.std.proofs.Common.{inl, inr, refl, subst}
use Rattle.tl_list.specs.Keeping.OfRecords.{IsListingOfRecords}
use Rattle.tl_list.proofs.left.faults_left.Goals as goal

pub returns-in-Sound : goal.returns-in-Sound
returns-in-Sound c = λ faces all are.
    inr (c.new.ensures.items, refl, (c.in-Sound.field-0, record { told = subst (IsListingOfRecords faces all) c.in-Sound.is are.told; drawn = are.drawn }))

pub returns-in-Refused : goal.returns-in-Refused
returns-in-Refused c = λ faces all are. subst (IsListingOfRecords faces all) c.in-Refused.is are.told

pub returns : goal.returns
returns c = λ faces all are. inl (record { told = subst (IsListingOfRecords faces all) c.in-Faults.is are.told; drawn = are.drawn })
