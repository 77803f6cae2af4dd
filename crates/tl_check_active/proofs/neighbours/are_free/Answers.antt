use Rattle.std.proofs.Common.{inl, inr}
use Rattle.tl_check_active.proofs.neighbours.are_free.Goals as goal

pub returns-in-Apart : goal.returns-in-Apart
returns-in-Apart c = λ h. inl (c.contact.ensures.apart.0 c.in-Apart.is)

pub returns-in-AtEnds : goal.returns-in-AtEnds
returns-in-AtEnds c = λ h. inr (_, (c.contact.ensures.at_ends _).0 c.in-AtEnds.is)
