use Rattle.tigertopo_faults.proofs.hint.tell.hint_of.Goals as goal

pub returns-in-Record-clause-hint : goal.returns-in-Record-clause-hint
returns-in-Record-clause-hint g c = rw c.in-Record.is c.refusal_hint.ensures.hint

pub returns-in-Record-clause-stops : goal.returns-in-Record-clause-stops
returns-in-Record-clause-stops g c = c.refusal_hint.ensures.stops

pub returns-in-Record-clause-stays : goal.returns-in-Record-clause-stays
returns-in-Record-clause-stays g c = c.refusal_hint.ensures.stays

pub returns-in-Record-clause-logged : goal.returns-in-Record-clause-logged
returns-in-Record-clause-logged g c = c.refusal_hint.ensures.logged
