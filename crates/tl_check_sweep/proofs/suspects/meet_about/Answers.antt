use Rattle.tl_check_sweep.proofs.suspects.meet_about.Goals as goal

pub returns-in-None-clause-first : goal.returns-in-None-clause-first
returns-in-None-clause-first c = λ none. c.meet_in_chain.ensures.none c.in-None.is
