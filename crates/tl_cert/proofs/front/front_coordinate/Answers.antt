use Rattle.tl_cert.proofs.front.front_coordinate.Goals as goal

pub returns-in_default-clause-first : goal.returns-in_default-clause-first
returns-in_default-clause-first c = tt

pub returns-in_default-clause-few : goal.returns-in_default-clause-few
returns-in_default-clause-few c = tt

pub returns-in_default-long_number-clause-first : goal.returns-in_default-long_number-clause-first
returns-in_default-long_number-clause-first c = tt

pub returns-in_default-long_number-clause-few : goal.returns-in_default-long_number-clause-few
returns-in_default-long_number-clause-few c = tt

pub returns-in_default-long_number-2-clause-first : goal.returns-in_default-long_number-2-clause-first
returns-in_default-long_number-2-clause-first c = tt

pub returns-in_default-long_number-2-clause-few : goal.returns-in_default-long_number-2-clause-few
returns-in_default-long_number-2-clause-few c = tt
