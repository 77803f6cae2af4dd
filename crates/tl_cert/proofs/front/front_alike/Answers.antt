use Rattle.tl_cert.proofs.front.front_alike.Goals as goal

pub returns-in_default-clause-front : goal.returns-in_default-clause-front
returns-in_default-clause-front c = tt

pub returns-in_default-clause-few : goal.returns-in_default-clause-few
returns-in_default-clause-few c = tt

pub returns-in_default-next_behind-clause-front : goal.returns-in_default-next_behind-clause-front
returns-in_default-next_behind-clause-front c = tt

pub returns-in_default-next_behind-clause-few : goal.returns-in_default-next_behind-clause-few
returns-in_default-next_behind-clause-few c = tt

pub returns-then-bytes-lt10-clause-front : goal.returns-then-bytes-lt10-clause-front
returns-then-bytes-lt10-clause-front c = tt

pub returns-then-bytes-lt10-clause-few : goal.returns-then-bytes-lt10-clause-few
returns-then-bytes-lt10-clause-few c = tt

pub returns-clause-few : goal.returns-clause-few
returns-clause-few c = c.short_number.ensures.few
