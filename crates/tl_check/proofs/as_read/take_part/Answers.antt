use Rattle.std.proofs.Common.{sym, subst}
use Rattle.std.proofs.lemmas.Result.{err_from_is_err_and}
use Rattle.tl_cert.specs.Given.{with_part}
use Rattle.tl_check.specs.Keeping.Parts.{IsLed, TakesRounds, TakesWalks, with_round, with_walk}
use Rattle.tl_check.specs.Keeping.Streams.{MayCome, TakesBehind}
use Rattle.tl_check.proofs.Walking.{led_on}
use Rattle.tl_check.proofs.as_read.take_part.Goals as goal

pub take_round-requires-clause-some : goal.take_round-requires-clause-some
take_round-requires-clause-some c = rw c.deref.ensures.value (subst (λ p. MayCome p c.args.state) c.in-Round.is c.requires.comes).0

pub take_round-requires-clause-held : goal.take_round-requires-clause-held
take_round-requires-clause-held c = c.requires.held

pub take_round-requires-clause-takes : goal.take_round-requires-clause-takes
take_round-requires-clause-takes c = (subst (λ p. MayCome p c.args.state) c.in-Round.is c.requires.comes).1

pub take_walk-requires-clause-some : goal.take_walk-requires-clause-some
take_walk-requires-clause-some c = rw c.deref-in-Walk.ensures.value (subst (λ p. MayCome p c.args.state) c.in-Walk.is c.requires.comes)

pub take_walk-requires-clause-held : goal.take_walk-requires-clause-held
take_walk-requires-clause-held c = (c.requires.held.0, c.in_ok-ended-in-Walk.ensures.holds c.requires.held.0 c.requires.held.1)

pub take_walk-requires-clause-takes : goal.take_walk-requires-clause-takes
take_walk-requires-clause-takes c = c.in_ok-ended-in-Walk.ensures.takes

pub returns-in-Round : goal.returns-in-Round
returns-in-Round c =
    subst (λ p. IsLed c.args.map.now (λ cert. with_part cert p) (TakesBehind p) c.args.state c.take_round.result) (sym c.in-Round.is)
    (subst (λ darts. IsLed c.args.map.now (λ cert. with_round cert darts) TakesRounds c.args.state c.take_round.result) c.deref.ensures.value c.take_round.ensures)

pub returns-in_ok-ended-in-Walk : goal.returns-in_ok-ended-in-Walk
returns-in_ok-ended-in-Walk c =
    subst (λ p. IsLed c.args.map.now (λ cert. with_part cert p) (TakesBehind p) c.args.state c.take_walk.result) (sym c.in-Walk.is)
    (led_on c.args.map.now c.in-Walk.darts.items c.args.state c.in_ok-ended-in-Walk.ended c.take_walk.result c.in_ok-ended-in-Walk.ensures
    (subst (λ darts. IsLed c.args.map.now (λ cert. with_walk cert darts) TakesWalks c.in_ok-ended-in-Walk.ended c.take_walk.result) c.deref-in-Walk.ensures.value c.take_walk.ensures))

pub returns-in_err-ended-in-Walk : goal.returns-in_err-ended-in-Walk
returns-in_err-ended-in-Walk c = let p = err_from_is_err_and c.from_residual.result c.from_residual.ensures.1 in rw (c.in-Walk.is, p.1, p.2) c.in_err-ended-in-Walk.ensures
