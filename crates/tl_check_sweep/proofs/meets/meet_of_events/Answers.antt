use Rattle.tl_check_sweep.proofs.Freeing.{met_where_free}
use Rattle.tl_check_sweep.proofs.meets.meet_of_events.Goals as goal

pub returns-clause-none : goal.returns-clause-none
returns-clause-none c = λ none. record {
  rising = c.requires.rising;
  meets = λ level.
      met_where_free c.args.map.now.chains c.requires.ranges c.requires.proper c.args.e c.args.f c.requires.one c.requires.other level
      (c.meet_about.ensures.pair none) (c.meet_about.ensures.first none) (c.meet_about.ensures.second none);
}
