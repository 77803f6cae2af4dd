use Rattle.tigertopo_program.proofs.DecideLemmas.CheckLemmas.{checked, check_stops, tells_both}
use Rattle.tigertopo_program.proofs.decide.deciding.CheckOfReading.read.Goals as goal

pub returns-clause-answered : goal.returns-clause-answered
returns-clause-answered g c =
    let asked = c.args.self.now in
    let told = c.check_with.ensures in
    checked asked.options asked.budget (g.R.Source.remaining c.args.joined.now) (g.S.Source.remaining c.args.single.now) c.check_with.result told.sound told.within told.valid told.report told.map_fault told.searched told.cert_fault
    told.behind told.meets

pub returns-clause-stopped : goal.returns-clause-stopped
returns-clause-stopped g c =
    let asked = c.args.self.now in
    check_stops asked.options asked.budget (g.R.Source.remaining c.args.joined.now) (g.S.Source.remaining c.args.single.now) c.check_with.result c.check_with.ensures.stops c.check_with.ensures.searched

pub returns-clause-failures : goal.returns-clause-failures
returns-clause-failures g c = tells_both _ _ _ _ _ c.check_with.result c.requires.fresh c.requires.fresh_single c.check_with.ensures.failures
