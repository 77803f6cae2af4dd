use Rattle.tigertopo_border.proofs.WholeLemmas.Parting.{told_good}
use Rattle.tigertopo_border.proofs.WholeLemmas.Told.{planar}
use Rattle.tigertopo_border.proofs.whole.laws.told_chains_are_sound.Goals as goal

pub returns-clause-planar : goal.returns-clause-planar
returns-clause-planar c = λ names told chains others are all. planar names told chains others are all

pub returns-clause-sides : goal.returns-clause-sides
returns-clause-sides c = λ names told chains others are outside passed proper planar agree truth.
    (told_good names told outside passed chains others are (record { proper = proper; planar = planar; agree = agree; truth = truth })).agree

pub returns-clause-faces : goal.returns-clause-faces
returns-clause-faces c = λ names told chains others are outside passed proper planar agree truth.
    (told_good names told outside passed chains others are (record { proper = proper; planar = planar; agree = agree; truth = truth })).truth
