use Rattle.std.proofs.lemmas.Bool.{eqb-true, not-false}
use Rattle.tl_record.proofs.MovedDigits.{none_marked}
use Rattle.tl_record.proofs.word.has_above_nine.Goals as goal

pub returns : goal.returns
returns c = λ is bytes of. none_marked bytes c.args.word of c.ranges.word.fits (eqb-true _ _ (not-false _ is))
