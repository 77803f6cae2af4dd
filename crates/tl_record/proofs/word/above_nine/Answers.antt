use Rattle.tl_record.proofs.MovedDigits.{bits_above}
use Rattle.tl_record.proofs.word.above_nine.Goals as goal

pub returns : goal.returns
returns c = λ bytes of. bits_above bytes c.args.word of
