use Rattle.tl_record.proofs.Filled.{aligned_is}
use Rattle.tl_record.proofs.aligned.aligned_number.Goals as goal

pub returns : goal.returns
returns c = aligned_is c.args.bytes.now c.leading_blanks-blanks.result c.args.width c.digits_at.result
    c.leading_blanks-blanks.ensures.blanks c.if-width-blanks.false c.digits_at.ensures.digits c.digits_at.ensures.there c.digits_at.ensures.value
