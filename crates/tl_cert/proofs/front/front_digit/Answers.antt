use Rattle.std.proofs.Common.{arith}
use Rattle.tl_cert.proofs.FrontLemmas.{digit_front}
use Rattle.tl_cert.proofs.front.front_digit.Goals as goal

pub returns : goal.returns
returns c = (
  omega (arith, c.if-digit-gt57.false),
  digit_front c.args.bytes.now c.args.letter c.if-bytes-lt4.false c.if-bytes-letter.false c.if-bytes-ne32.false c.if-bytes-ne10.false c.if-digit-lt48.false c.if-digit-gt57.false,
)
