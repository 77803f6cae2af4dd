use Rattle.std.proofs.Common.{arith}
use Rattle.tl_cert.proofs.FrontLemmas.{small_front}
use Rattle.tl_cert.proofs.front.front_small.Goals as goal

pub returns : goal.returns
returns c = (
  small_front c.args.bytes.now c.requires c.if-bytes-ne32.false c.if-bytes-ne10.false c.if-digit-lt48.false c.if-digit-gt56.false,
  omega (arith, c.if-digit-least.false),
  omega (arith, c.if-digit-gt56.false),
)
