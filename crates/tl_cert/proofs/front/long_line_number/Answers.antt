use Rattle.std.proofs.Common.{arith}
use Rattle.tl_cert.proofs.FrontLemmas.{long_value}
use Rattle.tl_cert.proofs.front.long_line_number.Goals as goal

pub returns : goal.returns
returns c =
    let first = c.in-Some.ensures.digits in (
      omega (arith, first.1),
      record {
        within = omega (arith, first.0.within, c.if-len-bytes.false);
        feed = omega (arith, c.if-bytes-len-ne10.false);
        spelt = long_value c.args.bytes.now c.in-Some.len c.in-Some.value first.0 first.2 c.if-bytes-eq48.false first.1;
      },
    )
