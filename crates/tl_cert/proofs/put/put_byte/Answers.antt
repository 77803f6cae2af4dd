use Rattle.tl_cert.proofs.PutLemmas.{puts_byte}
use Rattle.tl_cert.proofs.put.put_byte.Goals as goal

pub returns : goal.returns
returns c = puts_byte c.args.byte c.args.end c.args.text.now c.requires
