use Rattle.std.proofs.Common.{w32}
use Rattle.std.proofs.lemmas.Int.{wrapping_sub_is}
use Rattle.tl_geom.proofs.common_end.low_difference.Goals as goal

pub returns : goal.returns
returns c = wrapping_sub_is w32 c.args.a c.args.b c.ranges.a c.ranges.b
