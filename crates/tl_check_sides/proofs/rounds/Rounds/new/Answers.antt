use Rattle.std.proofs.Common.{arith}
use Rattle.tl_check_sides.proofs.rounds.Rounds.new.Goals as goal

pub returns-clause-sized : goal.returns-clause-sized
returns-clause-sized c = record {
  next = omega (arith, c.in-Ok.ensures.len, c.darts.ensures);
  marks = omega (arith, c.in-Ok-vec.ensures.len, c.darts-2.ensures);
  points = c.nodes.ensures.0;
  are = c.nodes.ensures.1;
  nodes = omega (arith, c.in-Ok-vec-2.ensures.len, c.nodes.ensures.2);
  few = omega (arith, c.darts.ensures);
  taken = omega arith;
}
