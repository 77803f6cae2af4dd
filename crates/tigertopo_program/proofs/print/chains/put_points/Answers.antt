use Rattle.std.proofs.Common.{◌≡◌, ◌∙◌, ◌+◌, ◌-◌, drop, pos, arith}
use Rattle.tigertopo_program.proofs.PrintingLemmas.{points_text-back}
use Rattle.tigertopo_program.proofs.print.chains.put_points.Goals as goal

pub loop-left-preserved : goal.loop-left-preserved
loop-left-preserved c =
    let here : c.loop-left.left - 1 + 1 ≡ c.loop-left.left = omega arith in
    let back = points_text-back c.args.points.now (c.loop-left.left - 1) (record { x = pos 0; y = pos 0 }) (drop c.args.end c.args.text.now) (omega arith) in
    record {
      below = omega arith;
      room = omega arith;
      within = omega arith;
      text = (rw c.loop-left.invariant.text at c.put_point-start.ensures.text) ∙ (rw here at back);
    }
