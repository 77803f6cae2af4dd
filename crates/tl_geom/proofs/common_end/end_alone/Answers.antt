use Rattle.tl_geom.proofs.Ends.{end_alone}
use Rattle.tl_geom.proofs.common_end.end_alone.Goals as goal

pub returns-then-are_crossed : goal.returns-then-are_crossed
returns-then-are_crossed c =
    end_alone c.args.s c.args.t c.end_of_both.result c.end_of_both.ensures (c.are_crossed.ensures c.if-are_crossed.true)
