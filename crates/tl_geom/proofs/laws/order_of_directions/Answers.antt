use Rattle.tl_geom.proofs.Within.{below_trans, alike_below, alike_above, below_between, below_around}
use Rattle.tl_geom.proofs.laws.order_of_directions.Goals as goal

pub returns : goal.returns
returns c =
    record {
      transitive = below_trans c.args.u c.args.v c.args.w;
      one_direction_below = alike_below c.args.u c.args.v c.args.w;
      one_direction_above = alike_above c.args.u c.args.v c.args.w;
      between = below_between c.args.u c.args.v c.args.w;
      around = below_around c.args.u c.args.v c.args.w;
    }
