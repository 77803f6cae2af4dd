use Rattle.std.proofs.Common.{pos}
use Rattle.tl_geom.proofs.Masks.{lanes-again}
use Rattle.tl_geom.proofs.Turns.{turned-side}
use Rattle.tl_geom.proofs.rect8.Rect8.turned.Goals as goal

pub turned8-requires : goal.turned8-requires
turned8-requires c = lanes-again c.args.self.now.xmin c.args.self.now.west

pub turned8-requires-2 : goal.turned8-requires-2
turned8-requires-2 c = lanes-again c.args.self.now.ymin c.args.self.now.south

pub turned8-requires-3 : goal.turned8-requires-3
turned8-requires-3 c = lanes-again c.args.self.now.xmax c.args.self.now.east

pub turned8-requires-4 : goal.turned8-requires-4
turned8-requires-4 c = lanes-again c.args.self.now.ymax c.args.self.now.north

pub invariant_of-result : goal.invariant_of-result
invariant_of-result c =
    record {
      west = lanes-again c.turned8.result c.turned8.ensures.lanes;
      south = lanes-again c.turned8-2.result c.turned8-2.ensures.lanes;
      east = lanes-again c.turned8-3.result c.turned8-3.ensures.lanes;
      north = lanes-again c.turned8-4.result c.turned8-4.ensures.lanes;
    }

pub returns : goal.returns
returns c =
    let self = c.args.self.now in
    λ k lt.
    rw (
      turned-side self.xmin c.turned8.result (pos 1) k self.west c.turned8.ensures.lanes (c.turned8.ensures.value k lt) lt,
      turned-side self.ymin c.turned8-2.result (pos 1) k self.south c.turned8-2.ensures.lanes (c.turned8-2.ensures.value k lt) lt,
      turned-side self.xmax c.turned8-3.result (pos 0) k self.east c.turned8-3.ensures.lanes (c.turned8-3.ensures.value k lt) lt,
      turned-side self.ymax c.turned8-4.result (pos 0) k self.north c.turned8-4.ensures.lanes (c.turned8-4.ensures.value k lt) lt,
    )
