use Rattle.std.proofs.Common.{◌≡◌, ◌↔◌, ◌≤ℤ◌, pos, map, get_or, to_z, of_z, w32}
use Rattle.std.specs.Int.{bit_at, int_max, int_min}
use Rattle.tl_geom.proofs.Masks.{again, lanes-again}
use Rattle.tl_geom.proofs.rect8.overlap8.Goals as goal

pub greater8-requires-clause-first : goal.greater8-requires-clause-first
greater8-requires-clause-first c = lanes-again c.args.low c.requires.low

pub greater8-requires-clause-second : goal.greater8-requires-clause-second
greater8-requires-clause-second c = lanes-again c.args.low2 c.requires.low2

pub lesser8-requires-clause-first : goal.lesser8-requires-clause-first
lesser8-requires-clause-first c = lanes-again c.args.high c.requires.high

pub lesser8-requires-clause-second : goal.lesser8-requires-clause-second
lesser8-requires-clause-second c = lanes-again c.args.high2 c.requires.high2

pub at_most8-requires-clause-first : goal.at_most8-requires-clause-first
at_most8-requires-clause-first c = lanes-again c.greater8.result c.greater8.ensures.lanes

pub at_most8-requires-clause-second : goal.at_most8-requires-clause-second
at_most8-requires-clause-second c = lanes-again c.lesser8.result c.lesser8.ensures.lanes

pub returns-clause-lanes : goal.returns-clause-lanes
returns-clause-lanes c = λ k lt.
    let g : get_or c.greater8.result k (pos 0) ≡ int_max (get_or (map (to_z w32) (map (of_z w32) c.args.low)) k (pos 0)) (get_or (map (to_z w32) (map (of_z w32) c.args.low2)) k (pos 0)) = c.greater8.ensures.value k lt in
    let h : get_or c.lesser8.result k (pos 0) ≡ int_min (get_or (map (to_z w32) (map (of_z w32) c.args.high)) k (pos 0)) (get_or (map (to_z w32) (map (of_z w32) c.args.high2)) k (pos 0)) = c.lesser8.ensures.value k lt in
    let f : (bit_at c.at_most8.result k ≡ 1) ↔ (get_or (map (to_z w32) (map (of_z w32) c.greater8.result)) k (pos 0) ≤ℤ get_or (map (to_z w32) (map (of_z w32) c.lesser8.result)) k (pos 0)) = c.at_most8.ensures.lanes k lt in
    rw (again c.greater8.result c.greater8.ensures.lanes, again c.lesser8.result c.lesser8.ensures.lanes, g, h, again c.args.low c.requires.low, again c.args.low2 c.requires.low2, again c.args.high c.requires.high, again c.args.high2 c.requires.high2) at f
