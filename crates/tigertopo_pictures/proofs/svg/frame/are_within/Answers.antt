use Rattle.std.proofs.Common.{◌≡◌, rules}
use Rattle.std.specs.Int.{w64}
use mir.Val.{to_z, of_z}
use Rattle.tigertopo_pictures.proofs.SvgLemmas.FrameLemmas.{across_is, and_then, and_else}
use Rattle.tigertopo_pictures.proofs.svg.frame.are_within.Goals as goal

pub returns-then-east : goal.returns-then-east
returns-then-east c =
    let first_x : to_z w64 (of_z w64 c.args.first.x) ≡ c.args.first.x = search rules in
    let last_x : to_z w64 (of_z w64 c.args.last.x) ≡ c.args.last.x = search rules in
    let ax : to_z w64 (of_z w64 c.args.a.x) ≡ c.args.a.x = search rules in
    let bx : to_z w64 (of_z w64 c.args.b.x) ≡ c.args.b.x = search rules in
    let first_y : to_z w64 (of_z w64 c.args.first.y) ≡ c.args.first.y = search rules in
    let last_y : to_z w64 (of_z w64 c.args.last.y) ≡ c.args.last.y = search rules in
    let ay : to_z w64 (of_z w64 c.args.a.y) ≡ c.args.a.y = search rules in
    let by : to_z w64 (of_z w64 c.args.b.y) ≡ c.args.b.y = search rules in
    and_then _ _ _ _ c.if-east.true (across_is _ _ _ _ _ _ _ _ _ c.is_across-east.ensures first_x last_x ax bx)
    (across_is _ _ _ _ _ _ _ _ _ c.is_across-south.ensures first_y last_y ay by)

pub returns-else-east : goal.returns-else-east
returns-else-east c =
    let first_x : to_z w64 (of_z w64 c.args.first.x) ≡ c.args.first.x = search rules in
    let last_x : to_z w64 (of_z w64 c.args.last.x) ≡ c.args.last.x = search rules in
    let ax : to_z w64 (of_z w64 c.args.a.x) ≡ c.args.a.x = search rules in
    let bx : to_z w64 (of_z w64 c.args.b.x) ≡ c.args.b.x = search rules in
    and_else _ _ _ c.if-east.false (across_is _ _ _ _ _ _ _ _ _ c.is_across-east.ensures first_x last_x ax bx)
