use Rattle.std.proofs.Common.{◌≡◌, ◌+◌, ◌-◌, ◌*◌, ◌/◌, pos, arith}
use Rattle.std.specs.Int.{w64}
use mir.Val.{to_z}
use Rattle.std.proofs.lemmas.Int.{to_z_pos}
use Rattle.tigertopo_pictures.proofs.SvgLemmas.PlaceLemmas.{up_small}
use Rattle.tigertopo_pictures.proofs.svg.places.beyond_up.Goals as goal

pub returns-clause-value : goal.returns-clause-value
returns-clause-value c =
    let small = up_small c.args.part c.args.d c.args.weight c.requires.part c.requires.small in
    rw c.scaled.ensures.value (to_z_pos w64 _ (omega (arith, small)))

pub returns-clause-bound : goal.returns-clause-bound
returns-clause-bound c =
    let small = up_small c.args.part c.args.d c.args.weight c.requires.part c.requires.small in
    let kept : to_z w64 ((c.args.part * (2 * c.args.weight) + (c.args.d - 1)) / c.args.d) ≡ pos ((c.args.part * (2 * c.args.weight) + (c.args.d - 1)) / c.args.d) =
    to_z_pos w64 _ (omega (arith, small)) in
    rw (c.scaled.ensures.value, kept) small
