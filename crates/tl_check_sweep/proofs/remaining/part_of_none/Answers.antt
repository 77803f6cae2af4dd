use Rattle.std.proofs.Common.{◌∙◌, rules, ap}
use Rattle.tl_map_county.specs.Remaining.{map_without}
use Rattle.tl_check_sweep.proofs.Parted.{none_remain, none_long, all_suspected}
use Rattle.tl_check_sweep.proofs.remaining.part_of_none.Goals as goal

pub returns : goal.returns
returns c =
    none_remain c.args.map.now c.in_ok-marks.marks.items c.in_ok-marks.marks c.in_ok-rest.rest c.in_ok-suspects.suspects
    (c.in_ok-marks.ensures.items_if_clones_equal (λ x e. search rules) ∙ none_long c.chains.ensures)
    (c.in_ok-rest.ensures ∙ ap (λ marks. map_without marks c.args.map.now) c.deref.ensures.value)
    (all_suspected c.in_ok-rest.rest c.in_ok-suspects.suspects.items c.in_ok-suspects.ensures.known c.in_ok-suspects.ensures.others)
