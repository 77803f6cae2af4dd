use Rattle.std.proofs.Common.{Contains}
use Rattle.std.proofs.lemmas.Result.{on_ok_weaker}
use Rattle.tl_check_points.specs.Listing.Hidden.{IsMarked}
use Rattle.tl_decide.specs.Keeping.OfMap.{AddsPoints}
use Rattle.tl_decide.proofs.OfMap.{agreement_of, points_there}
use Rattle.tl_decide.proofs.met.push_rest.Goals as goal

pub returns : goal.returns
returns c =
    let m = c.args.map.now in
    let marks = c.args.differing.now.marks.now in
    let touched = c.args.differing.now.touched.now in
    on_ok_weaker c.push_suspects.result
    (λ (adds : AddsPoints (IsMarked marks) c.args.seen.now c.push_all_cells.new.faults.items c.push_suspects.new.faults.items). record {
      between = c.push_all_cells.new.faults.items;
      agreement =
          agreement_of m touched c.args.differing.now.sides.now c.args.faults.now.items c.push_sides.new.faults.items c.push_all_cells.new.faults.items c.requires.sides
          c.requires.touched c.in_ok-push_sides.ensures c.in_ok-push_all_cells.ensures;
      points =
          points_there (IsMarked marks) (Contains touched) m c.args.seen.now c.push_all_cells.new.faults.items c.push_suspects.new.faults.items c.requires.marks
          c.requires.alike c.has_proper_chains.ensures adds;
    }) c.push_suspects.ensures
