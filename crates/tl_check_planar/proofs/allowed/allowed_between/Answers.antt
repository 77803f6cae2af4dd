use Rattle.std.proofs.Common.{pos, length, ◌-◌, arith}
use Rattle.std.proofs.lemmas.Option.{slice_get-get_or}
use Rattle.tl_check_planar.proofs.Ends.{between}
use Rattle.tl_check_planar.proofs.allowed.allowed_between.Goals as goal

pub returns : goal.returns
returns c =
    between c.args.points.now c.args.others.now _ _ (record { one = c.end_of_both.result; other = c.end_of_both-2.result })
    (record {
      first_is = slice_get-get_or c.args.points.now 0 (record { x = pos 0; y = pos 0 }) (omega arith);
      last_is = slice_get-get_or c.args.points.now (length c.args.points.now - 1) (record { x = pos 0; y = pos 0 }) (omega arith);
      one = c.end_of_both.ensures;
      other = c.end_of_both-2.ensures;
    })
