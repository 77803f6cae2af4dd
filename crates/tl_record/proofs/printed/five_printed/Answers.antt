use Rattle.std.proofs.Common.{◌≡◌, true, arith, sym, subst}
use Rattle.std.specs.List.{list_all}
use Rattle.tl_record.specs.Fields.{is_cenid_byte}
use Rattle.tl_record.proofs.Marks.{all_printed}
use Rattle.tl_record.proofs.printed.five_printed.Goals as goal

pub returns-in-Ok-clause-printed : goal.returns-in-Ok-clause-printed
returns-in-Ok-clause-printed c =
    let all = all_printed c.args.bytes.now 5 c.before_control.result c.before_deletion.result (omega arith) (omega arith) c.before_control.ensures.none c.before_deletion.ensures.none in
    subst (λ bytes. list_all is_cenid_byte bytes ≡ true) (sym c.in-Ok.ensures.1.same) all
