use Rattle.std.proofs.Common.{[], option_map, string_bytes, refl}
use Rattle.tigertopo_files.proofs.WorldLemmas.{does_fail, does_answer}
use Rattle.tigertopo_program.specs.Records.{StopsNever}
use Rattle.tigertopo_program.proofs.ListLemmas.{does_not}
use Rattle.tigertopo_program.proofs.lists.listing.tell_sound.Goals as goal

pub returns-in_err-answer : goal.returns-in_err-answer
returns-in_err-answer g c = does_not _ refl (λ known. refl) _ _ StopsNever _ c.in_err-answer.ensures.stop c.from_residual.result c.from_residual.ensures.1

pub returns-in_err-make_without_faults : goal.returns-in_err-make_without_faults
returns-in_err-make_without_faults g c =
    does_fail _ [] _ _ StopsNever c.in_err-make_without_faults.field-0.0 c.in_err-make_without_faults.ensures _ c.from_residual-in_err-make_without_faults.result c.from_residual-in_err-make_without_faults.ensures.1

pub returns : goal.returns
returns g c =
    let made = option_map string_bytes c.args.wanted.made.now in
    does_answer _ [] made _ StopsNever c.in_ok-make_without_faults.field-0 c.in_ok-make_without_faults.ensures _ _
    (record {
      kept = c.in_ok-make_without_faults.ensures.answered;
      is = c.in_ok-answer.ensures.said.0;
      line = c.in_ok-answer.ensures.said.1;
    })
