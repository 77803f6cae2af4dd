use Rattle.std.proofs.Common.{◌≡◌, lit<, subst, arith, true, IfSome}
use Rattle.std.specs.List.{list_all}
use Rattle.std.specs.Char.{is_ascii_digit}
use Rattle.tl_record.specs.Fields.{decimal}
use Rattle.tl_record.proofs.Filled.{word_part}
use Rattle.tl_record.proofs.aligned.word_at.Goals as goal

pub try_from-requires : goal.try_from-requires
try_from-requires c = lit< tt

pub returns-in-Ok-clause-digits : goal.returns-in-Ok-clause-digits
returns-in-Ok-clause-digits c =
    subst (λ bytes. IfSome c.first_digits.result (λ _. list_all is_ascii_digit bytes ≡ true)) (word_part c.args.bytes.now c.in-Ok.eight c.args.at c.args.count _ c.in-Ok.ensures.1.same (omega arith)) c.first_digits.ensures.digits

pub returns-in-Ok-clause-value : goal.returns-in-Ok-clause-value
returns-in-Ok-clause-value c =
    subst (λ bytes. IfSome c.first_digits.result (λ value. value ≡ decimal bytes)) (word_part c.args.bytes.now c.in-Ok.eight c.args.at c.args.count _ c.in-Ok.ensures.1.same (omega arith)) c.first_digits.ensures.value
