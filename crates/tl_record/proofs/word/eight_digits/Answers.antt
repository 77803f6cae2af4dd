use Rattle.std.proofs.Common.{◌≡◌, true, IfSome, length, take_all, lit<, lit≤, arith, rules, subst}
use Rattle.std.specs.List.{list_all}
use Rattle.std.specs.Char.{is_ascii_digit}
use Rattle.tl_record.specs.Fields.{decimal}
use Rattle.tl_record.proofs.word.eight_digits.Goals as goal

pub first_digits-requires-clause-some : goal.first_digits-requires-clause-some
first_digits-requires-clause-some c = lit< tt

pub first_digits-requires-clause-few : goal.first_digits-requires-clause-few
first_digits-requires-clause-few c = lit≤ tt

pub returns-clause-digits : goal.returns-clause-digits
returns-clause-digits c =
    let eight : length c.args.bytes ≡ 8 = search rules in
    subst (λ bytes. IfSome c.first_digits.result (λ _. list_all is_ascii_digit bytes ≡ true)) (take_all 8 c.args.bytes (omega arith)) c.first_digits.ensures.digits

pub returns-clause-value : goal.returns-clause-value
returns-clause-value c =
    let eight : length c.args.bytes ≡ 8 = search rules in
    subst (λ bytes. IfSome c.first_digits.result (λ value. value ≡ decimal bytes)) (take_all 8 c.args.bytes (omega arith)) c.first_digits.ensures.value

pub returns-clause-fits : goal.returns-clause-fits
returns-clause-fits c = c.first_digits.ensures.fits
