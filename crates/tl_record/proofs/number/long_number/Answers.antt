use Rattle.std.proofs.Common.{◌≡◌, ◌<◌, true, IfSome, lit<, arith, sym, subst}
use Rattle.std.specs.List.{list_all}
use Rattle.std.specs.Char.{is_ascii_digit}
use Rattle.tl_record.specs.Fields.{decimal}
use Rattle.tl_record.proofs.Digits.{some_any, some_less, nine_digits, nine_value, nine_below, nine_fits}
use Rattle.tl_record.proofs.number.long_number.Goals as goal

pub slice_bounds-rest-count : goal.slice_bounds-rest-count
slice_bounds-rest-count c = omega arith

pub bounds-bytes-0 : goal.bounds-bytes-0
bounds-bytes-0 c = omega arith

pub slice_bounds-rest-start : goal.slice_bounds-rest-start
slice_bounds-rest-start c = omega arith

pub slice_bounds-rest-end : goal.slice_bounds-rest-end
slice_bounds-rest-end c = omega arith

pub overflow_mul-result : goal.overflow_mul-result
overflow_mul-result c = omega arith

pub try_from-requires : goal.try_from-requires
try_from-requires c = lit< tt

pub returns-in-Ok-clause-digits : goal.returns-in-Ok-clause-digits
returns-in-Ok-clause-digits c =
    subst (λ bytes. IfSome c.eight_digits.result (λ _. list_all is_ascii_digit bytes ≡ true)) c.in-Ok.ensures.1.same c.eight_digits.ensures.digits

pub returns-in-Ok-clause-some : goal.returns-in-Ok-clause-some
returns-in-Ok-clause-some c =
    some_any c.eight_digits.result (subst (λ n. 0 < n) (sym c.in-Ok.ensures.1.long) (lit< tt))

pub returns-in-Ok-clause-value : goal.returns-in-Ok-clause-value
returns-in-Ok-clause-value c =
    subst (λ bytes. IfSome c.eight_digits.result (λ value. value ≡ decimal bytes)) c.in-Ok.ensures.1.same c.eight_digits.ensures.value

pub returns-in-Ok-clause-fits : goal.returns-in-Ok-clause-fits
returns-in-Ok-clause-fits c =
    some_less c.eight_digits.result c.eight_digits.ensures.fits

pub try_from-requires-2 : goal.try_from-requires-2
try_from-requires-2 c = lit< tt

pub returns-clause-digits : goal.returns-clause-digits
returns-clause-digits c =
    nine_digits c.args.bytes.now c.in-Ok-try_from.eight 8 c.in-Ok-try_from.ensures.1 c.in-len1-up.len_at_least (sym c.if-not-is_ascii_digit.ensures.value) c.in-Some.ensures.digits

pub returns-clause-some : goal.returns-clause-some
returns-clause-some c =
    c.in-len1-up.len_at_least

pub returns-clause-value : goal.returns-clause-value
returns-clause-value c =
    nine_value c.args.bytes.now c.in-Ok-try_from.eight c.in-Some.low c.in-Ok-try_from.ensures.1 c.in-len1-up.len_at_least c.in-Some.ensures.value

pub returns-clause-fits : goal.returns-clause-fits
returns-clause-fits c =
    nine_below _ _ c.if-not-is_ascii_digit.ensures.cases.1 c.in-Some.ensures.fits

pub overflow_sub-result : goal.overflow_sub-result
overflow_sub-result c = c.if-not-is_ascii_digit.ensures.cases.0

pub overflow_add-result : goal.overflow_add-result
overflow_add-result c = record { fits = nine_fits _ _ c.if-not-is_ascii_digit.ensures.cases.1 c.in-Some.ensures.fits }
