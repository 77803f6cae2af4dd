use Rattle.std.proofs.Common.{ℕ, ◌-◌, ◌≤◌, List, length, take, drop, length-take, length-drop, arith}
use Rattle.tl_record.proofs.number.trimmed_spelt.Goals as goal

-- what stands behind a sign is not longer than the field
behind_sign : (digits bytes : List ℕ) → length digits ≤ length bytes → length bytes ≤ 18 → length (take (length digits - 1) (drop 1 digits)) ≤ 18
behind_sign digits bytes shorter narrow = omega (arith, length-take (length digits - 1) (drop 1 digits), length-drop 1 digits, shorter, narrow)

all_of : (digits bytes : List ℕ) → length digits ≤ length bytes → length bytes ≤ 18 → length digits ≤ 18
all_of digits bytes shorter narrow = omega (arith, shorter, narrow)

pub slice_bounds-digits-count : goal.slice_bounds-digits-count
slice_bounds-digits-count c = omega arith

pub slice_bounds-digits-start : goal.slice_bounds-digits-start
slice_bounds-digits-start c = omega arith

pub slice_bounds-digits-end : goal.slice_bounds-digits-end
slice_bounds-digits-end c = omega arith

pub slice_bounds-digits-count-in-43-1 : goal.slice_bounds-digits-count-in-43-1
slice_bounds-digits-count-in-43-1 c = omega arith

pub slice_bounds-digits-start-in-43-1 : goal.slice_bounds-digits-start-in-43-1
slice_bounds-digits-start-in-43-1 c = omega arith

pub slice_bounds-digits-end-in-43-1 : goal.slice_bounds-digits-end-in-43-1
slice_bounds-digits-end-in-43-1 c = omega arith

pub digits_spell-requires : goal.digits_spell-requires
digits_spell-requires c = behind_sign c.trimmed.result.now c.args.bytes.now c.trimmed.ensures.shorter c.requires

pub negated-requires : goal.negated-requires
negated-requires c = c.digits_spell.ensures.fits

pub digits_spell-requires-in-43 : goal.digits_spell-requires-in-43
digits_spell-requires-in-43 c = behind_sign c.trimmed.result.now c.args.bytes.now c.trimmed.ensures.shorter c.requires

pub not_negated-requires : goal.not_negated-requires
not_negated-requires c = c.digits_spell-in-43.ensures.fits

pub digits_spell-requires-in_default : goal.digits_spell-requires-in_default
digits_spell-requires-in_default c = all_of c.trimmed.result.now c.args.bytes.now c.trimmed.ensures.shorter c.requires

pub not_negated-requires-in_default : goal.not_negated-requires-in_default
not_negated-requires-in_default c = c.digits_spell-in_default.ensures.fits
