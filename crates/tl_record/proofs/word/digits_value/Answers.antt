use Rattle.std.proofs.Common.{refl, arith}
use Rattle.tl_record.proofs.EightDigits.{spells_eight}
use Rattle.tl_record.proofs.word.digits_value.Goals as goal

pub overflow_mul-pairs : goal.overflow_mul-pairs
overflow_mul-pairs c =
    let some = c.requires.1 in
    let spells = spells_eight c.requires.0 c.args.digits some.eight some.is c.requires.2 in
    omega (arith, spells.small)

pub overflow_add-pairs : goal.overflow_add-pairs
overflow_add-pairs c =
    let some = c.requires.1 in
    let spells = spells_eight c.requires.0 c.args.digits some.eight some.is c.requires.2 in
    omega (arith, spells.small)

pub returns : goal.returns
returns c = λ bytes of all.
    let spells = spells_eight bytes c.args.digits of.eight of.is all in
    (spells.value _ _ refl refl, rw (spells.value _ _ refl refl) spells.below)
