use Rattle.std.proofs.Common.{◌∙◌, ap, arith}
use Rattle.std.proofs.lemmas.Int.{ints}
use Rattle.tl_record.specs.declared.number.Spelt.TheVariants.{Value}
use Rattle.tl_record.proofs.Filled.{minus_spelt, plus_spelt}
use Rattle.tl_record.proofs.number.filled_spelt.Goals as goal

pub returns-in-45 : goal.returns-in-45
returns-in-45 c =
    let told = c.in-Some.ensures in
    minus_spelt c.args.bytes.now c.in-Some.value c.in-len1-up.len_at_least c.in-45.is told.digits told.some told.value ∙ ap Value (omega (arith, ints, told.fits))

pub returns-in-43 : goal.returns-in-43
returns-in-43 c =
    let told = c.in-Some.ensures in
    plus_spelt c.args.bytes.now c.in-Some.value c.in-len1-up.len_at_least c.in-43.is told.digits told.some told.value ∙ ap Value (omega (arith, ints, told.fits))
