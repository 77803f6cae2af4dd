use Rattle.std.proofs.Common.{◌∙◌, sym, ap}
use Rattle.tl_record.specs.Fields.{signed_spells, coordinate_spelt}
use Rattle.tl_record.proofs.Blanks.{trimmed-field}
use Rattle.tl_record.proofs.field.coordinate_spelt_at.Goals as goal

pub returns : goal.returns
returns c = c.coordinate_spelt.ensures ∙ ap coordinate_spelt c.of.ensures.bytes ∙ ap signed_spells (sym (trimmed-field c.args.line.now c.args.columns))
