use Rattle.std.proofs.Common.{◌∙◌, sym, ap}
use Rattle.tl_record.specs.Fields.{unsigned_spells, number_spelt}
use Rattle.tl_record.proofs.Blanks.{trimmed-field}
use Rattle.tl_record.proofs.field.trimmed_number_at.Goals as goal

pub returns : goal.returns
returns c = c.number_spelt.ensures ∙ ap number_spelt c.of.ensures.bytes ∙ ap unsigned_spells (sym (trimmed-field c.args.line.now c.args.columns))
