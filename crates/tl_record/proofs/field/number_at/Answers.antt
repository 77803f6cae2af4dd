use Rattle.tl_record.specs.Judgement.{required}
use Rattle.std.proofs.Common.{ap, ◌∙◌}
use Rattle.tl_record.proofs.field.number_at.Goals as goal

pub returns : goal.returns
returns c = c.required.ensures ∙ ap (required c.args.name) c.number_spelt_at.ensures
