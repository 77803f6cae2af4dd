use Rattle.std.proofs.Common.{ap, ◌∙◌}
use Rattle.tl_record.specs.Refusals.{cause_of}
use Rattle.tl_record.proofs.SkipLemmas.{cause_told, none_told}
use Rattle.tl_record.proofs.take.refusal_cause.Goals as goal

pub returns-in-Refused : goal.returns-in-Refused
returns-in-Refused c =
    cause_told c.judge_into.result c.in-Refused.cause c.judge_into.new.place c.in-Refused.is ∙ ap cause_of c.judge_into.ensures.judged

pub returns-in_default : goal.returns-in_default
returns-in_default c =
    none_told c.judge_into.result c.judge_into.new.place c.in_default.not-Refused ∙ ap cause_of c.judge_into.ensures.judged
