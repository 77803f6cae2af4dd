use Rattle.tl_record.specs.Judgement.{required}
use Rattle.std.proofs.Common.{ap, sym}
use Rattle.tl_record.proofs.field.required.Goals as goal

pub returns-in-Blank : goal.returns-in-Blank
returns-in-Blank g c = ap (required c.args.name) (sym c.in-Blank.is)

pub returns-in-Value : goal.returns-in-Value
returns-in-Value g c = ap (required c.args.name) (sym c.in-Value.is)

pub returns-in-Unreadable : goal.returns-in-Unreadable
returns-in-Unreadable g c = ap (required c.args.name) (sym c.in-Unreadable.is)
