use Rattle.std.proofs.Common.{◌≤◌, ◌-◌, ap, ◌∙◌, arith, drop}
use Rattle.std.proofs.lemmas.List.{length-take}
use Rattle.tl_record.proofs.Buffer.{part_consumed}
use Rattle.tl_record.proofs.line_buffer.LineBuffer.consume.Goals as goal

pub returns : goal.returns
returns g c =
    let size = length-take (c.self.inside.filled - c.self.inside.at) (drop c.self.inside.at c.self.inside.bytes) in
    let within : c.args.count ≤ c.self.inside.filled - c.self.inside.at = let whole = rw (← c.self.view_is) at c.requires in omega (arith, size, whole) in
    part_consumed c.self.inside.bytes c.self.inside.at c.self.inside.filled c.args.count within ∙ ap (drop c.args.count) c.self.view_is
