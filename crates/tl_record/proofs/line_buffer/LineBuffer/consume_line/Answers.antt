use Rattle.std.proofs.Common.{◌≡◌, ◌≤◌, ◌-◌, ◌+◌, ap, ◌∙◌, arith, take, drop}
use Rattle.tl_record.proofs.Buffer.{line_within, part_consumed}
use Rattle.tl_record.proofs.line_buffer.LineBuffer.consume_line.Goals as goal

pub returns : goal.returns
returns g c =
    let at = c.self.inside.at in
    let filled = c.self.inside.filled in
    let bytes = c.self.inside.bytes in
    let whole = line_within bytes c.args.self.now at filled c.args.len c.self.view_is c.requires in
    let within : c.args.len + 1 ≤ filled - at = omega (arith, whole) in
    let same : at + c.args.len + 1 ≡ at + (c.args.len + 1) = omega arith in
    ap (λ n. take (filled - n) (drop n bytes)) same ∙ part_consumed bytes at filled (c.args.len + 1) within ∙ ap (drop (c.args.len + 1)) c.self.view_is

pub overflow_add-self : goal.overflow_add-self
overflow_add-self g c =
    let whole = line_within c.self.inside.bytes c.args.self.now c.self.inside.at c.self.inside.filled c.args.len c.self.view_is c.requires in
    let most = c.self.invariant.1 in
    let fits = g.N.fits in
    omega (arith, whole, most, fits)

pub overflow_add-self-2 : goal.overflow_add-self-2
overflow_add-self-2 g c =
    let whole = line_within c.self.inside.bytes c.args.self.now c.self.inside.at c.self.inside.filled c.args.len c.self.view_is c.requires in
    let most = c.self.invariant.1 in
    let fits = g.N.fits in
    omega (arith, whole, most, fits)

pub invariant_of-self : goal.invariant_of-self
invariant_of-self g c =
    (line_within c.self.inside.bytes c.args.self.now c.self.inside.at c.self.inside.filled c.args.len c.self.view_is c.requires, c.self.invariant.1)
