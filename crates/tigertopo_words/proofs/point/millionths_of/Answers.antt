use Rattle.std.proofs.Common.{◌≡◌, ◌∙◌, unsigned_abs, inl, inr, sym, rules, arith}
use Rattle.std.specs.Fmt.{signed_decimal}
use Rattle.tigertopo_words.proofs.PointLemmas.{not_read, other_read, other_text}
use Rattle.tigertopo_words.proofs.point.millionths_of.Goals as goal
use Rattle.tigertopo_words.proofs.point.millionths_of.Goals.{then-ne-via-then-ne, then-ne-via-else-ne+then-unsigned_abs-limit}

pub returns-in_default : goal.returns-in_default
returns-in_default c = not_read c.args.text.now c.args.limit c.in_default.field-0 c.parse.result c.requires c.parse.ensures.value.0 c.in_default.is

pub returns-then-ne : goal.returns-then-ne
returns-then-ne c =
    let shown : c.format.result.now ≡ signed_decimal c.in-Ok.number = search rules in
    other_read c.args.text.now c.args.limit c.in-Ok.number c.parse.result c.requires c.parse.ensures.value.0 c.in-Ok.is (elim c.then-ne.branch [
      | then-ne-via-then-ne w ↦ inl (other_text c.format.result.now c.args.text.now c.in-Ok.number shown (sym c.ne.ensures ∙ w.if-ne.true))
      | then-ne-via-else-ne+then-unsigned_abs-limit w ↦
          let size : w.unsigned_abs.result ≡ unsigned_abs c.in-Ok.number = search rules in
          inr (omega (arith, size, w.if-unsigned_abs-limit.true))
    ])
