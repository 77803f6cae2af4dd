use Rattle.std.proofs.Common.{inl, inr, refl, sym, ap, ◌∙◌}
use Rattle.std.specs.Cmp.Lexicographic.{same_text, other_text}
use Rattle.tl_cert.specs.Text.{head_line}
use Rattle.tl_cert.proofs.KindLemmas.{head_one, head_two}
use Rattle.tl_cert.proofs.line_kind.HeadLineKind.parse.Goals as goal

pub returns-then-eq : goal.returns-then-eq
returns-then-eq c = (inl refl, same_text c.args.line.now c.as_slice.result.now c.if-eq.ensures ∙ c.as_slice.ensures ∙ sym head_one)

pub returns-then-eq-2 : goal.returns-then-eq-2
returns-then-eq-2 c = (inr refl, same_text c.args.line.now c.as_slice-2.result.now c.if-eq-2.ensures ∙ c.as_slice-2.ensures ∙ sym head_two)

pub returns : goal.returns
returns c = λ version known is.
    elim known [
      | inl one ↦ other_text c.args.line.now c.as_slice.result.now c.if-eq.ensures (is ∙ ap head_line one ∙ head_one ∙ sym c.as_slice.ensures)
      | inr two ↦ other_text c.args.line.now c.as_slice-2.result.now c.if-eq-2.ensures (is ∙ ap head_line two ∙ head_two ∙ sym c.as_slice-2.ensures)
    ]
