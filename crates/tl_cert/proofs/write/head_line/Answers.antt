use Rattle.std.proofs.Common.{inl, inr, sym, ap, ◌∙◌}
use Rattle.tl_cert_output.specs.Writing.{line_of}
use Rattle.tl_cert.specs.Text.{head_line}
use Rattle.tl_cert.proofs.KindLemmas.{head_one, head_two}
use Rattle.tl_cert.proofs.write.head_line.Goals as goal

pub returns-then-version-eq1 : goal.returns-then-version-eq1
returns-then-version-eq1 c = c.as_slice.ensures ∙ sym (ap (λ n. line_of (head_line n)) c.if-version-eq1.true ∙ ap line_of head_one)

pub returns : goal.returns
returns c =
    elim c.requires [
      | inl one ↦ absurd (c.if-version-eq1.false one)
      | inr two ↦ c.as_slice-2.ensures ∙ sym (ap (λ n. line_of (head_line n)) two ∙ ap line_of head_two)
    ]
