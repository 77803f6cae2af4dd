use Rattle.std.proofs.Common.{◌∷◌, [], ap, ◌∙◌}
use Rattle.std.proofs.lemmas.Bool.{false≢true}
use Rattle.tl_cert.specs.Keeping.Steps.{roots}
use Rattle.tl_cert.proofs.CountLemmas.{can_same}
use Rattle.tl_cert.proofs.KindLemmas.{numbered_is}
use Rattle.tl_cert.proofs.line_kind.TreeSizeLineKind.parse.Goals as goal

pub returns-then-not-can_have : goal.returns-then-not-can_have
returns-then-not-can_have c = λ n fits is.
    let same = numbered_is c.args.line.now (84 ∷ []) c.in-Some.n n c.in-Some.ensures.1 c.in-Some.ensures.0 is fits.0 in
    false≢true (c.if-not-can_have.ensures.1
    (can_same c.args.self.now.version c.from.result (roots n) c.from-2.result n (c.from.ensures ∙ c.roots_of.ensures ∙ ap roots same) (c.from-2.ensures ∙ same) fits.1))
