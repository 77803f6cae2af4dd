use Rattle.std.proofs.Common.{arith}
use Rattle.std.proofs.lemmas.Bool.Decides.{nat_tests}
use Rattle.tl_cert.proofs.CountLemmas.{by_halves, even_others}
use Rattle.tl_cert.proofs.line_kind.can_have.Goals as goal

pub returns-else-version-ge2 : goal.returns-else-version-ge2
returns-else-version-ge2 c = (
  λ even. by_halves c.args.version c.args.trees c.args.nodes c.if-version-ge2.false c.if-trees-nodes.false c.if-trees-eq0.false c.if-nodes-trees.false (grind (arith, nat_tests, even)),
  λ can. let even = even_others c.args.version c.args.trees c.args.nodes c.if-version-ge2.false can in grind (arith, nat_tests, even),
)
