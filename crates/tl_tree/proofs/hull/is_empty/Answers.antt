use Rattle.std.proofs.Common.{sym, ◌∙◌, ◌<ℤ◌, arith}
use Rattle.std.proofs.lemmas.Bool.{false≢true}
use Rattle.std.proofs.lemmas.Int.{ints}
use Rattle.tl_tree.proofs.Hulls.{empty-y, reversed}
use Rattle.tl_tree.proofs.hull.is_empty.Goals as goal

pub returns-else-is_reversed : goal.returns-else-is_reversed
returns-else-is_reversed c = (
  λ h.
      let k = c.is_reversed-else-is_reversed.ensures.0 h in
      let y : c.args.r.ymax <ℤ c.args.r.ymin = omega (arith, ints, k) in
      empty-y c.args.r y,
  λ e.
      let y : c.args.r.ymax <ℤ c.args.r.ymin = reversed c.args.r e (λ k. false≢true (sym c.if-is_reversed.false ∙ c.is_reversed.ensures.1 (omega (arith, ints, k)))) in
      c.is_reversed-else-is_reversed.ensures.1 (omega (arith, ints, y)),
)
