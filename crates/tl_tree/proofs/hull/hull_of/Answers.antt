use Rattle.std.proofs.Common.{sym, ◌∙◌}
use Rattle.std.proofs.lemmas.Bool.{false≢true}
use Rattle.tl_tree.proofs.hull.hull_of.Goals as goal

pub returns-else-is_empty-2 : goal.returns-else-is_empty-2
returns-else-is_empty-2 c = λ s. (
  λ h. (λ p k. h p (c.join.ensures.holds_first p k), λ p k. h p (c.join.ensures.holds_second p k)),
  λ h. c.join.ensures.least (λ e. false≢true (sym c.if-is_empty.false ∙ c.is_empty.ensures.1 e)) (λ e. false≢true (sym c.if-is_empty-2.false ∙ c.is_empty-else-is_empty.ensures.1 e)) s h.0 h.1,
)
