use Rattle.std.proofs.Common.{refl, sym, ◌∙◌, arith}
use Rattle.std.proofs.lemmas.Bool.{false≢true}
use Rattle.std.proofs.lemmas.Int.{ints}
use Rattle.tl_tree.proofs.Hulls.{covers-empty, covers-by, by-covers}
use Rattle.tl_tree.proofs.hull.covers.Goals as goal

pub returns-then-is_empty : goal.returns-then-is_empty
returns-then-is_empty c = (λ h. covers-empty c.args.r c.args.q (c.is_empty.ensures.0 c.if-is_empty.true), λ h. refl)

pub returns-then-spans : goal.returns-then-spans
returns-then-spans c =
    let x = c.spans.ensures.0 c.if-spans.true in
    let r = c.args.r in
    let q = c.args.q in (
      λ h.
          let y = c.spans-then-spans.ensures.0 h in
          covers-by r q (omega (arith, ints, x.0)) (omega (arith, ints, x.1)) (omega (arith, ints, y.0)) (omega (arith, ints, y.1)),
      λ h.
          let k = (by-covers r q (λ e. false≢true (sym c.if-is_empty.false ∙ c.is_empty.ensures.1 e)) h).1 in
          c.spans-then-spans.ensures.1 (omega (arith, ints, k.0), omega (arith, ints, k.1)),
    )

pub returns-else-spans : goal.returns-else-spans
returns-else-spans c = (
  λ h. absurd (false≢true (sym c.if-spans.false ∙ h)),
  λ h.
      let k = (by-covers c.args.r c.args.q (λ e. false≢true (sym c.if-is_empty.false ∙ c.is_empty.ensures.1 e)) h).0 in
      c.spans.ensures.1 (omega (arith, ints, k.0), omega (arith, ints, k.1)),
)
