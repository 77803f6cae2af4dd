use Rattle.std.proofs.Common.{sym, ◌∙◌, arith}
use Rattle.std.proofs.lemmas.Bool.{false≢true}
use Rattle.std.proofs.lemmas.Int.{ints}
use borrow.Author.Differences.{true_is_le}
use mir.Syntax.{w32}
use mir.Val.{to_z, of_z}
use Rattle.tl_tree.proofs.hull.spans.Goals as goal

pub returns-then-low-low2 : goal.returns-then-low-low2
returns-then-low-low2 c =
    let low = c.if-low-low2.true in (
      λ h. (omega (arith, ints, low), omega (arith, ints, h)),
      λ k. sym (true_is_le (to_z w32 (of_z w32 c.args.high2)) (to_z w32 (of_z w32 c.args.high)) (omega (arith, ints, k.1))),
    )

pub returns-else-low-low2 : goal.returns-else-low-low2
returns-else-low-low2 c =
    let past = c.if-low-low2.false in
    (λ h. absurd (false≢true (sym past ∙ h)), λ k. absurd (omega (arith, ints, past, k.0)))
