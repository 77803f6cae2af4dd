use Rattle.std.proofs.Common.{sym, ◌∙◌, rules}
use Rattle.std.proofs.lemmas.Bool.{false≢true, iff_false}
use Rattle.std.proofs.lemmas.Int.{to_z-of_z}
use mir.Syntax.{w32, w128}
use mir.Val.{SFits}
use Rattle.tl_check_planar.proofs.Ends.{same_by_products, products_by_same}
use Rattle.tl_check_planar.proofs.allowed.is_at.Goals as goal

pub returns-then-is_product : goal.returns-then-is_product
returns-then-is_product c =
    let x : SFits w128 c.args.r.x = search rules in
    let y : SFits w128 c.args.r.y = search rules in
    let d : SFits w128 c.args.r.d = search rules in
    let px : SFits w32 c.in-Some.p.x = search rules in
    let py : SFits w32 c.in-Some.p.y = search rules in
    let first = simp to_z-of_z at (c.is_product.ensures.0 c.if-is_product.true) in
    let second = simp to_z-of_z at c.is_product-then-is_product.ensures in
    rw c.in-Some.is (
      λ h. same_by_products c.args.r c.in-Some.p first (second.0 h),
      λ h. second.1 (products_by_same c.args.r c.in-Some.p h).1,
    )

pub returns-else-is_product : goal.returns-else-is_product
returns-else-is_product c =
    let x : SFits w128 c.args.r.x = search rules in
    let d : SFits w128 c.args.r.d = search rules in
    let px : SFits w32 c.in-Some.p.x = search rules in
    let told = simp to_z-of_z at c.is_product.ensures in
    rw c.in-Some.is (
      λ h. absurd (false≢true (sym c.if-is_product.false ∙ h)),
      λ h. absurd (iff_false told c.if-is_product.false (products_by_same c.args.r c.in-Some.p h).0),
    )

pub returns-in-None : goal.returns-in-None
returns-in-None c = rw c.in-None.is (λ h. absurd (false≢true h), λ h. absurd h)
