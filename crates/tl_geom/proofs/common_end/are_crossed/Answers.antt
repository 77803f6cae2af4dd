use Rattle.std.proofs.Common.{◌≡◌, pos, rules, of_z, w32, ap, sym, ◌∙◌}
use Rattle.std.proofs.lemmas.Bool.{eq-eqb, not-true, false≢true}
use Rattle.tl_geom.specs.Plane.{step_cross}
use Rattle.tl_geom.proofs.Ends.{low-product, low-same}
use Rattle.tl_geom.proofs.common_end.are_crossed.Goals as goal

pub returns : goal.returns
returns c = λ differ zero.
    let a = c.a-a.result in
    let b = c.b-b.result in
    let p = c.a-p.result in
    let q = c.b-q.result in
    let r = c.low_product-first.result in
    let s = c.low_product-second.result in
    let i = low-product b.x a.x q.y p.y c.low_difference.result c.low_difference-2.result r (search rules) (search rules) (search rules) (search rules) c.low_difference.ensures c.low_difference-2.ensures c.low_product-first.ensures in
    let j = low-product b.y a.y q.x p.x c.low_difference-3.result c.low_difference-4.result s (search rules) (search rules) (search rules) (search rules) c.low_difference-3.ensures c.low_difference-4.ensures c.low_product-second.ensures in
    let e : step_cross a b p q ≡ pos 0 = rw (c.a-a.ensures, c.b-b.ensures, c.a-p.ensures, c.b-q.ensures) zero in
    let same : r ≡ s = low-same a b p q r s i j e in
    let f = eq-eqb (of_z w32 r) (of_z w32 s) (ap (of_z w32) same) in
    absurd (false≢true (sym (not-true _ differ) ∙ f))
