use Rattle.std.proofs.Common.{◌<ℤ◌, ◌≤ℤ◌, inl, subst, arith}
use Rattle.std.proofs.lemmas.Int.{ints}
use Rattle.tl_geom.specs.declared.rect.Rect.{Rect}
use Rattle.tl_geom.specs.Rectangle.{rect_of}
use Rattle.tl_check_planar.specs.ByHeight.Heights.{widest, AreNear}
use Rattle.tl_check_active.proofs.Beside.{west_by_boxes, apart_by_boxes}
use Rattle.tl_check_active.proofs.neighbours.is_beside.Goals as goal

pub returns-clause-west : goal.returns-clause-west
returns-clause-west c = λ h.
    let u = c.args.u in
    let w = c.args.w in
    let near : AreNear widest c.a.result c.b.result = record { west = omega (arith, ints); east = omega (arith, ints) } in
    let near' : AreNear widest c.a-2.result c.b-2.result = record { west = omega (arith, ints); east = omega (arith, ints) } in
    let one = c.of-west.ensures.value in
    let other = c.of-east.ensures.value in
    let left : c.of-west.result.xmax <ℤ c.of-east.result.xmin = omega (arith, ints, c.if-west-east.false) in
    let low : c.of-west.result.ymin ≤ℤ c.of-east.result.ymax = omega (arith, ints, c.if-west-east-2.false) in
    let high : c.of-east.result.ymin ≤ℤ c.of-west.result.ymax = omega (arith, ints, h) in
    west_by_boxes u w
    (subst (λ p. AreNear widest p u.b) c.a.ensures (subst (λ p. AreNear widest c.a.result p) c.b.ensures near))
    (subst (λ p. AreNear widest p w.b) c.a-2.ensures (subst (λ p. AreNear widest c.a-2.result p) c.b-2.ensures near'))
    (subst (λ (r : Rect). r.xmax <ℤ (rect_of w).xmin) one (subst (λ (r : Rect). c.of-west.result.xmax <ℤ r.xmin) other left))
    (subst (λ (r : Rect). r.ymin ≤ℤ (rect_of w).ymax) one (subst (λ (r : Rect). c.of-west.result.ymin ≤ℤ r.ymax) other low))
    (subst (λ (r : Rect). r.ymin ≤ℤ (rect_of u).ymax) other (subst (λ (r : Rect). c.of-east.result.ymin ≤ℤ r.ymax) one high))

pub returns-clause-apart : goal.returns-clause-apart
returns-clause-apart c = λ h.
    let u = c.args.u in
    let w = c.args.w in
    let left : c.of-west.result.xmax <ℤ c.of-east.result.xmin = omega (arith, ints, c.if-west-east.false) in
    inl (apart_by_boxes u w (subst (λ (r : Rect). r.xmax <ℤ (rect_of w).xmin) c.of-west.ensures.value (subst (λ (r : Rect). c.of-west.result.xmax <ℤ r.xmin) c.of-east.ensures.value left)))
