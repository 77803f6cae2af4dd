-- A place midway, as it is found.
use Rattle.std.proofs.Common.{◌≡◌, ℤ, pos, ◌+ℤ◌, ◌-ℤ◌, ◌*ℤ◌, sym, ap, ◌∙◌, arith}
use Rattle.tl_geom.specs.declared.point.Point.{Point}
use Rattle.tl_geom.specs.declared.rational.Rational.{Rational}
use Rattle.tl_geom.proofs.Polynomials.{num, ◌⊕◌, ◌⊖◌, ◌⊗◌, same}
use Rattle.tl_geom.specs.declared.segment.Segment.{Segment}
use Rattle.tl_check_planar.specs.ByHeight.Heights.{height, widest, low_end, high_end}
use Rattle.tl_check_faces.specs.Disagreements.{IsMidway, twice_risen}

-- how far it has risen midway, twice, by the numbers on the way to it
pub risen_found : (r t o n l risen twice over : ℤ) → risen ≡ r → r ≡ twice +ℤ pos 1 → twice ≡ t → t ≡ pos 2 *ℤ over → over ≡ o → o ≡ n -ℤ l →
    risen ≡ pos 2 *ℤ n +ℤ pos 1 -ℤ pos 2 *ℤ l
risen_found r t o n l risen twice over e f g h i j =
    e ∙ f ∙ ap (λ z. z +ℤ pos 1) (g ∙ h ∙ ap (λ z. pos 2 *ℤ z) (i ∙ j))
    ∙ same (num (pos 2) ⊗ (num n ⊖ num l) ⊕ num (pos 1)) (num (pos 2) ⊗ num n ⊕ num (pos 1) ⊖ num (pos 2) ⊗ num l) (omega arith)

pub midway_found : (n : ℤ) (u : Segment) (low high : Point) → low ≡ low_end widest u → high ≡ high_end widest u → (p : Rational) (rise risen : ℤ) →
    rise ≡ pos 2 *ℤ (height widest high -ℤ height widest low) → risen ≡ pos 2 *ℤ n +ℤ pos 1 -ℤ pos 2 *ℤ height widest low →
    p.d ≡ rise → p.x ≡ rise *ℤ low.x +ℤ risen *ℤ (high.x -ℤ low.x) → p.y ≡ rise *ℤ low.y +ℤ risen *ℤ (high.y -ℤ low.y) → IsMidway widest n u p
midway_found n u low high e f p rise risen rise_is risen_is d x y =
    let back : rise ≡ p.d = sym d in
    let over : risen ≡ twice_risen widest n u = risen_is ∙ (λ i. pos 2 *ℤ n +ℤ pos 1 -ℤ pos 2 *ℤ height widest (e i)) in
    record {
      d = d ∙ rise_is ∙ (λ i. pos 2 *ℤ (height widest (f i) -ℤ height widest (e i)));
      x = x ∙ (λ i. back i *ℤ (e i).x +ℤ over i *ℤ ((f i).x -ℤ (e i).x));
      y = y ∙ (λ i. back i *ℤ (e i).y +ℤ over i *ℤ ((f i).y -ℤ (e i).y));
    }
