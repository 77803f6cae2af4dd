-- Two segments with a common end whose directions differ share that end alone.
use Rattle.std.proofs.Common.{◌≡◌, ◌≢◌, inl, inr, ⊎_elim, ℤ, pos, neg_ℤ, ◌-ℤ◌, ◌*ℤ◌, ◌<ℤ◌, ◌≤ℤ◌, FitsSigned, to_z, of_z, w32, ap, ap₂, subst, sym, ◌∙◌, refl, arith}
use Rattle.std.specs.Int.{int_wrap}
use Rattle.std.proofs.lemmas.Int.{ints, to_z-of_z, SFits-int_wrap, int_wrap-mul_left, int_wrap-mul_right}
use Rattle.tl_geom.specs.declared.point.Point.{Point}
use Rattle.tl_geom.specs.declared.segment.Segment.{Segment}
use Rattle.tl_geom.specs.Plane.{step_cross}
use Rattle.tl_geom.specs.Contact.{MeetAtEnds}
use Rattle.tl_geom.specs.Keeping.Lines.{AreShares, IsEndAt, IsEndOfBoth}
use Rattle.tl_geom.proofs.Polynomials.{num, ◌⊖◌, ◌⊗◌, same}
use Rattle.tl_geom.proofs.Signs.{sign}
use Rattle.tl_geom.proofs.Crossings.{at_ends}

-- ---- cross products of steps between three points

no_step : (p q : Point) → step_cross p q p p ≡ pos 0
no_step p q =
    let px = num p.x in let py = num p.y in
    same ((num q.x ⊖ px) ⊗ (py ⊖ py) ⊖ (num q.y ⊖ py) ⊗ (px ⊖ px)) (num (pos 0)) (omega arith)

one_step : (p q : Point) → step_cross p q p q ≡ pos 0
one_step p q =
    let px = num p.x in let py = num p.y in let qx = num q.x in let qy = num q.y in
    same ((qx ⊖ px) ⊗ (qy ⊖ py) ⊖ (qy ⊖ py) ⊗ (qx ⊖ px)) (num (pos 0)) (omega arith)

step_back : (p q : Point) → step_cross p q q p ≡ pos 0
step_back p q =
    let px = num p.x in let py = num p.y in let qx = num q.x in let qy = num q.y in
    same ((qx ⊖ px) ⊗ (py ⊖ qy) ⊖ (qy ⊖ py) ⊗ (px ⊖ qx)) (num (pos 0)) (omega arith)

from_middle : (a b q : Point) → step_cross b q b a ≡ step_cross a b b q
from_middle a b q =
    let ax = num a.x in let ay = num a.y in let bx = num b.x in let by = num b.y in let qx = num q.x in let qy = num q.y in
    same ((qx ⊖ bx) ⊗ (ay ⊖ by) ⊖ (qy ⊖ by) ⊗ (ax ⊖ bx)) ((bx ⊖ ax) ⊗ (qy ⊖ by) ⊖ (by ⊖ ay) ⊗ (qx ⊖ bx)) (omega arith)

to_one : (a b p : Point) → step_cross p b p a ≡ step_cross a b p b
to_one a b p =
    let ax = num a.x in let ay = num a.y in let bx = num b.x in let by = num b.y in let px = num p.x in let py = num p.y in
    same ((bx ⊖ px) ⊗ (ay ⊖ py) ⊖ (by ⊖ py) ⊗ (ax ⊖ px)) ((bx ⊖ ax) ⊗ (by ⊖ py) ⊖ (by ⊖ ay) ⊗ (bx ⊖ px)) (omega arith)

along_one : (a b p : Point) → step_cross a b p a ≡ step_cross a b p b
along_one a b p =
    let ax = num a.x in let ay = num a.y in let bx = num b.x in let by = num b.y in let px = num p.x in let py = num p.y in
    same ((bx ⊖ ax) ⊗ (ay ⊖ py) ⊖ (by ⊖ ay) ⊗ (ax ⊖ px)) ((bx ⊖ ax) ⊗ (by ⊖ py) ⊖ (by ⊖ ay) ⊗ (bx ⊖ px)) (omega arith)

-- ---- where a common end lies along both

module _ (s t : Segment) (p : Point) where
  first : IsEndOfBoth s t p → IsEndAt s (step_cross s.a s.b t.a t.b) (step_cross t.a t.b t.a s.a) p
  first h =
      ⊎_elim
      (λ e. ⊎_elim
      (λ f. inl (e, ap (λ q. step_cross t.a t.b t.a q) (sym e ∙ f) ∙ no_step t.a t.b))
      (λ f. inl (e, ap (λ q. step_cross t.a t.b t.a q) (sym e ∙ f) ∙ one_step t.a t.b)) h.1)
      (λ e. ⊎_elim
      (λ f. inr (e, ap (λ q. step_cross q t.b q s.a) (sym f ∙ e) ∙ from_middle s.a s.b t.b ∙ ap (λ q. step_cross s.a s.b q t.b) (sym e ∙ f)))
      (λ f. inr (e, ap (λ q. step_cross t.a q t.a s.a) (sym f ∙ e) ∙ to_one s.a s.b t.a ∙ ap (λ q. step_cross s.a s.b t.a q) (sym e ∙ f))) h.1) h.0

  second : IsEndOfBoth s t p → IsEndAt t (step_cross s.a s.b t.a t.b) (step_cross s.a s.b t.a s.a) p
  second h =
      ⊎_elim
      (λ e. ⊎_elim
      (λ f. inl (f, ap (λ q. step_cross s.a s.b t.a q) (sym e ∙ f) ∙ no_wide s.a s.b t.a))
      (λ f. inr (f, ap (λ q. step_cross s.a s.b t.a q) (sym e ∙ f))) h.1)
      (λ e. ⊎_elim
      (λ f. inl (f, ap (λ q. step_cross s.a s.b q s.a) (sym f ∙ e) ∙ step_back s.a s.b))
      (λ f. inr (f, along_one s.a s.b t.a ∙ ap (λ q. step_cross s.a s.b t.a q) (sym e ∙ f))) h.1) h.0
    where
      no_wide : (a b q : Point) → step_cross a b q q ≡ pos 0
      no_wide a b q =
          let qx = num q.x in let qy = num q.y in
          same ((num b.x ⊖ num a.x) ⊗ (qy ⊖ qy) ⊖ (num b.y ⊖ num a.y) ⊗ (qx ⊖ qx)) (num (pos 0)) (omega arith)

-- ---- the answer

within : (s : Segment) (d n : ℤ) (p : Point) → pos 0 <ℤ d → IsEndAt s d n p → (pos 0 ≤ℤ n) × (n ≤ℤ d)
within s d n p h = ⊎_elim (λ k. let e = k.1 in (omega (arith, ints, e), omega (arith, ints, e))) (λ k. let e = k.1 in (omega (arith, ints, e), omega (arith, ints, e)))

found : (s t : Segment) (d n m : ℤ) (p : Point) → AreShares s t d n m → IsEndAt s d n p → IsEndAt t d m p → MeetAtEnds s t p
found s t d n m p h k l =
    let v : (pos 0 ≤ℤ n) × (n ≤ℤ d) = within s d n p h.above_zero k in
    let w : (pos 0 ≤ℤ m) × (m ≤ℤ d) = within t d m p h.above_zero l in
    at_ends s t d n m h v.0 v.1 w.0 w.1 p p k l

turned : (s : Segment) (d n : ℤ) (p : Point) → IsEndAt s d n p → IsEndAt s (neg_ℤ d) (neg_ℤ n) p
turned s d n p = ⊎_elim (λ k. let e = k.1 in inl (k.0, omega (arith, ints, e))) (λ k. inr (k.0, ap neg_ℤ k.1))

pub twice : (z : ℤ) → neg_ℤ (neg_ℤ z) ≡ z
twice z = omega (arith, ints)

pub end_alone : (s t : Segment) (p : Point) → IsEndOfBoth s t p → step_cross s.a s.b t.a t.b ≢ pos 0 → MeetAtEnds s t p
end_alone s t p h ne =
    let d = step_cross s.a s.b t.a t.b in
    let n = step_cross t.a t.b t.a s.a in
    let m = step_cross s.a s.b t.a s.a in
    ⊎_elim
    (λ low. found s t (neg_ℤ d) (neg_ℤ n) (neg_ℤ m) p
    (record { above_zero = omega (arith, ints, low); measured = inr (record { whole = twice d; first = twice n; second = twice m }) })
    (turned s d n p (first s t p h)) (turned t d m p (second s t p h)))
    (λ w. ⊎_elim
    (λ e. absurd (ne e))
    (λ high. found s t d n m p (record { above_zero = high; measured = inl (record { whole = refl; first = refl; second = refl }) }) (first s t p h) (second s t p h)) w) (sign d)

-- ---- what 32 bits tell of a cross product

-- a number that is written as its bits and read again
abbrev again : ℤ → ℤ
again z = to_z w32 (of_z w32 z)

low-again : (d z : ℤ) → d ≡ int_wrap w32 z → again d ≡ int_wrap w32 z
low-again d z e =
    let f : FitsSigned w32 d = subst (FitsSigned w32) (sym e) (SFits-int_wrap w32 z) in
    to_z-of_z w32 d f ∙ e

pub low-product : (b a q p d e r : ℤ) → FitsSigned w32 b → FitsSigned w32 a → FitsSigned w32 q → FitsSigned w32 p
    → d ≡ int_wrap w32 (again b -ℤ again a) → e ≡ int_wrap w32 (again q -ℤ again p) → r ≡ int_wrap w32 (again d *ℤ again e)
    → r ≡ int_wrap w32 ((b -ℤ a) *ℤ (q -ℤ p))
low-product b a q p d e r fb fa fq fp i j k =
    let u : again d ≡ int_wrap w32 (b -ℤ a) = low-again d (again b -ℤ again a) i ∙ ap₂ (λ x y. int_wrap w32 (x -ℤ y)) (to_z-of_z w32 b fb) (to_z-of_z w32 a fa) in
    let v : again e ≡ int_wrap w32 (q -ℤ p) = low-again e (again q -ℤ again p) j ∙ ap₂ (λ x y. int_wrap w32 (x -ℤ y)) (to_z-of_z w32 q fq) (to_z-of_z w32 p fp) in
    k ∙ ap₂ (λ x y. int_wrap w32 (x *ℤ y)) u v
    ∙ int_wrap-mul_left w32 (b -ℤ a) (int_wrap w32 (q -ℤ p)) ∙ int_wrap-mul_right w32 (b -ℤ a) (q -ℤ p)

equal-products : (x y : ℤ) → x -ℤ y ≡ pos 0 → x ≡ y
equal-products x y h = omega (arith, ints, h)

-- of steps whose cross product is 0 the two products are the same in 32 bits
pub low-same : (a b p q : Point) (r s : ℤ) → r ≡ int_wrap w32 ((b.x -ℤ a.x) *ℤ (q.y -ℤ p.y)) → s ≡ int_wrap w32 ((b.y -ℤ a.y) *ℤ (q.x -ℤ p.x)) → step_cross a b p q ≡ pos 0 → r ≡ s
low-same a b p q r s i j zero = i ∙ ap (int_wrap w32) (equal-products ((b.x -ℤ a.x) *ℤ (q.y -ℤ p.y)) ((b.y -ℤ a.y) *ℤ (q.x -ℤ p.x)) zero) ∙ sym j
