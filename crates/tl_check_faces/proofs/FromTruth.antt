-- Where sides agree about nodes, and each names what lies there, faces agree: what lies at the one end of a straight line that meets no
-- chain lies at the other.
use Rattle.std.proofs.Common.{◌≡◌, ◌↔◌, inl, ⊎_elim, ℕ, ◌+◌, ℤ, pos, ◌+ℤ◌, ◌-ℤ◌, ◌*ℤ◌, ◌<ℤ◌, ◌≤ℤ◌, List, ◌∙◌, arith}
use Rattle.std.proofs.lemmas.Int.{ints}
use Rattle.tl_geom.specs.declared.rational.Rational.{Rational}
use Rattle.tl_geom.proofs.Polynomials.{num, ◌⊕◌, ◌⊖◌, ◌⊗◌, same}
use Rattle.tl_geom.proofs.Signs.{mono, cancel, cancel_lt, product_above}
use Rattle.tl_geom.proofs.Places.{on_same}
use Rattle.tl_map_county.specs.declared.sides.Side.{Side}
use Rattle.tl_map_county.specs.declared.sides.Side.TheVariants.{Outside, Polygon}
use Rattle.tl_map_county.specs.TheMap.{TheMap, MapChain}
use Rattle.tl_check_planar.specs.Planar.{IsPlanar}
use Rattle.tl_check_sides.specs.Sides.{SidesAgree}
use Rattle.tl_check_inside.specs.Inside.{is_polygon}
use Rattle.tl_check_faces.specs.Crossings.Headings.{AreProper, HeadApart}
use Rattle.tl_check_faces.proofs.CrossingsLemmas.Apart.{apart}
use Rattle.tl_check_faces.specs.Facing.{IsOff, IsStrictlyBetween, FacesAgree}
use Rattle.tl_check_faces.specs.Clear.{IsClearAlong}
use Rattle.tl_check_faces.specs.Truth.{LiesAt, AreSidesTrue, AreFacesTrue}
use Rattle.tl_check_faces.specs.declared.fault.FaceFault.{FaceFault}
use Rattle.tl_check_faces.specs.Faults.{IsTrueFaceFault}
use Rattle.tl_check_faces.proofs.Bounds.{IsBounded, AreBounded}
use Rattle.tl_check_faces.proofs.Means.{mean}
use Rattle.tl_check_faces.proofs.Touching.{between_turned}
use Rattle.tl_check_faces.proofs.Outside.{outside}
use Rattle.tl_check_faces.proofs.Staying.{stays}
use Rattle.tl_check_faces.proofs.ToFaces.{agree_by}
use Rattle.tl_check_faces.proofs.Along.{by_faces}
use Rattle.tl_check_faces.proofs.OnePolygon.{one_polygon}
use Rattle.tl_check_faces.proofs.TrueSides.{true_sides}
use Rattle.tl_check_faces.proofs.Contradicts.{denied}

module _ (chains : List MapChain) (proper : AreProper chains) (planar : IsPlanar chains) (agree : SidesAgree chains) where
  heads : HeadApart chains
  heads = apart chains planar proper

  -- what lies at the one end of a line that meets no chain lies at the other
  module _ (p q : Rational) (first : IsOff chains p) (last : IsOff chains q) (between : (r : Rational) → IsStrictlyBetween p q r → IsOff chains r) where
    along : (i : ℕ) → IsClearAlong chains (is_polygon i) p q
    along i = record {
      first = λ c chain is differ on. first c chain is on;
      last = λ c chain is differ on. last c chain is on;
      between = λ r b c chain is differ on. between r b c chain is on;
    }

    pub carried : (side : Side) → LiesAt chains p side → LiesAt chains q side
    carried Outside lies = λ i. (stays chains proper (is_polygon i) p q (along i) heads agree (pos 0)).0 (lies i)
    carried (Polygon i) lies = (
      (stays chains proper (is_polygon i) p q (along i) heads agree (pos 1)).0 lies.0,
      λ other ne. (stays chains proper (is_polygon other) p q (along other) heads agree (pos 0)).0 (lies.1 other ne),
    )

  -- ---- where each mean of places on no chain is one

  alike_along : (P : Rational → Type 0) → ((r : Rational) → P r → IsOff chains r) →
      ((m n : ℤ) (some_m : pos 0 <ℤ m) (some_n : pos 0 <ℤ n) (p q : Rational) → P p → P q → P (mean m n some_m some_n p q)) →
      (p q : Rational) → P p → P q → (side : Side) → LiesAt chains p side → LiesAt chains q side
  alike_along P clear means p q at at' side lies =
      carried p q (clear p at) (clear q at')
      (λ r b c chain is on.
      clear (mean b.m b.n b.some_p b.some_q p q) (means b.m b.n b.some_p b.some_q p q at at') c chain is (
        on.0,
        record {
          segment = on.1.segment;
          from = on.1.from;
          to = on.1.to;
          on = on_same on.1.segment r (mean b.m b.n b.some_p b.some_q p q) (record { x = b.x; y = b.y }) on.1.on;
        },
      ))
      side lies

  -- ---- far to the west

  module _ (b : ℕ) (bounded : AreBounded b chains) where
    off_west : (r : Rational) → r.x <ℤ (pos 0 -ℤ r.d *ℤ pos b) → IsOff chains r
    off_west r west c chain is (k, on) =
        let d : pos 0 <ℤ r.d = r.above_zero in
        let one : IsBounded b on.segment.a = bounded c k chain on.segment.a is on.from in
        let other : IsBounded b on.segment.b = bounded c (k + 1) chain on.segment.b is on.to in
        let low : (r.d *ℤ (pos 0 -ℤ pos b)) ≤ℤ (r.d *ℤ on.segment.a.x) = mono r.d (pos 0 -ℤ pos b) on.segment.a.x (omega (arith, ints, d)) one.west in
        let low' : (r.d *ℤ (pos 0 -ℤ pos b)) ≤ℤ (r.d *ℤ on.segment.b.x) = mono r.d (pos 0 -ℤ pos b) on.segment.b.x (omega (arith, ints, d)) other.west in
        let e : r.d *ℤ (pos 0 -ℤ pos b) ≡ pos 0 -ℤ r.d *ℤ pos b =
        same (num r.d ⊗ (num (pos 0) ⊖ num (pos b))) (num (pos 0) ⊖ num r.d ⊗ num (pos b)) (omega arith) in
        ⊎_elim
        (λ h. let from = h.0 in omega (arith, ints, west, low, e, from))
        (λ h. let from = h.0 in omega (arith, ints, west, low', e, from))
        on.on.x_between

    -- from a place there to the north, beyond all points
    module _ (q : Rational) (west : q.x <ℤ (pos 0 -ℤ q.d *ℤ pos b)) where
      abbrev beyond : Rational
      beyond = record { x = q.x; y = q.d *ℤ pos b; d = q.d; above_zero = q.above_zero }

      common : (m n x d X D : ℤ) → X *ℤ (m *ℤ d +ℤ n *ℤ d) ≡ (m *ℤ x +ℤ n *ℤ x) *ℤ D → (m +ℤ n) *ℤ (X *ℤ d) ≡ (m +ℤ n) *ℤ (x *ℤ D)
      common m n x d X D e =
          let M = num m in let N = num n in
          same ((M ⊕ N) ⊗ (num X ⊗ num d)) (num X ⊗ (M ⊗ num d ⊕ N ⊗ num d)) (omega arith)
          ∙ e ∙ same ((M ⊗ num x ⊕ N ⊗ num x) ⊗ num D) ((M ⊕ N) ⊗ (num x ⊗ num D)) (omega arith)

      still_west : (r : Rational) → IsStrictlyBetween q beyond r → r.x <ℤ (pos 0 -ℤ r.d *ℤ pos b)
      still_west r at =
          let some : pos 0 <ℤ at.m = at.some_p in let some' : pos 0 <ℤ at.n = at.some_q in
          let d : pos 0 <ℤ q.d = q.above_zero in let d' : pos 0 <ℤ r.d = r.above_zero in
          let one : r.x *ℤ q.d ≡ q.x *ℤ r.d =
          cancel (at.m +ℤ at.n) (r.x *ℤ q.d) (q.x *ℤ r.d) (omega (arith, ints, some, some')) (common at.m at.n q.x q.d r.x r.d at.x) in
          let less : pos 0 <ℤ (r.d *ℤ ((pos 0 -ℤ q.d *ℤ pos b) -ℤ q.x)) = product_above r.d ((pos 0 -ℤ q.d *ℤ pos b) -ℤ q.x) d' (omega (arith, ints, west)) in
          let e : r.d *ℤ ((pos 0 -ℤ q.d *ℤ pos b) -ℤ q.x) ≡ q.d *ℤ (pos 0 -ℤ r.d *ℤ pos b) -ℤ q.x *ℤ r.d =
          same (num r.d ⊗ ((num (pos 0) ⊖ num q.d ⊗ num (pos b)) ⊖ num q.x))
          (num q.d ⊗ (num (pos 0) ⊖ num r.d ⊗ num (pos b)) ⊖ num q.x ⊗ num r.d) (omega arith) in
          let f : r.x *ℤ q.d ≡ q.d *ℤ r.x = same (num r.x ⊗ num q.d) (num q.d ⊗ num r.x) (omega arith) in
          cancel_lt q.d r.x (pos 0 -ℤ r.d *ℤ pos b) (omega (arith, ints, d)) (omega (arith, ints, one, less, e, f))

      pub far_west : LiesAt chains q Outside
      far_west =
          carried beyond q (off_west beyond west) (off_west q west) (λ r at. off_west r (still_west r (between_turned beyond q r at)))
          Outside (outside chains b bounded beyond (inl (inl (omega (arith, ints)))))

  pub faces_agree : AreSidesTrue chains → FacesAgree chains
  faces_agree true_there =
      agree_by chains true_there (λ P clear means p q at at' side lies. alike_along P clear means p q at at' side lies)
      (λ b bounded q off west. far_west b bounded q west)

  pub faces_are_true : FacesAgree chains ↔ AreFacesTrue chains
  faces_are_true = (
    λ faces. record { one_polygon = one_polygon chains (by_faces chains planar faces); true_sides = true_sides chains planar (by_faces chains planar faces) },
    λ truth. faces_agree truth.true_sides,
  )

pub fault_denies : (m : TheMap) (fault : FaceFault) → AreProper m.chains → IsPlanar m.chains → SidesAgree m.chains →
    IsTrueFaceFault m fault → ¬ AreFacesTrue m.chains
fault_denies m fault proper planar agree is truth = denied m fault is (faces_agree m.chains proper planar agree truth.true_sides)
