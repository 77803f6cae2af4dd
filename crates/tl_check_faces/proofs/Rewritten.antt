-- What is so of a place is so of it however it is written.
use Rattle.std.proofs.Common.{◌≡◌, inl, inr, ⊎_elim, ℤ, pos, ◌+ℤ◌, ◌-ℤ◌, ◌*ℤ◌, ◌<ℤ◌, List, sym, arith}
use Rattle.tl_geom.specs.declared.rational.Rational.{Rational}
use Rattle.tl_geom.specs.declared.segment.Segment.{Segment}
use Rattle.tl_geom.specs.Plane.{IsSame, cross, whole}
use Rattle.tl_geom.proofs.Places.{on_same, same_trans}
use Rattle.tl_geom.proofs.Polynomials.{num, ◌⊕◌, ◌⊖◌, ◌⊗◌, same_by_two}
use Rattle.tl_geom.proofs.Signs.{product_above}
use Rattle.tl_map_county.specs.declared.sides.Side.{Side}
use Rattle.tl_map_county.specs.TheMap.{MapChain}
use Rattle.tl_check_faces.specs.Facing.{IsStrictlyOn, IsStrictlyBetween, IsOnRay, IsSideToward, step_x, step_y}
use Rattle.tl_check_faces.specs.Disagreements.{FacingSide, from_place, IsFaceDisagreement, IsOutwardDisagreement}
use Rattle.tl_check_faces.proofs.Numbers.{above_by, below_by}

-- a mean of q and t is one of p and t, where p and q are one place: one coordinate
mean_with : (r e m n p d q d' t d'' : ℤ) → p *ℤ d' ≡ q *ℤ d → r *ℤ (m *ℤ d' +ℤ n *ℤ d'') ≡ (m *ℤ q +ℤ n *ℤ t) *ℤ e →
    r *ℤ ((m *ℤ d') *ℤ d +ℤ (n *ℤ d) *ℤ d'') ≡ ((m *ℤ d') *ℤ p +ℤ (n *ℤ d) *ℤ t) *ℤ e
mean_with r e m n p d q d' t d'' one is =
    same_by_two (num r ⊗ ((num m ⊗ num d') ⊗ num d ⊕ (num n ⊗ num d) ⊗ num d''))
    (((num m ⊗ num d') ⊗ num p ⊕ (num n ⊗ num d) ⊗ num t) ⊗ num e)
    (num d) (num r ⊗ (num m ⊗ num d' ⊕ num n ⊗ num d'')) ((num m ⊗ num q ⊕ num n ⊗ num t) ⊗ num e)
    (num m ⊗ num e) (num q ⊗ num d) (num p ⊗ num d') is (sym one) (omega arith)

-- the same of the second of two
mean_of : (r e m n t d'' p d q d' : ℤ) → p *ℤ d' ≡ q *ℤ d → r *ℤ (m *ℤ d'' +ℤ n *ℤ d') ≡ (m *ℤ t +ℤ n *ℤ q) *ℤ e →
    r *ℤ ((m *ℤ d) *ℤ d'' +ℤ (n *ℤ d') *ℤ d) ≡ ((m *ℤ d) *ℤ t +ℤ (n *ℤ d') *ℤ p) *ℤ e
mean_of r e m n t d'' p d q d' one is =
    same_by_two (num r ⊗ ((num m ⊗ num d) ⊗ num d'' ⊕ (num n ⊗ num d') ⊗ num d))
    (((num m ⊗ num d) ⊗ num t ⊕ (num n ⊗ num d') ⊗ num p) ⊗ num e)
    (num d) (num r ⊗ (num m ⊗ num d'' ⊕ num n ⊗ num d')) ((num m ⊗ num t ⊕ num n ⊗ num q) ⊗ num e)
    (num n ⊗ num e) (num q ⊗ num d) (num p ⊗ num d') is (sym one) (omega arith)

-- a step along a ray from q is one along that from p: one coordinate
along_with : (r e m n p d q d' x : ℤ) → p *ℤ d' ≡ q *ℤ d → r *ℤ (m *ℤ d') ≡ (m *ℤ q +ℤ n *ℤ x) *ℤ e →
    r *ℤ ((m *ℤ d') *ℤ d) ≡ ((m *ℤ d') *ℤ p +ℤ (n *ℤ d) *ℤ x) *ℤ e
along_with r e m n p d q d' x one is =
    same_by_two (num r ⊗ ((num m ⊗ num d') ⊗ num d)) (((num m ⊗ num d') ⊗ num p ⊕ (num n ⊗ num d) ⊗ num x) ⊗ num e)
    (num d) (num r ⊗ (num m ⊗ num d')) ((num m ⊗ num q ⊕ num n ⊗ num x) ⊗ num e)
    (num m ⊗ num e) (num q ⊗ num d) (num p ⊗ num d') is (sym one) (omega arith)

-- the turn from a segment's direction to the step from p is that to the step from q, but for factors above 0
turn_with : (ux uy px py d qx qy d' tx ty e : ℤ) → px *ℤ d' ≡ qx *ℤ d → py *ℤ d' ≡ qy *ℤ d →
    d' *ℤ cross ux uy (tx *ℤ d -ℤ px *ℤ e) (ty *ℤ d -ℤ py *ℤ e) ≡ d *ℤ cross ux uy (tx *ℤ d' -ℤ qx *ℤ e) (ty *ℤ d' -ℤ qy *ℤ e)
turn_with ux uy px py d qx qy d' tx ty e one one' =
    same_by_two
    (num d' ⊗ (num ux ⊗ (num ty ⊗ num d ⊖ num py ⊗ num e) ⊖ num uy ⊗ (num tx ⊗ num d ⊖ num px ⊗ num e)))
    (num d ⊗ (num ux ⊗ (num ty ⊗ num d' ⊖ num qy ⊗ num e) ⊖ num uy ⊗ (num tx ⊗ num d' ⊖ num qx ⊗ num e)))
    (num uy ⊗ num e) (num px ⊗ num d') (num qx ⊗ num d) (num ux ⊗ num e) (num qy ⊗ num d) (num py ⊗ num d') one (sym one') (omega arith)

-- and so is that to the step to it
turn_of : (ux uy px py d qx qy d' tx ty e : ℤ) → px *ℤ d' ≡ qx *ℤ d → py *ℤ d' ≡ qy *ℤ d →
    d' *ℤ cross ux uy (px *ℤ e -ℤ tx *ℤ d) (py *ℤ e -ℤ ty *ℤ d) ≡ d *ℤ cross ux uy (qx *ℤ e -ℤ tx *ℤ d') (qy *ℤ e -ℤ ty *ℤ d')
turn_of ux uy px py d qx qy d' tx ty e one one' =
    same_by_two
    (num d' ⊗ (num ux ⊗ (num py ⊗ num e ⊖ num ty ⊗ num d) ⊖ num uy ⊗ (num px ⊗ num e ⊖ num tx ⊗ num d)))
    (num d ⊗ (num ux ⊗ (num qy ⊗ num e ⊖ num ty ⊗ num d') ⊖ num uy ⊗ (num qx ⊗ num e ⊖ num tx ⊗ num d')))
    (num uy ⊗ num e) (num qx ⊗ num d) (num px ⊗ num d') (num ux ⊗ num e) (num py ⊗ num d') (num qy ⊗ num d) (sym one) one' (omega arith)

-- the side toward a step that turns likewise
side_by : (chain : MapChain) (u : Segment) (x y x' y' a b : ℤ) (side : Side) → pos 0 <ℤ a → pos 0 <ℤ b →
    a *ℤ cross (u.b.x -ℤ u.a.x) (u.b.y -ℤ u.a.y) x y ≡ b *ℤ cross (u.b.x -ℤ u.a.x) (u.b.y -ℤ u.a.y) x' y' → IsSideToward chain u x y side →
    IsSideToward chain u x' y' side
side_by chain u x y x' y' a b side above above' e =
    ⊎_elim (λ k. inl (above_by a _ b _ above above' e k.0, k.1)) (λ k. inr (below_by a _ b _ above above' e k.0, k.1))

-- p and q are one place
module _ (p q : Rational) (one : IsSame p q) where
  strictly : (u : Segment) → IsStrictlyOn u p → IsStrictlyOn u q
  strictly u h = record {
    on = on_same u p q one h.on;
    no_end = λ e. h.no_end (⊎_elim (λ k. inl (same_trans p q (whole u.a) one k)) (λ k. inr (same_trans p q (whole u.b) one k)) e);
  }

  between_with : (t r : Rational) → IsStrictlyBetween q t r → IsStrictlyBetween p t r
  between_with t r b = record {
    m = b.m *ℤ q.d;
    n = b.n *ℤ p.d;
    some_p = product_above b.m q.d b.some_p q.above_zero;
    some_q = product_above b.n p.d b.some_q p.above_zero;
    x = mean_with r.x r.d b.m b.n p.x p.d q.x q.d t.x t.d one.x b.x;
    y = mean_with r.y r.d b.m b.n p.y p.d q.y q.d t.y t.d one.y b.y;
  }

  between_of : (t r : Rational) → IsStrictlyBetween t q r → IsStrictlyBetween t p r
  between_of t r b = record {
    m = b.m *ℤ p.d;
    n = b.n *ℤ q.d;
    some_p = product_above b.m p.d b.some_p p.above_zero;
    some_q = product_above b.n q.d b.some_q q.above_zero;
    x = mean_of r.x r.d b.m b.n t.x t.d p.x p.d q.x q.d one.x b.x;
    y = mean_of r.y r.d b.m b.n t.y t.d p.y p.d q.y q.d one.y b.y;
  }

  on_ray : (x y : ℤ) (r : Rational) → IsOnRay q x y r → IsOnRay p x y r
  on_ray x y r b = record {
    m = b.m *ℤ q.d;
    n = b.n *ℤ p.d;
    some_m = product_above b.m q.d b.some_m q.above_zero;
    some_n = product_above b.n p.d b.some_n p.above_zero;
    at_x = along_with r.x r.d b.m b.n p.x p.d q.x q.d x one.x b.at_x;
    at_y = along_with r.y r.d b.m b.n p.y p.d q.y q.d y one.y b.at_y;
  }

-- faces that disagree from a place do so from it however it is written
module _ (p : Rational) (chains : List MapChain) (one : FacingSide) where
  pub first_rewritten : (other : FacingSide) → IsSame one.place p → IsFaceDisagreement chains one other →
      IsFaceDisagreement chains (from_place one p) other
  first_rewritten other same d =
      let u = one.segment in
      let at = one.place in
      let t = other.place in
      record {
        first = d.first;
        last = d.last;
        on_first = strictly at p same u d.on_first;
        on_last = d.on_last;
        clear = λ r b. d.clear r (between_with at p same t r b);
        from_first =
            side_by one.chain u (step_x at t) (step_y at t) (step_x p t) (step_y p t) p.d at.d one.side p.above_zero at.above_zero
            (turn_with (u.b.x -ℤ u.a.x) (u.b.y -ℤ u.a.y) at.x at.y at.d p.x p.y p.d t.x t.y t.d same.x same.y) d.from_first;
        from_last =
            side_by other.chain other.segment (step_x t at) (step_y t at) (step_x t p) (step_y t p) p.d at.d other.side p.above_zero at.above_zero
            (turn_of (other.segment.b.x -ℤ other.segment.a.x) (other.segment.b.y -ℤ other.segment.a.y) at.x at.y at.d p.x p.y p.d t.x t.y t.d
            same.x same.y) d.from_last;
        differ = d.differ;
      }

  pub last_rewritten : (other : FacingSide) → IsSame other.place p → IsFaceDisagreement chains one other →
      IsFaceDisagreement chains one (from_place other p)
  last_rewritten other same d =
      let w = other.segment in
      let at = other.place in
      let t = one.place in
      record {
        first = d.first;
        last = d.last;
        on_first = d.on_first;
        on_last = strictly at p same w d.on_last;
        clear = λ r b. d.clear r (between_of at p same t r b);
        from_first =
            side_by one.chain one.segment (step_x t at) (step_y t at) (step_x t p) (step_y t p) p.d at.d one.side p.above_zero at.above_zero
            (turn_of (one.segment.b.x -ℤ one.segment.a.x) (one.segment.b.y -ℤ one.segment.a.y) at.x at.y at.d p.x p.y p.d t.x t.y t.d
            same.x same.y) d.from_first;
        from_last =
            side_by other.chain w (step_x at t) (step_y at t) (step_x p t) (step_y p t) p.d at.d other.side p.above_zero at.above_zero
            (turn_with (w.b.x -ℤ w.a.x) (w.b.y -ℤ w.a.y) at.x at.y at.d p.x p.y p.d t.x t.y t.d same.x same.y) d.from_last;
        differ = d.differ;
      }

  pub outward_rewritten : (x y : ℤ) → IsSame one.place p → IsOutwardDisagreement chains one x y →
      IsOutwardDisagreement chains (from_place one p) x y
  outward_rewritten x y same d = record {
    of = d.of;
    on = strictly one.place p same one.segment d.on;
    clear = λ r b. d.clear r (on_ray one.place p same x y r b);
    from = d.from;
    differs = d.differs;
  }
