-- The segments that meet a line, each with its place on it.
use Rattle.std.proofs.Common.{◌≡◌, ◌⊎◌, inl, inr, ⊎_elim, ℕ, ◌+◌, ◌<◌, ℤ, pos, ◌-ℤ◌, ◌*ℤ◌, ◌<ℤ◌, ◌≤ℤ◌, Some, List, length, refl, sym, ap, subst, ◌∙◌, arith}
use Rattle.std.specs.Prelude.{slice_get}
use Rattle.std.proofs.lemmas.Int.{ints, by_lt_z}
use Rattle.std.proofs.lemmas.Option.{slice_get_within}
use Rattle.tl_geom.specs.declared.point.Point.{Point}
use Rattle.tl_geom.specs.declared.rational.Rational.{Rational}
use Rattle.tl_geom.specs.declared.segment.Segment.{Segment}
use Rattle.tl_geom.specs.Plane.{IsOn, IsSame, whole}
use Rattle.tl_geom.specs.Contact.{IsEnd}
use Rattle.tl_geom.proofs.Polynomials.{num, ◌⊖◌, ◌⊗◌, same}
use Rattle.tl_geom.proofs.Signs.{mono_lt, cancel, cancel_le, cancel_lt}
use Rattle.tl_geom.proofs.Places as places
use Rattle.tl_map_county.specs.TheMap.{MapChain}
use Rattle.tl_map_county.specs.Segments.{segments_before}
use Rattle.tl_check_planar.specs.Planar.{IsPlanar}
use Rattle.tl_check_planar.proofs.Ends.{products_by_same}
use Rattle.tl_check_planar.specs.ByHeight.Heights.{height, height_of, AreNear, low_end, high_end}
use Rattle.tl_check_planar.specs.ByHeight.Neighbours.{IsNumbered}
use Rattle.tl_check_planar.proofs.ByHeight.Rising.{AreEndsOf, ends_of}
use Rattle.tl_check_planar.proofs.ByHeight.Lying.{heights_of}
use Rattle.tl_check_faces.specs.Facing.{IsOfChain}
use Rattle.tl_check_faces.proofs.Steep.{IsSpanned, one_height}
use Rattle.tl_check_faces.proofs.Bounds.{IsSteep}
use Rattle.tl_check_faces.proofs.Lines.{AreLevel, IsWestward, IsMet, level_with, one_place, same_of_turn}
use Rattle.tl_check_faces.proofs.Ends.{IsSomeEnd, shared_end}

-- a segment that meets the line of r, and where
pub record Item (K : ℤ) (chains : List MapChain) (r : Rational) : Type 0 where
  pub s : ℕ
  pub c : ℕ
  pub k : ℕ
  pub chain : MapChain
  pub segment : Segment
  pub is : slice_get chains c ≡ Some chain
  pub inside : k + 1 < length chain.points
  pub number : s ≡ segments_before chains c + k
  pub from : slice_get chain.points k ≡ Some segment.a
  pub to : slice_get chain.points (k + 1) ≡ Some segment.b
  pub spanned : IsSpanned K segment r
  pub at : IsMet K segment r

-- r is no end of a segment
abbrev pub IsNoEnd : List MapChain → Rational → Type 0
IsNoEnd chains r = (s : ℕ) (u : Segment) → IsNumbered chains s u → ¬ IsEnd u r

-- a line of the height of r on which no end of a segment lies
pub record IsLine (K : ℤ) (chains : List MapChain) (r : Rational) : Type 0 where
  pub above : pos 0 <ℤ K
  pub ends : (s : ℕ) (u : Segment) → IsNumbered chains s u → AreNear K u.a u.b
  pub off : (s : ℕ) (u : Segment) → IsNumbered chains s u → ¬ (r.d *ℤ height K u.a ≡ height_of K r) × ¬ (r.d *ℤ height K u.b ≡ height_of K r)

-- a steep one through a place that is no end
pub steep_line : (K : ℤ) (chains : List MapChain) (r : Rational) → IsSteep K chains r → IsNoEnd chains r → IsLine K chains r
steep_line K chains r steep clear = record {
  above = steep.above;
  ends = steep.ends;
  off = λ s u is. (
    (λ e. clear s u is (inl (one_height K r u.a (steep.first s u is) e))),
    (λ e. clear s u is (inr (one_height K r u.b (steep.last s u is) e))),
  );
}

module _ (K : ℤ) (chains : List MapChain) (r : Rational) where
  -- the item of the segment with a number
  abbrev pub item_with : (s : ℕ) (u : Segment) → IsNumbered chains s u → IsSpanned K u r → IsMet K u r → Item K chains r
  item_with s u is spanned at = record {
    s = s;
    c = is.c;
    k = is.k;
    chain = is.joins.chain;
    segment = u;
    is = is.joins.is;
    inside = slice_get_within is.joins.chain.points (is.k + 1) u.b is.joins.to;
    number = is.number.number;
    from = is.joins.from;
    to = is.joins.to;
    spanned = spanned;
    at = at;
  }

  pub numbered : (x : Item K chains r) → IsNumbered chains x.s x.segment
  numbered x = record {
    c = x.c;
    k = x.k;
    number = record { chain = x.chain; is = x.is; place = x.inside; number = x.number };
    joins = record { chain = x.chain; is = x.is; from = x.from; to = x.to };
  }

  pub of_chain : (x : Item K chains r) → IsOfChain chains x.chain x.segment
  of_chain x = record { c = x.c; k = x.k; is = x.is; from = x.from; to = x.to }

-- ---- an order of heights, over another number

pub scaled : (hv hp hr pd rd : ℤ) → pos 0 <ℤ pd → pos 0 <ℤ rd → hp *ℤ rd ≡ hr *ℤ pd → (pd *ℤ hv) ≤ℤ hp → (rd *ℤ hv) ≤ℤ hr
scaled hv hp hr pd rd above above' e le =
    cancel_le pd (rd *ℤ hv) hr above
    (let m : (rd *ℤ (pd *ℤ hv)) ≤ℤ (rd *ℤ hp) = mono_le rd (pd *ℤ hv) hp above' le in
    let one : pd *ℤ (rd *ℤ hv) ≡ rd *ℤ (pd *ℤ hv) = same (num pd ⊗ (num rd ⊗ num hv)) (num rd ⊗ (num pd ⊗ num hv)) (omega arith) in
    let two : rd *ℤ hp ≡ hp *ℤ rd = same (num rd ⊗ num hp) (num hp ⊗ num rd) (omega arith) in
    let three : pd *ℤ hr ≡ hr *ℤ pd = same (num pd ⊗ num hr) (num hr ⊗ num pd) (omega arith) in
    omega (arith, ints, m, one, two, three, e))
  where
    mono_le : (a b c : ℤ) → pos 0 <ℤ a → b ≤ℤ c → (a *ℤ b) ≤ℤ (a *ℤ c)
    mono_le a b c h le = by_lt_z b c
        (λ lt. let m = mono_lt a b c h lt in omega (arith, ints, m))
        (λ ge. let e : b ≡ c = omega (arith, ints, le, ge) in let f : a *ℤ b ≡ a *ℤ c = ap (λ z. a *ℤ z) e in omega (arith, ints, f))

pub scaled_above : (hv hp hr pd rd : ℤ) → pos 0 <ℤ pd → pos 0 <ℤ rd → hp *ℤ rd ≡ hr *ℤ pd → hp ≤ℤ (pd *ℤ hv) → hr ≤ℤ (rd *ℤ hv)
scaled_above hv hp hr pd rd above above' e le =
    by_lt_z (rd *ℤ hv) hr
    (λ lt.
    let m : (pd *ℤ (rd *ℤ hv)) <ℤ (pd *ℤ hr) = mono_lt pd (rd *ℤ hv) hr above lt in
    let one : pd *ℤ (rd *ℤ hv) ≡ rd *ℤ (pd *ℤ hv) = same (num pd ⊗ (num rd ⊗ num hv)) (num rd ⊗ (num pd ⊗ num hv)) (omega arith) in
    let two : rd *ℤ hp ≡ hp *ℤ rd = same (num rd ⊗ num hp) (num hp ⊗ num rd) (omega arith) in
    let three : pd *ℤ hr ≡ hr *ℤ pd = same (num pd ⊗ num hr) (num hr ⊗ num pd) (omega arith) in
    let back : (pd *ℤ hv) <ℤ hp = cancel_lt rd (pd *ℤ hv) hp (omega (arith, ints, above')) (omega (arith, ints, m, one, two, three, e)) in
    absurd (omega (arith, ints, back, le)))
    (λ k. k)

-- ---- no end of a segment lies on the line

height_same : (K x y d vx vy : ℤ) → x ≡ vx *ℤ d → y ≡ vy *ℤ d → K *ℤ y -ℤ x ≡ d *ℤ (K *ℤ vy -ℤ vx)
height_same K x y d vx vy e f =
    ap (λ z. K *ℤ z -ℤ x) f ∙ ap (λ z. K *ℤ (vy *ℤ d) -ℤ z) e
    ∙ same (num K ⊗ (num vy ⊗ num d) ⊖ num vx ⊗ num d) (num d ⊗ (num K ⊗ num vy ⊖ num vx)) (omega arith)

pub point_level : (K : ℤ) (r p : Rational) (v : Point) → AreLevel K p r → IsSame p (whole v) → r.d *ℤ height K v ≡ height_of K r
point_level K r p v level here =
    let at = products_by_same p v here in
    let is : height_of K p ≡ p.d *ℤ height K v = height_same K p.x p.y p.d v.x v.y at.0 at.1 in
    cancel p.d (r.d *ℤ height K v) (height_of K r) p.above_zero
    (same (num p.d ⊗ (num r.d ⊗ num (height K v))) (num p.d ⊗ num (height K v) ⊗ num r.d) (omega arith)
    ∙ ap (λ z. z *ℤ r.d) (sym is) ∙ level.is ∙ same (num (height_of K r) ⊗ num p.d) (num p.d ⊗ num (height_of K r)) (omega arith))

module _ (K : ℤ) (chains : List MapChain) (r : Rational) (line : IsLine K chains r) where
  end_height : (s : ℕ) (u : Segment) → IsNumbered chains s u → (v : Point) → (v ≡ u.a) ⊎ (v ≡ u.b) → ¬ (r.d *ℤ height K v ≡ height_of K r)
  end_height s u is v which e = ⊎_elim
      (λ k. (line.off s u is).0 (subst (λ z. r.d *ℤ height K z ≡ height_of K r) k e))
      (λ k. (line.off s u is).1 (subst (λ z. r.d *ℤ height K z ≡ height_of K r) k e))
      which

  no_end : (p : Rational) → AreLevel K p r → ¬ IsSomeEnd chains p
  no_end p level e = ⊎_elim
      (λ k. end_height e.s e.segment e.is e.segment.a (inl refl) (point_level K r p e.segment.a level k))
      (λ k. end_height e.s e.segment e.is e.segment.b (inr refl) (point_level K r p e.segment.b level k))
      e.end

  pub no_end_of : (s : ℕ) (u : Segment) → IsNumbered chains s u → (p : Rational) → AreLevel K p r → ¬ IsEnd u p
  no_end_of s u is p level e = no_end p level (record { s = s; segment = u; is = is; end = e })

  pub ends : (s : ℕ) (u : Segment) → IsNumbered chains s u → AreEndsOf K u (low_end K u) (high_end K u)
  ends s u is = ends_of K u (line.ends s u is)

  pub ends_of_item : (x : Item K chains r) → AreEndsOf K x.segment (low_end K x.segment) (high_end K x.segment)
  ends_of_item x = ends x.s x.segment (numbered K chains r x)

  -- what lies on a segment, at the height of r, is strictly between the ends, and so the segment meets the line
  pub spanned_by : (s : ℕ) (u : Segment) → IsNumbered chains s u → (p : Rational) → IsOn u p → AreLevel K p r → IsSpanned K u r
  spanned_by s u is p on level =
      let e : AreEndsOf K u (low_end K u) (high_end K u) = ends s u is in
      let at = heights_of K u (low_end K u) (high_end K u) e p on in
      let low : (r.d *ℤ height K (low_end K u)) ≤ℤ height_of K r = scaled (height K (low_end K u)) (height_of K p) (height_of K r) p.d r.d p.above_zero r.above_zero level.is at.1 in
      let high : height_of K r ≤ℤ (r.d *ℤ height K (high_end K u)) = scaled_above (height K (high_end K u)) (height_of K p) (height_of K r) p.d r.d p.above_zero r.above_zero level.is at.2 in
      let no_low : ¬ (r.d *ℤ height K (low_end K u) ≡ height_of K r) = end_height s u is (low_end K u) (⊎_elim (λ k. inl k.0) (λ k. inr k.0) e.are) in
      let no_high : ¬ (r.d *ℤ height K (high_end K u) ≡ height_of K r) = end_height s u is (high_end K u) (⊎_elim (λ k. inr k.1) (λ k. inl k.1) e.are) in
      record {
        from = by_lt_z (r.d *ℤ height K (low_end K u)) (height_of K r) (λ k. k) (λ ge. absurd (no_low (omega (arith, ints, low, ge))));
        to = by_lt_z (height_of K r) (r.d *ℤ height K (high_end K u)) (λ k. k) (λ ge. absurd (no_high (omega (arith, ints, high, ge))));
      }

  -- two places of one segment that have one height have one longitude
  pub one_longitude : (s : ℕ) (u : Segment) → IsNumbered chains s u → (p q : Rational) → IsOn u p → IsOn u q → AreLevel K p q → p.x *ℤ q.d ≡ q.x *ℤ p.d
  one_longitude s u is p q on on' level =
      let e : AreEndsOf K u (low_end K u) (high_end K u) = ends s u is in
      same_of_turn K line.above (low_end K u) (high_end K u) e.rising p q (heights_of K u (low_end K u) (high_end K u) e p on).0 level (heights_of K u (low_end K u) (high_end K u) e q on').0

  -- ---- of two items one is west of the other

  abbrev pub IsWestOf : (x y : Item K chains r) → Type 0
  IsWestOf x y = IsWestward x.at.place y.at.place

  pub one_west : IsPlanar chains → (x y : Item K chains r) → ¬ (x.s ≡ y.s) → IsWestOf x y ⊎ IsWestOf y x
  one_west planar x y ne =
      let p : Rational = x.at.place in
      let q : Rational = y.at.place in
      by_lt_z (p.x *ℤ q.d) (q.x *ℤ p.d) (λ lt. inl lt)
      (λ ge. by_lt_z (q.x *ℤ p.d) (p.x *ℤ q.d) (λ lt. inr lt)
      (λ le. absurd (
      let here : IsSame p q = one_place K p q line.above (level_with K p q r x.at.level y.at.level) (omega (arith, ints, ge, le)) in
      no_end q y.at.level (shared_end chains planar x.s y.s x.segment y.segment q ne (numbered K chains r x) (numbered K chains r y) (places.on_same x.segment p q here x.at.on) y.at.on))))
