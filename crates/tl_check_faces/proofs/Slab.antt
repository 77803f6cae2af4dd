-- The slab whose active segments are those that meet a line.
use Rattle.std.proofs.Common.{◌≡◌, ◌⊎◌, inl, inr, ⊎_elim, ℕ, zero, suc, ◌+◌, ℤ, pos, ◌-ℤ◌, ◌*ℤ◌, ◌<ℤ◌, ◌≤ℤ◌, Bool, true, false, if◌then◌else◌, Some, List, [], ◌∷◌, refl, sym, ap, subst, ◌∙◌, arith}
use Rattle.std.specs.Prelude.{int_lt, slice_get}
use Rattle.std.proofs.lemmas.Int.{ints, by_lt_z}
use Rattle.tl_geom.specs.declared.point.Point.{Point}
use Rattle.tl_geom.specs.declared.rational.Rational.{Rational}
use Rattle.tl_geom.specs.declared.segment.Segment.{Segment}
use Rattle.tl_geom.proofs.Polynomials.{num, ◌⊖◌, ◌⊗◌, same}
use Rattle.tl_geom.proofs.Signs.{mono, cancel_lt, cancel_le}
use Rattle.tl_geom.proofs.Places.{point_same}
use Rattle.tl_map_county.specs.TheMap.{MapChain}
use Rattle.tl_check_planar.specs.Keeping.Apart.{one_found}
use Rattle.tl_check_planar.specs.ByHeight.Heights.{height, height_of, AreNear, low_end, high_end}
use Rattle.tl_check_planar.specs.ByHeight.Neighbours.{IsNumbered}
use Rattle.tl_check_planar.specs.ByHeight.Slabs.{IsActive, IsChainPoint}
use Rattle.tl_check_planar.proofs.ByHeight.Rising.{AreEndsOf, ends_of, higher, higher_west}
use Rattle.tl_check_faces.specs.Lists.{AreAllNear}
use Rattle.tl_check_faces.proofs.Steep.{IsNearTo, IsSpanned, north, south, level, not_north, not_south}
use Rattle.tl_check_faces.proofs.Bounds.{IsBounded, AreBounded, IsSteep, some_bound}
use Rattle.tl_check_faces.proofs.Items.{IsLine}
use Rattle.tl_check_inside.proofs.Sides.{no_lt, is_lt}

-- a point comes before r: it is further south, or of one latitude and further east; or it comes behind r
abbrev pub IsBefore : Rational → Point → Type 0
IsBefore r p = ((r.d *ℤ p.y) <ℤ r.y) ⊎ ((r.d *ℤ p.y ≡ r.y) × (r.x <ℤ (r.d *ℤ p.x)))

abbrev pub IsBehind : Rational → Point → Type 0
IsBehind r p = (r.y <ℤ (r.d *ℤ p.y)) ⊎ ((r.d *ℤ p.y ≡ r.y) × ((r.d *ℤ p.x) <ℤ r.x))

before_or : (r : Rational) (p : Point) → IsBefore r p ⊎ ¬ IsBefore r p
before_or r p =
    by_lt_z (r.d *ℤ p.y) r.y (λ lt. inl (inl lt))
    (λ ge. by_lt_z r.y (r.d *ℤ p.y) (λ lt. inr (λ b. ⊎_elim (λ k. omega (arith, ints, k, lt)) (λ k. let e = k.0 in omega (arith, ints, e, lt)) b))
    (λ le. let e : r.d *ℤ p.y ≡ r.y = omega (arith, ints, ge, le) in
    by_lt_z r.x (r.d *ℤ p.x) (λ lt. inl (inr (e, lt)))
    (λ far. inr (λ b. ⊎_elim (λ k. omega (arith, ints, k, e)) (λ k. let f = k.1 in omega (arith, ints, f, far)) b))))

-- ---- by heights

module _ (K : ℤ) (r : Rational) (p : Point) (near : IsNearTo K r p) where
  pub before_by : (r.d *ℤ height K p) <ℤ height_of K r → IsBefore r p
  before_by lt =
      let low : (r.d *ℤ p.y) ≤ℤ r.y = not_north K r p near (omega (arith, ints, lt)) in
      by_lt_z (r.d *ℤ p.y) r.y (λ k. inl k)
      (λ ge. let e : r.d *ℤ p.y ≡ r.y = omega (arith, ints, low, ge) in let x = level K r p near e in inr (e, omega (arith, ints, x, lt)))

  pub behind_by : height_of K r <ℤ (r.d *ℤ height K p) → IsBehind r p
  behind_by lt =
      let high : r.y ≤ℤ (r.d *ℤ p.y) = not_south K r p near (omega (arith, ints, lt)) in
      by_lt_z r.y (r.d *ℤ p.y) (λ k. inl k)
      (λ ge. let e : r.d *ℤ p.y ≡ r.y = omega (arith, ints, high, ge) in let x = level K r p near e in inr (e, omega (arith, ints, x, lt)))

  pub by_before : IsBefore r p → (r.d *ℤ height K p) <ℤ height_of K r
  by_before = ⊎_elim (λ k. south K r p near k) (λ k. let x = level K r p near k.0 in let f = k.1 in omega (arith, ints, x, f))

  pub by_behind : IsBehind r p → height_of K r <ℤ (r.d *ℤ height K p)
  by_behind = ⊎_elim (λ k. north K r p near k) (λ k. let x = level K r p near k.0 in let f = k.1 in omega (arith, ints, x, f))

-- what comes before is lower than what comes behind
pub lower : (K : ℤ) (r : Rational) (p q : Point) → AreNear K p q → IsBefore r p → IsBehind r q → height K p <ℤ height K q
lower K r p q near before behind =
    let d : pos 0 <ℤ r.d = r.above_zero in
    ⊎_elim
    (λ s. higher K p q near (cancel_lt r.d p.y q.y (omega (arith, ints, d)) (⊎_elim (λ t. omega (arith, ints, s, t)) (λ t. let e = t.0 in omega (arith, ints, s, e)) behind)))
    (λ s. ⊎_elim
    (λ t. let e = s.0 in higher K p q near (cancel_lt r.d p.y q.y (omega (arith, ints, d)) (omega (arith, ints, t, e))))
    (λ t.
    let e = s.0 in let f = t.0 in let g = s.1 in let h = t.1 in
    let le : p.y ≤ℤ q.y = cancel_le r.d p.y q.y d (omega (arith, ints, e, f)) in
    let ge : q.y ≤ℤ p.y = cancel_le r.d q.y p.y d (omega (arith, ints, e, f)) in
    higher_west K p q near (omega (arith, ints, le, ge)) (cancel_lt r.d q.x p.x (omega (arith, ints, d)) (omega (arith, ints, g, h))))
    behind)
    before

-- ---- a height that parts them

module _ (K : ℤ) (chains : List MapChain) (near : AreAllNear K chains) (r : Rational) where
  -- it is a point of a chain
  record IsPoint (p : Point) : Type 0 where
    c : ℕ
    k : ℕ
    of : IsChainPoint chains c k p

  -- no point that comes behind r has this height, or less
  IsUnder : ℤ → Type 0
  IsUnder n = (p : Point) → IsPoint p → IsBehind r p → n <ℤ height K p

  record IsRaised (n m : ℤ) (P : Point → Type 0) : Type 0 where
    more : n ≤ℤ m
    under : IsUnder m
    over : (p : Point) → P p → IsBefore r p → height K p ≤ℤ m

  by_one : (n : ℤ) → IsUnder n → (q : Point) → IsPoint q → (m : ℤ) × IsRaised n m (λ p. p ≡ q)
  unfolding IsUnder
  by_one n under q is = ⊎_elim
      (λ before. by_lt_z n (height K q)
      (λ lt. (
        height K q,
        record {
          more = omega (arith, ints, lt);
          under = λ p at behind. lower K r q p (near is.c is.k at.c at.k q p is.of at.of) before behind;
          over = λ p e b. let same_height : height K p ≡ height K q = ap (height K) e in omega (arith, ints, same_height);
        },
      ))
      (λ le. (
        n,
        record { more = omega (arith, ints); under = under; over = λ p e b. let same_height : height K p ≡ height K q = ap (height K) e in omega (arith, ints, same_height, le) },
      )))
      (λ not. (
        n,
        record { more = omega (arith, ints); under = under; over = λ p e b. absurd (not (subst (IsBefore r) e b)) },
      ))
      (before_or r q)

  -- the points of a list
  record IsOfList (points : List Point) (p : Point) : Type 0 where
    k : ℕ
    is : slice_get points k ≡ Some p

  by_points : (n : ℤ) → IsUnder n → (points : List Point) → ((p : Point) → IsOfList points p → IsPoint p) → (m : ℤ) × IsRaised n m (IsOfList points)
  by_points n under [] are = (n, record { more = omega (arith, ints); under = under; over = λ p h b. absurd (nothing p h.k h.is) })
    where
      nothing : (p : Point) (k : ℕ) → slice_get [] k ≡ Some p → ⊥
      nothing p k e = cc
  by_points n under (q ∷ points) are = go (by_points n under points (λ p h. are p (record { k = suc h.k; is = h.is })))
    where
      both : (m m' : ℤ) → IsRaised n m (IsOfList points) → IsRaised m m' (λ p. p ≡ q) → IsRaised n m' (IsOfList (q ∷ points))
      both m m' rest one = record {
        more = let a = rest.more in let b = one.more in omega (arith, ints, a, b);
        under = one.under;
        over = λ p h b. at p h.k h.is b;
      }
        where
          at : (p : Point) (k : ℕ) → slice_get (q ∷ points) k ≡ Some p → IsBefore r p → height K p ≤ℤ m'
          at p zero e b = one.over p (sym (one_found q p (Some q) refl e)) b
          at p (suc k) e b = let h = rest.over p (record { k = k; is = e }) b in let more = one.more in omega (arith, ints, h, more)

      go : (m : ℤ) × IsRaised n m (IsOfList points) → (m : ℤ) × IsRaised n m (IsOfList (q ∷ points))
      go (m, rest) =
          let one : (m' : ℤ) × IsRaised m m' (λ p. p ≡ q) = by_one m rest.under q (are q (record { k = 0; is = refl })) in
          (one.0, both m one.0 rest one.1)

  -- the points of the chains of a list
  record IsOfChains (cs : List MapChain) (p : Point) : Type 0 where
    c : ℕ
    k : ℕ
    of : IsChainPoint cs c k p

  by_chains : (n : ℤ) → IsUnder n → (cs : List MapChain) → ((p : Point) → IsOfChains cs p → IsPoint p) → (m : ℤ) × IsRaised n m (IsOfChains cs)
  by_chains n under [] are = (n, record { more = omega (arith, ints); under = under; over = λ p h b. absurd (nothing h.c h.of.chain h.of.is) })
    where
      nothing : (c : ℕ) (chain : MapChain) → slice_get [] c ≡ Some chain → ⊥
      nothing c chain e = cc
  by_chains n under (x ∷ cs) are = go (by_chains n under cs (λ p h. are p (record { c = suc h.c; k = h.k; of = record { chain = h.of.chain; is = h.of.is; point = h.of.point } })))
    where
      both : (m m' : ℤ) → IsRaised n m (IsOfChains cs) → IsRaised m m' (IsOfList x.points) → IsRaised n m' (IsOfChains (x ∷ cs))
      both m m' rest one = record {
        more = let a = rest.more in let b = one.more in omega (arith, ints, a, b);
        under = one.under;
        over = λ p h b. at p h.c h.k h.of.chain h.of.is h.of.point b;
      }
        where
          at : (p : Point) (c k : ℕ) (chain : MapChain) → slice_get (x ∷ cs) c ≡ Some chain → slice_get chain.points k ≡ Some p → IsBefore r p → height K p ≤ℤ m'
          at p zero k chain e f b = one.over p (record { k = k; is = subst (λ (z : MapChain). slice_get z.points k ≡ Some p) (sym (one_found x chain (Some x) refl e)) f }) b
          at p (suc c) k chain e f b =
              let h = rest.over p (record { c = c; k = k; of = record { chain = chain; is = e; point = f } }) b in
              let more = one.more in omega (arith, ints, h, more)

      go : (m : ℤ) × IsRaised n m (IsOfChains cs) → (m : ℤ) × IsRaised n m (IsOfChains (x ∷ cs))
      go (m, rest) =
          let one : (m' : ℤ) × IsRaised m m' (IsOfList x.points) =
          by_points m rest.under x.points (λ p h. are p (record { c = 0; k = h.k; of = record { chain = x; is = refl; point = h.is } })) in
          (one.0, both m one.0 rest one.1)

  -- a height below all points
  bottom : ℕ → ℤ
  bottom b = pos 0 -ℤ (K *ℤ pos b) -ℤ pos b -ℤ pos 1

  below_all : (b : ℕ) → AreBounded b chains → IsUnder (bottom b)
  unfolding bottom IsUnder
  below_all b bounded p is behind =
      let own : AreNear K p p = near is.c is.k is.c is.k p p is.of is.of in
      let above = own.west in
      let at : IsBounded b p = bounded is.c is.k is.of.chain p is.of.is is.of.point in
      let low : (K *ℤ (pos 0 -ℤ pos b)) ≤ℤ (K *ℤ p.y) = mono K (pos 0 -ℤ pos b) p.y (omega (arith, ints, above)) at.south in
      let e : K *ℤ (pos 0 -ℤ pos b) ≡ pos 0 -ℤ K *ℤ pos b = same (num K ⊗ (num (pos 0) ⊖ num (pos b))) (num (pos 0) ⊖ num K ⊗ num (pos b)) (omega arith) in
      let east = at.east in
      omega (arith, ints, low, e, east)

  -- a height at or above all points that come before r, and below all that come behind
  pub record IsParting (n : ℤ) : Type 0 where
    pub over : (c k : ℕ) (p : Point) → IsChainPoint chains c k p → IsBefore r p → height K p ≤ℤ n
    pub under : (c k : ℕ) (p : Point) → IsChainPoint chains c k p → IsBehind r p → n <ℤ height K p

  pub parting : (n : ℤ) × IsParting n
  unfolding IsUnder
  parting =
      let bound : (b : ℕ) × AreBounded b chains = some_bound chains in
      let found : (m : ℤ) × IsRaised (bottom bound.0) m (IsOfChains chains) = by_chains (bottom bound.0) (below_all bound.0 bound.1) chains (λ p h. record { c = h.c; k = h.k; of = h.of }) in (
        found.0,
        record {
          over = λ c k p of before. found.1.over p (record { c = c; k = k; of = of }) before;
          under = λ c k p of behind. found.1.under p (record { c = c; k = k; of = of }) behind;
        },
      )

-- ---- active there, and spanned

-- two numbers above the differences of longitudes tell alike which end of a segment is the lower one
pub same_rise : (K L : ℤ) (u : Segment) → AreNear K u.a u.b → AreNear L u.a u.b → int_lt (height K u.a) (height K u.b) ≡ int_lt (height L u.a) (height L u.b)
same_rise K L u near near' = ⊎_elim
    (λ up. both true (is_lt (height K u.a) (height K u.b) (up K near)) (is_lt (height L u.a) (height L u.b) (up L near')))
    (λ down. both false (no_lt (height K u.a) (height K u.b) (let h = down K near in omega (arith, ints, h))) (no_lt (height L u.a) (height L u.b) (let h = down L near' in omega (arith, ints, h))))
    which
  where
    both : (t : Bool) → int_lt (height K u.a) (height K u.b) ≡ t → int_lt (height L u.a) (height L u.b) ≡ t → int_lt (height K u.a) (height K u.b) ≡ int_lt (height L u.a) (height L u.b)
    both t e f = e ∙ sym f

    which : ((M : ℤ) → AreNear M u.a u.b → height M u.a <ℤ height M u.b) ⊎ ((M : ℤ) → AreNear M u.a u.b → height M u.b <ℤ height M u.a)
    which =
        by_lt_z u.a.y u.b.y (λ lt. inl (λ M n. higher M u.a u.b n lt))
        (λ ge. by_lt_z u.b.y u.a.y (λ lt. inr (λ M n. higher M u.b u.a (record { west = n.east; east = n.west }) lt))
        (λ le.
        let y : u.a.y ≡ u.b.y = omega (arith, ints, ge, le) in
        by_lt_z u.b.x u.a.x (λ lt. inl (λ M n. higher_west M u.a u.b n y lt))
        (λ far. by_lt_z u.a.x u.b.x (λ lt. inr (λ M n. higher_west M u.b u.a (record { west = n.east; east = n.west }) (sym y) lt))
        (λ near_x. absurd (u.different (point_same u.a u.b (omega (arith, ints, far, near_x)) y))))))

pub same_low : (K L : ℤ) (u : Segment) → AreNear K u.a u.b → AreNear L u.a u.b → low_end K u ≡ low_end L u
same_low K L u near near' = ap (λ (t : Bool). if t then u.a else u.b) (same_rise K L u near near')

pub same_high : (K L : ℤ) (u : Segment) → AreNear K u.a u.b → AreNear L u.a u.b → high_end K u ≡ high_end L u
same_high K L u near near' = ap (λ (t : Bool). if t then u.b else u.a) (same_rise K L u near near')

module _ (K : ℤ) (chains : List MapChain) (near : AreAllNear K chains) (L : ℤ) (r : Rational) (steep : IsSteep L chains r) (line : IsLine L chains r) (n : ℤ) (parts : IsParting K chains near r n) (s : ℕ) (u : Segment) (is : IsNumbered chains s u) where
  first_of : IsChainPoint chains is.c is.k u.a
  first_of = record { chain = is.joins.chain; is = is.joins.is; point = is.joins.from }

  last_of : IsChainPoint chains is.c (is.k + 1) u.b
  last_of = record { chain = is.joins.chain; is = is.joins.is; point = is.joins.to }

  pub own_near : AreNear K u.a u.b
  own_near = near is.c is.k is.c (is.k + 1) u.a u.b first_of last_of

  ends : AreEndsOf L u (low_end L u) (high_end L u)
  ends = ends_of L u (steep.ends s u is)

  -- an end of it
  record IsAnEnd (v : Point) : Type 0 where
    c : ℕ
    k : ℕ
    of : IsChainPoint chains c k v
    close : IsNearTo L r v
    off : ¬ (r.d *ℤ height L v ≡ height_of L r)

  first_end : IsAnEnd u.a
  first_end = record { c = is.c; k = is.k; of = first_of; close = steep.first s u is; off = (line.off s u is).0 }

  last_end : IsAnEnd u.b
  last_end = record { c = is.c; k = is.k + 1; of = last_of; close = steep.last s u is; off = (line.off s u is).1 }

  low_is : IsAnEnd (low_end L u)
  low_is = let e = ends in ⊎_elim (λ k. subst IsAnEnd (sym k.0) first_end) (λ k. subst IsAnEnd (sym k.0) last_end) e.are

  high_is : IsAnEnd (high_end L u)
  high_is = let e = ends in ⊎_elim (λ k. subst IsAnEnd (sym k.1) last_end) (λ k. subst IsAnEnd (sym k.1) first_end) e.are

  before_behind : (v : Point) → IsAnEnd v → IsBefore r v ⊎ IsBehind r v
  before_behind v e =
      by_lt_z (r.d *ℤ height L v) (height_of L r) (λ lt. inl (before_by L r v e.close lt))
      (λ ge. by_lt_z (height_of L r) (r.d *ℤ height L v) (λ lt. inr (behind_by L r v e.close lt))
      (λ le. absurd (e.off (omega (arith, ints, ge, le)))))

  pub active_by : IsSpanned L u r → IsActive K n chains s
  active_by spanned =
      let low = low_is in let high = high_is in
      let begun = parts.over low.c low.k (low_end L u) low.of (before_by L r (low_end L u) low.close spanned.from) in
      let lasting = parts.under high.c high.k (high_end L u) high.of (behind_by L r (high_end L u) high.close spanned.to) in
      record {
        segment = u;
        is = is;
        begun = subst (λ z. height K z ≤ℤ n) (sym (same_low K L u own_near (steep.ends s u is))) begun;
        lasting = subst (λ z. n <ℤ height K z) (sym (same_high K L u own_near (steep.ends s u is))) lasting;
      }

  pub spanned_by_active : height K (low_end K u) ≤ℤ n → n <ℤ height K (high_end K u) → IsSpanned L u r
  spanned_by_active begun lasting =
      let low = low_is in let high = high_is in
      let begun' : height K (low_end L u) ≤ℤ n = subst (λ z. height K z ≤ℤ n) (same_low K L u own_near (steep.ends s u is)) begun in
      let lasting' : n <ℤ height K (high_end L u) = subst (λ z. n <ℤ height K z) (same_high K L u own_near (steep.ends s u is)) lasting in
      record {
        from = by_before L r (low_end L u) low.close
            (⊎_elim (λ k. k) (λ k. absurd (let h = parts.under low.c low.k (low_end L u) low.of k in omega (arith, ints, h, begun'))) (before_behind (low_end L u) low));
        to = by_behind L r (high_end L u) high.close
            (⊎_elim (λ k. absurd (let h = parts.over high.c high.k (high_end L u) high.of k in omega (arith, ints, h, lasting'))) (λ k. k) (before_behind (high_end L u) high));
      }
