-- What chains may share that are planar is an end of a segment.
use Rattle.std.proofs.Common.{◌≡◌, ◌⊎◌, inl, inr, ⊎_elim, ℕ, zero, suc, ◌+◌, ◌-◌, ◌<◌, ◌-ℤ◌, Some, List, length, get_or, refl, sym, ap, subst, ◌∙◌, arith}
use Rattle.std.specs.Prelude.{slice_get}
use Rattle.std.proofs.lemmas.Bool.{cases_order}
use Rattle.std.proofs.lemmas.Int.{ints}
use Rattle.std.proofs.lemmas.Option.{slice_get_within, slice_get-get_or}
use Rattle.tl_geom.specs.declared.point.Point.{Point}
use Rattle.tl_geom.specs.declared.rational.Rational.{Rational}
use Rattle.tl_geom.specs.declared.segment.Segment.{Segment}
use Rattle.tl_geom.specs.Plane.{IsOn, IsSame, whole}
use Rattle.tl_geom.proofs.Signs.{sign}
use Rattle.tl_geom.proofs.Places.{point_same}
use Rattle.tl_map_county.specs.TheMap.{MapChain}
use Rattle.tl_map_county.specs.Segments.{segments_before}
use Rattle.tl_check_planar.specs.Planar.{IsOnSegment, IsChainEnd, IsPlanar}
use Rattle.tl_check_planar.specs.Meets.{IsSharedBy, IsAllowed}
use Rattle.tl_check_planar.specs.Keeping.Apart.{one_found}
use Rattle.tl_check_planar.proofs.Ends.{at_vertex}
use Rattle.tl_check_planar.proofs.Planes.{planar_free, one_points}
use Rattle.tl_check_planar.specs.ByHeight.Neighbours.{IsNumbered}

-- the rational point is an end of a segment of a chain
pub record IsSomeEnd (chains : List MapChain) (r : Rational) : Type 0 where
  pub s : ℕ
  pub segment : Segment
  pub is : IsNumbered chains s segment
  pub end : IsSame r (whole segment.a) ⊎ IsSame r (whole segment.b)

-- it is an end of a segment of a chain with these points
pub record IsEndIn (points : List Point) (r : Rational) : Type 0 where
  pub k : ℕ
  pub segment : Segment
  pub from : slice_get points k ≡ Some segment.a
  pub to : slice_get points (k + 1) ≡ Some segment.b
  pub end : IsSame r (whole segment.a) ⊎ IsSame r (whole segment.b)

pub point_or : (p q : Point) → (p ≡ q) ⊎ ¬ (p ≡ q)
point_or p q =
    ⊎_elim (λ h. inr (λ e. let x : p.x ≡ q.x = ap (λ (z : Point). z.x) e in omega (arith, ints, h, x)))
    (⊎_elim
    (λ x. ⊎_elim (λ h. inr (λ e. let y : p.y ≡ q.y = ap (λ (z : Point). z.y) e in omega (arith, ints, h, y)))
    (⊎_elim (λ y. inl (point_same p q (omega (arith, ints, x)) (omega (arith, ints, y))))
    (λ h. inr (λ e. let y : p.y ≡ q.y = ap (λ (z : Point). z.y) e in omega (arith, ints, h, y)))) (sign (p.y -ℤ q.y)))
    (λ h. inr (λ e. let x : p.x ≡ q.x = ap (λ (z : Point). z.x) e in omega (arith, ints, h, x)))) (sign (p.x -ℤ q.x))

-- ---- the ends of a chain that has a segment

module _ (chains : List MapChain) (c : ℕ) (chain : MapChain) (is : slice_get chains c ≡ Some chain) where
  pub numbered : (k : ℕ) (u : Segment) → slice_get chain.points k ≡ Some u.a → slice_get chain.points (k + 1) ≡ Some u.b → IsNumbered chains (segments_before chains c + k) u
  numbered k u from to = record {
    c = c;
    k = k;
    number = record { chain = chain; is = is; place = slice_get_within chain.points (k + 1) u.b to; number = refl };
    joins = record { chain = chain; is = is; from = from; to = to };
  }

module _ (chain : MapChain) where
  module _ (i : ℕ) (u : Segment) (from : slice_get chain.points i ≡ Some u.a) (to : slice_get chain.points (i + 1) ≡ Some u.b) (r : Rational) where
    first_end : (g k : ℕ) (p : Point) → k + g ≡ i → slice_get chain.points k ≡ Some p → IsSame r (whole p) → IsEndIn chain.points r
    first_end zero k p e at same =
        let here : k ≡ i = omega (arith, e) in
        let one : p ≡ u.a = one_found p u.a (slice_get chain.points i) (subst (λ n. slice_get chain.points n ≡ Some p) here at) from in
        record { k = i; segment = u; from = from; to = to; end = inl (subst (λ z. IsSame r (whole z)) one same) }
    first_end (suc g) k p e at same =
        let within = slice_get_within chain.points (i + 1) u.b to in
        let next : slice_get chain.points (k + 1) ≡ Some (get_or chain.points (k + 1) p) = slice_get-get_or chain.points (k + 1) p (omega (arith, e, within)) in
        ⊎_elim
        (λ one. first_end g (k + 1) p (omega (arith, e)) (next ∙ ap Some (sym one)) same)
        (λ ne. record {
          k = k;
          segment = record { a = p; b = get_or chain.points (k + 1) p; different = ne };
          from = at;
          to = next;
          end = inl same;
        })
        (point_or p (get_or chain.points (k + 1) p))

    last_end : (g k : ℕ) (p : Point) → k ≡ i + 1 + g → slice_get chain.points k ≡ Some p → IsSame r (whole p) → IsEndIn chain.points r
    last_end zero k p e at same =
        let here : k ≡ i + 1 = omega (arith, e) in
        let one : p ≡ u.b = one_found p u.b (slice_get chain.points (i + 1)) (subst (λ n. slice_get chain.points n ≡ Some p) here at) to in
        record { k = i; segment = u; from = from; to = to; end = inr (subst (λ z. IsSame r (whole z)) one same) }
    last_end (suc g) k p e at same =
        let within = slice_get_within chain.points k p at in
        let before : slice_get chain.points (k - 1) ≡ Some (get_or chain.points (k - 1) p) = slice_get-get_or chain.points (k - 1) p (omega (arith, e, within)) in
        let back : k ≡ (k - 1) + 1 = omega (arith, e) in
        ⊎_elim
        (λ one. last_end g (k - 1) p (omega (arith, e)) (before ∙ ap Some one) same)
        (λ ne. record {
          k = k - 1;
          segment = record { a = get_or chain.points (k - 1) p; b = p; different = ne };
          from = before;
          to = subst (λ n. slice_get chain.points n ≡ Some p) back at;
          end = inr same;
        })
        (point_or (get_or chain.points (k - 1) p) p)

    pub chain_end : IsChainEnd chain.points r → IsEndIn chain.points r
    chain_end = ⊎_elim
        (λ v. first_end i 0 v.point (omega arith) v.is v.same)
        (λ v.
        let within = slice_get_within chain.points (i + 1) u.b to in
        last_end (length chain.points - 1 - (i + 1)) (length chain.points - 1) v.point (omega (arith, within)) v.is v.same)

-- ---- what two segments share

pub on_place : (chains : List MapChain) (s : ℕ) (u : Segment) (n : IsNumbered chains s u) (r : Rational) → IsOn u r → IsOnSegment n.number.chain.points n.k r
on_place chains s u n r on =
    let one : n.joins.chain ≡ n.number.chain = one_found n.joins.chain n.number.chain (slice_get chains n.c) n.joins.is n.number.is in
    record {
      segment = u;
      from = subst (λ (z : MapChain). slice_get z.points n.k ≡ Some u.a) one n.joins.from;
      to = subst (λ (z : MapChain). slice_get z.points (n.k + 1) ≡ Some u.b) one n.joins.to;
      on = on;
    }

of_shared : (chains : List MapChain) (s t : ℕ) (r : Rational) (m : IsSharedBy chains s t r) → IsAllowed chains s t r m → IsSomeEnd chains r
of_shared chains s t r m = ⊎_elim
    (λ k.
    let e : IsEndIn m.first.chain.points r = chain_end m.first.chain m.i m.on_first.segment m.on_first.from m.on_first.to r k.1.0 in
    record { s = segments_before chains m.c + e.k; segment = e.segment; is = numbered chains m.c m.first.chain m.first.is e.k e.segment e.from e.to; end = e.end })
    (λ k.
    let one : m.second.chain ≡ m.first.chain = one_points chains s t r m k.0 in
    ⊎_elim
    (λ b.
    let at : slice_get m.first.chain.points m.j ≡ Some m.on_second.segment.a = subst (λ (z : MapChain). slice_get z.points m.j ≡ Some m.on_second.segment.a) one m.on_second.from in
    record {
      s = segments_before chains m.d + m.j;
      segment = m.on_second.segment;
      is = numbered chains m.d m.second.chain m.second.is m.j m.on_second.segment m.on_second.from m.on_second.to;
      end = inl (at_vertex m.first.chain.points m.j m.on_second.segment.a r at b.vertex);
    })
    (λ b.
    let at : slice_get m.first.chain.points 0 ≡ Some m.on_first.segment.a = subst (λ n. slice_get m.first.chain.points n ≡ Some m.on_first.segment.a) b.first m.on_first.from in
    record {
      s = segments_before chains m.c + m.i;
      segment = m.on_first.segment;
      is = numbered chains m.c m.first.chain m.first.is m.i m.on_first.segment m.on_first.from m.on_first.to;
      end = inl (at_vertex m.first.chain.points 0 m.on_first.segment.a r at b.start);
    })
    k.1)

in_order : (chains : List MapChain) → IsPlanar chains → (s t : ℕ) (u w : Segment) (r : Rational) → s < t → IsNumbered chains s u → IsNumbered chains t w → IsOn u r → IsOn w r → IsSomeEnd chains r
in_order chains planar s t u w r lt is is' on on' =
    let m : IsSharedBy chains s t r = record {
      c = is.c;
      i = is.k;
      d = is'.c;
      j = is'.k;
      first = is.number;
      second = is'.number;
      on_first = on_place chains s u is r on;
      on_second = on_place chains t w is' r on';
    } in
    of_shared chains s t r m (planar_free chains planar s t lt r m)

-- what two segments share is an end of a segment
pub shared_end : (chains : List MapChain) → IsPlanar chains → (s t : ℕ) (u w : Segment) (r : Rational) → ¬ (s ≡ t) → IsNumbered chains s u → IsNumbered chains t w → IsOn u r → IsOn w r → IsSomeEnd chains r
shared_end chains planar s t u w r ne is is' on on' =
    ⊎_elim (λ e. absurd (ne e))
    (⊎_elim (λ lt. in_order chains planar s t u w r lt is is' on on') (λ lt. in_order chains planar t s w u r lt is' is on' on))
    (cases_order s t)
