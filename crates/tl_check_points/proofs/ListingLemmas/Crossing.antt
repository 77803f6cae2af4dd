-- It is told of each segment whether a ray crosses it, so that each polygon has a count at each point.
use Rattle.std.proofs.Common.{◌≡◌, ◌⊎◌, inl, inr, ℕ, zero, suc, ◌+◌, ◌-◌, ◌<◌, ◌≤◌, ℤ, pos, ◌<ℤ◌}
use Rattle.std.proofs.Common.{◌≤ℤ◌, Option, Some, None, List, [], ◌∷◌, length, map, refl, sym, subst, ap, ◌∙◌, arith}
use Rattle.std.specs.Prelude.{slice_get}
use Rattle.std.proofs.lemmas.Bool.{cases_lt}
use Rattle.std.proofs.lemmas.Int.{ints, by_lt_z}
use Rattle.std.proofs.lemmas.Option.{slice_get_within}
use Rattle.tl_geom.specs.declared.point.Point.{Point}
use Rattle.tl_geom.specs.declared.segment.Segment.{Segment}
use Rattle.tl_geom.specs.Plane.{turn_of, whole}
use Rattle.tl_geom.specs.Ray.{Crosses}
use Rattle.tl_geom.proofs.AtPoints.{ArePartedBy, parted_by}
use Rattle.tl_geom.proofs.Rays.{crossed_up, crossed_down}
use Rattle.tl_map_county.specs.TheMap.{MapChain}
use Rattle.tl_map_county.specs.Segments.{segments_before, IsSegmentOf, Joins}
use Rattle.tl_tree_index.specs.Hits.{times}
use Rattle.tl_tree_index.proofs.Times.{same_or, times-same, times-other}
use Rattle.tl_check_planar.specs.Keeping.Apart.{one_found}
use Rattle.tl_check_inside.specs.Inside.{flanks_at, balance, is_polygon, IsCrossed, IsPolygonCount}

-- a segment from one point to the other that the ray crosses
record IsCrossing (q a b : Point) : Type 0 where
  segment : Segment
  first : segment.a ≡ a
  last : segment.b ≡ b
  crosses : Crosses segment (whole q)

module _ (q a b : Point) where
  not_parted : ¬ ArePartedBy q a b → ¬ IsCrossing q a b
  not_parted no_part x = no_part (rw (sym x.first, sym x.last) (parted_by q x.segment.a x.segment.b x.crosses.parted))

  going_up : a.y ≤ℤ q.y → q.y <ℤ b.y → IsCrossing q a b ⊎ (¬ IsCrossing q a b)
  going_up low high =
      by_lt_z (pos 0) (turn_of a b q)
      (λ east.
      let s : Segment = record { a = a; b = b; different = λ e. let f : a.y ≡ b.y = ap (λ (p : Point). p.y) e in omega (arith, ints, low, high, f) } in
      inl (record { segment = s; first = refl; last = refl; crosses = (crossed_up s q low high).0 east }))
      (λ west. inr (λ x.
      let turn = (crossed_up x.segment q (rw x.first low) (rw x.last high)).1 x.crosses in
      let turned : pos 0 <ℤ turn_of a b q = rw (sym x.first, sym x.last) turn in
      omega (arith, ints, west, turned)))

  going_down : b.y ≤ℤ q.y → q.y <ℤ a.y → IsCrossing q a b ⊎ (¬ IsCrossing q a b)
  going_down low high =
      by_lt_z (turn_of a b q) (pos 0)
      (λ east.
      let s : Segment = record { a = a; b = b; different = λ e. let f : a.y ≡ b.y = ap (λ (p : Point). p.y) e in omega (arith, ints, low, high, f) } in
      inl (record { segment = s; first = refl; last = refl; crosses = (crossed_down s q low high).0 east }))
      (λ west. inr (λ x.
      let turn = (crossed_down x.segment q (rw x.last low) (rw x.first high)).1 x.crosses in
      let turned : turn_of a b q <ℤ pos 0 = rw (sym x.first, sym x.last) turn in
      omega (arith, ints, west, turned)))

  crossing_or : IsCrossing q a b ⊎ (¬ IsCrossing q a b)
  crossing_or =
      by_lt_z q.y b.y
      (λ b_above. by_lt_z q.y a.y
      (λ a_above. inr (not_parted (λ h. elim h [
        | inl up ↦ let l = up.0 in omega (arith, ints, l, a_above)
        | inr down ↦ let l = down.0 in omega (arith, ints, l, b_above)
      ])))
      (λ a_low. going_up a_low b_above))
      (λ b_low. by_lt_z q.y a.y
      (λ a_above. going_down b_low a_above)
      (λ a_low. inr (not_parted (λ h. elim h [
        | inl up ↦ let l = up.1 in omega (arith, ints, l, b_low)
        | inr down ↦ let l = down.1 in omega (arith, ints, l, a_low)
      ]))))

module _ (chains : List MapChain) (q : Point) (s : ℕ) where
  -- the segment of this number is one of chain c, and crossed
  record IsCrossedOf (c : ℕ) : Type 0 where
    k : ℕ
    segment : Segment
    number : IsSegmentOf chains s c k
    joins : Joins chains c k segment
    crosses : Crosses segment (whole q)

  module _ (c : ℕ) (chain : MapChain) (is : slice_get chains c ≡ Some chain) (k : ℕ) (at : s ≡ segments_before chains c + k) where
    place_is : (x : IsCrossedOf c) → x.k ≡ k
    place_is x = let n = x.number.number in omega (arith, n, at)

    from_is : (x : IsCrossedOf c) → slice_get chain.points k ≡ Some x.segment.a
    from_is x =
        let one : x.joins.chain ≡ chain = one_found x.joins.chain chain (slice_get chains c) x.joins.is is in
        subst (λ (z : MapChain). slice_get z.points k ≡ Some x.segment.a) one
        (subst (λ n. slice_get x.joins.chain.points n ≡ Some x.segment.a) (place_is x) x.joins.from)

    to_is : (x : IsCrossedOf c) → slice_get chain.points (k + 1) ≡ Some x.segment.b
    to_is x =
        let one : x.joins.chain ≡ chain = one_found x.joins.chain chain (slice_get chains c) x.joins.is is in
        subst (λ (z : MapChain). slice_get z.points (k + 1) ≡ Some x.segment.b) one
        (subst (λ n. slice_get x.joins.chain.points (n + 1) ≡ Some x.segment.b) (place_is x) x.joins.to)

    at_points : (a b : Point) → slice_get chain.points k ≡ Some a → slice_get chain.points (k + 1) ≡ Some b → IsCrossedOf c ⊎ (¬ IsCrossedOf c)
    at_points a b from to = elim (crossing_or q a b) [
      | inl x ↦ inl (record {
        k = k;
        segment = x.segment;
        number = record { chain = chain; is = is; place = slice_get_within chain.points (k + 1) b to; number = at };
        joins = record { chain = chain; is = is; from = from ∙ ap Some (sym x.first); to = to ∙ ap Some (sym x.last) };
        crosses = x.crosses;
      })
      | inr never ↦ inr (λ x. never (record {
        segment = x.segment;
        first = one_found x.segment.a a (slice_get chain.points k) (from_is x) from;
        last = one_found x.segment.b b (slice_get chain.points (k + 1)) (to_is x) to;
        crosses = x.crosses;
      }))
    ]

    at_place : (o p : Option Point) → slice_get chain.points k ≡ o → slice_get chain.points (k + 1) ≡ p → IsCrossedOf c ⊎ (¬ IsCrossedOf c)
    at_place None p from to = inr (λ x. let f : None ≡ Some x.segment.a = sym from ∙ from_is x in absurd cc)
    at_place (Some a) None from to = inr (λ x. let f : None ≡ Some x.segment.b = sym to ∙ to_is x in absurd cc)
    at_place (Some a) (Some b) from to = at_points a b from to

  of_chain : (c : ℕ) (o : Option MapChain) → slice_get chains c ≡ o → IsCrossedOf c ⊎ (¬ IsCrossedOf c)
  of_chain c None none = inr (λ x. let f : None ≡ Some x.number.chain = sym none ∙ x.number.is in absurd cc)
  of_chain c (Some chain) is = elim (cases_lt s (segments_before chains c)) [
    | inl low ↦ inr (λ x. let n = x.number.number in omega (arith, low, n))
    | inr high ↦
        let k : ℕ = s - segments_before chains c in
        at_place c chain is k (omega (arith, high)) (slice_get chain.points k) (slice_get chain.points (k + 1)) refl refl
  ]

  -- of the chains before n one has it, or none has
  record IsCrossedBelow (n : ℕ) : Type 0 where
    c : ℕ
    below : c < n
    of : IsCrossedOf c

  below_or : (n : ℕ) → IsCrossedBelow n ⊎ (¬ IsCrossedBelow n)
  below_or zero = inr (λ x. let lt = x.below in omega (arith, lt))
  below_or (suc n) = elim (of_chain n (slice_get chains n) refl) [
    | inl x ↦ inl (record { c = n; below = omega arith; of = x })
    | inr never ↦ elim (below_or n) [
      | inl x ↦ inl (record { c = x.c; below = let lt = x.below in omega (arith, lt); of = x.of })
      | inr none ↦ inr (λ x. same_or x.c n (λ e. never (subst IsCrossedOf e x.of))
          (λ ne. none (record { c = x.c; below = let lt = x.below in omega (arith, lt, ne); of = x.of })))
    ]
  ]

  crossed_or : IsCrossed chains q s ⊎ (¬ IsCrossed chains q s)
  crossed_or = elim (below_or (length chains)) [
    | inl x ↦ inl (record { c = x.c; k = x.of.k; segment = x.of.segment; number = x.of.number; joins = x.of.joins; crosses = x.of.crosses })
    | inr none ↦ inr (λ x. none (record {
      c = x.c;
      below = slice_get_within chains x.c x.number.chain x.number.is;
      of = record { k = x.k; segment = x.segment; number = x.number; joins = x.joins; crosses = x.crosses };
    }))
  ]

-- so those that are crossed can be listed
module _ (hit : ℕ → Type 0) (known : (i : ℕ) → hit i ⊎ (¬ hit i)) where
  record IsListed (n : ℕ) : Type 0 where
    list : List ℕ
    once : (i : ℕ) → i < n → hit i → times i list ≡ 1
    others : (i : ℕ) → ¬ hit i → times i list ≡ 0
    past : (i : ℕ) → n ≤ i → times i list ≡ 0

  all_listed : (n : ℕ) → IsListed n
  all_listed zero = record { list = []; once = λ i lt. absurd (omega (arith, lt)); others = λ i no. refl; past = λ i le. refl }
  all_listed (suc n) =
      let l : IsListed n = all_listed n in
      elim (known n) [
        | inl h ↦ record {
          list = n ∷ l.list;
          once = λ i lt hi. same_or i n (λ e. let here = times-same i n l.list e in let rest = l.past i (omega (arith, e)) in omega (arith, here, rest))
              (λ ne. times-other i n l.list ne ∙ l.once i (omega (arith, lt, ne)) hi);
          others = λ i never. same_or i n (λ e. absurd (never (subst hit (sym e) h))) (λ ne. times-other i n l.list ne ∙ l.others i never);
          past = λ i le. times-other i n l.list (λ e. omega (arith, le, e)) ∙ l.past i (omega (arith, le));
        }
        | inr never ↦ record {
          list = l.list;
          once = λ i lt hi. same_or i n (λ e. absurd (never (subst hit e hi))) (λ ne. l.once i (omega (arith, lt, ne)) hi);
          others = l.others;
          past = λ i le. l.past i (omega (arith, le));
        }
      ]

-- and each polygon has a count
pub record HasPolygonCount (chains : List MapChain) (q : Point) (p : ℕ) : Type 0 where
  pub n : ℤ
  pub count : IsPolygonCount chains q p n

pub polygon_count : (chains : List MapChain) (q : Point) (p : ℕ) → HasPolygonCount chains q p
polygon_count chains q p =
    let l = all_listed (IsCrossed chains q) (crossed_or chains q) (segments_before chains (length chains)) in
    record {
      n = balance (is_polygon p) (map (flanks_at chains) l.list);
      count = record { crossed = l.list; are = record { once = l.once; others = l.others; known = l.past }; counted = refl };
    }
