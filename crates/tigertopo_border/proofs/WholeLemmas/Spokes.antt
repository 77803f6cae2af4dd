-- The first segments of the darts of a node, and that planar chains hold the node on no other segment.
use Rattle.std.proofs.Common.{◌≡◌, ◌≢◌, ◌⊎◌, inl, inr, ⊎_elim, ℕ, ◌+◌, ◌-◌, ◌*◌, ◌/◌, ◌%◌, ◌<◌, true, false, Some, List, length, slice_get, refl, sym, ap, subst, ◌∙◌, arith}
use Rattle.std.specs.Prelude.{if◌then◌else◌}
use Rattle.std.specs.Option.{option_map}
use Rattle.std.proofs.lemmas.Bool.{false≢true, eqb-true, eq-eqb}
use Rattle.std.proofs.lemmas.Option.{slice_get_within, slice_get-get_or}
use Rattle.tl_geom.specs.declared.point.Point.{Point}
use Rattle.tl_geom.specs.declared.segment.Segment.{Segment}
use Rattle.tl_geom.specs.Plane.{IsOn, IsSame, whole}
use Rattle.tl_geom.proofs.Places.{a_on, b_on, whole_same, same_refl}
use Rattle.tl_map_county.specs.Chains.{IsProperChain}
use Rattle.tl_map_county.specs.TheMap.{MapChain}
use Rattle.tl_map_county.specs.Darts.{is_along, dart_start, dart_second, dart_left}
use Rattle.tl_tree_index.proofs.Times.{same_or}
use Rattle.tl_check_planar.specs.Planar.{IsVertex, IsOnSegment, IsOnChain, IsChainEnd, IsPlanar}
use Rattle.tl_check_planar.specs.Keeping.Apart.{one_found}
use Rattle.tl_check_planar.proofs.Ends.{at_vertex}
use Rattle.tl_check_sides.specs.Sides.{dart_count, dart_right}
use Rattle.tl_check_sides.proofs.Headings.{dart_within}
use Rattle.tl_check_faces.specs.Crossings.Headings.{AreProper}
use Rattle.tl_check_faces.specs.Facing.{IsOfChain}
use Rattle.tl_check_faces.proofs.CrossingsLemmas.Darts.{AreFirst, IsDart, dart_of}
use Rattle.tl_check_faces.proofs.CrossingsLemmas.Ends.{even_along, odd_against, first_right, last_right}

-- the first segment of a dart along its chain, or against it
pub record IsAlong (chains : List MapChain) (a k : ℕ) (chain : MapChain) (u : Segment) (v second : Point) : Type 0 where
  pub first : k ≡ 0
  pub from : u.a ≡ v
  pub to : u.b ≡ second
  pub left : dart_left chains a ≡ Some chain.left
  pub right : dart_right chains a ≡ Some chain.right
  pub even : is_along a ≡ true

pub record IsAgainst (chains : List MapChain) (a k : ℕ) (chain : MapChain) (u : Segment) (v second : Point) : Type 0 where
  pub last : k + 2 ≡ length chain.points
  pub from : u.b ≡ v
  pub to : u.a ≡ second
  pub left : dart_left chains a ≡ Some chain.right
  pub right : dart_right chains a ≡ Some chain.left
  pub odd : is_along a ≡ false

pub record IsSpoke (chains : List MapChain) (a : ℕ) : Type 0 where
  pub chain : MapChain
  pub is : slice_get chains (a / 2) ≡ Some chain
  pub k : ℕ
  pub u : Segment
  pub from : slice_get chain.points k ≡ Some u.a
  pub to : slice_get chain.points (k + 1) ≡ Some u.b
  pub v : Point
  pub second : Point
  pub differ : v ≢ second
  pub starts : dart_start chains a ≡ Some v
  pub goes : dart_second chains a ≡ Some second
  pub runs : IsAlong chains a k chain u v second ⊎ IsAgainst chains a k chain u v second

-- a dart that starts at the node, along this segment
pub record IsDartOn (chains : List MapChain) (v : Point) (w : Segment) : Type 0 where
  pub dart : ℕ
  pub second : Point
  pub starts : dart_start chains dart ≡ Some v
  pub goes : dart_second chains dart ≡ Some second
  pub ends : ((w.a ≡ v) × (w.b ≡ second)) ⊎ ((w.b ≡ v) × (w.a ≡ second))

odd_of : (a : ℕ) → is_along a ≡ false → a ≡ 2 * (a / 2) + 1
odd_of a e = same_or (a % 2) 0 (λ zero. absurd (false≢true (sym e ∙ eq-eqb (a % 2) 0 zero))) (λ ne. omega (arith, ne))

even_of : (a : ℕ) → is_along a ≡ true → a ≡ 2 * (a / 2)
even_of a e = let zero = eqb-true (a % 2) 0 e in omega (arith, zero)

module _ (chains : List MapChain) (proper : AreProper chains) where
  left_of : (a : ℕ) (chain : MapChain) → slice_get chains (a / 2) ≡ Some chain → dart_left chains a ≡ Some (if is_along a then chain.left else chain.right)
  left_of a chain is = ap (option_map (λ (c : MapChain). if is_along a then c.left else c.right)) is

  pub spoke_of : (a : ℕ) → a < dart_count chains → IsSpoke chains a
  spoke_of a lt = go (dart_of chains proper a lt)
    where
      go : IsDart chains a → IsSpoke chains a
      go own = ⊎_elim
          (λ h.
          let two : AreFirst own.chain.points (is_along a) = own.points in record {
            chain = own.chain;
            is = own.is;
            k = 0;
            u = record { a = two.first; b = two.second; different = two.differ };
            from = ap (slice_get own.chain.points) (sym h.1) ∙ two.first_is;
            to = ap (slice_get own.chain.points) (sym h.3) ∙ two.second_is;
            v = two.first;
            second = two.second;
            differ = two.differ;
            starts = own.starts;
            goes = own.goes;
            runs = inl (record {
              first = refl;
              from = refl;
              to = refl;
              left = left_of a own.chain own.is ∙ ap (λ b. Some (if b then own.chain.left else own.chain.right)) h.0;
              right = subst (λ d. dart_right chains d ≡ Some own.chain.right) (sym (even_of a h.0)) (first_right chains (a / 2) own.chain own.is);
              even = h.0;
            });
          })
          (λ h.
          let two : AreFirst own.chain.points (is_along a) = own.points in
          let k = h.1 in let long = h.2 in let l = h.3 in record {
            chain = own.chain;
            is = own.is;
            k = two.place;
            u = record { a = two.second; b = two.first; different = λ e. two.differ (sym e) };
            from = ap (slice_get own.chain.points) (sym l) ∙ two.second_is;
            to = ap (slice_get own.chain.points) (next two.place two.k (length own.chain.points) k long) ∙ two.first_is;
            v = two.first;
            second = two.second;
            differ = two.differ;
            starts = own.starts;
            goes = own.goes;
            runs = inr (record {
              last = long;
              from = refl;
              to = refl;
              left = left_of a own.chain own.is ∙ ap (λ b. Some (if b then own.chain.left else own.chain.right)) h.0;
              right = subst (λ d. dart_right chains d ≡ Some own.chain.left) (sym (odd_of a h.0)) (last_right chains (a / 2) own.chain own.is);
              odd = h.0;
            });
          })
          own.points.is_end
        where
          next : (place k n : ℕ) → k ≡ n - 1 → place + 2 ≡ n → place + 1 ≡ k
          next place k n e f = omega (arith, e, f)

  pub of_spoke : (a : ℕ) (s : IsSpoke chains a) → IsOfChain chains s.chain s.u
  of_spoke a s = record { c = a / 2; k = s.k; is = s.is; from = s.from; to = s.to }

  -- ---- the darts of a chain

  of_first : (c : ℕ) (chain : MapChain) → slice_get chains c ≡ Some chain → (u : Segment) → slice_get chain.points 0 ≡ Some u.a → slice_get chain.points 1 ≡ Some u.b →
      (d : ℕ) × (dart_start chains d ≡ Some u.a) × (dart_second chains d ≡ Some u.b)
  of_first c chain is u from to = go (spoke_of (2 * c) (omega (arith, below)))
    where
      below : c < length chains
      below = slice_get_within chains c chain is

      go : IsSpoke chains (2 * c) → (d : ℕ) × (dart_start chains d ≡ Some u.a) × (dart_second chains d ≡ Some u.b)
      go s = ⊎_elim
          (λ r.
          let same : s.chain ≡ chain = one_found s.chain chain (slice_get chains c) (ap (slice_get chains) (sym (half c)) ∙ s.is) is in
          let a : s.u.a ≡ u.a = one_found s.u.a u.a (slice_get chain.points 0) (subst (λ (z : MapChain). slice_get z.points 0 ≡ Some s.u.a) same (ap (slice_get s.chain.points) (sym r.first) ∙ s.from)) from in
          let b : s.u.b ≡ u.b = one_found s.u.b u.b (slice_get chain.points 1) (subst (λ (z : MapChain). slice_get z.points 1 ≡ Some s.u.b) same (ap (λ j. slice_get s.chain.points (j + 1)) (sym r.first) ∙ s.to)) to in
          (2 * c, s.starts ∙ ap Some (sym r.from ∙ a), s.goes ∙ ap Some (sym r.to ∙ b)))
          (λ r. absurd (false≢true (sym r.odd ∙ even_along c)))
          s.runs
        where
          half : (c : ℕ) → 2 * c / 2 ≡ c
          half c = omega arith

  of_last : (c : ℕ) (chain : MapChain) → slice_get chains c ≡ Some chain → (k : ℕ) (u : Segment) → k + 2 ≡ length chain.points → slice_get chain.points k ≡ Some u.a → slice_get chain.points (k + 1) ≡ Some u.b →
      (d : ℕ) × (dart_start chains d ≡ Some u.b) × (dart_second chains d ≡ Some u.a)
  of_last c chain is k u long from to = go (spoke_of (2 * c + 1) (omega (arith, below)))
    where
      below : c < length chains
      below = slice_get_within chains c chain is

      go : IsSpoke chains (2 * c + 1) → (d : ℕ) × (dart_start chains d ≡ Some u.b) × (dart_second chains d ≡ Some u.a)
      go s = ⊎_elim
          (λ r. absurd (false≢true (sym (odd_against c) ∙ r.even)))
          (λ r.
          let same : s.chain ≡ chain = one_found s.chain chain (slice_get chains c) (ap (slice_get chains) (sym (half c)) ∙ s.is) is in
          let place : s.k ≡ k = one_place s.k k (length s.chain.points) (length chain.points) r.last long (ap (λ (z : MapChain). length z.points) same) in
          let a : s.u.a ≡ u.a = one_found s.u.a u.a (slice_get chain.points k) (subst (λ (z : MapChain). slice_get z.points k ≡ Some s.u.a) same (ap (slice_get s.chain.points) (sym place) ∙ s.from)) from in
          let b : s.u.b ≡ u.b = one_found s.u.b u.b (slice_get chain.points (k + 1)) (subst (λ (z : MapChain). slice_get z.points (k + 1) ≡ Some s.u.b) same (ap (λ j. slice_get s.chain.points (j + 1)) (sym place) ∙ s.to)) to in
          (2 * c + 1, s.starts ∙ ap Some (sym r.from ∙ b), s.goes ∙ ap Some (sym r.to ∙ a)))
          s.runs
        where
          half : (c : ℕ) → (2 * c + 1) / 2 ≡ c
          half c = omega arith

          one_place : (j k n m : ℕ) → j + 2 ≡ n → k + 2 ≡ m → n ≡ m → j ≡ k
          one_place j k n m e f g = omega (arith, e, f, g)

  -- ---- a node

  module _ (planar : IsPlanar chains) (a : ℕ) (v : Point) (starts : dart_start chains a ≡ Some v) where
    own : IsSpoke chains a
    own = spoke_of a (dart_within chains a v starts)

    own_at : own.v ≡ v
    own_at = one_found own.v v (dart_start chains a) own.starts starts

    own_end : IsChainEnd own.chain.points (whole v)
    own_end = ⊎_elim
        (λ r. inl (record { point = own.u.a; is = ap (slice_get own.chain.points) (sym r.first) ∙ own.from; same = at (sym own_at ∙ sym r.from) }))
        (λ r. inr (record { point = own.u.b; is = ap (slice_get own.chain.points) (before own.k (length own.chain.points) r.last) ∙ own.to; same = at (sym own_at ∙ sym r.from) }))
        own.runs
      where
        at : {p q : Point} → p ≡ q → IsSame (whole p) (whole q)
        at {p} {q} e = subst (λ z. IsSame (whole p) (whole z)) e (same_refl (whole p))

        before : (k n : ℕ) → k + 2 ≡ n → n - 1 ≡ k + 1
        before k n e = omega (arith, e)

    own_on : IsOnChain own.chain.points (whole v)
    own_on = (
      own.k,
      record {
        segment = own.u;
        from = own.from;
        to = own.to;
        on = ⊎_elim
            (λ r. subst (λ z. IsOn own.u (whole z)) (r.from ∙ own_at) (a_on own.u))
            (λ r. subst (λ z. IsOn own.u (whole z)) (r.from ∙ own_at) (b_on own.u))
            own.runs;
      },
    )

    at_end : (c : ℕ) (chain : MapChain) → slice_get chains c ≡ Some chain → IsOnChain chain.points (whole v) → IsChainEnd chain.points (whole v)
    at_end c chain is on = same_or c (a / 2)
        (λ e. subst (λ (z : MapChain). IsChainEnd z.points (whole v)) (one_found own.chain chain (slice_get chains (a / 2)) own.is (ap (slice_get chains) (sym e) ∙ is)) own_end)
        (λ ne. (planar.apart c (a / 2) chain own.chain ne is own.is (whole v) on own_on).0)

    by_first : (c : ℕ) (chain : MapChain) → slice_get chains c ≡ Some chain → (j : ℕ) (w : Segment) → slice_get chain.points j ≡ Some w.a → slice_get chain.points (j + 1) ≡ Some w.b →
        j ≡ 0 → w.a ≡ v → IsDartOn chains v w
    by_first c chain is j w from to zero e =
        let d : (d : ℕ) × (dart_start chains d ≡ Some w.a) × (dart_second chains d ≡ Some w.b) =
        of_first c chain is w (ap (slice_get chain.points) (sym zero) ∙ from) (ap (λ i. slice_get chain.points (i + 1)) (sym zero) ∙ to) in
        record { dart = d.0; second = w.b; starts = d.1 ∙ ap Some e; goes = d.2; ends = inl (e, refl) }

    by_last : (c : ℕ) (chain : MapChain) → slice_get chains c ≡ Some chain → (j : ℕ) (w : Segment) → slice_get chain.points j ≡ Some w.a → slice_get chain.points (j + 1) ≡ Some w.b →
        j + 2 ≡ length chain.points → w.b ≡ v → IsDartOn chains v w
    by_last c chain is j w from to long e =
        let d : (d : ℕ) × (dart_start chains d ≡ Some w.b) × (dart_second chains d ≡ Some w.a) = of_last c chain is j w long from to in
        record { dart = d.0; second = w.a; starts = d.1 ∙ ap Some e; goes = d.2; ends = inr (e, refl) }

    no_repeat : (points : List Point) → IsProperChain points → (j : ℕ) (p : Point) → slice_get points j ≡ Some p → slice_get points (j + 1) ≡ Some p → ⊥
    no_repeat points some j p e f =
        let lt : j + 1 < length points = slice_get_within points (j + 1) p f in
        some.distinct j p lt
        (sym (one_found p _ (slice_get points j) e (slice_get-get_or points j p (omega (arith, lt)))) ∙ one_found p _ (slice_get points (j + 1)) f (slice_get-get_or points (j + 1) p lt))

    pub dart_on : (c : ℕ) (chain : MapChain) → slice_get chains c ≡ Some chain → (j : ℕ) (w : Segment) → slice_get chain.points j ≡ Some w.a → slice_get chain.points (j + 1) ≡ Some w.b →
        IsOn w (whole v) → IsDartOn chains v w
    dart_on c chain is j w from to on =
        ⊎_elim at_first at_last (at_end c chain is (j, here))
      where
        here : IsOnSegment chain.points j (whole v)
        here = record { segment = w; from = from; to = to; on = on }

        within : j + 1 < length chain.points
        within = slice_get_within chain.points (j + 1) w.b to

        at : (p : Point) → IsSame (whole v) (whole p) → p ≡ v
        at p e = sym (whole_same v p e)

        at_first : IsVertex chain.points 0 (whole v) → IsDartOn chains v w
        at_first x = same_or j 0
            (λ zero. by_first c chain is j w from to zero (at w.a (at_vertex chain.points 0 w.a (whole v) (ap (slice_get chain.points) (sym zero) ∙ from) x)))
            (λ some.
            let s : IsSpoke chains (2 * c) = spoke_of (2 * c) (let lt = slice_get_within chains c chain is in omega (arith, lt)) in
            first_shared s some)
          where
            first_shared : IsSpoke chains (2 * c) → ¬ (j ≡ 0) → IsDartOn chains v w
            first_shared s some = ⊎_elim
                (λ r.
                let same : s.chain ≡ chain = one_found s.chain chain (slice_get chains c) (ap (slice_get chains) (sym (half c)) ∙ s.is) is in
                let first : slice_get chain.points 0 ≡ Some s.u.a = subst (λ (z : MapChain). slice_get z.points 0 ≡ Some s.u.a) same (ap (slice_get s.chain.points) (sym r.first) ∙ s.from) in
                let next : slice_get chain.points (0 + 1) ≡ Some s.u.b = subst (λ (z : MapChain). slice_get z.points (0 + 1) ≡ Some s.u.b) same (ap (λ i. slice_get s.chain.points (i + 1)) (sym r.first) ∙ s.to) in
                let e : s.u.a ≡ v = at s.u.a (at_vertex chain.points 0 s.u.a (whole v) first x) in
                let on_first : IsOnSegment chain.points 0 (whole v) = record { segment = s.u; from = first; to = next; on = subst (λ z. IsOn s.u (whole z)) e (a_on s.u) } in
                ⊎_elim
                (λ b.
                absurd (s.u.different
                (e ∙ sym (at s.u.b (at_vertex chain.points (0 + 1) s.u.b (whole v) next (subst (λ m. IsVertex chain.points m (whole v)) b.follows b.vertex))))))
                (λ b.
                let closing : w.b ≡ s.u.a = one_found w.b s.u.a (slice_get chain.points (j + 1)) to (sym b.closed ∙ first) in
                by_last c chain is j w from to b.last (closing ∙ e))
                (planar.simple c chain is 0 j (whole v) (omega (arith, some)) on_first here))
                (λ r. absurd (false≢true (sym r.odd ∙ even_along c)))
                s.runs
              where
                half : (c : ℕ) → 2 * c / 2 ≡ c
                half c = omega arith

        at_last : IsVertex chain.points (length chain.points - 1) (whole v) → IsDartOn chains v w
        at_last x = same_or (j + 2) (length chain.points)
            (λ long. by_last c chain is j w from to long (at w.b (at_vertex chain.points (length chain.points - 1) w.b (whole v) (ap (slice_get chain.points) (before j (length chain.points) long) ∙ to) x)))
            (λ short.
            let s : IsSpoke chains (2 * c + 1) = spoke_of (2 * c + 1) (let lt = slice_get_within chains c chain is in omega (arith, lt)) in
            last_shared s short)
          where
            before : (k n : ℕ) → k + 2 ≡ n → n - 1 ≡ k + 1
            before k n e = omega (arith, e)

            last_shared : IsSpoke chains (2 * c + 1) → ¬ (j + 2 ≡ length chain.points) → IsDartOn chains v w
            last_shared s short = ⊎_elim
                (λ r. absurd (false≢true (sym (odd_against c) ∙ r.even)))
                (λ r.
                let same : s.chain ≡ chain = one_found s.chain chain (slice_get chains c) (ap (slice_get chains) (sym (half c)) ∙ s.is) is in
                let k : ℕ = s.k in
                let long : k + 2 ≡ length chain.points = r.last ∙ ap (λ (z : MapChain). length z.points) same in
                let first : slice_get chain.points k ≡ Some s.u.a = subst (λ (z : MapChain). slice_get z.points k ≡ Some s.u.a) same s.from in
                let next : slice_get chain.points (k + 1) ≡ Some s.u.b = subst (λ (z : MapChain). slice_get z.points (k + 1) ≡ Some s.u.b) same s.to in
                let e : s.u.b ≡ v = at s.u.b (at_vertex chain.points (length chain.points - 1) s.u.b (whole v) (ap (slice_get chain.points) (before k (length chain.points) long) ∙ next) x) in
                let on_last : IsOnSegment chain.points k (whole v) = record { segment = s.u; from = first; to = next; on = subst (λ z. IsOn s.u (whole z)) e (b_on s.u) } in
                ⊎_elim
                (λ b. absurd (s.u.different (at s.u.a (at_vertex chain.points k s.u.a (whole v) first b.vertex) ∙ sym e)))
                (λ b.
                let opening : w.a ≡ s.u.b = one_found w.a s.u.b (slice_get chain.points 0) (ap (slice_get chain.points) (sym b.first) ∙ from) (b.closed ∙ next) in
                by_first c chain is j w from to b.first (opening ∙ e))
                (planar.simple c chain is j k (whole v) (lower j k (length chain.points) within long short) here on_last))
                s.runs
              where
                half : (c : ℕ) → (2 * c + 1) / 2 ≡ c
                half c = omega arith

                lower : (j k n : ℕ) → j + 1 < n → k + 2 ≡ n → ¬ (j + 2 ≡ n) → j < k
                lower j k n lt e ne = omega (arith, lt, e, ne)
