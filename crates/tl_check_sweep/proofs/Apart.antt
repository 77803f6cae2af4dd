-- Where two segments have ends at one point of their chains, and both chains don't end there, they conflict, or one of them does with an end
-- of its own chain.
use Rattle.std.proofs.Common.{◌≡◌, ◌≢◌, ◌⊎◌, inl, inr, ⊎_elim, ℕ, ◌+◌, ◌-◌, ◌<◌, ◌≤◌, Some, List, length, get_or, refl, sym, ap, subst, ◌∙◌, arith}
use Rattle.std.specs.Prelude.{slice_get}
use Rattle.std.proofs.lemmas.Bool.{cases_eq, cases_order}
use Rattle.std.proofs.lemmas.Option.{slice_get-get_or, slice_get_within}
use Rattle.tl_geom.specs.declared.point.Point.{Point}
use Rattle.tl_geom.specs.declared.rational.Rational.{Rational}
use Rattle.tl_geom.specs.declared.segment.Segment.{Segment}
use Rattle.tl_geom.specs.Plane.{IsOn, whole}
use Rattle.tl_geom.proofs.Places.{a_on, b_on, same_sym, whole_same}
use Rattle.tl_map_county.specs.Chains.{IsProperChain}
use Rattle.tl_map_county.specs.TheMap.{MapChain}
use Rattle.tl_map_county.specs.Segments.{segments_before, IsSegmentOf}
use Rattle.tl_check_planar.specs.Planar.{IsVertex, IsOnSegment, IsChainEnd, MayShareWithin}
use Rattle.tl_check_planar.specs.Meets.{AreFree}
use Rattle.tl_check_planar.specs.ByHeight.Slabs.{IsEndPlace}
use Rattle.tl_check_planar.specs.Keeping.Apart.{one_found}
use Rattle.tl_check_planar.proofs.Numbering.{in_order}
use Rattle.tl_check_faces.specs.Crossings.Headings.{AreProper}
use Rattle.tl_check_sweep.specs.Keeping.Pairs.{AreFreeBothWays, IsFreeOfEnds}

-- the point at place p of a chain is an end of segment i
abbrev pub IsAtSegment : (i p : ℕ) → Type 0
IsAtSegment i p = (p ≡ i) ⊎ (p ≡ i + 1)

-- ---- along one chain

module _ (points : List Point) (proper : IsProperChain points) (at : Point) where
  -- neighbours differ
  next_differs : (k : ℕ) → slice_get points k ≡ Some at → slice_get points (k + 1) ≡ Some at → ⊥
  next_differs k one other =
      let within : k + 1 < length points = slice_get_within points (k + 1) at other in
      let here : at ≡ get_or points k at = one_found at (get_or points k at) (slice_get points k) one (slice_get-get_or points k at (omega (arith, within))) in
      let there : at ≡ get_or points (k + 1) at = one_found at (get_or points (k + 1) at) (slice_get points (k + 1)) other (slice_get-get_or points (k + 1) at within) in
      proper.distinct k at within (sym here ∙ there)

  -- the point lies on a segment that ends there
  pub on_segment : (i p : ℕ) → i + 1 < length points → IsAtSegment i p → slice_get points p ≡ Some at → IsOnSegment points i (whole at)
  on_segment i p within place is =
      let u : Segment = record { a = get_or points i at; b = get_or points (i + 1) at; different = proper.distinct i at within } in
      let from : slice_get points i ≡ Some (get_or points i at) = slice_get-get_or points i at (omega (arith, within)) in
      let to : slice_get points (i + 1) ≡ Some (get_or points (i + 1) at) = slice_get-get_or points (i + 1) at within in
      record {
        segment = record { a = get_or points i at; b = get_or points (i + 1) at; different = proper.distinct i at within };
        from = from;
        to = to;
        on = ⊎_elim
            (λ e. subst (λ (q : Point). IsOn u (whole q)) (one_found (get_or points i at) at (slice_get points i) from (ap (slice_get points) (sym e) ∙ is)) (a_on u))
            (λ e. subst (λ (q : Point). IsOn u (whole q)) (one_found (get_or points (i + 1) at) at (slice_get points (i + 1)) to (ap (slice_get points) (sym e) ∙ is)) (b_on u))
            place;
      }

  -- a vertex at the point stands at its place
  vertex_is : (k : ℕ) → IsVertex points k (whole at) → slice_get points k ≡ Some at
  vertex_is k v = v.is ∙ ap Some (whole_same v.point at (same_sym (whole at) (whole v.point) v.same))

  -- what a segment may share with the first one of its chain, and with the last one
  abbrev SharesFirst : ℕ → Type 0
  SharesFirst i = 0 < i → IsOnSegment points 0 (whole at) → IsOnSegment points i (whole at) → MayShareWithin points 0 i (whole at)

  abbrev SharesLast : ℕ → Type 0
  SharesLast i = (l : ℕ) → l + 2 ≡ length points → i < l → IsOnSegment points i (whole at) → IsOnSegment points l (whole at) → MayShareWithin points i l (whole at)

  -- so an end of the chain is at no place between its ends
  module _ (i p : ℕ) (within : i + 1 < length points) (place : IsAtSegment i p) (is : slice_get points p ≡ Some at) (some : 0 < p) (below : p + 1 < length points) where
    not_first : SharesFirst i → slice_get points 0 ≡ Some at → ⊥
    not_first shares start =
        ⊎_elim
        (λ e. ⊎_elim (λ f. absurd (omega (arith, e, f, some)))
        (λ f. next_differs 0 start (ap (slice_get points) (let one : 0 + 1 ≡ p = omega (arith, e, f) in one) ∙ is)) place)
        (λ ne. ⊎_elim
        (λ b. next_differs 0 start (ap (slice_get points) (sym b.follows) ∙ vertex_is i b.vertex))
        (λ c.
        let last = c.last in
        let here : p ≡ i = ⊎_elim (λ e. e) (λ e. absurd (omega (arith, e, last, below))) place in
        next_differs i (ap (slice_get points) (sym here) ∙ is) (sym c.closed ∙ start))
        (shares (omega (arith, ne)) (on_segment 0 0 (let several = proper.several in omega (arith, several)) (inl refl) start) (on_segment i p within place is)))
        (cases_eq i 0)

    not_last : SharesLast i → slice_get points (length points - 1) ≡ Some at → ⊥
    not_last shares stop =
        let several = proper.several in
        let l : ℕ = length points - 2 in
        let end : slice_get points (l + 1) ≡ Some at = ap (slice_get points) (let e : l + 1 ≡ length points - 1 = omega (arith, several) in e) ∙ stop in
        ⊎_elim
        (λ (e : i ≡ length points - 2).
        let here : p ≡ i = ⊎_elim (λ f. f) (λ f. absurd (omega (arith, e, f, below, several))) place in
        next_differs i (ap (slice_get points) (sym here) ∙ is) (ap (λ n. slice_get points (n + 1)) e ∙ end))
        (λ ne. ⊎_elim
        (λ b. next_differs l (vertex_is l b.vertex) end)
        (λ c.
        let first = c.first in
        let here : p ≡ 0 + 1 = ⊎_elim (λ f. absurd (omega (arith, f, first, some))) (λ f. omega (arith, f, first)) place in
        next_differs 0 (c.closed ∙ end) (ap (slice_get points) (sym here) ∙ is))
        (shares l (omega (arith, several)) (omega (arith, ne, within, several)) (on_segment i p within place is)
        (on_segment l (l + 1) (omega (arith, several)) (inr refl) end)))
        (cases_eq i (length points - 2))

    pub no_end : SharesFirst i → SharesLast i → ¬ IsChainEnd points (whole at)
    no_end first last end = ⊎_elim (λ v. not_first first (vertex_is 0 v)) (λ v. not_last last (vertex_is (length points - 1) v)) end

  -- two segments of the chain that share the point at two places, which aren't both its ends
  pub apart : (i j p q : ℕ) → i < j → j + 1 < length points → IsAtSegment i p → IsAtSegment j q → slice_get points p ≡ Some at → slice_get points q ≡ Some at →
      p ≢ q → ¬ (IsEndPlace points p × IsEndPlace points q) → ¬ MayShareWithin points i j (whole at)
  apart i j p q lt within one other is is' ne never =
      ⊎_elim
      (λ b.
      let follows = b.follows in
      let mid = vertex_is j b.vertex in
      ⊎_elim
      (λ e. next_differs i (ap (slice_get points) (sym e) ∙ is) (ap (slice_get points) (sym follows) ∙ mid))
      (λ e. ⊎_elim (λ f. ne (e ∙ sym follows ∙ sym f)) (λ f. next_differs j mid (ap (slice_get points) (sym f) ∙ is')) other)
      one)
      (λ c.
      let first = c.first in
      let last = c.last in
      let start = vertex_is 0 c.start in
      ⊎_elim
      (λ e. ⊎_elim
      (λ f. next_differs j (ap (slice_get points) (sym f) ∙ is') (sym c.closed ∙ start))
      (λ f. never (inl (e ∙ first), inr (omega (arith, f, last))))
      other)
      (λ e. next_differs 0 start (ap (slice_get points) (let k : 0 + 1 ≡ p = omega (arith, e, first) in k) ∙ is))
      one)

-- ---- by the segments' numbers

-- a segment by its place in a chain
abbrev number_of : List MapChain → (c k : ℕ) → ℕ
number_of chains c k = segments_before chains c + k

abbrev is_number : (chains : List MapChain) (c k : ℕ) (chain : MapChain) → slice_get chains c ≡ Some chain → k + 1 < length chain.points → IsSegmentOf chains (number_of chains c k) c k
is_number chains c k chain is place = record { chain = chain; is = is; place = place; number = refl }

-- two segments of a chain that don't conflict share what they may
shares_within : (chains : List MapChain) (c i j : ℕ) (chain : MapChain) → slice_get chains c ≡ Some chain → i < j → j + 1 < length chain.points →
    AreFree chains (number_of chains c i) (number_of chains c j) → (r : Rational) → IsOnSegment chain.points i r → IsOnSegment chain.points j r → MayShareWithin chain.points i j r
shares_within chains c i j chain is lt within free r on on' =
    ⊎_elim (λ w. absurd (w.0 refl)) (λ w. w.1)
    (free r (record {
      c = c;
      i = i;
      d = c;
      j = j;
      first = is_number chains c i chain is (omega (arith, lt, within));
      second = is_number chains c j chain is within;
      on_first = on;
      on_second = on';
    }))

-- what a segment that doesn't conflict with the ends of its chain shares with the first segment of the chain, and with the last one
module _ (chains : List MapChain) (proper : AreProper chains) (s c k : ℕ) (number : IsSegmentOf chains s c k) (free : IsFreeOfEnds chains s) (r : Rational) where
  several : 2 ≤ length number.chain.points
  several = (proper c number.chain number.is).several

  here : s ≡ number_of chains c k
  here = number.number

  pub shares_first : 0 < k → IsOnSegment number.chain.points 0 r → IsOnSegment number.chain.points k r → MayShareWithin number.chain.points 0 k r
  shares_first lt =
      shares_within chains c 0 k number.chain number.is lt number.place
      (subst (λ n. AreFree chains (number_of chains c 0) n) here
      ((free c k (number_of chains c 0) 0 number (is_number chains c 0 number.chain number.is (omega (arith, several))) (inl refl)).downward (omega (arith, here, lt)))) r

  pub shares_last : (l : ℕ) → l + 2 ≡ length number.chain.points → k < l → IsOnSegment number.chain.points k r → IsOnSegment number.chain.points l r →
      MayShareWithin number.chain.points k l r
  shares_last l last lt =
      shares_within chains c k l number.chain number.is lt (omega (arith, last))
      (subst (λ n. AreFree chains n (number_of chains c l)) here
      ((free c k (number_of chains c l) l number (is_number chains c l number.chain number.is (omega (arith, last))) (inr last)).upward (omega (arith, here, lt)))) r

-- an end of segment s, at a point that stands at place p of chain c
pub record IsEndAt (chains : List MapChain) (at : Point) (s c p : ℕ) : Type 0 where
  pub k : ℕ
  pub number : IsSegmentOf chains s c k
  pub place : IsAtSegment k p
  pub is : slice_get number.chain.points p ≡ Some at

module _ (chains : List MapChain) (proper : AreProper chains) (at : Point) where
  -- a chain doesn't end at the point where a segment of it that is free of its ends has an end between them
  no_end_there : (s c p : ℕ) (e : IsEndAt chains at s c p) → IsFreeOfEnds chains s → ¬ IsEndPlace e.number.chain.points p → ¬ IsChainEnd e.number.chain.points (whole at)
  no_end_there s c p e free never =
      let chain : MapChain = e.number.chain in
      let good = proper c chain e.number.is in
      let within = e.number.place in
      let some : 0 < p = ⊎_elim (λ z. absurd (never (inl z))) (λ ne. omega (arith, ne)) (cases_eq p 0) in
      let there = slice_get_within chain.points p at e.is in
      let below : p + 1 < length chain.points = ⊎_elim (λ z. absurd (never (inr z))) (λ ne. omega (arith, ne, there)) (cases_eq (p + 1) (length chain.points)) in
      no_end chain.points good at e.k p within e.place e.is some below
      (shares_first chains proper s c e.k e.number free (whole at)) (shares_last chains proper s c e.k e.number free (whole at))

  -- the two ends of segments are at ends of their chains, or at one place of one chain
  abbrev pub MayBeThere : (c p d q : ℕ) (one other : List Point) → Type 0
  MayBeThere c p d q one other = ((c ≡ d) × (p ≡ q)) ⊎ (IsEndPlace one p × IsEndPlace other q)

  end_or_not : (points : List Point) (p : ℕ) → IsEndPlace points p ⊎ ¬ IsEndPlace points p
  end_or_not points p =
      ⊎_elim (λ e. inl (inl e))
      (λ ne. ⊎_elim (λ e. inl (inr e)) (λ ne'. inr (λ end. ⊎_elim (λ e. ne e) (λ e. ne' e) end)) (cases_eq (p + 1) (length points)))
      (cases_eq p 0)

  module _ (s t c p d q : ℕ) (one : IsEndAt chains at s c p) (other : IsEndAt chains at t d q) (free : AreFreeBothWays chains s t) (first : IsFreeOfEnds chains s) (second : IsFreeOfEnds chains t) where
    there : IsOnSegment one.number.chain.points one.k (whole at)
    there = on_segment one.number.chain.points (proper c one.number.chain one.number.is) at one.k p one.number.place one.place one.is

    there' : IsOnSegment other.number.chain.points other.k (whole at)
    there' = on_segment other.number.chain.points (proper d other.number.chain other.number.is) at other.k q other.number.place other.place other.is

    -- segments of different chains
    ends_of_both : c ≢ d → IsChainEnd one.number.chain.points (whole at) × IsChainEnd other.number.chain.points (whole at)
    ends_of_both ne = ⊎_elim
        (λ same. absurd (ne same))
        (λ w. ⊎_elim
        (λ lt. ⊎_elim (λ h. h.1) (λ h. absurd (ne h.0))
        (free.upward (in_order chains s t c one.k d other.k one.number other.number lt) (whole at)
        (record { c = c; i = one.k; d = d; j = other.k; first = one.number; second = other.number; on_first = there; on_second = there' })))
        (λ lt. ⊎_elim (λ h. (h.1.1, h.1.0)) (λ h. absurd (ne (sym h.0)))
        (free.downward (in_order chains t s d other.k c one.k other.number one.number lt) (whole at)
        (record { c = d; i = other.k; d = c; j = one.k; first = other.number; second = one.number; on_first = there'; on_second = there }))) w)
        (cases_order c d)

    of_two : c ≢ d → IsEndPlace one.number.chain.points p × IsEndPlace other.number.chain.points q
    of_two ne =
        let ends = ends_of_both ne in (
          ⊎_elim (λ e. e) (λ never. absurd (no_end_there s c p one first never ends.0)) (end_or_not one.number.chain.points p),
          ⊎_elim (λ e. e) (λ never. absurd (no_end_there t d q other second never ends.1)) (end_or_not other.number.chain.points q),
        )

    -- segments of one chain
    module _ (same : c ≡ d) where
      one_chain_is : other.number.chain ≡ one.number.chain
      one_chain_is = one_found other.number.chain one.number.chain (slice_get chains d) other.number.is (subst (λ n. slice_get chains n ≡ Some one.number.chain) same one.number.is)

      is' : slice_get one.number.chain.points q ≡ Some at
      is' = subst (λ (z : MapChain). slice_get z.points q ≡ Some at) one_chain_is other.is

      place' : other.k + 1 < length one.number.chain.points
      place' = subst (λ (z : MapChain). other.k + 1 < length z.points) one_chain_is other.number.place

      there_too : IsOnSegment one.number.chain.points other.k (whole at)
      there_too = subst (λ (z : MapChain). IsOnSegment z.points other.k (whole at)) one_chain_is there'

      s_is : s ≡ number_of chains c one.k
      s_is = one.number.number

      t_is : t ≡ number_of chains c other.k
      t_is = other.number.number ∙ ap (λ n. segments_before chains n + other.k) (sym same)

      not_apart : p ≢ q → ¬ (IsEndPlace one.number.chain.points p × IsEndPlace one.number.chain.points q) → ⊥
      not_apart ne never =
          let points : List Point = one.number.chain.points in
          let good : IsProperChain points = proper c one.number.chain one.number.is in
          ⊎_elim
          (λ k. ⊎_elim
          (λ e. ⊎_elim (λ f. ne (e ∙ k ∙ sym f))
          (λ f. next_differs points good at one.k (ap (slice_get points) (sym e) ∙ one.is) (ap (slice_get points) (let z : one.k + 1 ≡ q = omega (arith, f, k) in z) ∙ is')) other.place)
          (λ e. ⊎_elim
          (λ f. next_differs points good at one.k (ap (slice_get points) (let z : one.k ≡ q = omega (arith, f, k) in z) ∙ is') (ap (slice_get points) (sym e) ∙ one.is))
          (λ f. ne (omega (arith, e, f, k))) other.place)
          one.place)
          (λ w. ⊎_elim
          (λ lt. apart points good at one.k other.k p q lt place' one.place other.place one.is is' ne never
          (shares_within chains c one.k other.k one.number.chain one.number.is lt place'
          (subst (λ n. AreFree chains n (number_of chains c other.k)) s_is (subst (λ n. AreFree chains s n) t_is (free.upward (omega (arith, s_is, t_is, lt))))) (whole at) there there_too))
          (λ lt. apart points good at other.k one.k q p lt one.number.place other.place one.place is' one.is (λ e. ne (sym e)) (λ z. never (z.1, z.0))
          (shares_within chains c other.k one.k one.number.chain one.number.is lt one.number.place
          (subst (λ n. AreFree chains n (number_of chains c one.k)) t_is (subst (λ n. AreFree chains t n) s_is (free.downward (omega (arith, s_is, t_is, lt))))) (whole at) there_too there)) w)
          (cases_order one.k other.k)

      of_one : (p ≡ q) ⊎ (IsEndPlace one.number.chain.points p × IsEndPlace other.number.chain.points q)
      of_one =
          let back = λ (e : IsEndPlace one.number.chain.points q). subst (λ (z : MapChain). IsEndPlace z.points q) (sym one_chain_is) e in
          ⊎_elim (λ e. inl e)
          (λ ne. ⊎_elim
          (λ e. ⊎_elim (λ f. inr (e, back f)) (λ never. absurd (not_apart ne (λ z. never z.1))) (end_or_not one.number.chain.points q))
          (λ never. absurd (not_apart ne (λ z. never z.0)))
          (end_or_not one.number.chain.points p))
          (cases_eq p q)

    pub may_be_there : MayBeThere c p d q one.number.chain.points other.number.chain.points
    may_be_there = ⊎_elim (λ same. ⊎_elim (λ e. inl (same, e)) (λ e. inr e) (of_one same)) (λ ne. inr (of_two ne)) (cases_eq c d)
