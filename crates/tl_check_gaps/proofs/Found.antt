-- Of events that are in order, what stands at two places of chains stands at ends of chains there.
use Rattle.std.proofs.Common.{◌≡◌, ◌⊎◌, inl, inr, ⊎_elim, ℕ, zero, suc, ◌+◌, ◌-◌, ◌<◌, ◌≤◌, ◌==◌, Bool, true, false, not, ◌&&◌, if◌then◌else◌, pos, ◌+ℤ◌, ◌≤ℤ◌, Some, List, [], ◌∷◌, length, get_or, count_by, refl, sym, ap, subst, ◌∙◌, arith}
use Rattle.std.specs.Prelude.{slice_get}
use Rattle.std.proofs.lemmas.Bool.{cases_lt}
use Rattle.std.proofs.lemmas.Bool.Decides.{nat_tests}
use Rattle.std.proofs.lemmas.Int.{ints}
use Rattle.std.proofs.lemmas.List.Sums.{sum_by-cons}
use Rattle.std.proofs.lemmas.Option.{slice_get_within}
use Rattle.tl_geom.specs.declared.point.Point.{Point}
use Rattle.tl_geom.specs.declared.segment.Segment.{Segment}
use Rattle.tl_map_county.specs.TheMap.{MapChain}
use Rattle.tl_map_county.specs.Segments.{segments_before, IsSegmentOf}
use Rattle.tl_check_planar.specs.Keeping.Apart.{one_found}
use Rattle.tl_check_planar.proofs.Numbering.{one_chain, one_place, below_total, HaveSameEnds}
use Rattle.tl_check_faces.specs.Crossings.Headings.{AreProper}
use Rattle.tl_check_active.specs.declared.events.Event.{Event}
use Rattle.tl_check_planar.specs.ByHeight.Heights.{height, widest, low_end, high_end}
use Rattle.tl_check_planar.specs.ByHeight.Neighbours.{IsNumbered, IsWide}
use Rattle.tl_check_planar.specs.ByHeight.Slabs.{IsChainPoint, AreVerticesTested}
use Rattle.tl_check_active.specs.Events.{end_at, IsEvent, begins_at, ends_at, AreEvents}
use Rattle.tl_check_active.specs.Vertices.{IsAtPlace, IsEndOfChain, MayMeet}
use Rattle.tl_check_gaps.specs.Keeping.Vertices.{AreInOrderUpTo}
use Rattle.tl_check_active.proofs.Bits.{bit}
use Rattle.tl_check_planar.proofs.ByHeight.Rising.{ends_of}
use Rattle.tl_check_planar.proofs.ByHeight.Numbered.{one_segment}
use Rattle.tl_check_active.proofs.Tests.{same_low}

abbrev pub no_event : Event
no_event = record { height = pos 0; segment = 0; begins = false; first = false }

-- ---- what is counted stands somewhere

pub found : (f : Event → Bool) (events : List Event) (d : Event) → 0 < count_by f events → (m : ℕ) × (m < length events) × (f (get_or events m d) ≡ true)
found f [] d h = absurd (let none : 0 < 0 = h in omega (arith, none))
found f (e ∷ events) d h = go (λ more. found f events d more) (f e) refl
  where
    go : (0 < count_by f events → (m : ℕ) × (m < length events) × (f (get_or events m d) ≡ true)) → (b : Bool) → f e ≡ b → (m : ℕ) × (m < length (e ∷ events)) × (f (get_or (e ∷ events) m d) ≡ true)
    go later true is = (0, omega arith, is)
    go later false is =
        let sum = sum_by-cons (λ (x : Event). bit (f x)) e events in
        let none : bit (f e) ≡ 0 = ap bit is in
        let rest : (m : ℕ) × (m < length events) × (f (get_or events m d) ≡ true) = later (omega (arith, h, sum, none)) in
        (suc rest.0, let lt = rest.1 in omega (arith, lt), rest.2)

pub both_true : (a b : Bool) → (a && b) ≡ true → (a ≡ true) × (b ≡ true)
both_true true b e = (refl, e)
both_true false b e = absurd (cc)

pub is_number : (s t : ℕ) → (s == t) ≡ true → s ≡ t
is_number s t e = grind (arith, nat_tests)

pub not_true : (b : Bool) → not b ≡ true → b ≡ false
not_true true e = absurd (cc)
not_true false e = refl

-- ---- events rise

module _ (chains : List MapChain) (events : List Event) (order : AreInOrderUpTo chains (length events) events) where
  far : (k n : ℕ) (d : Event) → k + n < length events → (get_or events k d).height ≤ℤ (get_or events (k + n) d).height
  far k zero d lt = let same : (get_or events (k + 0) d).height ≡ (get_or events k d).height = ap (λ m. (get_or events m d).height) (let is : k + 0 ≡ k = omega arith in is) in omega (arith, ints, same)
  far k (suc n) d lt =
      let before = far k n d (omega (arith, lt)) in
      let step = (order (k + n) d (omega (arith, lt))).rising in
      let same : (get_or events (k + suc n) d).height ≡ (get_or events (k + n + 1) d).height = ap (λ m. (get_or events m d).height) (let is : k + suc n ≡ k + n + 1 = omega arith in is) in
      omega (arith, ints, before, step, same)

  module _ (are : AreEvents chains events) where
    itself : (e : Event) → MayMeet chains e e
    itself e c p d q at at' =
        let same : c ≡ d = one_chain chains e.segment c at.k d at'.k at.number at'.number in
        let k : at.k ≡ at'.k = one_place chains e.segment c at.k d at'.k at.number at'.number in
        inl (same, at.place ∙ ap (λ n. if e.first then n else n + 1) k ∙ sym at'.place)

    -- by way of an event between
    by_way : (e f g : Event) → IsEvent chains f → MayMeet chains e f → MayMeet chains f g → MayMeet chains e g
    by_way e f g tell one other c p d q at at' =
        let mid : IsAtPlace chains f tell.is.c (if f.first then tell.is.k else tell.is.k + 1) = record { k = tell.is.k; number = tell.is.number; place = refl } in
        let place : ℕ = if f.first then tell.is.k else tell.is.k + 1 in
        ⊎_elim
        (λ k. ⊎_elim (λ l. inl (k.0 ∙ l.0, k.1 ∙ l.1))
        (λ l. inr (subst (λ x. IsEndOfChain chains x p) (sym k.0) (subst (λ x. IsEndOfChain chains tell.is.c x) (sym k.1) l.0), l.1))
        (other tell.is.c (if f.first then tell.is.k else tell.is.k + 1) d q mid at'))
        (λ k. ⊎_elim (λ l. inr (k.0, subst (λ x. IsEndOfChain chains x q) l.0 (subst (λ x. IsEndOfChain chains tell.is.c x) l.1 k.1))) (λ l. inr (k.0, l.1))
        (other tell.is.c (if f.first then tell.is.k else tell.is.k + 1) d q mid at'))
        (one c p tell.is.c (if f.first then tell.is.k else tell.is.k + 1) at mid)

    met : (k n : ℕ) (d : Event) → k + n < length events → (get_or events k d).height ≡ (get_or events (k + n) d).height → MayMeet chains (get_or events k d) (get_or events (k + n) d)
    met k zero d lt e = subst (λ m. MayMeet chains (get_or events k d) (get_or events m d)) (let is : k ≡ k + 0 = omega arith in is) (itself (get_or events k d))
    met k (suc n) d lt e =
        let is : k + suc n ≡ k + n + 1 = omega arith in
        let up = far k n d (omega (arith, lt)) in
        let step = order (k + n) d (omega (arith, lt)) in
        let more = step.rising in
        let last : (get_or events k d).height ≡ (get_or events (k + n + 1) d).height = e ∙ ap (λ m. (get_or events m d).height) is in
        let level : (get_or events k d).height ≡ (get_or events (k + n) d).height = omega (arith, ints, up, more, last) in
        let level' : (get_or events (k + n) d).height ≡ (get_or events (k + n + 1) d).height = sym level ∙ last in
        subst (λ m. MayMeet chains (get_or events k d) (get_or events m d)) (sym is)
        (by_way (get_or events k d) (get_or events (k + n) d) (get_or events (k + n + 1) d) (are.each (k + n) d (omega (arith, lt))) (met k n d (omega (arith, lt)) level) (step.meets level'))

    met_later : (k l : ℕ) (d : Event) → k ≤ l → l < length events → (get_or events k d).height ≡ (get_or events l d).height → MayMeet chains (get_or events k d) (get_or events l d)
    met_later k l d le lt e =
        let is : k + (l - k) ≡ l = omega (arith, le) in
        subst (λ m. MayMeet chains (get_or events k d) (get_or events m d)) is (met k (l - k) d (omega (arith, le, lt)) (e ∙ ap (λ m. (get_or events m d).height) (sym is)))

    all_met : (k l : ℕ) (d : Event) → k < length events → l < length events → (get_or events k d).height ≡ (get_or events l d).height → MayMeet chains (get_or events k d) (get_or events l d)
    all_met k l d lt lt' e = elim (cases_lt k l) [
      | inl before ↦ met_later k l d (omega (arith, before)) lt' e
      | inr after ↦ λ c p x q at at'. ⊎_elim (λ h. inl (sym h.0, sym h.1)) (λ h. inr (h.1, h.0)) (met_later l k d after lt (sym e) x q c p at' at)
    ]

    -- ---- the event at a point of a chain

    module _ (wide : IsWide widest chains) (d : Event) where
      -- both ends of a segment have an event
      record IsEndOf (s : ℕ) (first : Bool) : Type 0 where
        m : ℕ
        lt : m < length events
        of : (get_or events m d).segment ≡ s
        way : (get_or events m d).first ≡ first

      apart : (e f : Event) → IsEvent chains e → IsEvent chains f → e.segment ≡ f.segment → e.begins ≡ true → f.begins ≡ false → e.first ≡ f.first → ⊥
      apart e f tell tell' same up down ways =
          let ends : HaveSameEnds tell.segment tell'.segment = one_segment chains f.segment tell.segment tell'.segment (subst (λ n. IsNumbered chains n tell.segment) same tell.is) tell'.is in
          let one : end_at e tell.segment ≡ end_at f tell'.segment = λ i. if ways i then ends.first i else ends.last i in
          let level : low_end widest tell'.segment ≡ high_end widest tell'.segment =
          sym (same_low widest tell.segment tell'.segment ends) ∙ sym (tell.low up) ∙ one ∙ tell'.high down in
          let rises = (ends_of widest tell'.segment (wide f.segment tell'.segment tell'.is)).rising in
          let heights : height widest (low_end widest tell'.segment) ≡ height widest (high_end widest tell'.segment) = ap (height widest) level in
          omega (arith, ints, rises, heights)

      one_of : (x y wanted : Bool) → ¬ (x ≡ y) → (x ≡ wanted) ⊎ (y ≡ wanted)
      one_of true true w ne = absurd (ne refl)
      one_of false false w ne = absurd (ne refl)
      one_of true false true ne = inl refl
      one_of true false false ne = inr refl
      one_of false true true ne = inr refl
      one_of false true false ne = inl refl

      end_of : (s : ℕ) (first : Bool) → s < segments_before chains (length chains) → IsEndOf s first
      end_of s first lt =
          let once = are.begun s lt in
          let once' = are.ended s lt in
          let one : (m : ℕ) × (m < length events) × (begins_at s (get_or events m d) ≡ true) = found (begins_at s) events d (omega (arith, once)) in
          let other : (m : ℕ) × (m < length events) × (ends_at s (get_or events m d) ≡ true) = found (ends_at s) events d (omega (arith, once')) in
          let is = both_true (get_or events one.0 d).begins ((get_or events one.0 d).segment == s) one.2 in
          let is' = both_true (not (get_or events other.0 d).begins) ((get_or events other.0 d).segment == s) other.2 in
          let of : (get_or events one.0 d).segment ≡ s = is_number (get_or events one.0 d).segment s is.1 in
          let of' : (get_or events other.0 d).segment ≡ s = is_number (get_or events other.0 d).segment s is'.1 in
          ⊎_elim (λ way. record { m = one.0; lt = one.1; of = of; way = way }) (λ way. record { m = other.0; lt = other.1; of = of'; way = way })
          (one_of (get_or events one.0 d).first (get_or events other.0 d).first first
          (apart (get_or events one.0 d) (get_or events other.0 d) (are.each one.0 d one.1) (are.each other.0 d other.1) (of ∙ sym of') is.0 (not_true (get_or events other.0 d).begins is'.0)))

      -- an event at point p of chain c, at the height of the point
      record IsFound (c p : ℕ) (point : Point) : Type 0 where
        m : ℕ
        lt : m < length events
        at : IsAtPlace chains (get_or events m d) c p
        height_is : (get_or events m d).height ≡ height widest point +ℤ pos 2147483647

      at_end : (s c k : ℕ) (number : IsSegmentOf chains s c k) (first : Bool) (point : Point) → slice_get number.chain.points (if first then k else k + 1) ≡ Some point → IsFound c (if first then k else k + 1) point
      at_end s c k number first point is =
          let e : IsEndOf s first = end_of s first (below_total chains s c k number) in
          let tell : IsEvent chains (get_or events e.m d) = are.each e.m d e.lt in
          let own : IsNumbered chains s tell.segment = subst (λ n. IsNumbered chains n tell.segment) e.of tell.is in
          let chain : own.c ≡ c = one_chain chains s own.c own.k c k own.number number in
          let place : own.k ≡ k = one_place chains s own.c own.k c k own.number number in
          let same : own.joins.chain ≡ number.chain = one_found own.joins.chain number.chain (slice_get chains own.c) own.joins.is (ap (λ i. slice_get chains i) chain ∙ number.is) in
          let here : end_at (get_or events e.m d) tell.segment ≡ point =
          ap (λ (b : Bool). if b then tell.segment.a else tell.segment.b) e.way ∙ by first own.k k number.chain.points tell.segment
          ((λ i. slice_get (sym same i).points own.k) ∙ own.joins.from) ((λ i. slice_get (sym same i).points (own.k + 1)) ∙ own.joins.to) place is in
          record {
            m = e.m;
            lt = e.lt;
            at = record { k = k; number = subst (λ n. IsSegmentOf chains n c k) (sym e.of) number; place = sym (ap (λ (b : Bool). if b then k else k + 1) e.way) };
            height_is = tell.height_is ∙ ap (λ p. height widest p +ℤ pos 2147483647) here;
          }
        where
          by : (first : Bool) (j k : ℕ) (points : List Point) (u : Segment) → slice_get points j ≡ Some u.a → slice_get points (j + 1) ≡ Some u.b → j ≡ k → slice_get points (if first then k else k + 1) ≡ Some point → (if first then u.a else u.b) ≡ point
          by true j k points u from to same is = one_found u.a point (slice_get points j) from (ap (slice_get points) same ∙ is)
          by false j k points u from to same is = one_found u.b point (slice_get points (j + 1)) to (ap (λ n. slice_get points (n + 1)) same ∙ is)

      module _ (proper : AreProper chains) where
        find : (c k : ℕ) (p : Point) → IsChainPoint chains c k p → IsFound c k p
        find c k p one =
            let several = (proper c one.chain one.is).several in
            let within = slice_get_within one.chain.points k p one.point in
            elim (cases_lt (k + 1) (length one.chain.points)) [
              | inl more ↦ at_end (segments_before chains c + k) c k (record { chain = one.chain; is = one.is; place = more; number = refl }) true p one.point
              | inr last ↦
                  let before : k - 1 + 1 ≡ k = omega (arith, last, several) in
                  subst (λ n. IsFound c n p) before
                  (at_end (segments_before chains c + (k - 1)) c (k - 1) (record { chain = one.chain; is = one.is; place = omega (arith, within, last, several); number = refl }) false p
                  (ap (slice_get one.chain.points) before ∙ one.point))
            ]

        pub vertices_tested : AreVerticesTested chains
        vertices_tested c k e j p one other =
            let here : IsFound c k p = find c k p one in
            let there : IsFound e j p = find e j p other in
            ⊎_elim (λ same. inl same) (λ ends. inr (ends.0 one.chain one.is, ends.1 other.chain other.is))
            (all_met here.m there.m d here.lt there.lt (here.height_is ∙ sym there.height_is) c k e j here.at there.at)
