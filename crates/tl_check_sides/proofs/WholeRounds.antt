-- Rounds that hold all darts tell of each dart the next one about its node, and no other is next.
use Rattle.std.proofs.Common.{◌≡◌, ◌≢◌, ◌⊎◌, inl, inr, ⊎_elim, ℕ, zero, suc, ◌-◌, ◌<◌, Some, List, length, sym, ap, refl, subst, ◌∙◌, arith}
use Rattle.std.specs.Prelude.{slice_index}
use Rattle.std.proofs.lemmas.Bool.{cases_lt}
use Rattle.tl_geom.specs.declared.point.Point.{Point}
use Rattle.tl_geom.specs.declared.direction.Direction.{Direction}
use Rattle.tl_geom.specs.Turning.{IsOneDirection, IsWithin, full, IsBelow}
use Rattle.tl_geom.proofs.Order.{one_back}
use Rattle.tl_geom.proofs.Within.{below_trans, below_between, below_around}
use Rattle.tl_map_county.specs.TheMap.{MapChain}
use Rattle.tl_map_county.specs.Darts.{Heads, dart_start}
use Rattle.tl_check_sides.specs.Lists.{before, HoldOnce, list_at, EachList}
use Rattle.tl_check_sides.specs.Sides.{dart_count, IsNext}
use Rattle.tl_check_sides.specs.Rounds.{HeadsBefore, round_start, HasOneNode, AreHeadingsRising}
use Rattle.tl_check_sides.specs.Keeping.Rounded.{AreLinked, AreHeaded}
use Rattle.tl_check_sides.proofs.ListLemmas.{IsIn, list_of}
use Rattle.tl_check_sides.proofs.Headings.{dart_within, heads_alike, with_heads, never_both, never_one, nothing_within}

-- ---- one round

module _ (chains : List MapChain) (round : List ℕ) (rising : AreHeadingsRising chains round) where
  at : ℕ → ℕ
  at k = slice_index round k

  -- headings rise from place to place
  pub rises : (i j : ℕ) (v u : Direction) → i < j → j < length round → Heads chains (slice_index round i) v → Heads chains (slice_index round j) u → IsBelow v u
  rises i zero v u lt h hv hu = absurd (omega (arith, lt))
  rises i (suc j) v u lt h hv hu =
      let step : HeadsBefore chains (slice_index round j) (slice_index round (suc j)) = rising j h in
      elim (cases_lt i j) [
        | inl before ↦
            below_trans v step.first u
            (rises i j v step.first before (omega (arith, h)) hv step.d_heads)
            (with_heads chains (slice_index round j) (slice_index round (suc j)) step.first u step step.d_heads hu)
        | inr not ↦
            let same : i ≡ j = omega (arith, lt, not) in
            let one : Heads chains (slice_index round j) v = subst (λ k. Heads chains (slice_index round k) v) same hv in
            with_heads chains (slice_index round j) (slice_index round (suc j)) v u step one hu
      ]

  alike : (i j : ℕ) (v u : Direction) → i ≡ j → Heads chains (slice_index round i) v → Heads chains (slice_index round j) u → IsOneDirection v u
  alike i j v u same hv hu =
      heads_alike chains (slice_index round j) v u (subst (λ k. Heads chains (slice_index round k) v) same hv) hu

  -- a heading of the round is not within the turn from a place to the one behind it
  pub none_inside : (i j : ℕ) (u w v : Direction) → i < length round → suc j < length round → Heads chains (slice_index round j) u → Heads chains (slice_index round (suc j)) w → Heads chains (slice_index round i) v → ¬ IsWithin u w v
  none_inside i j u w v hi hj hu hw hv inside =
      let up : IsBelow u w = rises j (suc j) u w (omega arith) hj hu hw in
      let both : IsBelow u v × IsBelow v w = (below_between u v w up).0 inside in
      elim (cases_lt i j) [
        | inl earlier ↦ never_both u v both.0 (rises i j v u earlier (omega (arith, hj)) hv hu)
        | inr later ↦ elim (cases_lt j i) [
          | inr not ↦ never_one u v both.0 (one_back v u (alike i j v u (omega (arith, later, not)) hv hu))
          | inl behind ↦ elim (cases_lt (suc j) i) [
            | inl far ↦ never_both v w both.1 (rises (suc j) i w v far hi hw hv)
            | inr near ↦ never_one v w both.1 (alike i (suc j) v w (omega (arith, behind, near)) hv hw)
          ]
        ]
      ]

  -- nor within the turn from its last place to its first
  pub none_around : (i j : ℕ) (u w v : Direction) → i < length round → suc j ≡ length round → Heads chains (slice_index round j) u → Heads chains (slice_index round 0) w → Heads chains (slice_index round i) v → ¬ IsWithin u w v
  none_around i zero u w v hi hj hu hw hv inside =
      nothing_within u w v (alike 0 0 u w refl hu hw) (alike 0 i u v (omega (arith, hi, hj)) hu hv) inside
  none_around i (suc j) u w v hi hj hu hw hv inside =
      let down : IsBelow w u = rises 0 (suc j) w u (omega arith) (omega (arith, hj)) hw hu in
      ⊎_elim
      (λ above. elim (cases_lt i (suc j)) [
        | inl earlier ↦ never_both u v above (rises i (suc j) v u earlier (omega (arith, hj)) hv hu)
        | inr last ↦ never_one u v above (one_back v u (alike i (suc j) v u (omega (arith, hi, hj, last)) hv hu))
      ])
      (λ under. elim (cases_lt 0 i) [
        | inl later ↦ never_both v w under (rises 0 i w v later hi hw hv)
        | inr first ↦ never_one v w under (alike i 0 v w (omega (arith, first)) hv hw)
      ])
      ((below_around u v w down).0 inside)

  -- from a place, the heading behind it is within the turn to any other
  pub first_inside : (i j : ℕ) (u w v : Direction) → i < length round → suc j < length round → (i ≡ suc j → ⊥) → Heads chains (slice_index round j) u → Heads chains (slice_index round (suc j)) w → Heads chains (slice_index round i) v → IsWithin u v w
  first_inside i j u w v hi hj ne hu hw hv =
      let up : IsBelow u w = rises j (suc j) u w (omega arith) hj hu hw in
      elim (cases_lt i j) [
        | inl earlier ↦ (below_around u w v (rises i j v u earlier (omega (arith, hj)) hv hu)).1 (inl up)
        | inr later ↦ elim (cases_lt j i) [
          | inr not ↦ full (one_back v u (alike i j v u (omega (arith, later, not)) hv hu)) (never_one u w up)
          | inl behind ↦ elim (cases_lt (suc j) i) [
            | inl far ↦ (below_between u w v (rises j i u v behind hi hu hv)).1 (up, rises (suc j) i w v far hi hw hv)
            | inr near ↦ absurd (ne (omega (arith, behind, near)))
          ]
        ]
      ]

  pub first_around : (i j : ℕ) (u w v : Direction) → i < length round → suc j ≡ length round → (i ≡ 0 → ⊥) → Heads chains (slice_index round j) u → Heads chains (slice_index round 0) w → Heads chains (slice_index round i) v → IsWithin u v w
  first_around i j u w v hi hj ne hu hw hv =
      let low : 0 < i = elim (cases_lt 0 i) [ inl l ↦ l | inr n ↦ absurd (ne (omega (arith, n))) ] in
      let under : IsBelow w v = rises 0 i w v low hi hw hv in
      elim (cases_lt i j) [
        | inl earlier ↦ (below_around u w v (rises i j v u earlier (omega (arith, hj)) hv hu)).1 (inr under)
        | inr last ↦
            let same : i ≡ j = omega (arith, hi, hj, last) in
            full (one_back v u (alike i j v u same hv hu)) (λ one. never_one w u (rises 0 j w u (omega (arith, same, low)) (omega (arith, hj)) hw hu) (one_back u w one))
      ]

-- ---- all rounds

-- what is known of rounds in which no dart is missing
pub record HoldAll (chains : List MapChain) (rounds : List (List ℕ)) : Type 0 where
  pub hold : HoldOnce (dart_count chains) rounds
  pub one_node : EachList (HasOneNode chains) rounds
  pub rising : EachList (AreHeadingsRising chains) rounds
  pub headed : EachList (AreHeaded chains) rounds
  pub apart : (r s : ℕ) (node : Point) → r < s → s < length rounds → round_start chains (list_at rounds r) ≡ Some node → round_start chains (list_at rounds s) ≢ Some node

module _ (chains : List MapChain) (rounds : List (List ℕ)) (whole : HoldAll chains rounds) where
  -- each dart stands in a round
  pub found : (d : ℕ) → d < dart_count chains → IsIn rounds d
  found d h = list_of d rounds (omega (arith, whole.hold.once d h))

  -- darts of one node stand in one round
  one_round : (r s : ℕ) (node : Point) → r < length rounds → s < length rounds → round_start chains (list_at rounds r) ≡ Some node → round_start chains (list_at rounds s) ≡ Some node → s ≡ r
  one_round r s node hr hs er es = elim (cases_lt r s) [
    | inl less ↦ absurd (whole.apart r s node less hs er es)
    | inr not ↦ elim (cases_lt s r) [
      | inl more ↦ absurd (whole.apart s r node more hr es er)
      | inr same ↦ omega (arith, not, same)
    ]
  ]

  starts_at : (r k : ℕ) (node : Point) → r < length rounds → k < length (list_at rounds r) → dart_start chains (slice_index (list_at rounds r) k) ≡ Some node → round_start chains (list_at rounds r) ≡ Some node
  starts_at r k node hr hk e = sym (whole.one_node r hr k hk) ∙ e

  -- a dart that starts where another does stands in the same round
  pub record IsBeside (r c : ℕ) : Type 0 where
    pub place : ℕ
    pub within : place < length (list_at rounds r)
    pub at_place : slice_index (list_at rounds r) place ≡ c

  beside : (r k : ℕ) (node : Point) (c : ℕ) → r < length rounds → k < length (list_at rounds r) → dart_start chains (slice_index (list_at rounds r) k) ≡ Some node → dart_start chains c ≡ Some node → IsBeside r c
  beside r k node c hr hk e f =
      let t : IsIn rounds c = found c (dart_within chains c node f) in
      let g : dart_start chains (slice_index (list_at rounds t.list) t.place) ≡ Some node = ap (dart_start chains) t.at ∙ f in
      let same : t.list ≡ r = one_round r t.list node hr t.within (starts_at r k node hr hk e) (starts_at t.list t.place node t.within t.place_within g) in
      subst (λ s. IsBeside s c) same (record { place = t.place; within = t.place_within; at_place = t.at })

  -- the place behind a place, and what is true of it
  pub record IsBehind (r j : ℕ) : Type 0 where
    pub place : ℕ
    pub within : place < length (list_at rounds r)
    pub at_place : before (list_at rounds r) place ≡ slice_index (list_at rounds r) j
    pub is : ((place ≡ suc j) × (suc j < length (list_at rounds r))) ⊎ ((place ≡ 0) × (suc j ≡ length (list_at rounds r)))

  behind : (r j : ℕ) → r < length rounds → j < length (list_at rounds r) → IsBehind r j
  behind r j hr hj = elim (cases_lt (suc j) (length (list_at rounds r))) [
    | inl more ↦ record { place = suc j; within = more; at_place = refl; is = inl (refl, more) }
    | inr last ↦
        let same : suc j ≡ length (list_at rounds r) = omega (arith, hj, last) in
        let e : length (list_at rounds r) - 1 ≡ j = omega (arith, same) in
        record {
          place = 0;
          within = omega (arith, hj);
          at_place = ap (slice_index (list_at rounds r)) e;
          is = inr (refl, same);
        }
  ]

  none_at : (r j i : ℕ) (b : IsBehind r j) (u w v : Direction) → r < length rounds → i < length (list_at rounds r) → Heads chains (slice_index (list_at rounds r) j) u → Heads chains (slice_index (list_at rounds r) b.place) w → Heads chains (slice_index (list_at rounds r) i) v → ¬ IsWithin u w v
  none_at r j i b u w v hr hi hu hw hv =
      let round = list_at rounds r in
      let move : (k : ℕ) → b.place ≡ k → Heads chains (slice_index round k) w = λ k e. subst (λ m. Heads chains (slice_index round m) w) e hw in
      ⊎_elim
      (λ more. none_inside chains round (whole.rising r hr) i j u w v hi more.1 hu (move (suc j) more.0) hv)
      (λ last. none_around chains round (whole.rising r hr) i j u w v hi last.1 hu (move 0 last.0) hv)
      b.is

  within_at : (r j i : ℕ) (b : IsBehind r j) (u w v : Direction) → r < length rounds → i < length (list_at rounds r) → (i ≡ b.place → ⊥) → Heads chains (slice_index (list_at rounds r) j) u → Heads chains (slice_index (list_at rounds r) b.place) w → Heads chains (slice_index (list_at rounds r) i) v → IsWithin u v w
  within_at r j i b u w v hr hi ne hu hw hv =
      let round = list_at rounds r in
      let move : (k : ℕ) → b.place ≡ k → Heads chains (slice_index round k) w = λ k e. subst (λ m. Heads chains (slice_index round m) w) e hw in
      ⊎_elim
      (λ more. first_inside chains round (whole.rising r hr) i j u w v hi more.1 (λ e. ne (e ∙ sym more.0)) hu (move (suc j) more.0) hv)
      (λ last. first_around chains round (whole.rising r hr) i j u w v hi last.1 (λ e. ne (e ∙ sym last.0)) hu (move 0 last.0) hv)
      b.is

  -- the dart at the place behind a place is next after the one there
  next_at : (r j : ℕ) (b : IsBehind r j) → r < length rounds → j < length (list_at rounds r) → IsNext chains (slice_index (list_at rounds r) j) (slice_index (list_at rounds r) b.place)
  next_at r j b hr hj =
      let round = list_at rounds r in
      let u = whole.headed r hr j hj in
      let w = whole.headed r hr b.place b.within in
      let d_starts : dart_start chains (slice_index round j) ≡ Some u.1.first = u.1.starts in
      let e_starts : dart_start chains (slice_index round b.place) ≡ Some u.1.first = whole.one_node r hr b.place b.within ∙ sym (whole.one_node r hr j hj) ∙ d_starts in
      record {
        node = u.1.first;
        a_starts = d_starts;
        b_starts = e_starts;
        from = u.0;
        to = w.0;
        a_heads = u.1;
        b_heads = w.1;
        none_between = λ c heading c_starts c_heads.
            let at_c : IsBeside r c = beside r j u.1.first c hr hj d_starts c_starts in
            none_at r j at_c.place b u.0 w.0 heading hr at_c.within u.1 w.1 (subst (λ x. Heads chains x heading) (sym at_c.at_place) c_heads);
      }

  only_at : (r j e : ℕ) (b : IsBehind r j) → r < length rounds → j < length (list_at rounds r) → IsNext chains (slice_index (list_at rounds r) j) e → slice_index (list_at rounds r) b.place ≡ e
  only_at r j e b hr hj n =
      let round = list_at rounds r in
      let w = whole.headed r hr b.place b.within in
      let w_starts : dart_start chains (slice_index round b.place) ≡ Some n.node = whole.one_node r hr b.place b.within ∙ sym (whole.one_node r hr j hj) ∙ n.a_starts in
      let at_e : IsBeside r e = beside r j n.node e hr hj n.a_starts n.b_starts in
      let e_heads : Heads chains (slice_index round at_e.place) n.to = subst (λ x. Heads chains x n.to) (sym at_e.at_place) n.b_heads in
      let not : (at_e.place ≡ b.place → ⊥) → ⊥ = λ ne. n.none_between (slice_index round b.place) w.0 w_starts w.1 (within_at r j at_e.place b n.from w.0 n.to hr at_e.within ne n.a_heads w.1 e_heads) in
      let same : at_e.place ≡ b.place = elim (cases_lt at_e.place b.place) [
        | inl less ↦ absurd (not (λ e. omega (arith, less, e)))
        | inr ge ↦ elim (cases_lt b.place at_e.place) [
          | inl more ↦ absurd (not (λ e. omega (arith, more, e)))
          | inr le ↦ omega (arith, ge, le)
        ]
      ] in
      ap (λ k. slice_index round k) (sym same) ∙ at_e.at_place

  -- in a round each dart is next after the one before it, and the first after the last
  pub next_is_behind : (r k : ℕ) → r < length rounds → k < length (list_at rounds r) → IsNext chains (before (list_at rounds r) k) (slice_index (list_at rounds r) k)
  next_is_behind r zero hr h =
      let round = list_at rounds r in
      let j = length round - 1 in
      let last : suc j ≡ length round = omega (arith, h) in
      next_at r j (record { place = 0; within = h; at_place = refl; is = inr (refl, last) }) hr (omega (arith, last))
  next_is_behind r (suc k) hr h =
      next_at r k (record { place = suc k; within = h; at_place = refl; is = inl (refl, h) }) hr (omega (arith, h))

-- ---- the next dart of each, as it is kept

-- each dart has the next one of its round behind it
pub record AreWhole (chains : List MapChain) (rounds : List (List ℕ)) (next : List ℕ) : Type 0 where
  pub all : HoldAll chains rounds
  pub linked : EachList (AreLinked next) rounds

module _ (chains : List MapChain) (rounds : List (List ℕ)) (next : List ℕ) (whole : AreWhole chains rounds next) where
  linked_at : (r j : ℕ) (b : IsBehind chains rounds whole.all r j) → r < length rounds → slice_index next (slice_index (list_at rounds r) j) ≡ slice_index (list_at rounds r) b.place
  linked_at r j b hr = ap (slice_index next) (sym b.at_place) ∙ whole.linked r hr b.place b.within

  -- the dart that is kept behind another is next after it
  pub is_next : (d : ℕ) → d < dart_count chains → IsNext chains d (slice_index next d)
  is_next d h =
      let t : IsIn rounds d = found chains rounds whole.all d h in
      let b = behind chains rounds whole.all t.list t.place t.within t.place_within in
      let there = next_at chains rounds whole.all t.list t.place b t.within t.place_within in
      subst (λ x. IsNext chains x (slice_index next x)) t.at (rw (linked_at t.list t.place b t.within) there)

  -- and no other is
  pub no_other : (d e : ℕ) → IsNext chains d e → slice_index next d ≡ e
  no_other d e n =
      let t : IsIn rounds d = found chains rounds whole.all d (dart_within chains d n.node n.a_starts) in
      let b = behind chains rounds whole.all t.list t.place t.within t.place_within in
      subst (λ x. slice_index next x ≡ e) t.at
      (linked_at t.list t.place b t.within ∙ only_at chains rounds whole.all t.list t.place e b t.within t.place_within (subst (λ x. IsNext chains x e) (sym t.at) n))
