-- Where there is no pair to tell, cells agree.
use Rattle.std.proofs.Common.{◌≡◌, ◌⊎◌, inl, inr, ℕ, zero, suc, ◌<◌, Option, Some, None, List, refl, sym, ap, ◌∙◌, arith}
use Rattle.std.proofs.lemmas.Bool.{cases_lt, cases_eq}
use Rattle.tl_map_county.specs.TheMap.{MapChain}
use Rattle.tl_map_county.specs.Darts.{dart_start, dart_cell}
use Rattle.tl_check_sides.specs.Cells.Cells.{HasCell, HaveOneStart, CellsAgree, AreCellsAtOdds}
use Rattle.tl_check_sides.proofs.CellsLemmas.Cells.{one_id}
use Rattle.tl_check_planar.proofs.ListingLemmas.Deciding.{Decided, same_point, same_option}
use Rattle.tl_check_sides.specs.Listing.CellOdds.{IsFirstWithId, IsFirstAtStart, IsFirstOfBoth, AreToldAtOdds}

one_start : (chains : List MapChain) (a b : ℕ) → Decided (HaveOneStart chains a b)
one_start chains a b = same_option same_point (dart_start chains a) (dart_start chains b)

-- the dart has some id, or none
some_cell : (chains : List MapChain) (d : ℕ) → Decided ((id : ℕ) × HasCell chains d id)
some_cell chains d = go (dart_cell chains d) refl
  where
    go : (c : Option (Option ℕ)) → dart_cell chains d ≡ c → Decided ((id : ℕ) × HasCell chains d id)
    go None e = inr (λ h. let f : None ≡ Some (Some h.0) = sym e ∙ h.1 in absurd cc)
    go (Some None) e = inr (λ h. let f : Some None ≡ Some (Some h.0) = sym e ∙ h.1 in absurd cc)
    go (Some (Some id)) e = inl (id, e)

has_cell : (chains : List MapChain) (d id : ℕ) → Decided (HasCell chains d id)
has_cell chains d id = elim (some_cell chains d) [
  | inr none ↦ inr (λ h. none (id, h))
  | inl some ↦ elim (cases_eq some.0 id) [
    | inl same ↦ inl (rw same at some.1)
    | inr other ↦ inr (λ h. other (let e : Some (Some some.0) ≡ Some (Some id) = sym some.1 ∙ h in cc))
  ]
]

-- the least number of which it holds
record IsLeast (P : ℕ → Type 0) : Type 0 where
  least : ℕ
  holds : P least
  none : (e : ℕ) → e < least → ¬ P e

below : (P : ℕ → Type 0) (decide : (n : ℕ) → Decided (P n)) (n : ℕ) → ((e : ℕ) → e < n → ¬ P e) ⊎ IsLeast P
below P decide zero = inl (λ e lt. absurd (omega (arith, lt)))
below P decide (suc n) = elim (below P decide n) [
  | inr found ↦ inr found
  | inl none ↦ elim (decide n) [
    | inl holds ↦ inr (record { least = n; holds = holds; none = none })
    | inr not ↦ inl (λ e lt h. elim (cases_lt e n) [
      | inl before ↦ none e before h
      | inr last ↦ let here : e ≡ n = omega (arith, lt, last) in not (rw here at h)
    ])
  ]
]

least_of : (P : ℕ → Type 0) (decide : (n : ℕ) → Decided (P n)) (n : ℕ) → P n → IsLeast P
least_of P decide n h = elim (below P decide (suc n)) [
  | inl none ↦ absurd (none n (omega arith) h)
  | inr found ↦ found
]

module _ (chains : List MapChain) (none : (a b id_a id_b : ℕ) → ¬ AreToldAtOdds chains a b id_a id_b) where
  -- of the darts with one id that start at one point, the first
  record IsOfBoth (d id : ℕ) : Type 0 where
    dart : ℕ
    same : HaveOneStart chains dart d
    first : IsFirstOfBoth chains id dart

  of_both : (d id : ℕ) → HasCell chains d id → IsOfBoth d id
  of_both d id has =
      let l = least_of (λ e. HaveOneStart chains e d × HasCell chains e id) decide d (refl, has) in
      record { dart = l.least; same = l.holds.0; first = record { has = l.holds.1; first = λ e lt same has_e. l.none e lt (same ∙ l.holds.0, has_e) } }
    where
      decide : (e : ℕ) → Decided (HaveOneStart chains e d × HasCell chains e id)
      decide e = elim (one_start chains e d) [
        | inr apart ↦ inr (λ h. apart h.0)
        | inl same ↦ elim (has_cell chains e id) [ inr not ↦ inr (λ h. not h.1) | inl it ↦ inl (same, it) ]
      ]

  -- the first with the id starts where any with it does
  at_head : (d head id : ℕ) → HasCell chains d id → IsFirstWithId chains id head → HaveOneStart chains head d
  at_head d head id has is_head =
      let b = of_both d id has in
      elim (one_start chains head b.dart) [
        | inl same ↦ same ∙ b.same
        | inr apart ↦ absurd (none head b.dart id id (inl (record { head = is_head; other = b.first; same = refl; apart = apart })))
      ]

  -- the first at the start has the id of any there
  id_of_first : (d first id own : ℕ) → HasCell chains d id → IsFirstAtStart chains own first → HaveOneStart chains first d → own ≡ id
  id_of_first d first id own has is_first same =
      let b = of_both d id has in
      elim (cases_eq own id) [
        | inl one ↦ one
        | inr other ↦ absurd (none first b.dart own id (inr (record { head = is_first; other = b.first; same = same ∙ sym b.same; apart = other })))
      ]

  pub agree : CellsAgree chains
  agree a b id_a id_b has_a has_b = (there, back)
    where
      there : id_a ≡ id_b → HaveOneStart chains a b
      there same =
          let l = least_of (λ e. HasCell chains e id_a) (λ e. has_cell chains e id_a) a has_a in
          let head : IsFirstWithId chains id_a l.least = record { has = l.holds; first = l.none } in
          sym (at_head a l.least id_a has_a head) ∙ at_head b l.least id_a (rw same has_b) head

      decide : (e : ℕ) → Decided (HaveOneStart chains e a × ((id : ℕ) × HasCell chains e id))
      decide e = elim (one_start chains e a) [
        | inr apart ↦ inr (λ h. apart h.0)
        | inl same ↦ elim (some_cell chains e) [ inr not ↦ inr (λ h. not h.1) | inl it ↦ inl (same, it) ]
      ]

      back : HaveOneStart chains a b → id_a ≡ id_b
      back same =
          let l = least_of (λ e. HaveOneStart chains e a × ((id : ℕ) × HasCell chains e id)) decide a (refl, (id_a, has_a)) in
          let own : ℕ = l.holds.1.0 in
          let first : IsFirstAtStart chains own l.least = record { has = l.holds.1.1; first = λ e other lt at has. l.none e lt (at ∙ l.holds.0, (other, has)) } in
          sym (id_of_first a l.least id_a own has_a first l.holds.0) ∙ id_of_first b l.least id_b own has_b first (l.holds.0 ∙ same)

-- a pair that is told is at odds
pub at_odds : (chains : List MapChain) (a b id_a id_b : ℕ) → AreToldAtOdds chains a b id_a id_b → AreCellsAtOdds chains a b id_a id_b
at_odds chains a b id_a id_b (inl k) = record {
  in_order = elim (cases_lt a b) [
    | inl lt ↦ lt
    | inr ge ↦ elim (cases_lt b a) [
      | inl gt ↦ absurd (k.head.first b gt (rw k.same k.other.has))
      | inr le ↦ absurd (k.apart (let same : a ≡ b = omega (arith, ge, le) in ap (dart_start chains) same))
    ]
  ];
  a_has = k.head.has;
  b_has = k.other.has;
  odd = inl (k.same, k.apart);
}
at_odds chains a b id_a id_b (inr k) = record {
  in_order = elim (cases_lt a b) [
    | inl lt ↦ lt
    | inr ge ↦ elim (cases_lt b a) [
      | inl gt ↦ absurd (k.head.first b id_b gt (sym k.same) k.other.has)
      | inr le ↦ absurd (k.apart (let same : a ≡ b = omega (arith, ge, le) in one_id chains b id_a id_b (rw same at k.head.has) k.other.has))
    ]
  ];
  a_has = k.head.has;
  b_has = k.other.has;
  odd = inr (k.same, k.apart);
}
