-- The darts that are next after one are those of the next group.
use Rattle.std.proofs.Common.{◌≡◌, ◌⊎◌, inl, inr, ℕ, ◌<◌, ◌≤◌, List, length, sym, ◌∙◌, arith}
use Rattle.std.proofs.lemmas.Bool.{cases_lt}
use Rattle.tl_geom.specs.declared.direction.Direction.{Direction}
use Rattle.tl_geom.specs.Turning.{IsBelow, IsOneDirection, IsWithin, full}
use Rattle.tl_geom.proofs.Order.{one_back}
use Rattle.tl_geom.proofs.Within.{below_trans, below_between, below_around, alike_below, alike_above}
use Rattle.tl_map_county.specs.TheMap.{MapChain}
use Rattle.tl_check_sides.specs.Sides.{IsNext}
use Rattle.tl_check_sides.proofs.Headings.{never_one, nothing_within, heads_alike}
use Rattle.tl_check_sides.proofs.Turns.{order, joined}
use Rattle.tl_check_sides.specs.declared.headed.HeadedDart.{HeadedDart}
use Rattle.tl_check_sides.specs.Headed.{HeadTogether}
use Rattle.tl_check_sides.specs.Listing.Keeping.Around.{headed_at, AreAround}
use Rattle.tl_check_sides.specs.Listing.Keeping.Grouped.{IsBehind, IsAround, IsNextPlace}
use Rattle.tl_check_sides.proofs.ListingLemmas.Places.{none_falls, group_between, group_back, group_joined, beside, one_start, headed}

module _ (chains : List MapChain) (darts : List HeadedDart) (around : AreAround chains darts) (p f : ℕ) (at_p : p < length darts) (next : IsNextPlace darts p f) where
  abbrev way : ℕ → Direction
  way k = (headed_at darts k).heading

  abbrev node : ℕ → ℕ
  node k = (headed_at darts k).node

  -- about the node of the place no later one heads before an earlier one
  falls : (i j : ℕ) → i ≤ j → j < length darts → node i ≡ node p → node j ≡ node p → ¬ IsBelow (way j) (way i)
  falls i j le within at_i at_j = none_falls darts around.sorted i j le within (at_i ∙ sym at_j)

  -- where the next group lies behind, it heads later
  heads_on : IsBehind darts p f → IsBelow (way p) (way f)
  heads_on b = elim (order (way p) (way f)) [
    | inl below ↦ below
    | inr (inl one) ↦ absurd (b.other (record { node = sym next.node; one = one }))
    | inr (inr fall) ↦ absurd (falls p f (let lt = b.behind in omega (arith, lt)) next.within (λ i. node p) next.node fall)
  ]

  -- and nothing about the node lies between
  none_behind : IsBehind darts p f → (k : ℕ) → k < length darts → node k ≡ node p → IsBelow (way p) (way k) → ¬ IsBelow (way k) (way f)
  none_behind b k within at_k low high = elim (cases_lt k f) [
    | inr past ↦ falls f k past within next.node at_k high
    | inl before ↦ elim (cases_lt k p) [
      | inl earlier ↦ falls k p (omega (arith, earlier)) at_p at_k (λ i. node p) low
      | inr later ↦ never_one (way p) (way k) low (b.between k later before).one
    ]
  ]

  -- where it is the node's first, nothing heads before it
  none_first : IsAround darts p f → (k : ℕ) → k < length darts → node k ≡ node p → ¬ IsBelow (way k) (way f)
  none_first a k within at_k high = elim (cases_lt k f) [
    | inl before ↦ a.first k before at_k
    | inr past ↦ falls f k past within next.node at_k high
  ]

  -- nor after the group of the place
  none_last : IsAround darts p f → (k : ℕ) → k < length darts → node k ≡ node p → ¬ IsBelow (way p) (way k)
  none_last a k within at_k low = elim (cases_lt k p) [
    | inl before ↦ falls k p (omega (arith, before)) at_p at_k (λ i. node p) low
    | inr later ↦ never_one (way p) (way k) low (a.last k later within at_k).one
  ]

  module _ (q : ℕ) (at_q : q < length darts) where
    -- a dart of the next group is next
    none_within : (v : Direction) (k : ℕ) → k < length darts → node k ≡ node p → IsOneDirection v (way k) → HeadTogether (headed_at darts f) (headed_at darts q) → ¬ IsWithin (way p) (way q) v
    none_within v k within at_k alike g inside = elim next.how [
      | inl b ↦
          let up = heads_on b in
          let far : IsBelow (way p) (way q) = alike_above (way q) (way f) (way p) (one_back (way f) (way q) g.one) up in
          let both = (below_between (way p) v (way q) far).0 inside in
          none_behind b k within at_k (alike_above (way k) v (way p) (one_back v (way k) alike) both.0)
          (alike_above (way f) (way q) (way k) g.one (alike_below (way k) v (way q) (one_back v (way k) alike) both.1))
      | inr a ↦ elim (order (way f) (way p)) [
        | inl below ↦
            let far : IsBelow (way q) (way p) = alike_below (way q) (way f) (way p) (one_back (way f) (way q) g.one) below in
            elim ((below_around (way p) v (way q) far).0 inside) [
              | inl after ↦ none_last a k within at_k (alike_above (way k) v (way p) (one_back v (way k) alike) after)
              | inr before ↦ none_first a k within at_k (alike_above (way f) (way q) (way k) g.one (alike_below (way k) v (way q) (one_back v (way k) alike) before))
            ]
        | inr (inl one) ↦
            let to_q : IsOneDirection (way p) (way q) = joined (way p) (way f) (way q) (one_back (way f) (way p) one) g.one in
            let to_k : IsOneDirection (way p) (way k) = elim (order (way p) (way k)) [
              | inl low ↦ absurd (none_last a k within at_k low)
              | inr (inl same) ↦ same
              | inr (inr high) ↦ absurd (none_first a k within at_k (alike_above (way f) (way p) (way k) one high))
            ] in
            nothing_within (way p) (way q) v to_q (joined (way p) (way k) v to_k (one_back v (way k) alike)) inside
        | inr (inr above) ↦ none_last a f next.within next.node above
      ]
    ]

    pub is_next : HeadTogether (headed_at darts f) (headed_at darts q) → IsNext chains (headed_at darts p).dart (headed_at darts q).dart
    is_next g =
        let here = headed chains darts around p at_p in
        let there = headed chains darts around q at_q in
        let start = here.heads.starts in
        let at : node q ≡ node p = sym g.node ∙ next.node in
        record {
          node = here.heads.first;
          a_starts = start;
          b_starts = one_start chains darts around p q at_p at_q at ∙ start;
          from = way p;
          to = way q;
          a_heads = here.heads;
          b_heads = there.heads;
          none_between = λ c heading starts heads.
              let b = beside chains darts around p c here.heads.first heading at_p start starts heads in
              none_within heading b.place b.within b.node b.heads g;
        }

    -- and no other one is
    module _ (at : node q ≡ node p) (from to : Direction) (from_is : IsOneDirection from (way p)) (to_is : IsOneDirection to (way q)) (none : ¬ IsWithin from to (way f)) where
      -- it would be the full turn
      full_turn : IsOneDirection (way q) (way p) → (¬ IsOneDirection (way p) (way f)) → ⊥
      full_turn same other =
          none (full (joined from (way p) to from_is (joined (way p) (way q) to (one_back (way q) (way p) same) (one_back to (way q) to_is)))
          (λ one. other (joined (way p) from (way f) (one_back from (way p) from_is) one)))

      -- or a turn past east
      around_turn : IsBelow (way q) (way p) → IsBelow (way p) (way f) ⊎ IsBelow (way f) (way q) → ⊥
      around_turn down some =
          let far : IsBelow to from = alike_below to (way q) from to_is (alike_above from (way p) (way q) from_is down) in
          none ((below_around from (way f) to far).1 (elim some [
            | inl low ↦ inl (alike_below from (way p) (way f) from_is low)
            | inr high ↦ inr (alike_above to (way q) (way f) to_is high)
          ]))

      one_way : IsOneDirection (way f) (way q)
      one_way = elim (order (way f) (way q)) [
        | inr (inl one) ↦ one
        | inr (inr before) ↦ elim next.how [
          | inr a ↦ absurd (none_first a q at_q at before)
          | inl b ↦ elim (order (way p) (way q)) [
            | inl low ↦ absurd (none_behind b q at_q at low before)
            | inr (inl same) ↦ absurd (full_turn (one_back (way p) (way q) same) (never_one (way p) (way f) (heads_on b)))
            | inr (inr down) ↦ absurd (around_turn down (inl (heads_on b)))
          ]
        ]
        | inl after ↦ elim next.how [
          | inl b ↦
              let low = heads_on b in
              let far : IsBelow from to = alike_below from (way p) to from_is (alike_above to (way q) (way p) to_is (below_trans (way p) (way f) (way q) low after)) in
              absurd (none ((below_between from (way f) to far).1 (alike_below from (way p) (way f) from_is low, alike_above to (way q) (way f) to_is after)))
          | inr a ↦ elim (order (way q) (way p)) [
            | inl down ↦ absurd (around_turn down (inr after))
            | inr (inl same) ↦ absurd (full_turn same (λ one. never_one (way f) (way q) after (one_back (way q) (way f) (joined (way q) (way p) (way f) same one))))
            | inr (inr low) ↦ absurd (none_last a q at_q at low)
          ]
        ]
      ]

  -- a next dart has a place in the next group
  pub record IsInGroup (b : ℕ) : Type 0 where
    pub place : ℕ
    pub within : place < length darts
    pub is : (headed_at darts place).dart ≡ b
    pub one : HeadTogether (headed_at darts f) (headed_at darts place)

  pub in_group : (b : ℕ) → IsNext chains (headed_at darts p).dart b → IsInGroup b
  in_group b n =
      let here = headed chains darts around p at_p in
      let first = headed chains darts around f next.within in
      let s = beside chains darts around p b n.node n.to at_p n.a_starts n.b_starts n.b_heads in
      let from_is : IsOneDirection n.from (way p) = heads_alike chains (headed_at darts p).dart n.from (way p) n.a_heads here.heads in
      let none : ¬ IsWithin n.from n.to (way f) = n.none_between (headed_at darts f).dart (way f) (one_start chains darts around p f at_p next.within next.node ∙ n.a_starts) first.heads in
      record {
        place = s.place;
        within = s.within;
        is = s.is;
        one = record { node = next.node ∙ sym s.node; one = one_way s.place s.within s.node n.from n.to from_is s.heads none };
      }

  -- the next group begins at its place
  pub not_earlier : (q : ℕ) → q < f → ¬ HeadTogether (headed_at darts f) (headed_at darts q)
  not_earlier q lt g = elim next.how [
    | inr a ↦ a.first q lt (sym g.node ∙ next.node)
    | inl b ↦ elim (cases_lt q p) [
      | inl earlier ↦
          let down = b.behind in
          let back = group_back (headed_at darts f) (headed_at darts q) g in
          let whole = group_between darts around.sorted q p f (omega (arith, earlier)) (omega (arith, down)) next.within back in
          b.other (group_joined (headed_at darts p) (headed_at darts q) (headed_at darts f) (group_back (headed_at darts q) (headed_at darts p) whole) back)
      | inr later ↦ b.other (group_joined (headed_at darts p) (headed_at darts q) (headed_at darts f) (b.between q later lt) (group_back (headed_at darts f) (headed_at darts q) g))
    ]
  ]
