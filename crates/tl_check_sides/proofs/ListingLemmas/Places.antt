-- Places of darts that are sorted about their nodes.
use Rattle.std.proofs.Common.{◌≡◌, inl, inr, ℕ, ◌<◌, ◌≤◌, Some, List, length, get_or, sym, ap, subst, ◌∙◌, arith}
use Rattle.std.proofs.lemmas.Bool.{cases_lt, cases_eq}
use Rattle.std.proofs.lemmas.List.{get_or_default}
use Rattle.tl_geom.specs.declared.point.Point.{Point}
use Rattle.tl_geom.specs.declared.direction.Direction.{Direction}
use Rattle.tl_geom.specs.Turning.{IsBelow, IsOneDirection}
use Rattle.tl_geom.proofs.Order.{one_back}
use Rattle.tl_geom.proofs.Within.{alike_below}
use Rattle.tl_map_county.specs.TheMap.{MapChain}
use Rattle.tl_map_county.specs.Darts.{dart_start, Heads}
use Rattle.tl_map_county.proofs.NodeLemmas.{one_number}
use Rattle.tl_check_sides.proofs.Headings.{dart_within, heads_alike, never_both}
use Rattle.tl_check_sides.proofs.Turns.{order, joined}
use Rattle.tl_check_sides.specs.declared.headed.HeadedDart.{HeadedDart}
use Rattle.tl_check_sides.specs.Headed.{AreSorted, IsHeaded, HeadTogether}
use Rattle.tl_check_sides.specs.Listing.Keeping.Around.{nowhere, headed_at, AreAround}

-- what is read at a place
pub at_place : (darts : List HeadedDart) (k : ℕ) (s : HeadedDart) → k < length darts → s ≡ get_or darts k s → s ≡ headed_at darts k
at_place darts k s lt is = is ∙ get_or_default darts k s nowhere lt

pub one_itself : (u : Direction) → IsOneDirection u u
one_itself u = elim (order u u) [
  | inl below ↦ absurd (never_both u u below below)
  | inr (inl one) ↦ one
  | inr (inr below) ↦ absurd (never_both u u below below)
]

pub group_itself : (s : HeadedDart) → HeadTogether s s
group_itself s = record { node = λ i. s.node; one = one_itself s.heading }

pub group_back : (s t : HeadedDart) → HeadTogether s t → HeadTogether t s
group_back s t g = record { node = sym g.node; one = one_back s.heading t.heading g.one }

pub group_joined : (s t u : HeadedDart) → HeadTogether s t → HeadTogether t u → HeadTogether s u
group_joined s t u g h = record { node = g.node ∙ h.node; one = joined s.heading t.heading u.heading g.one h.one }

module _ (darts : List HeadedDart) (sorted : AreSorted darts) where
  pub nodes_rise : (i j : ℕ) → i ≤ j → j < length darts → (headed_at darts i).node ≤ (headed_at darts j).node
  nodes_rise i j le within = elim (cases_eq i j) [
    | inl same ↦ rw same (omega arith)
    | inr other ↦ elim (cases_lt (headed_at darts j).node (headed_at darts i).node) [
      | inl fall ↦ absurd (sorted i j nowhere (omega (arith, le, other)) within (inl fall))
      | inr fine ↦ fine
    ]
  ]

  -- about one node no later one heads before an earlier one
  pub none_falls : (i j : ℕ) → i ≤ j → j < length darts → (headed_at darts i).node ≡ (headed_at darts j).node → ¬ IsBelow (headed_at darts j).heading (headed_at darts i).heading
  none_falls i j le within same below = elim (cases_eq i j) [
    | inl here ↦
        let self : IsBelow (headed_at darts j).heading (headed_at darts j).heading = subst (λ k. IsBelow (headed_at darts j).heading (headed_at darts k).heading) here below in
        never_both (headed_at darts j).heading (headed_at darts j).heading self self
    | inr other ↦ sorted i j nowhere (omega (arith, le, other)) within (inr (sym same, inl below))
  ]

  -- what stands between two of a group is of it
  pub group_between : (i j k : ℕ) → i ≤ j → j ≤ k → k < length darts → HeadTogether (headed_at darts i) (headed_at darts k) → HeadTogether (headed_at darts i) (headed_at darts j)
  group_between i j k low high within g =
      let up = nodes_rise i j low (omega (arith, high, within)) in
      let on = nodes_rise j k high within in
      let ends = g.node in
      let node : (headed_at darts i).node ≡ (headed_at darts j).node = omega (arith, up, on, ends) in
      record {
        node = node;
        one = elim (order (headed_at darts i).heading (headed_at darts j).heading) [
          | inl below ↦ absurd (none_falls j k high within (sym node ∙ g.node)
              (alike_below (headed_at darts k).heading (headed_at darts i).heading (headed_at darts j).heading (one_back (headed_at darts i).heading (headed_at darts k).heading g.one) below))
          | inr (inl one) ↦ one
          | inr (inr fall) ↦ absurd (none_falls i j low (omega (arith, high, within)) node fall)
        ];
      }

-- a dart that starts where that of a place does has a place about the same node
pub record IsBeside (chains : List MapChain) (darts : List HeadedDart) (p d : ℕ) (heading : Direction) : Type 0 where
  pub place : ℕ
  pub within : place < length darts
  pub is : (headed_at darts place).dart ≡ d
  pub node : (headed_at darts place).node ≡ (headed_at darts p).node
  pub heads : IsOneDirection heading (headed_at darts place).heading

module _ (chains : List MapChain) (darts : List HeadedDart) (around : AreAround chains darts) where
  pub headed : (k : ℕ) → k < length darts → IsHeaded chains around.nodes (headed_at darts k)
  headed k lt = around.each k nowhere lt

  pub beside : (p d : ℕ) (node : Point) (heading : Direction) → p < length darts → dart_start chains (headed_at darts p).dart ≡ Some node → dart_start chains d ≡ Some node → Heads chains d heading → IsBeside chains darts p d heading
  beside p d node heading within at starts heads =
      let place = around.all d (dart_within chains d node starts) in
      let here = headed place.place place.within in
      let there = headed p within in
      record {
        place = place.place;
        within = place.within;
        is = place.is;
        node = (one_number (dart_start chains) around.nodes (headed_at darts place.place).dart (headed_at darts p).dart (headed_at darts place.place).node (headed_at darts p).node around.are here.within here.starts there.starts).1
            (ap (dart_start chains) place.is ∙ starts ∙ sym at);
        heads = heads_alike chains d heading (headed_at darts place.place).heading heads (subst (λ e. Heads chains e (headed_at darts place.place).heading) place.is here.heads);
      }

  -- two places about one node start at one point
  pub one_start : (p q : ℕ) → p < length darts → q < length darts → (headed_at darts q).node ≡ (headed_at darts p).node → dart_start chains (headed_at darts q).dart ≡ dart_start chains (headed_at darts p).dart
  one_start p q at_p at_q same =
      let here = headed q at_q in
      let there = headed p at_p in
      (one_number (dart_start chains) around.nodes (headed_at darts q).dart (headed_at darts p).dart (headed_at darts q).node (headed_at darts p).node around.are here.within here.starts there.starts).0 same
