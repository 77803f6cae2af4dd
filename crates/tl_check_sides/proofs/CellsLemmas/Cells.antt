-- What is kept of darts and their ids, and what follows of all of them.
use Rattle.std.proofs.Common.{◌≡◌, ◌≢◌, ℕ, zero, suc, ◌+◌, ◌*◌, ◌/◌, ◌<◌, ◌≤◌, Bool, inl, inr, Option, Some, None, List, [], ◌∷◌, length, set, All, if◌then◌else◌, refl, sym, ap, ◌∙◌, arith, get_or-set_other, get_or-set_same}
use Rattle.std.specs.Prelude.{slice_get}
use Rattle.std.specs.List.{AllPairs}
use Rattle.std.specs.List.Sorted.{IsPermutation}
use Rattle.std.specs.Option.{option_map, unwrap_or}
use Rattle.std.proofs.lemmas.Bool.{cases_eq, cases_lt}
use Rattle.std.proofs.lemmas.List.{get_or_default, length-set}
use Rattle.std.proofs.lemmas.List.Sorted.{All-permutation, IsPermutation-sym}
use Rattle.tl_geom.specs.declared.point.Point.{Point}
use Rattle.tl_map_county.specs.TheMap.{MapChain}
use Rattle.tl_map_county.specs.Darts.{is_along, dart_start, dart_cell}
use Rattle.tl_map_county.proofs.NodeLemmas.{one_number}
use Rattle.tl_check_sides.specs.declared.cells.at_odds.CellsAtOdds.{CellsAtOdds}
use Rattle.tl_check_sides.specs.declared.cells.kept.NodeCell.{NodeCell}
use Rattle.tl_check_sides.specs.Cells.Cells.{HasCell, CellsAgree, AreCellsAtOdds}
use Rattle.tl_check_sides.specs.Cells.Keeping.Kept.{kept_at, IsKept, IsOfNode, KeepFirst, HaveTwoIds, AreRepeat, HasRepeat}
use Rattle.tl_check_sides.proofs.CellsLemmas.Places.{AnyTwo, from_pairs, moved}

-- a dart that has an id is one of the chains'
pub has_within : (chains : List MapChain) (d id : ℕ) → HasCell chains d id → d < 2 * length chains
has_within chains d id has = let h = go (is_along d) chains (d / 2) has in omega (arith, h)
  where
    go : (b : Bool) (cs : List MapChain) (i : ℕ) → option_map (λ (c : MapChain). if b then c.start_cell else c.end_cell) (slice_get cs i) ≡ Some (Some id) → i < length cs
    go b [] i at = absurd (let e : None ≡ Some (Some id) = at in cc)
    go b (c ∷ cs) zero at = omega arith
    go b (c ∷ cs) (suc i) at = let h = go b cs i at in omega (arith, h)

-- a dart has one id
pub one_id : (chains : List MapChain) (d id other : ℕ) → HasCell chains d id → HasCell chains d other → id ≡ other
one_id chains d id other has too = let e : Some (Some id) ≡ Some (Some other) = sym has ∙ too in cc

-- no dart of those so far has an id
abbrev pub HaveNoneBelow : List MapChain → ℕ → Type 0
HaveNoneBelow chains n = (d id : ℕ) → d < n → ¬ HasCell chains d id

-- a dart without an id changes nothing
pub keep_on : (chains : List MapChain) (n : ℕ) (kept : List (Option NodeCell)) → dart_cell chains n ≡ Some None → KeepFirst chains n kept → KeepFirst chains (n + 1) kept
keep_on chains n kept none before = record {
  nodes = before.nodes;
  are = before.are;
  long = before.long;
  of_node = λ place cell lt at.
      let o = before.of_node place cell lt at in
      record { below = omega (arith, o.below); has = o.has; starts = o.starts };
  each = λ d id lt has. elim (cases_lt d n) [
    | inl earlier ↦ before.each d id earlier has
    | inr last ↦
        let same : d ≡ n = omega arith in
        let e : Some None ≡ Some (Some id) = sym none ∙ ap (dart_cell chains) (sym same) ∙ has in
        absurd cc
  ];
}

-- dart n has an id and starts at the node of a place
pub record IsHere (chains : List MapChain) (nodes : List Point) (n id place : ℕ) : Type 0 where
  pub has : HasCell chains n id
  pub starts : slice_get nodes place ≡ dart_start chains n
  pub within : place < length nodes

-- the first dart at a place: the one that is kept there, or this one
abbrev pub first_at : List (Option NodeCell) → ℕ → ℕ → ℕ → NodeCell
first_at kept place id dart = unwrap_or (kept_at kept place) (record { id = id; dart = dart })

-- it has an id, below or at this one, and starts at this one's node
pub first_is : (chains : List MapChain) (n id place : ℕ) (kept : List (Option NodeCell)) (before : KeepFirst chains n kept) → IsHere chains before.nodes n id place → IsOfNode chains before.nodes (n + 1) place (first_at kept place id n)
first_is chains n id place kept before here = go (kept_at kept place) refl
  where
    go : (o : Option NodeCell) → kept_at kept place ≡ o → IsOfNode chains before.nodes (n + 1) place (unwrap_or o (record { id = id; dart = n }))
    go None is = record { below = omega arith; has = here.has; starts = here.starts }
    go (Some c) is =
        let o = before.of_node place c (omega (arith, before.long)) is in
        record { below = omega (arith, o.below); has = o.has; starts = o.starts }

-- a dart more, whose id is that of the first at its node
pub keep_more : (chains : List MapChain) (n id place : ℕ) (kept : List (Option NodeCell)) (before : KeepFirst chains n kept) → IsHere chains before.nodes n id place → (first_at kept place id n).id ≡ id → KeepFirst chains (n + 1) (set kept place (Some (first_at kept place id n)))
keep_more chains n id place kept before this same = record {
  nodes = before.nodes;
  are = before.are;
  long = length-set kept place (Some first) ∙ before.long;
  of_node = λ k cell lt at. elim (cases_eq k place) [
    | inl here ↦
        let e : Some first ≡ Some cell = sym (get_or-set_same kept place (Some first) None inside) ∙ ap (kept_at new) (sym here) ∙ at in
        let is : first ≡ cell = cc in
        rw (here, ← is) (first_is chains n id place kept before this)
    | inr there ↦
        let o = before.of_node k cell (omega (arith, lt, length-set kept place (Some first))) (sym (get_or-set_other kept place k (Some first) None there) ∙ at) in
        record { below = omega (arith, o.below); has = o.has; starts = o.starts }
  ];
  each = λ d other lt has_d. elim (cases_lt d n) [
    | inl earlier ↦
        let k = before.each d other earlier has_d in
        elim (cases_eq k.place place) [
          | inl here ↦
              let at : kept_at kept place ≡ Some k.cell = ap (kept_at kept) (sym here) ∙ k.is in
              let is : first ≡ k.cell = ap (λ (o : Option NodeCell). unwrap_or o (record { id = id; dart = n })) at in
              record {
                place = k.place;
                within = k.within;
                starts = k.starts;
                cell = first;
                is = ap (kept_at new) here ∙ get_or-set_same kept place (Some first) None inside;
                same = ap (λ (c : NodeCell). c.id) is ∙ k.same;
              }
          | inr there ↦ record {
            place = k.place;
            within = k.within;
            starts = k.starts;
            cell = k.cell;
            is = get_or-set_other kept place k.place (Some first) None there ∙ k.is;
            same = k.same;
          }
        ]
    | inr last ↦
        let now : d ≡ n = omega arith in
        record {
          place = place;
          within = this.within;
          starts = this.starts ∙ ap (dart_start chains) (sym now);
          cell = first;
          is = get_or-set_same kept place (Some first) None inside;
          same = same ∙ one_id chains n id other this.has (rw now at has_d);
        }
  ];
}
  where
    first : NodeCell
    first = first_at kept place id n

    new : List (Option NodeCell)
    new = set kept place (Some (first_at kept place id n))

    inside : place < length kept
    inside = omega (arith, before.long, this.within)

-- a dart whose id isn't that of the first at its node is at odds with that one
pub odd_here : (chains : List MapChain) (n id place : ℕ) (kept : List (Option NodeCell)) (before : KeepFirst chains n kept) → IsHere chains before.nodes n id place → (first_at kept place id n).id ≢ id → AreCellsAtOdds chains (first_at kept place id n).dart n (first_at kept place id n).id id
odd_here chains n id place kept before here other = go (kept_at kept place) refl other
  where
    go : (o : Option NodeCell) → kept_at kept place ≡ o → (unwrap_or o (record { id = id; dart = n })).id ≢ id → AreCellsAtOdds chains (unwrap_or o (record { id = id; dart = n })).dart n (unwrap_or o (record { id = id; dart = n })).id id
    go None is other = absurd (other refl)
    go (Some c) is other =
        let o = before.of_node place c (omega (arith, before.long)) is in
        record { in_order = o.below; a_has = o.has; b_has = here.has; odd = inr (sym o.starts ∙ here.starts, other) }

-- darts that are kept at two places start at two points
abbrev pub HaveTwoStarts : List MapChain → Option NodeCell → Option NodeCell → Type 0
HaveTwoStarts chains one other = (a b : NodeCell) → one ≡ Some a → other ≡ Some b → dart_start chains a.dart ≢ dart_start chains b.dart

two_starts : (chains : List MapChain) (n : ℕ) (kept : List (Option NodeCell)) → KeepFirst chains n kept → AnyTwo (HaveTwoStarts chains) kept
two_starts chains n kept keep i j d ne hi hj a b at_i at_j same =
    let one = keep.of_node i a hi (get_or_default kept i None d hi ∙ at_i) in
    let other = keep.of_node j b hj (get_or_default kept j None d hj ∙ at_j) in
    ne ((one_number (dart_start chains) keep.nodes a.dart b.dart i j keep.are (omega (arith, keep.long)) one.starts other.starts).1 same)

-- what is kept has its id
abbrev pub IsTrueCell : List MapChain → Option NodeCell → Type 0
IsTrueCell chains kept = (c : NodeCell) → kept ≡ Some c → HasCell chains c.dart c.id

true_cells : (chains : List MapChain) (n : ℕ) (kept : List (Option NodeCell)) → KeepFirst chains n kept → All (IsTrueCell chains) kept
true_cells chains n kept keep i d lt c at = (keep.of_node i c lt (get_or_default kept i None d lt ∙ at)).has

-- where what is kept has no id twice, in whatever order, cells agree
pub all_agree : (chains : List MapChain) (kept new : List (Option NodeCell)) → KeepFirst chains (2 * length chains) kept → IsPermutation kept new → AllPairs HaveTwoIds new → CellsAgree chains
all_agree chains kept new keep moves pairs a b id_a id_b has_a has_b = (there, back)
  where
    differ : AnyTwo HaveTwoIds kept
    differ = moved HaveTwoIds new kept (IsPermutation-sym kept new moves) (from_pairs HaveTwoIds (λ x y two c e at_x at_y same. two e c at_y at_x (sym same)) new pairs)

    one : IsKept chains keep.nodes kept a id_a
    one = keep.each a id_a (has_within chains a id_a has_a) has_a

    other : IsKept chains keep.nodes kept b id_b
    other = keep.each b id_b (has_within chains b id_b has_b) has_b

    there : id_a ≡ id_b → dart_start chains a ≡ dart_start chains b
    there same = elim (cases_eq one.place other.place) [
      | inl here ↦ sym one.starts ∙ ap (slice_get keep.nodes) here ∙ other.starts
      | inr apart ↦ absurd (differ one.place other.place None apart (omega (arith, keep.long, one.within)) (omega (arith, keep.long, other.within)) one.cell other.cell one.is other.is (one.same ∙ same ∙ sym other.same))
    ]

    back : dart_start chains a ≡ dart_start chains b → id_a ≡ id_b
    back same =
        let place : one.place ≡ other.place = (one_number (dart_start chains) keep.nodes a b one.place other.place keep.are one.within one.starts other.starts).1 same in
        let e : Some one.cell ≡ Some other.cell = sym one.is ∙ ap (kept_at kept) place ∙ other.is in
        let cell : one.cell ≡ other.cell = cc in
        sym one.same ∙ ap (λ (c : NodeCell). c.id) cell ∙ other.same

-- two darts with one id that start at two points are at odds, told in the order of the darts
told : (chains : List MapChain) (a b : NodeCell) (first second first_id second_id : ℕ) → HasCell chains a.dart a.id → HasCell chains b.dart b.id → a.id ≡ b.id → dart_start chains a.dart ≢ dart_start chains b.dart → first ≡ a.dart → second ≡ b.dart → first ≤ second → first_id ≡ a.id → second_id ≡ b.id → AreCellsAtOdds chains first second first_id second_id
told chains a b first second first_id second_id a_has b_has same differ first_is second_is order first_id_is second_id_is = record {
  in_order = elim (cases_eq first second) [
    | inl one ↦ absurd (differ (ap (dart_start chains) (sym first_is ∙ one ∙ second_is)))
    | inr two ↦ elim (cases_lt first second) [ inl lt ↦ lt | inr ge ↦ absurd (two (omega arith)) ]
  ];
  a_has = rw (first_is, first_id_is) a_has;
  b_has = rw (second_is, second_id_is) b_has;
  odd = inl (first_id_is ∙ same ∙ sym second_id_is, rw (first_is, second_is) differ);
}

-- two that are kept with one id are at odds
pub repeat_at_odds : (chains : List MapChain) (kept new : List (Option NodeCell)) (n : ℕ) (found : CellsAtOdds) → KeepFirst chains n kept → IsPermutation kept new → HasRepeat new found → AreCellsAtOdds chains found.first found.second found.first_id found.second_id
repeat_at_odds chains kept new n found keep moves repeat = elim are.darts [
  | inl darts ↦ told chains are.a are.b found.first found.second found.first_id found.second_id one other are.same differ darts.0 darts.1 are.in_order are.first_id (are.second_id ∙ are.same)
  | inr darts ↦ told chains are.b are.a found.first found.second found.first_id found.second_id other one (sym are.same) (λ same. differ (sym same)) darts.0 darts.1 are.in_order (are.first_id ∙ are.same) are.second_id
]
  where
    are : AreRepeat (kept_at new repeat.place) (kept_at new repeat.other) found
    are = repeat.are

    low : repeat.place < length new
    low = omega (arith, repeat.before, repeat.within)

    cells : All (IsTrueCell chains) new
    cells = All-permutation (IsTrueCell chains) kept new moves (true_cells chains n kept keep)

    one : HasCell chains are.a.dart are.a.id
    one = cells repeat.place None low are.a are.is_one

    other : HasCell chains are.b.dart are.b.id
    other = cells repeat.other None repeat.within are.b are.is_other

    differ : dart_start chains are.a.dart ≢ dart_start chains are.b.dart
    differ = moved (HaveTwoStarts chains) kept new moves (two_starts chains n kept keep) repeat.place repeat.other None (λ e. absurd (omega (arith, e, repeat.before))) low repeat.within are.a are.b are.is_one are.is_other
