-- Rings have one left side each, so they sort into boundaries.
use Rattle.std.proofs.Common.{◌≡◌, ◌≢◌, ℕ, zero, suc, ◌+◌, ◌-◌, ◌/◌, ◌%◌, ◌<◌, ◌≤◌, Bool, true, false, Option, Some, None, List, [], ◌∷◌, length, All, sym, ap, refl, ◌∙◌, arith, inl, inr}
use Rattle.std.specs.Prelude.{slice_get, slice_index, ◌==◌, if◌then◌else◌}
use Rattle.std.specs.List.{concat, filter}
use Rattle.std.specs.Option.{option_map}
use Rattle.std.proofs.lemmas.Bool.{cases_lt, eqb-true, eqb-false, eq-eqb, true≢false}
use Rattle.tl_map_county.specs.declared.sides.Side.{Side}
use Rattle.tl_map_county.specs.declared.sides.Side.TheVariants.{Outside, Polygon}
use Rattle.tl_map_county.specs.TheMap.{MapChain}
use Rattle.tl_map_county.specs.Darts.{is_along, reverse_dart, dart_left}
use Rattle.tl_tree_index.specs.Hits.{times}
use Rattle.tl_tree_index.proofs.Times.{times-append}
use Rattle.tl_check_sides.specs.Lists.{EachList}
use Rattle.tl_check_sides.specs.Sides.{dart_count, SidesAgree, Follows, IsRing, IsClosed}
use Rattle.tl_check_sides.specs.Walks.{AreWalks}
use Rattle.tl_check_sides.proofs.ListLemmas.{IsAt, place_of}

-- ---- one ring

pub back_again : (d : ℕ) → reverse_dart (reverse_dart d) ≡ d
back_again d = go (is_along d) refl
  where
    go : (b : Bool) → is_along d ≡ b → reverse_dart (reverse_dart d) ≡ d
    go true e =
        let even : d % 2 ≡ 0 = eqb-true (d % 2) 0 e in
        let odd : (d + 1) % 2 ≡ 1 = omega (arith, even) in
        rw e (rw odd (omega arith))
    go false e =
        let uneven : d % 2 ≡ 0 → ⊥ = eqb-false (d % 2) 0 e in
        let even : (d - 1) % 2 ≡ 0 = omega (arith, uneven) in
        rw e (rw even (omega (arith, uneven)))

module _ (chains : List MapChain) (agree : SidesAgree chains) where
  -- along a step the left side stays
  stays : (d e : ℕ) → Follows chains d e → dart_left chains e ≡ dart_left chains d
  stays d e f = agree e (reverse_dart d) f.next ∙ ap (dart_left chains) (back_again d)

  -- so it is one along a ring
  one_left : (ring : List ℕ) → IsRing chains ring → (k : ℕ) → k < length ring → dart_left chains (slice_index ring k) ≡ dart_left chains (slice_index ring 0)
  one_left ring r zero h = refl
  one_left ring r (suc k) h = stays (slice_index ring k) (slice_index ring (suc k)) (r.follows (suc k) h) ∙ one_left ring r k (omega (arith, h))

  stands_left : (ring : List ℕ) → IsRing chains ring → (d : ℕ) → 1 ≤ times d ring → dart_left chains d ≡ dart_left chains (slice_index ring 0)
  stands_left ring r d h =
      let t : IsAt ring d = place_of d ring h in
      ap (dart_left chains) (sym t.at) ∙ one_left ring r t.place t.within

-- ---- rings by their left side

is_side : Side → Option Side → Bool
is_side s None = false
is_side Outside (Some Outside) = true
is_side Outside (Some (Polygon q)) = false
is_side (Polygon p) (Some Outside) = false
is_side (Polygon p) (Some (Polygon q)) = p == q

is_side_true : (s : Side) (o : Option Side) → is_side s o ≡ true → o ≡ Some s
unfolding is_side
is_side_true s None e = absurd (cc)
is_side_true Outside (Some Outside) e = refl
is_side_true Outside (Some (Polygon q)) e = absurd (cc)
is_side_true (Polygon p) (Some Outside) e = absurd (cc)
is_side_true (Polygon p) (Some (Polygon q)) e = ap (λ k. Some (Polygon k)) (sym (eqb-true p q e))

is_side_itself : (s : Side) → is_side s (Some s) ≡ true
unfolding is_side
is_side_itself Outside = refl
is_side_itself (Polygon p) = eq-eqb p p refl

is_side_false : (s : Side) (o : Option Side) → is_side s o ≡ false → o ≢ Some s
is_side_false s o e f = true≢false (sym (ap (is_side s) f ∙ is_side_itself s) ∙ e)

within_left : (chains : List MapChain) (d : ℕ) (s : Side) → dart_left chains d ≡ Some s → d < dart_count chains
within_left chains d s at = let h = go chains (d / 2) at in omega (arith, h)
  where
    go : (cs : List MapChain) (i : ℕ) → option_map (λ (c : MapChain). if is_along d then c.left else c.right) (slice_get cs i) ≡ Some s → i < length cs
    go [] i at = absurd (let e : None ≡ Some s = at in cc)
    go (c ∷ cs) zero at = omega arith
    go (c ∷ cs) (suc i) at = let h = go cs i at in omega (arith, h)

module _ (chains : List MapChain) (agree : SidesAgree chains) (side : Side) where
  -- has the ring the side on its left
  has_left : List ℕ → Bool
  has_left ring = is_side side (dart_left chains (slice_index ring 0))

  each_ring : (walks : List (List ℕ)) → EachList (IsRing chains) walks → All (IsRing chains) (filter has_left walks)
  unfolding has_left
  each_ring [] each = λ k x h. absurd (omega (arith, h))
  each_ring (w ∷ walks) each = go (has_left w) refl (each_ring walks (λ k h. each (suc k) (omega (arith, h))))
    where
      joined : All (IsRing chains) (filter has_left walks) → All (IsRing chains) (w ∷ filter has_left walks)
      joined rest zero x h = each 0 (omega arith)
      joined rest (suc k) x h = rest k x (omega (arith, h))

      go : (b : Bool) → has_left w ≡ b → All (IsRing chains) (filter has_left walks) → All (IsRing chains) (filter has_left (w ∷ walks))
      go true e rest = rw e (joined rest)
      go false e rest = rw e rest

  -- a dart with that side on its left stands in the chosen rings as often as in all
  all_times : (walks : List (List ℕ)) → EachList (IsRing chains) walks → (d : ℕ) → dart_left chains d ≡ Some side → times d (concat (filter has_left walks)) ≡ times d (concat walks)
  unfolding has_left
  all_times [] each d left = refl
  all_times (w ∷ walks) each d left = go (has_left w) refl (all_times walks (λ k h. each (suc k) (omega (arith, h))) d left)
    where
      go : (b : Bool) → has_left w ≡ b → times d (concat (filter has_left walks)) ≡ times d (concat walks) → times d (concat (filter has_left (w ∷ walks))) ≡ times d (concat (w ∷ walks))
      go true e rest = rw e (omega (arith, rest, times-append d w (concat (filter has_left walks)), times-append d w (concat walks)))
      go false e rest = rw e (elim (cases_lt 0 (times d w)) [
        | inl stands ↦ absurd (is_side_false side (dart_left chains (slice_index w 0)) e (sym (stands_left chains agree w (each 0 (omega arith)) d (omega (arith, stands))) ∙ left))
        | inr none ↦ omega (arith, rest, none, times-append d w (concat walks))
      ])

  -- and any other dart doesn't stand in them
  no_times : (walks : List (List ℕ)) → EachList (IsRing chains) walks → (d : ℕ) → dart_left chains d ≢ Some side → times d (concat (filter has_left walks)) ≡ 0
  unfolding has_left
  no_times [] each d left = refl
  no_times (w ∷ walks) each d left = go (has_left w) refl (no_times walks (λ k h. each (suc k) (omega (arith, h))) d left)
    where
      go : (b : Bool) → has_left w ≡ b → times d (concat (filter has_left walks)) ≡ 0 → times d (concat (filter has_left (w ∷ walks))) ≡ 0
      go true e rest = rw e (elim (cases_lt 0 (times d w)) [
        | inl stands ↦ absurd (left (stands_left chains agree w (each 0 (omega arith)) d (omega (arith, stands)) ∙ is_side_true side (dart_left chains (slice_index w 0)) e))
        | inr none ↦ omega (arith, rest, none, times-append d w (concat (filter has_left walks)))
      ])
      go false e rest = rw e rest

pub boundary_of : (chains : List MapChain) (walks : List (List ℕ)) (side : Side) → AreWalks chains walks → SidesAgree chains → IsClosed chains side
boundary_of chains walks side are agree = (
  filter (has_left chains agree side) walks,
  record {
    closed = each_ring chains agree side walks are.rings;
    once = λ d left. all_times chains agree side walks are.rings d left ∙ are.hold.once d (within_left chains d side left);
    no_other = no_times chains agree side walks are.rings;
  },
)
