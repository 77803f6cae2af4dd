-- The part of the darts that is the next group of a dart.
use Rattle.std.proofs.Common.{◌≡◌, inl, inr, ℕ, ◌+◌, ◌-◌, ◌<◌, ◌≤◌, List, length, take, drop, get_or, sym, ap, subst, ◌∙◌, arith}
use Rattle.std.specs.Prelude.{slice_index}
use Rattle.std.proofs.lemmas.Bool.{cases_lt}
use Rattle.std.proofs.lemmas.List.{get_or_default, get_or-map, length-map, length-take, length-drop, get_or-take, get_or-drop}
use Rattle.tl_map_county.specs.TheMap.{MapChain}
use Rattle.tl_check_sides.specs.Sides.{IsNext, dart_count}
use Rattle.tl_geom.proofs.Order.{one_back}
use Rattle.tl_check_sides.specs.declared.headed.HeadedDart.{HeadedDart}
use Rattle.tl_check_sides.specs.declared.listing.groups.Groups.{Groups}
use Rattle.tl_check_sides.specs.Headed.{HeadTogether}
use Rattle.tl_check_sides.specs.Listing.Keeping.Around.{nowhere, headed_at, AreAround}
use Rattle.tl_check_sides.specs.Listing.Keeping.Grouped.{IsEndOf, IsNextPlace, AreGrouped, numbers_of, AreNextTo}
use Rattle.tl_check_sides.proofs.ListingLemmas.Places.{group_between, group_back, group_joined}
use Rattle.tl_check_sides.proofs.ListingLemmas.Nexts.{is_next, in_group, not_earlier}

module _ (chains : List MapChain) (darts : List HeadedDart) (around : AreAround chains darts) (p f end : ℕ) (at_p : p < length darts) (next : IsNextPlace darts p f) (ends : IsEndOf darts f end) where
  abbrev part : List HeadedDart
  part = take (end - f) (drop f darts)

  long : length part ≡ end - f
  long = let inside = ends.within in omega (arith, length-take (end - f) (drop f darts), length-drop f darts, inside)

  same : (k : ℕ) → k < end - f → headed_at part k ≡ headed_at darts (f + k)
  same k lt = get_or-take (end - f) (drop f darts) k nowhere lt ∙ get_or-drop f darts k nowhere

  number : (k d : ℕ) → k < end - f → get_or (numbers_of part) k d ≡ (headed_at darts (f + k)).dart
  number k d lt = get_or-map (λ (s : HeadedDart). s.dart) part k nowhere d (omega (arith, lt, long)) ∙ ap (λ (s : HeadedDart). s.dart) (same k lt)

  count : length (numbers_of part) ≡ end - f
  count = length-map part (λ (s : HeadedDart). s.dart) ∙ long

  rises : (i j : ℕ) → i < j → j < end - f → (headed_at darts (f + i)).dart < (headed_at darts (f + j)).dart
  rises i j lt within =
      let inside = ends.within in
      let first = ends.one (f + i) (omega arith) (omega (arith, lt, within)) in
      let second = ends.one (f + j) (omega arith) (omega (arith, within)) in
      let s = headed_at darts (f + i) in
      let t = headed_at darts (f + j) in
      let g : HeadTogether s t = group_joined s (headed_at darts f) t (group_back (headed_at darts f) s first) second in
      elim (cases_lt s.dart t.dart) [
        | inl less ↦ less
        | inr not ↦ elim (cases_lt t.dart s.dart) [
          | inl more ↦ absurd (around.sorted (f + i) (f + j) nowhere (omega (arith, lt)) (omega (arith, within, inside)) (inr (sym g.node, inr (one_back s.heading t.heading g.one, more))))
          | inr level ↦ absurd (around.once (f + i) (f + j) (omega (arith, lt)) (omega (arith, within, inside)) (omega (arith, not, level)))
        ]
      ]

  pub next_to : (a : ℕ) → (headed_at darts p).dart ≡ a → AreNextTo chains a (take (end - f) (drop f darts))
  next_to a is = record {
    rising = λ i j d lt within. rw (number i d (omega (arith, lt, within, count)), number j d (omega (arith, within, count))) (rises i j lt (omega (arith, within, count)));
    each = λ k d lt.
        let inside = ends.within in
        let within : k < end - f = omega (arith, lt, count) in
        let g = ends.one (f + k) (omega arith) (omega (arith, within)) in
        subst (λ e. IsNext chains a e) (sym (number k d within))
        (subst (λ e. IsNext chains e (headed_at darts (f + k)).dart) is (is_next chains darts around p f at_p next (f + k) (omega (arith, within, inside)) g));
    complete = λ b n.
        let s = in_group chains darts around p f at_p next b (subst (λ e. IsNext chains e b) (sym is) n) in
        let at = s.within in
        let low : f ≤ s.place = elim (cases_lt s.place f) [
          | inl before ↦ absurd (not_earlier chains darts around p f at_p next s.place before s.one)
          | inr past ↦ past
        ] in
        let high : s.place < end = elim (cases_lt s.place end) [
          | inl before ↦ before
          | inr past ↦
              let far = ends.behind next.within in
              absurd (ends.other (omega (arith, past, at)) (group_between darts around.sorted f end s.place (omega (arith, far)) past s.within s.one))
        ] in
        let here : s.place - f < end - f = omega (arith, low, high) in
        let place : f + (s.place - f) ≡ s.place = omega (arith, low) in
        (s.place - f, omega (arith, here, count), number (s.place - f) b here ∙ ap (λ k. (headed_at darts k).dart) place ∙ s.is);
  }

-- the place of a dart, and the beginning of the group that is next
pub record IsBefore (darts : List HeadedDart) (dart first : ℕ) : Type 0 where
  pub place : ℕ
  pub within : place < length darts
  pub is : (headed_at darts place).dart ≡ dart
  pub next : IsNextPlace darts place first

pub before_of : (chains : List MapChain) (groups : Groups) (dart first : ℕ) → AreGrouped chains groups → dart < dart_count chains → first ≡ get_or groups.nexts.items dart first → IsBefore groups.darts.items dart first
before_of chains groups dart first g known read =
    let at = g.around.all dart known in
    let long = g.around.long in
    let same = g.nexts.long in
    let told = g.nexts.each at.place at.within in
    let is : slice_index groups.nexts.items (headed_at groups.darts.items at.place).dart ≡ first =
    ap (slice_index groups.nexts.items) at.is ∙ get_or_default groups.nexts.items dart 0 first (omega (arith, known, long, same)) ∙ sym read in
    record { place = at.place; within = at.within; is = at.is; next = subst (IsNextPlace groups.darts.items at.place) is told }

pub end_of : (chains : List MapChain) (groups : Groups) (first end : ℕ) → AreGrouped chains groups → first < length groups.darts.items → end ≡ get_or groups.ends.items first end → IsEndOf groups.darts.items first end
end_of chains groups first end g within read =
    let same = g.ends.long in
    subst (IsEndOf groups.darts.items first) (get_or_default groups.ends.items first 0 end (omega (arith, within, same)) ∙ sym read) (g.ends.each first (omega arith) within)
