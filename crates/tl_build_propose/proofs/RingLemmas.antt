-- Walks that go by the darts before each in the rounds of a map are the walks of the map.
use Rattle.std.proofs.Common.{◌≡◌, ℕ, ◌*◌, ◌%◌, ◌<◌, ◌≤◌, arith, Bool, true, false, List, [], ◌∷◌, length, refl, ap, sym, subst, ◌∙◌, Vec, Global}
use Rattle.std.specs.Prelude.{slice_index}
use Rattle.std.specs.List.{All}
use Rattle.std.proofs.lemmas.Bool.{eqb-true}
use Rattle.std.proofs.lemmas.List.{length-map, get_or-map}
use Rattle.std.proofs.lemmas.List.Elements.{All-get_or}
use Rattle.tl_map_county.specs.TheMap.{MapChain}
use Rattle.tl_map_county.specs.Darts.{reverse_dart, is_along, dart_start}
use Rattle.tl_tree_index.specs.Hits.{times}
use Rattle.tl_check_sides.specs.Lists.{before, HoldOnce, EachList, list_at}
use Rattle.tl_check_sides.specs.Sides.{dart_count, IsNext, Follows}
use Rattle.tl_check_sides.specs.Rounds.{AreRounds}
use Rattle.tl_check_sides.specs.Walks.{AreWalks}
use Rattle.tl_check_sides.proofs.Boundaries.{back_again}
use Rattle.tl_check_sides.proofs.FollowFacts.{reverse_starts}
use Rattle.tl_check_sides.proofs.ListLemmas.{IsIn, list_of, before_stands, two_before}
use Rattle.tl_check_faces.specs.Crossings.Headings.{AreProper}
use Rattle.tl_check_faces.proofs.CrossingsLemmas.Rounds.{below, once_at, one_list, next_in_round}
use Rattle.tl_build_propose.specs.Keeping.Lists.{lists_in}
use Rattle.tl_build_propose.specs.Keeping.Following.{IsOneToOne, IsLinkedIn, GoesBy}

-- ---- reverses

pub reverse_within : (m d : ℕ) → d < 2 * m → reverse_dart d < 2 * m
reverse_within m d h = go (is_along d) refl
  where
    go : (b : Bool) → is_along d ≡ b → reverse_dart d < 2 * m
    go true e =
        let even : d % 2 ≡ 0 = eqb-true (d % 2) 0 e in
        rw e (omega (arith, even, h))
    go false e = rw e (omega (arith, h))

-- ---- a list that is linked by all rounds

module _ (m : ℕ) (rounds : List (List ℕ)) (following : List ℕ) (hold : HoldOnce (2 * m) rounds) (long : length following ≡ 2 * m) (linked : EachList (IsLinkedIn following) rounds) where
  -- where the reverse of a dart stands, and what follows the dart
  pub record IsPlaced (d : ℕ) : Type 0 where
    pub list : ℕ
    pub within : list < length rounds
    pub place : ℕ
    pub place_within : place < length (list_at rounds list)
    pub reversed : slice_index (list_at rounds list) place ≡ reverse_dart d
    pub leads : slice_index following d ≡ before (list_at rounds list) place

  pub placed : (d : ℕ) → d < 2 * m → IsPlaced d
  placed d h =
      let t : IsIn rounds (reverse_dart d) = list_of (reverse_dart d) rounds (omega (arith, hold.once (reverse_dart d) (reverse_within m d h))) in
      record {
        list = t.list;
        within = t.within;
        place = t.place;
        place_within = t.place_within;
        reversed = t.at;
        leads = ap (slice_index following) (sym (back_again d) ∙ ap reverse_dart (sym t.at)) ∙ linked t.list t.within t.place t.place_within;
      }

  pub one_to_one : IsOneToOne following
  one_to_one a b ha hb same =
      let s = placed a (omega (arith, ha, long)) in
      let t = placed b (omega (arith, hb, long)) in
      let stands_s = before_stands (list_at rounds s.list) s.place s.place_within in
      let stands_t = before_stands (list_at rounds t.list) t.place t.place_within in
      let alike : before (list_at rounds s.list) s.place ≡ before (list_at rounds t.list) t.place = sym s.leads ∙ (same ∙ t.leads) in
      let one : s.list ≡ t.list = one_list (2 * m) rounds hold (before (list_at rounds s.list) s.place) s.list t.list s.within t.within stands_s
      (subst (λ d. 1 ≤ times d (list_at rounds t.list)) (sym alike) stands_t) in
      let here : t.place < length (list_at rounds s.list) = subst (λ l. t.place < length (list_at rounds l)) (sym one) t.place_within in
      let places : s.place ≡ t.place = two_before (list_at rounds s.list) s.place t.place (λ d. once_at (2 * m) rounds hold d s.list s.within) s.place_within here
      (alike ∙ ap (λ l. before (list_at rounds l) t.place) (sym one)) in
      let reverses : reverse_dart a ≡ reverse_dart b = sym s.reversed ∙ (ap (λ l. slice_index (list_at rounds l) s.place) one ∙ (ap (slice_index (list_at rounds t.list)) places ∙ t.reversed)) in
      sym (back_again a) ∙ (ap reverse_dart reverses ∙ back_again b)

-- ---- the walks of a map

-- what is so of each vector's list is so of each list
pub each_of : (P : List ℕ → Type 0) (vs : List (Vec ℕ Global)) → All (λ v. P v.items) vs → EachList P (lists_in vs)
each_of P [] all = λ k h. absurd (omega (arith, h))
each_of P (v ∷ vs) all = λ k h.
    let inside : k < length (v ∷ vs) = omega (arith, length-map (v ∷ vs) (λ (w : Vec ℕ Global). w.items), h) in
    subst P (sym (get_or-map (λ (w : Vec ℕ Global). w.items) (v ∷ vs) k v [] inside)) (All-get_or (λ (w : Vec ℕ Global). P w.items) (v ∷ vs) k v inside all)

module _ (chains : List MapChain) (proper : AreProper chains) (rounds : List (List ℕ)) (are : AreRounds chains rounds) (following : List ℕ)
    (long : length following ≡ dart_count chains) (linked : EachList (IsLinkedIn following) rounds) where
  -- a dart is followed by what the list has behind it
  pub follows : (d : ℕ) → d < dart_count chains → Follows chains d (slice_index following d)
  follows d h =
      let t = placed (length chains) rounds following are.hold long linked d h in
      let round = list_at rounds t.list in
      let next : IsNext chains (before round t.place) (slice_index round t.place) = next_in_round chains proper rounds are t.list t.place t.within t.place_within in
      let one : dart_start chains (slice_index round t.place) ≡ dart_start chains (before round t.place) = next.b_starts ∙ sym next.a_starts in
      record {
        meets = sym (reverse_starts chains d) ∙ (ap (dart_start chains) (sym t.reversed) ∙ (one ∙ ap (dart_start chains) (sym t.leads)));
        next = subst (λ e. IsNext chains e (reverse_dart d)) (sym t.leads) (subst (λ e. IsNext chains (before round t.place) e) t.reversed next);
      }

  pub are_walks : (walks : List (List ℕ)) → HoldOnce (dart_count chains) walks → EachList (λ w. 0 < length w) walks → EachList (GoesBy following) walks → AreWalks chains walks
  are_walks walks hold some goes = record {
    hold = hold;
    rings = λ w hw. record {
      some = some w hw;
      follows = λ k h.
          let walk = list_at walks w in
          let d = before walk k in
          let dart : d < dart_count chains = below (dart_count chains) walks hold d w hw (before_stands walk k h) in
          subst (Follows chains d) (sym (goes w hw k h)) (follows d dart);
    };
  }
