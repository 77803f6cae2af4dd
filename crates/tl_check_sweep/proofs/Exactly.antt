-- A step of a sweep at an exact place: what ends at its point stands there side by side, and those that become neighbours are in order if they
-- are apart or share an end of both.
use Rattle.std.proofs.Common.{◌≡◌, ◌≢◌, ◌⊎◌, inl, inr, ⊎_elim, ℕ, zero, suc, ◌-◌, ◌<◌, ◌≤◌, ℤ, pos, ◌-ℤ◌, ◌*ℤ◌, ◌<ℤ◌, ◌≤ℤ◌, Some, List, [], ◌∷◌, ◌++◌, length, get_or, append-nil, refl, sym, ap, subst, ◌∙◌, arith}
use Rattle.std.specs.Prelude.{slice_get, All}
use Rattle.std.proofs.lemmas.Bool.{cases_lt}
use Rattle.std.proofs.lemmas.Int.{ints, by_lt_z}
use Rattle.std.proofs.lemmas.List.Elements.{All-nil, All-cons}
use Rattle.std.proofs.lemmas.Option.{slice_get-get_or, slice_get_within}
use Rattle.tl_geom.specs.declared.point.Point.{Point}
use Rattle.tl_geom.specs.declared.segment.Segment.{Segment}
use Rattle.tl_geom.specs.Plane.{IsOn, whole, turn_of}
use Rattle.tl_geom.specs.Contact.{IsEnd}
use Rattle.tl_geom.proofs.Places.{a_on, b_on, whole_same}
use Rattle.tl_geom.proofs.Polynomials.{num, ◌⊗◌, same}
use Rattle.tl_map_county.specs.TheMap.{MapChain}
use Rattle.tl_tree_index.specs.Hits.{times}
use Rattle.tl_tree_index.proofs.Times.{same_or, times-same, times-other, times-append}
use Rattle.tl_check_planar.specs.Keeping.Apart.{one_found}
use Rattle.tl_check_planar.specs.ByHeight.Heights.{height, widest, low_end, high_end, turn_to, AreNear, Spans}
use Rattle.tl_check_planar.specs.ByHeight.Neighbours.{IsNumbered, AreTested, EachTwo}
use Rattle.tl_check_planar.specs.ByHeight.Slabs.{IsActive}
use Rattle.tl_check_planar.proofs.ByHeight.Rising.{ends_of}
use Rattle.tl_check_planar.proofs.ByHeight.Order.{turn_whole, turn_first, turn_last}
use Rattle.tl_check_planar.proofs.ByHeight.Lying.{lies_on}
use Rattle.tl_check_planar.proofs.ByHeight.Transport.{not_east, on_both, strictly_east}
use Rattle.tl_check_planar.proofs.ByHeight.Numbered.{one_segment, IsOnIt, on_it, both_ended}
use Rattle.tl_check_planar.proofs.ByHeight.Walking.{IsIn, in_by_times, all_head, all_tail, two_front, two_back}
use Rattle.tl_check_planar.proofs.ByHeight.Standing.{west_at}
use Rattle.tl_check_active.specs.Blocks.Lined.{TheLine, list_of, last_of}
use Rattle.tl_check_active.specs.Ranges.{AreInRange}
use Rattle.tl_check_active.proofs.Lining.{last_more}
use Rattle.tl_check_active.proofs.Tests.{low_height, high_height}
use Rattle.tl_check_active.proofs.Wide.{wide_by_range}
use Rattle.tl_check_faces.proofs.Neighbours.{all_front, all_back}
use Rattle.tl_check_gaps.specs.Beside.{IsEastOf}
use Rattle.tl_check_sweep.specs.Keeping.Exact.{IsNotEastOf, EndsAt, EndsElsewhere, BeginsAt, StandsAt, IsWestOfOther, MayFollow, IsBefore}

-- ---- lists

pub all_at : (P : ℕ → Type 0) (xs : List ℕ) (k t : ℕ) → All P xs → slice_get xs k ≡ Some t → P t
all_at P xs k t all e =
    let within : k < length xs = slice_get_within xs k t e in
    subst P (one_found (get_or xs k t) t (slice_get xs k) (slice_get-get_or xs k t within) e) (all k t within)

all_in : (P : ℕ → Type 0) (s : ℕ) (xs : List ℕ) → All P xs → IsIn s xs → P s
all_in P s [] all is = absurd is
all_in P s (x ∷ xs) all is = ⊎_elim (λ e. subst P (sym e) (all_head P x xs all)) (λ rest. all_in P s xs (all_tail P x xs all) rest) is

last_over : (xs : List ℕ) (y : ℕ) (ys : List ℕ) → last_of (xs ++ (y ∷ ys)) ≡ last_of (y ∷ ys)
last_over [] y ys = refl
last_over (x ∷ []) y ys = last_more x y ys
last_over (x ∷ (z ∷ xs)) y ys = last_more x z (xs ++ (y ∷ ys)) ∙ last_over (z ∷ xs) y ys

-- numbers of which each stands in the list at most once differ from their neighbours
differ : (xs : List ℕ) → ((s : ℕ) → times s xs ≤ 1) → EachTwo (λ s t. s ≢ t) xs
differ [] few = tt
differ (x ∷ []) few = tt
differ (x ∷ (y ∷ xs)) few = (
  λ e.
      let one = times-same x x (y ∷ xs) refl in
      let two = times-same x y xs e in
      let most = few x in
      absurd (omega (arith, one, two, most)),
  differ (y ∷ xs) (λ s. same_or s x
      (λ e. let one = times-same s x (y ∷ xs) e in let most = few s in omega (arith, one, most))
      (λ ne. let same = times-other s x (y ∷ xs) ne in let most = few s in omega (arith, same, most))),
)

both_of : (P Q R : ℕ → ℕ → Type 0) → ((s t : ℕ) → P s t → Q s t → R s t) → (xs : List ℕ) → EachTwo P xs → EachTwo Q xs → EachTwo R xs
both_of P Q R make [] two two' = tt
both_of P Q R make (x ∷ []) two two' = tt
both_of P Q R make (x ∷ (y ∷ xs)) two two' = (make x y two.0 two'.0, both_of P Q R make (y ∷ xs) two.1 two'.1)

-- ---- a point and a segment

one_times : (x : ℤ) → pos 1 *ℤ x ≡ x
one_times x = same (num (pos 1) ⊗ num x) (num x) (omega arith)

spans_by : (u : Segment) (p : Point) → height widest (low_end widest u) ≤ℤ height widest p → height widest p ≤ℤ height widest (high_end widest u) → Spans widest u (whole p)
spans_by u p from to = record {
  from = subst (λ z. z ≤ℤ height widest p) (sym (one_times (height widest (low_end widest u)))) from;
  to = subst (λ z. height widest p ≤ℤ z) (sym (one_times (height widest (high_end widest u)))) to;
}

high_on : (u : Segment) → AreNear widest u.a u.b → IsOn u (whole (high_end widest u))
high_on u near =
    ⊎_elim (λ k. subst (λ (q : Point). IsOn u (whole q)) (sym k.1) (b_on u)) (λ k. subst (λ (q : Point). IsOn u (whole q)) (sym k.1) (a_on u)) (ends_of widest u near).are

low_on : (u : Segment) → AreNear widest u.a u.b → IsOn u (whole (low_end widest u))
low_on u near =
    ⊎_elim (λ k. subst (λ (q : Point). IsOn u (whole q)) (sym k.0) (a_on u)) (λ k. subst (λ (q : Point). IsOn u (whole q)) (sym k.0) (b_on u)) (ends_of widest u near).are

-- an end of the segment is its lower or its higher one
which_end : (u : Segment) (p : Point) → AreNear widest u.a u.b → IsEnd u (whole p) → (low_end widest u ≡ p) ⊎ (high_end widest u ≡ p)
which_end u p near end =
    ⊎_elim
    (λ k. let at : p ≡ u.a = whole_same p u.a k in ⊎_elim (λ e. inl (e.0 ∙ sym at)) (λ e. inr (e.1 ∙ sym at)) (ends_of widest u near).are)
    (λ k. let at : p ≡ u.b = whole_same p u.b k in ⊎_elim (λ e. inr (e.1 ∙ sym at)) (λ e. inl (e.0 ∙ sym at)) (ends_of widest u near).are)
    end

module _ (chains : List MapChain) (p : Point) (ranges : AreInRange chains) where
  pub near : (s : ℕ) (u : Segment) → IsNumbered chains s u → AreNear widest u.a u.b
  near s u is = wide_by_range chains ranges s u is

  -- active in the slab below the point
  abbrev Stands : ℕ → Type 0
  Stands s = IsActive widest (height widest p -ℤ pos 1) chains s

  begun : (s : ℕ) (u : Segment) → IsNumbered chains s u → Stands s → height widest (low_end widest u) <ℤ height widest p
  begun s u is a =
      let low = low_height widest a.segment u (one_segment chains s a.segment u a.is is) in
      let from = a.begun in
      omega (arith, ints, low, from)

  spans : (s : ℕ) (u : Segment) → IsNumbered chains s u → Stands s → Spans widest u (whole p)
  spans s u is a =
      let from = begun s u is a in
      let high = high_height widest a.segment u (one_segment chains s a.segment u a.is is) in
      let to = a.lasting in
      spans_by u p (omega (arith, ints, from)) (omega (arith, ints, high, to))

  -- ---- two neighbours

  module _ (s t : ℕ) (tested : AreTested widest chains s t) (a : Stands s) (a' : Stands t) where
    carried : IsNotEastOf chains p s → IsNotEastOf chains p t
    carried other w is' =
        let u : Segment = a.segment in
        subst (λ z. pos 0 ≤ℤ z) (turn_whole (low_end widest w) (high_end widest w) p)
        (not_east widest u w (near s u a.is) (near t w is') (tested.west u w a.is is') (whole p) (spans s u a.is a) (spans t w is' a')
        (subst (λ z. pos 0 ≤ℤ z) (sym (turn_whole (low_end widest u) (high_end widest u) p)) (other u a.is)))

    carried_back : IsEastOf widest chains p t → IsEastOf widest chains p s
    carried_back east u is =
        let w : Segment = a'.segment in
        subst (λ z. z <ℤ pos 0) (turn_whole (low_end widest u) (high_end widest u) p)
        (strictly_east widest u w (near s u is) (near t w a'.is) (tested.west u w is a'.is) (whole p) (spans s u is a) (spans t w a'.is a')
        (subst (λ z. z <ℤ pos 0) (sym (turn_whole (low_end widest w) (high_end widest w) p)) (east w a'.is)))

    on_carried : IsNotEastOf chains p s → IsOnIt chains t (whole p) → IsOnIt chains s (whole p)
    on_carried other on =
        let u : Segment = a.segment in
        let w : Segment = a'.segment in
        on_it chains s u (whole p) a.is
        (on_both widest u w (near s u a.is) (near t w a'.is) (tested.west u w a.is a'.is) (whole p) (spans s u a.is a) (spans t w a'.is a')
        (subst (λ z. pos 0 ≤ℤ z) (sym (turn_whole (low_end widest u) (high_end widest u) p)) (other u a.is)) (on w a'.is))

  -- ---- where a segment ends

  no_end : (s : ℕ) → Stands s → EndsElsewhere chains p s → (u : Segment) → IsNumbered chains s u → ¬ IsEnd u (whole p)
  no_end s a elsewhere u is end =
      ⊎_elim
      (λ low. let from = begun s u is a in let same : height widest (low_end widest u) ≡ height widest p = ap (height widest) low in omega (arith, ints, from, same))
      (λ high. elsewhere u is high)
      (which_end u p (near s u is) end)

  elsewhere_west : (s : ℕ) → IsEastOf widest chains p s → EndsElsewhere chains p s
  elsewhere_west s east u is e =
      let none : turn_to widest u p ≡ pos 0 = ap (turn_of (low_end widest u) (high_end widest u)) (sym e) ∙ turn_last (low_end widest u) (high_end widest u) in
      let less = east u is in
      omega (arith, ints, none, less)

  none_of : (s : ℕ) → EndsAt chains p s → (xs : List ℕ) → All (EndsElsewhere chains p) xs → times s xs ≡ 0
  none_of s ends [] all = refl
  none_of s ends (x ∷ xs) all =
      same_or s x
      (λ e. absurd (all_head (EndsElsewhere chains p) x xs all ends.0 (subst (λ n. IsNumbered chains n ends.0) e ends.1) ends.2))
      (λ ne. times-other s x xs ne ∙ none_of s ends xs (all_tail (EndsElsewhere chains p) x xs all))

  -- ---- along a list

  east_all : (xs : List ℕ) → All Stands xs → EachTwo (AreTested widest chains) xs → ((t : ℕ) → last_of xs ≡ Some t → IsEastOf widest chains p t) →
      All (IsEastOf widest chains p) xs
  east_all [] active two last = All-nil (IsEastOf widest chains p)
  east_all (x ∷ []) active two last = All-cons (IsEastOf widest chains p) x [] (last x refl) (All-nil (IsEastOf widest chains p))
  east_all (x ∷ (y ∷ xs)) active two last =
      let others : All Stands (y ∷ xs) = all_tail Stands x (y ∷ xs) active in
      let rest : All (IsEastOf widest chains p) (y ∷ xs) = east_all (y ∷ xs) others two.1 (λ t e. last t (last_more x y xs ∙ e)) in
      All-cons (IsEastOf widest chains p) x (y ∷ xs)
      (carried_back x y two.0 (all_head Stands x (y ∷ xs) active) (all_head Stands y xs others) (all_head (IsEastOf widest chains p) y xs rest)) rest

  -- what lies on one lies on the first
  abbrev IsOnFirst : ℕ → ℕ → Type 0
  IsOnFirst b s = IsOnIt chains s (whole p) → IsOnIt chains b (whole p)

  on_first : (b : ℕ) (bs : List ℕ) → All Stands (b ∷ bs) → EachTwo (AreTested widest chains) (b ∷ bs) → IsNotEastOf chains p b → All (IsOnFirst b) bs
  on_first b [] active two other = All-nil (IsOnFirst b)
  on_first b (c ∷ bs) active two other =
      let others : All Stands (c ∷ bs) = all_tail Stands b (c ∷ bs) active in
      let own : Stands b = all_head Stands b (c ∷ bs) active in
      let its : Stands c = all_head Stands c bs others in
      let rest : All (IsOnFirst c) bs = on_first c bs others two.1 (carried b c two.0 own its other) in
      All-cons (IsOnFirst b) c bs (λ on. on_carried b c two.0 own its other on)
      (λ k d lt on. on_carried b c two.0 own its other (rest k d lt on))

  elsewhere_east : (b : ℕ) (bs : List ℕ) → All Stands (b ∷ bs) → EachTwo (AreTested widest chains) (b ∷ bs) → IsNotEastOf chains p b → EndsElsewhere chains p b →
      All (EndsElsewhere chains p) bs
  elsewhere_east b [] active two other own = All-nil (EndsElsewhere chains p)
  elsewhere_east b (c ∷ bs) active two other own = λ k d lt u is e.
      let others : All Stands (c ∷ bs) = all_tail Stands b (c ∷ bs) active in
      let a : Stands b = all_head Stands b (c ∷ bs) active in
      let a' : Stands c = all_head Stands c bs others in
      let next : IsNotEastOf chains p c = carried b c two.0 a a' other in
      let all : All (IsOnFirst c) (c ∷ bs) = All-cons (IsOnFirst c) c bs (λ on. on) (on_first c bs others two.1 next) in
      let s : ℕ = get_or (c ∷ bs) k d in
      let on : IsOnIt chains s (whole p) = on_it chains s u (whole p) is (subst (λ (q : Point). IsOn u (whole q)) e (high_on u (near s u is))) in
      let on_c : IsOnIt chains c (whole p) = all k d lt on in
      let on_b : IsOnIt chains b (whole p) = on_carried b c two.0 a a' other on_c in
      no_end b a own a.segment a.is
      (both_ended a.segment a'.segment (whole p) (two.0.free a.segment a'.segment a.is a'.is) (on_b a.segment a.is) (on_c a'.segment a'.is)).0

  -- the point isn't east of those behind the first
  along : (xs : List ℕ) (b : ℕ) (bs : List ℕ) → All Stands (xs ++ b ∷ bs) → EachTwo (AreTested widest chains) (xs ++ b ∷ bs) →
      ((t : ℕ) → slice_get (xs ++ b ∷ bs) 0 ≡ Some t → IsNotEastOf chains p t) → IsNotEastOf chains p b
  along [] b bs active two first = first b refl
  along (x ∷ []) b bs active two first =
      let others : All Stands (b ∷ bs) = all_tail Stands x (b ∷ bs) active in
      carried x b two.0 (all_head Stands x (b ∷ bs) active) (all_head Stands b bs others) (first x refl)
  along (x ∷ (y ∷ xs)) b bs active two first =
      let others : All Stands ((y ∷ xs) ++ b ∷ bs) = all_tail Stands x ((y ∷ xs) ++ b ∷ bs) active in
      let next : IsNotEastOf chains p y = carried x y two.0 (all_head Stands x ((y ∷ xs) ++ b ∷ bs) active) (all_head Stands y (xs ++ b ∷ bs) others) (first x refl) in
      along (y ∷ xs) b bs others two.1 (λ t e. subst (IsNotEastOf chains p) (one_found y t (Some y) refl e) next)

  back_elsewhere : (bs : List ℕ) → All Stands bs → EachTwo (AreTested widest chains) bs → ((t : ℕ) → slice_get bs 0 ≡ Some t → IsNotEastOf chains p t) →
      ((t : ℕ) → slice_get bs 0 ≡ Some t → EndsElsewhere chains p t) → All (EndsElsewhere chains p) bs
  back_elsewhere [] active two other own = All-nil (EndsElsewhere chains p)
  back_elsewhere (b ∷ bs) active two other own =
      All-cons (EndsElsewhere chains p) b bs (own b refl) (elsewhere_east b bs active two (other b refl) (own b refl))

  first_of_back : (xs bs : List ℕ) → All Stands (xs ++ bs) → EachTwo (AreTested widest chains) (xs ++ bs) → ((t : ℕ) → slice_get (xs ++ bs) 0 ≡ Some t → IsNotEastOf chains p t) →
      (t : ℕ) → slice_get bs 0 ≡ Some t → IsNotEastOf chains p t
  first_of_back xs [] active two first t e = absurd (cc)
  first_of_back xs (b ∷ bs) active two first t e = subst (IsNotEastOf chains p) (one_found b t (Some b) refl e) (along xs b bs active two first)

-- ---- the step

module _ (chains : List MapChain) (p : Point) (list outs ins : List ℕ) (before : IsBefore chains p list outs ins) (stood left : TheLine) (gone : List ℕ)
    (same_list : list_of stood ≡ list) (standing : StandsAt chains p stood) (front_is : left.front ≡ stood.front) (back_is : stood.back ≡ gone ++ left.back)
    (ended : All (EndsAt chains p) gone) (others : (t : ℕ) → slice_get left.back 0 ≡ Some t → EndsElsewhere chains p t) where
  abbrev front : List ℕ
  front = left.front

  abbrev back : List ℕ
  back = left.back

  is : list ≡ front ++ (gone ++ back)
  is = sym same_list ∙ (λ i. sym front_is i ++ back_is i)

  stands : StandsAt chains p (record { front = front; back = gone ++ back })
  stands = record {
    east = λ t e. standing.east t (ap last_of (sym front_is) ∙ e);
    west = λ t e. standing.west t (ap (λ l. slice_get l 0) back_is ∙ e);
  }

  abbrev Standing : ℕ → Type 0
  Standing = Stands chains p before.ranges

  active : All Standing (front ++ (gone ++ back))
  active = subst (All Standing) is before.listed.active

  two : EachTwo (AreTested widest chains) (front ++ (gone ++ back))
  two = subst (EachTwo (AreTested widest chains)) is before.listed.tested

  active_behind : All Standing (gone ++ back)
  active_behind = all_back Standing front (gone ++ back) active

  two_behind : EachTwo (AreTested widest chains) (gone ++ back)
  two_behind = two_back (AreTested widest chains) front (gone ++ back) two

  back_stands : All Standing back
  back_stands = all_back Standing gone back active_behind

  front_stands : All Standing front
  front_stands = all_front Standing front (gone ++ back) active

  other : (t : ℕ) → slice_get back 0 ≡ Some t → IsNotEastOf chains p t
  other = first_of_back chains p before.ranges gone back active_behind two_behind stands.west

  -- those that end at the point are those that are taken
  pub gone_are : (s : ℕ) → times s gone ≡ times s outs
  gone_are s = elim (cases_lt 0 (times s outs)) [
    | inl some ↦
        let ends : EndsAt chains p s = before.off_alone s some in
        let u : Segment = ends.0 in
        let rising = (ends_of widest u (near chains p before.ranges s u ends.1)).rising in
        let top : height widest (high_end widest u) ≡ height widest p = ap (height widest) ends.2 in
        let own : Standing s = record { segment = u; is = ends.1; begun = omega (arith, ints, rising, top); lasting = omega (arith, ints, top) } in
        let once = before.listed.once s own in
        let all : times s list ≡ times s (front ++ (gone ++ back)) = ap (times s) is in
        let a = times-append s front (gone ++ back) in
        let b = times-append s gone back in
        let none = none_of chains p before.ranges s ends front
        (λ k d lt. elsewhere_west chains p before.ranges (get_or front k d)
        (east_all chains p before.ranges front front_stands (two_front (AreTested widest chains) front (gone ++ back) two) stands.east k d lt)) in
        let none' = none_of chains p before.ranges s ends back
        (back_elsewhere chains p before.ranges back back_stands (two_back (AreTested widest chains) gone back two_behind) other others) in
        let off = before.off s u ends.1 ends.2 in
        omega (arith, once, all, a, b, none, none', off)
    | inr none ↦ elim (cases_lt 0 (times s gone)) [
      | inl some ↦
          absurd (let ends : EndsAt chains p s = all_in (EndsAt chains p) s gone ended (in_by_times s gone some) in
          let one = before.off s ends.0 ends.1 ends.2 in
          omega (arith, none, one))
      | inr none' ↦ omega (arith, none, none')
    ]
  ]

  -- ---- those that become neighbours

  own_near : (s : ℕ) (u : Segment) → IsNumbered chains s u → AreNear widest u.a u.b
  own_near = near chains p before.ranges

  -- of what begins at the point, the point is the low end
  low_turn : (s : ℕ) (u : Segment) → IsNumbered chains s u → BeginsAt chains p s → turn_to widest u p ≡ pos 0
  low_turn s u is' begins = ap (turn_of (low_end widest u) (high_end widest u)) (sym (begins u is')) ∙ turn_first (low_end widest u) (high_end widest u)

  low_spans : (s : ℕ) (u : Segment) → IsNumbered chains s u → BeginsAt chains p s → Spans widest u (whole p)
  low_spans s u is' begins =
      let low : height widest (low_end widest u) ≡ height widest p = ap (height widest) (begins u is') in
      let rising = (ends_of widest u (own_near s u is')).rising in
      spans_by u p (omega (arith, ints, low)) (omega (arith, ints, low, rising))

  -- what stands below the point doesn't begin at it
  no_beginner : (s t : ℕ) → Standing s → BeginsAt chains p t → s ≢ t
  no_beginner s t a begins e =
      let low : height widest (low_end widest a.segment) ≡ height widest p = ap (height widest) (begins a.segment (subst (λ n. IsNumbered chains n a.segment) e a.is)) in
      let from = a.begun in
      omega (arith, ints, low, from)

  pub first_follows : (s t : ℕ) → last_of front ≡ Some s → BeginsAt chains p t → MayFollow chains s t
  first_follows s t e begins =
      let a : Standing s = all_at Standing front (length front - 1) s front_stands e in
      let east : IsEastOf widest chains p s = stands.east s e in
      record {
        two = no_beginner s t a begins;
        west = λ u w is' is'' free.
            let none = low_turn t w is'' begins in
            let less = east u is' in
            west_at widest u w p (own_near s u is') (own_near t w is'') (spans chains p before.ranges s u is' a) (low_spans t w is'' begins)
            (omega (arith, ints, less)) (omega (arith, ints, none)) (inl less) free;
      }

  pub last_follows : (s t : ℕ) → BeginsAt chains p s → slice_get back 0 ≡ Some t → MayFollow chains s t
  last_follows s t begins e =
      let a : Standing t = all_at Standing back 0 t back_stands e in
      record {
        two = λ same. no_beginner t s a begins (sym same);
        west = λ u w is' is'' free.
            let none = low_turn s u is' begins in
            let at_least : pos 0 ≤ℤ turn_to widest w p = other t e w is'' in
            let spans' = spans chains p before.ranges t w is'' a in
            let strict : pos 0 <ℤ turn_to widest w p =
            by_lt_z (pos 0) (turn_to widest w p) (λ more. more)
            (λ most. absurd (
            let zero : turn_to widest w p ≡ pos 0 = omega (arith, ints, most, at_least) in
            let on' : IsOn w (whole p) =
            lies_on widest w (low_end widest w) (high_end widest w) (ends_of widest w (own_near t w is'')) (whole p)
            (turn_whole (low_end widest w) (high_end widest w) p ∙ zero) spans'.from spans'.to in
            let on : IsOn u (whole p) = subst (λ (q : Point). IsOn u (whole q)) (begins u is') (low_on u (own_near s u is')) in
            no_end chains p before.ranges t a (others t e) w is'' (both_ended u w (whole p) free on on').1)) in
            west_at widest u w p (own_near s u is') (own_near t w is'') (low_spans s u is' begins) spans'
            (omega (arith, ints, none)) at_least (inr strict) free;
      }

  pub sides_follow : (s t : ℕ) → last_of front ≡ Some s → slice_get back 0 ≡ Some t → MayFollow chains s t
  sides_follow s t e e' =
      let a : Standing s = all_at Standing front (length front - 1) s front_stands e in
      let a' : Standing t = all_at Standing back 0 t back_stands e' in
      let east : IsEastOf widest chains p s = stands.east s e in
      record {
        two = λ same.
            let once = before.listed.once s a in
            let all : times s list ≡ times s (front ++ (gone ++ back)) = ap (times s) is in
            let b = times-append s front (gone ++ back) in
            let c = times-append s gone back in
            let first = stands_in front (length front - 1) s e in
            let last = stands_in back 0 s (e' ∙ ap Some (sym same)) in
            omega (arith, once, all, b, c, first, last);
        west = λ u w is' is'' free.
            let less = east u is' in
            west_at widest u w p (own_near s u is') (own_near t w is'') (spans chains p before.ranges s u is' a) (spans chains p before.ranges t w is'' a')
            (omega (arith, ints, less)) (other t e' w is'') (inl less) free;
      }
    where
      stands_in : (xs : List ℕ) (k n : ℕ) → slice_get xs k ≡ Some n → 0 < times n xs
      stands_in [] k n f = absurd (cc)
      stands_in (x ∷ xs) zero n f = let one = times-same n x xs (sym (one_found x n (Some x) refl f)) in omega (arith, one)
      stands_in (x ∷ xs) (suc k) n f =
          let rest = stands_in xs k n f in
          same_or n x (λ e. let one = times-same n x xs e in omega (arith, one)) (λ ne. let same = times-other n x xs ne in omega (arith, same, rest))

  -- those on both sides of what has entered, or the last one that has
  pub closes : (entering : List ℕ) → All (BeginsAt chains p) entering → (s t : ℕ) → last_of (front ++ entering) ≡ Some s → slice_get back 0 ≡ Some t → MayFollow chains s t
  closes [] begin s t e f = sides_follow s t (ap last_of (sym (append-nil front)) ∙ e) f
  closes (y ∷ ys) begin s t e f =
      last_follows s t (all_at (BeginsAt chains p) (y ∷ ys) (length (y ∷ ys) - 1) s begin (sym (last_over front y ys) ∙ e)) f

-- each stands there at most once
pub few_of : (xs ys : List ℕ) → ((s : ℕ) → times s ys ≡ times s xs) → ((s : ℕ) → 0 < times s xs → times s xs ≡ 1) → (s : ℕ) → times s ys ≤ 1
few_of xs ys same once s = elim (cases_lt 0 (times s xs)) [
  | inl some ↦ let is = same s in let one = once s some in omega (arith, is, one)
  | inr none ↦ let is = same s in omega (arith, is, none)
]

-- those that begin at one point, from west to east
pub among : (chains : List MapChain) (xs : List ℕ) → ((s : ℕ) → times s xs ≤ 1) → EachTwo (IsWestOfOther chains) xs → EachTwo (MayFollow chains) xs
among chains xs few west = both_of (λ s t. s ≢ t) (IsWestOfOther chains) (MayFollow chains) (λ s t ne is. record { two = ne; west = λ u w m n free. is u w m n }) xs (differ xs few) west

-- one that begins where another does is west of it or not, by its higher end
pub west_by : (chains : List MapChain) (p : Point) (s t : ℕ) → BeginsAt chains p s → BeginsAt chains p t →
    ((u w : Segment) → IsNumbered chains s u → IsNumbered chains t w → (pos 0 ≤ℤ turn_to widest w (high_end widest u)) ⊎ (turn_to widest u (high_end widest w) ≤ℤ pos 0)) →
    IsWestOfOther chains s t
west_by chains p s t begins begins' above u w is is' = record {
  below = inl (subst (λ z. pos 0 ≤ℤ z) (sym (ap (turn_of (low_end widest w) (high_end widest w)) (begins u is ∙ sym (begins' w is')) ∙ turn_first (low_end widest w) (high_end widest w)))
      (let least : pos 0 ≤ℤ pos 0 = omega (arith, ints) in least));
  above = above u w is is';
}
