-- Two segments of a tested list that share a place share an end of both: the place lies on all segments from one to the other.
use Rattle.std.proofs.Common.{◌≡◌, ◌⊎◌, inl, inr, ⊎_elim, ℕ, suc, ◌<◌, ℤ, pos, ◌+ℤ◌, ◌*ℤ◌, ◌≤ℤ◌, List, [], ◌∷◌, ◌++◌, sym, subst, ◌∙◌, arith}
use Rattle.std.specs.Prelude.{All}
use Rattle.std.proofs.lemmas.Int.{ints}
use Rattle.tl_geom.specs.declared.rational.Rational.{Rational}
use Rattle.tl_geom.specs.declared.segment.Segment.{Segment}
use Rattle.tl_geom.specs.Plane.{IsOn}
use Rattle.tl_geom.specs.Contact.{IsEnd}
use Rattle.tl_geom.proofs.Signs.{mono}
use Rattle.tl_map_county.specs.TheMap.{MapChain}
use Rattle.tl_tree_index.specs.Hits.{times}
use Rattle.tl_tree_index.proofs.Times.{same_or, times-other}
use Rattle.tl_check_planar.specs.ByHeight.Heights.{height, height_of, low_end, high_end, turn_at, AreNear, Spans, IsNotEast}
use Rattle.tl_check_planar.specs.ByHeight.Neighbours.{IsNumbered, IsWide, AreTested, EachTwo, IsWestOf}
use Rattle.tl_check_planar.specs.ByHeight.Slabs.{IsActive}
use Rattle.tl_check_planar.proofs.ByHeight.Rising.{ends_of}
use Rattle.tl_check_planar.proofs.ByHeight.Lying.{heights_of}
use Rattle.tl_check_planar.proofs.ByHeight.Transport.{not_east, on_both}
use Rattle.tl_check_planar.proofs.ByHeight.Numbered.{IsOnIt, IsEndOfIt, both_ended}

-- ---- lists

-- the number stands in the list
abbrev pub IsIn : ℕ → List ℕ → Type 0
IsIn s [] = ⊥
IsIn s (x ∷ xs) = (s ≡ x) ⊎ IsIn s xs

pub in_by_times : (s : ℕ) (xs : List ℕ) → 0 < times s xs → IsIn s xs
in_by_times s [] h = absurd (let no : 0 < 0 = h in omega (arith, no))
in_by_times s (x ∷ xs) h = same_or s x (λ e. inl e) (λ ne. inr (in_by_times s xs (let less = times-other s x xs ne in omega (arith, h, less))))

pub all_tail : (P : ℕ → Type 0) (x : ℕ) (xs : List ℕ) → All P (x ∷ xs) → All P xs
all_tail P x xs all k d lt = all (suc k) d (omega (arith, lt))

pub all_head : (P : ℕ → Type 0) (x : ℕ) (xs : List ℕ) → All P (x ∷ xs) → P x
all_head P x xs all = all 0 0 (omega arith)

pub two_tail : (P : ℕ → ℕ → Type 0) (x : ℕ) (xs : List ℕ) → EachTwo P (x ∷ xs) → EachTwo P xs
two_tail P x [] two = tt
two_tail P x (y ∷ xs) two = two.1

pub two_back : (P : ℕ → ℕ → Type 0) (xs ys : List ℕ) → EachTwo P (xs ++ ys) → EachTwo P ys
two_back P [] ys two = two
two_back P (x ∷ xs) ys two = two_back P xs ys (two_tail P x (xs ++ ys) two)

pub two_front : (P : ℕ → ℕ → Type 0) (xs ys : List ℕ) → EachTwo P (xs ++ ys) → EachTwo P xs
two_front P [] ys two = tt
two_front P (x ∷ []) ys two = tt
two_front P (x ∷ (y ∷ xs)) ys two = (two.0, two_front P (y ∷ xs) ys two.1)

-- ---- along the list of a slab that holds the height of a place

module _ (K n : ℤ) (chains : List MapChain) (wide : IsWide K chains) (r : Rational) (from : (r.d *ℤ n) ≤ℤ height_of K r) (to : height_of K r ≤ℤ (r.d *ℤ (n +ℤ pos 1))) where
  pub spans_of : (s : ℕ) (a : IsActive K n chains s) → Spans K a.segment r
  spans_of s a =
      let d = r.above_zero in
      let begun = a.begun in
      let lasting = a.lasting in
      let low : (r.d *ℤ height K (low_end K a.segment)) ≤ℤ (r.d *ℤ n) = mono r.d (height K (low_end K a.segment)) n (omega (arith, ints, d)) begun in
      let high : (r.d *ℤ (n +ℤ pos 1)) ≤ℤ (r.d *ℤ height K (high_end K a.segment)) = mono r.d (n +ℤ pos 1) (height K (high_end K a.segment)) (omega (arith, ints, d)) (omega (arith, ints, lasting)) in
      record { from = omega (arith, ints, low, from); to = omega (arith, ints, high, to) }

  near_of : (s : ℕ) (a : IsActive K n chains s) → AreNear K a.segment.a a.segment.b
  near_of s a = wide s a.segment a.is

  -- the place lies on a segment and is an end of it and of one that stands behind it
  record IsReached (u : Segment) (t : ℕ) : Type 0 where
    on : IsOn u r
    end : IsEnd u r
    other : IsEndOfIt chains t r

  walk : (s : ℕ) (list : List ℕ) (own : IsActive K n chains s) → IsNotEast K own.segment r → All (IsActive K n chains) list → EachTwo (AreTested K chains) (s ∷ list) →
      (t : ℕ) → IsIn t list → IsOnIt chains t r → IsReached own.segment t
  walk s [] own not active tested t in_list on = absurd in_list
  walk s (z ∷ list) own not active tested t in_list on =
      let next : IsActive K n chains z = all_head (IsActive K n chains) z list active in
      let west : IsWestOf K own.segment next.segment = tested.0.west own.segment next.segment own.is next.is in
      let spans : Spans K own.segment r = spans_of s own in
      let spans' : Spans K next.segment r = spans_of z next in
      let both : IsOn next.segment r → IsOn own.segment r = on_both K own.segment next.segment (near_of s own) (near_of z next) west r spans spans' not in
      let ended : IsOn own.segment r → IsOn next.segment r → IsEnd own.segment r × IsEnd next.segment r =
      both_ended own.segment next.segment r (tested.0.free own.segment next.segment own.is next.is) in
      ⊎_elim
      (λ e.
      let here : IsOn next.segment r = on next.segment (subst (λ x. IsNumbered chains x next.segment) (sym e) next.is) in
      let ends : IsEnd own.segment r × IsEnd next.segment r = ended (both here) here in
      record {
        on = both here;
        end = ends.0;
        other = record { segment = next.segment; is = subst (λ x. IsNumbered chains x next.segment) (sym e) next.is; end = ends.1 };
      })
      (λ later.
      let far : IsNotEast K next.segment r = not_east K own.segment next.segment (near_of s own) (near_of z next) west r spans spans' not in
      let rest : IsReached next.segment t = walk z list next far (all_tail (IsActive K n chains) z list active) tested.1 t later on in
      record { on = both rest.on; end = (ended (both rest.on) rest.on).0; other = rest.other })
      in_list

  -- what lies on a segment isn't east of it
  not_east_of : (s : ℕ) (own : IsActive K n chains s) → IsOn own.segment r → IsNotEast K own.segment r
  not_east_of s own on =
      let zero : turn_at (low_end K own.segment) (high_end K own.segment) r ≡ pos 0 =
      (heights_of K own.segment (low_end K own.segment) (high_end K own.segment) (ends_of K own.segment (near_of s own)) r on).0 in
      omega (arith, ints, zero)

  -- from the one that stands first
  from_first : (x s t : ℕ) (list : List ℕ) → All (IsActive K n chains) (x ∷ list) → EachTwo (AreTested K chains) (x ∷ list) → s ≡ x → IsIn t list → IsOnIt chains s r → IsOnIt chains t r →
      IsEndOfIt chains s r × IsEndOfIt chains t r
  from_first x s t list active tested e later on on' =
      let own : IsActive K n chains x = all_head (IsActive K n chains) x list active in
      let is : IsNumbered chains s own.segment = subst (λ k. IsNumbered chains k own.segment) (sym e) own.is in
      let w : IsReached own.segment t = walk x list own (not_east_of x own (on own.segment is)) (all_tail (IsActive K n chains) x list active) tested t later on' in
      (record { segment = own.segment; is = is; end = w.end }, w.other)

  pub meet_at_ends : (list : List ℕ) → All (IsActive K n chains) list → EachTwo (AreTested K chains) list → (s t : ℕ) → IsIn s list → IsIn t list → ¬ (s ≡ t) → IsOnIt chains s r → IsOnIt chains t r →
      IsEndOfIt chains s r × IsEndOfIt chains t r
  meet_at_ends [] active tested s t one other ne on on' = absurd one
  meet_at_ends (x ∷ list) active tested s t one other ne on on' =
      ⊎_elim
      (λ e. ⊎_elim (λ f. absurd (ne (e ∙ sym f))) (λ later. from_first x s t list active tested e later on on') other)
      (λ rest. ⊎_elim
      (λ f. let both : IsEndOfIt chains t r × IsEndOfIt chains s r = from_first x t s list active tested f rest on' on in (both.1, both.0))
      (λ later. meet_at_ends list (all_tail (IsActive K n chains) x list active) (two_tail (AreTested K chains) x list tested) s t rest later ne on on') other)
      one
