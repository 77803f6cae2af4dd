-- A slab has one list.
use Rattle.std.proofs.Common.{◌≡◌, inl, inr, ⊎_elim, ℕ, ◌+◌, ◌≤◌, ℤ, pos, ◌*ℤ◌, ◌<ℤ◌, List, [], ◌∷◌, refl, sym, ap, ap₂, subst, ◌∙◌, arith}
use Rattle.std.specs.Prelude.{All}
use Rattle.std.proofs.lemmas.Bool.{cases_lt}
use Rattle.std.proofs.lemmas.Int.{ints}
use Rattle.tl_geom.specs.declared.rational.Rational.{Rational}
use Rattle.tl_geom.specs.declared.segment.Segment.{Segment}
use Rattle.tl_geom.specs.Plane.{IsOn}
use Rattle.tl_map_county.specs.TheMap.{MapChain}
use Rattle.tl_tree_index.specs.Hits.{times}
use Rattle.tl_tree_index.proofs.Times.{times-same, times-other, same_or}
use Rattle.tl_check_planar.specs.Planar.{IsPlanar}
use Rattle.tl_check_planar.proofs.Numbering.{HaveSameEnds}
use Rattle.tl_check_planar.specs.ByHeight.Heights.{AreNear}
use Rattle.tl_check_planar.specs.ByHeight.Neighbours.{IsNumbered, AreTested, EachTwo}
use Rattle.tl_check_planar.specs.ByHeight.Slabs.{IsActive, IsListOf}
use Rattle.tl_check_planar.proofs.ByHeight.Rising.{above_zero}
use Rattle.tl_check_planar.proofs.ByHeight.Numbered.{one_segment, on_same}
use Rattle.tl_check_planar.proofs.ByHeight.Walking.{in_by_times, all_head}
use Rattle.tl_check_faces.specs.Lists.{AreAllNear}
use Rattle.tl_check_faces.specs.Disagreements.{IsInSlab, IsMidway}
use Rattle.tl_check_faces.proofs.Numbers.{le_lt}
use Rattle.tl_check_faces.proofs.Lines.{IsWestward, level_with, met}
use Rattle.tl_check_faces.proofs.Items.{Item, IsLine, item_with, numbered, ends, one_longitude}
use Rattle.tl_check_faces.proofs.Sorting.{IsSorted, numbers, found, IsFound}
use Rattle.tl_check_faces.proofs.Tested.{at_most_once, items_of, numbers_of, sorted_items, active_in as in_all}
use Rattle.tl_check_faces.proofs.Within.{line, spanned_of}
use Rattle.tl_check_faces.proofs.Midway.{some_midway, inside}

-- ---- items along a line

module _ (K : ℤ) (chains : List MapChain) (r : Rational) (on_line : IsLine K chains r) where
  -- two items of one number are at one longitude
  one_place : (x z : Item K chains r) → x.s ≡ z.s → x.at.place.x *ℤ z.at.place.d ≡ z.at.place.x *ℤ x.at.place.d
  one_place x z e =
      let own : IsNumbered chains x.s z.segment = subst (λ m. IsNumbered chains m z.segment) (sym e) (numbered K chains r z) in
      let both : HaveSameEnds x.segment z.segment = one_segment chains x.s x.segment z.segment (numbered K chains r x) own in
      let here : IsOn z.segment x.at.place = on_same x.segment z.segment x.at.place both x.at.on in
      one_longitude K chains r on_line x.s z.segment own x.at.place z.at.place here z.at.on (level_with K x.at.place z.at.place r x.at.level z.at.level)

  -- what has the number of a western item is west as well
  west_too : (x y z : Item K chains r) → x.s ≡ y.s → IsWestward y.at.place z.at.place → IsWestward x.at.place z.at.place
  west_too x y z e west =
      let p : Rational = x.at.place in let q : Rational = y.at.place in let t : Rational = z.at.place in
      let same = one_place x y e in
      le_lt p.x p.d q.x q.d t.x t.d p.above_zero q.above_zero t.above_zero (omega (arith, ints, same)) west

  never_both : (x y w z : Item K chains r) → x.s ≡ z.s → y.s ≡ w.s → IsWestward x.at.place w.at.place → IsWestward y.at.place z.at.place → ⊥
  never_both x y w z e f one other =
      let ahead : IsWestward z.at.place w.at.place = west_too z x w (sym e) one in
      let back : IsWestward w.at.place z.at.place = west_too w y z (sym f) other in
      omega (arith, ints, ahead, back)

  fewer : (x y : ℕ) (xs ys : List ℕ) → x ≡ y → ((i : ℕ) → times i (x ∷ xs) ≡ times i (y ∷ ys)) → (i : ℕ) → times i xs ≡ times i ys
  fewer x y xs ys e same i =
      let all = same i in
      same_or i x
      (λ is. let a = times-same i x xs is in let b = times-same i y ys (is ∙ e) in omega (arith, all, a, b))
      (λ ne. let a = times-other i x xs ne in let b = times-other i y ys (λ k. ne (k ∙ sym e)) in omega (arith, all, a, b))

  pub one_order : (xs ys : List (Item K chains r)) → IsSorted K chains r xs → IsSorted K chains r ys →
      ((i : ℕ) → times i (numbers K chains r xs) ≡ times i (numbers K chains r ys)) → numbers K chains r xs ≡ numbers K chains r ys
  one_order [] [] sorted sorted' same = refl
  one_order [] (y ∷ ys) sorted sorted' same =
      absurd (let one = times-same y.s y.s (numbers K chains r ys) refl in let none = same y.s in omega (arith, one, none))
  one_order (x ∷ xs) [] sorted sorted' same =
      absurd (let one = times-same x.s x.s (numbers K chains r xs) refl in let none = same x.s in omega (arith, one, none))
  one_order (x ∷ xs) (y ∷ ys) sorted sorted' same =
      same_or x.s y.s
      (λ e. ap₂ (λ i l. i ∷ l) e (one_order xs ys sorted.1 sorted'.1 (fewer x.s y.s (numbers K chains r xs) (numbers K chains r ys) e same)))
      (λ ne. absurd (
      let own = times-same x.s x.s (numbers K chains r xs) refl in
      let other = times-other x.s y.s (numbers K chains r ys) ne in
      let all = same x.s in
      let own' = times-same y.s y.s (numbers K chains r ys) refl in
      let other' = times-other y.s x.s (numbers K chains r xs) (λ e. ne (sym e)) in
      let all' = same y.s in
      let z : IsFound K chains r x.s ys = found K chains r x.s ys (omega (arith, own, other, all)) in
      let w : IsFound K chains r y.s xs = found K chains r y.s xs (omega (arith, own', other', all')) in
      never_both x y w.item z.item z.is w.is (sorted.0 w.item w.has) (sorted'.0 z.item z.has)))

-- ---- the lists of a slab

module _ (K n : ℤ) (chains : List MapChain) (xs ys : List ℕ) (one : IsListOf K n chains xs) (other : IsListOf K n chains ys) where
  same_times : (i : ℕ) → times i xs ≡ times i ys
  same_times i = elim (cases_lt 0 (times i xs)) [
    | inl some ↦
        let a : IsActive K n chains i = in_all (IsActive K n chains) i xs one.active (in_by_times i xs some) in one.once i a ∙ sym (other.once i a)
    | inr none ↦ elim (cases_lt 0 (times i ys)) [
      | inl some ↦
          let a : IsActive K n chains i = in_all (IsActive K n chains) i ys other.active (in_by_times i ys some) in one.once i a ∙ sym (other.once i a)
      | inr none' ↦ omega (arith, none, none')
    ]
  ]

  module _ (above : pos 0 <ℤ K) (near : AreAllNear K chains) (planar : IsPlanar chains) (r : Rational) (within : IsInSlab K n r) where
    abbrev on_line : IsLine K chains r
    on_line = line K above chains near n r within

    item : (s : ℕ) → IsActive K n chains s → Item K chains r
    item s a =
        item_with K chains r s a.segment a.is (spanned_of K above chains near n r within a.segment a.begun a.lasting)
        (met K a.segment r (ends K chains r on_line s a.segment a.is) (spanned_of K above chains near n r within a.segment a.begun a.lasting))

    item_number : (s : ℕ) (a : IsActive K n chains s) → (item s a).s ≡ s
    unfolding item
    item_number s a = refl

    abbrev items : (list : List ℕ) → All (IsActive K n chains) list → List (Item K chains r)
    items list all = items_of K chains r (IsActive K n chains) item list all

    items_are : (list : List ℕ) (all : All (IsActive K n chains) list) → numbers K chains r (items list all) ≡ list
    items_are list all = numbers_of K chains r (IsActive K n chains) item item_number list all

    sorted : (list : List ℕ) (of : IsListOf K n chains list) → IsSorted K chains r (items list of.active)
    sorted list of =
        let are : numbers K chains r (items list of.active) ≡ list = items_are list of.active in
        sorted_items K chains planar r on_line K (λ x y west. west) (items list of.active) (subst (EachTwo (AreTested K chains)) (sym are) of.tested)
        (λ s. subst (λ l. times s l ≤ 1) (sym are) (at_most_once K n chains list of s))

    on_a_line : xs ≡ ys
    on_a_line =
        let are : numbers K chains r (items xs one.active) ≡ xs = items_are xs one.active in
        let are' : numbers K chains r (items ys other.active) ≡ ys = items_are ys other.active in
        sym are ∙ one_order K chains r on_line (items xs one.active) (items ys other.active) (sorted xs one) (sorted ys other)
        (λ i. ap (times i) are ∙ same_times i ∙ sym (ap (times i) are')) ∙ are'

pub own_near : (K : ℤ) (chains : List MapChain) → AreAllNear K chains → (s : ℕ) (u : Segment) → IsNumbered chains s u → AreNear K u.a u.b
own_near K chains near s u is = near is.c is.k is.c (is.k + 1) u.a u.b
    (record { chain = is.joins.chain; is = is.joins.is; point = is.joins.from }) (record { chain = is.joins.chain; is = is.joins.is; point = is.joins.to })

pub one_list : (K n : ℤ) (chains : List MapChain) → AreAllNear K chains → IsPlanar chains → (xs ys : List ℕ) → IsListOf K n chains xs →
    IsListOf K n chains ys → xs ≡ ys
one_list K n chains near planar [] [] one other = refl
one_list K n chains near planar [] (y ∷ ys) one other =
    absurd (let same = same_times K n chains [] (y ∷ ys) one other y in let some = times-same y y ys refl in omega (arith, same, some))
one_list K n chains near planar (x ∷ xs) ys one other =
    let a : IsActive K n chains x = all_head (IsActive K n chains) x xs one.active in
    let own : AreNear K a.segment.a a.segment.b = own_near K chains near x a.segment a.is in
    let place : (p : Rational) × IsMidway K n a.segment p = some_midway K n a.segment own in
    on_a_line K n chains (x ∷ xs) ys one other (above_zero K a.segment.a a.segment.b own) near planar place.0 (inside K n a.segment own place.0 place.1)
