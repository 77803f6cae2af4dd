-- What joined records tell of a chain is what each list of records that has it tells.
use Rattle.std.proofs.Common.{◌≡◌, ℕ, zero, suc, ◌≤◌, ◌⊎◌, true, false, List, [], ◌∷◌, ◌++◌, length, Option, Some, None, refl, sym, ap, ◌∙◌, inl, inr, arith}
use Rattle.std.specs.Prelude.{slice_get}
use Rattle.std.specs.List.{AllByRecursion}
use Rattle.std.proofs.lemmas.Bool.{cases_Bool}
use Rattle.tl_geom.specs.declared.point.Point.{Point}
use Rattle.tl_record_key.specs.declared.key.PolyKey.{PolyKey}
use Rattle.tl_record.specs.declared.record.Record.{Record}
use Rattle.tl_record.specs.declared.record.Record.TheVariants.{Chain, Shape, Sides}
use Rattle.tl_record.specs.Joining.{fits, first_given, one_of_two, is_told_twice}
use Rattle.tl_map.specs.declared.joined.place.Place.{Place}
use Rattle.tl_map.specs.Joined.Keeping.Places.{is_at}
use Rattle.tl_map.proofs.JoinedLemmas.ApartLemmas.{key}
use Rattle.tl_map_rules.specs.ChainsOf.{shape_count, pairs_at, pairs_up_to, pairs_of}
use Rattle.tl_map_rules.specs.Faults.{AreShapesNumbered}
use Rattle.tl_map_rules.proofs.PairLemmas.{pairs_at_is}
use Rattle.tigertopo_border.specs.Parts.{all_records, HaveNoFaultButMany}
use Rattle.tigertopo_border.proofs.Joining.KeyedLemmas.{told, AreJoinedOf, first_at, second_at, joined_apart, joined_twice, joined_none}
use Rattle.tigertopo_border.proofs.Joining.InLemmas.{In, contained, one_in, from_passing}
use Rattle.tigertopo_border.proofs.Joining.ShapeLemmas.{at_number, as_many}
use Rattle.tigertopo_border.proofs.Joining.TellLemmas.{Tells, numbered, chain_once, sides_once, shape_once, first_told, shapes_counted, IsChainRecord, chain_record, IsShapeRecord, shape_record, IsSidesRecord, sides_record}
use Rattle.tigertopo_border.proofs.Joining.SeveralLemmas.{chains, all_at, alone, IsBeside, beside, AreBeside, before, behind}
use Rattle.tigertopo_border.proofs.Joining.FitLemmas.{AreTwo, one_each, none_each, same_ends, pairs_fit, AreHalves, left_first, right_first, sides_fit, IsToldTwice, told_twice}

-- both tell nothing, or one and the same pairs
pub data AreAlike (t n : ℕ) (xs ys : List Record) : Type 0 where
  neither : xs ≡ [] → ys ≡ [] → AreAlike t n xs ys
  both : (pairs : List (Option Point)) → xs ≡ Shape t n pairs ∷ [] → ys ≡ Shape t n pairs ∷ [] → AreAlike t n xs ys

same_length : (t n : ℕ) (xs ys : List Record) → AreAlike t n xs ys → length xs ≡ length ys
same_length t n xs ys (neither one other) = ap length one ∙ sym (ap length other)
same_length t n xs ys (both pairs one other) = ap length one ∙ sym (ap length other)

-- so their pairs are the same
same_pairs_at : (js rs : List Record) (t n : ℕ) → at_number rs t n ≡ 1 → at_number js t n ≡ 1 → AreAlike t n (told (key t 50 n) js) (told (key t 50 n) rs) → pairs_at js t n ≡ pairs_at rs t n
same_pairs_at js rs t n one other (neither x y) = absurd (let none = shapes_counted rs t n ∙ ap length y in omega (arith, one, none))
same_pairs_at js rs t n one other (both pairs x y) =
    pairs_at_is js t n pairs (contained js (Shape t n pairs) (from_passing (is_at (key t 50 n)) js (Shape t n pairs) (one_in _ _ x)).0) other
    ∙ sym (pairs_at_is rs t n pairs (contained rs (Shape t n pairs) (from_passing (is_at (key t 50 n)) rs (Shape t n pairs) (one_in _ _ y)).0) one)

same_pairs_up_to : (js rs : List Record) (t m : ℕ) → ((n : ℕ) → 1 ≤ n → n ≤ m → pairs_at js t n ≡ pairs_at rs t n) → pairs_up_to js t m ≡ pairs_up_to rs t m
same_pairs_up_to js rs t zero same = refl
same_pairs_up_to js rs t (suc m) same =
    let last = same (suc m) (omega arith) (omega arith) in
    let rest = same_pairs_up_to js rs t m (λ n low high. same n low (omega (arith, high))) in
    λ i. rest i ++ last i

pub pairs_alike : (js rs : List Record) (t : ℕ) → AreShapesNumbered js t → AreShapesNumbered rs t → ((n : ℕ) → 1 ≤ n → AreAlike t n (told (key t 50 n) js) (told (key t 50 n) rs)) → pairs_of js t ≡ pairs_of rs t
pairs_alike js rs t one other alike =
    let many : shape_count js t ≡ shape_count rs t =
    as_many js rs t one other (λ n low. shapes_counted js t n ∙ same_length t n _ _ (alike n low) ∙ sym (shapes_counted rs t n)) in
    ap (pairs_up_to js t) many
    ∙ same_pairs_up_to js rs t (shape_count rs t) (λ n low high. same_pairs_at js rs t n (other n low high) (one n low (omega (arith, many, high))) (alike n low))

-- ---- what stays of two

same_chain : (t : ℕ) (a b : Record) → IsChainRecord t a → IsChainRecord t b → fits a b ≡ true → (a ≡ b) × (one_of_two a b ≡ b)
same_chain t a b one other fit =
    let fit_too : fits (Chain t one.from one.to) (Chain t other.from other.to) ≡ true = ap (λ r. fits r (Chain t other.from other.to)) (sym one.is) ∙ ap (fits a) (sym other.is) ∙ fit in
    let ends = same_ends t t one.from other.from one.to other.to fit_too in
    let from = ends.0 in
    let to = ends.1 in
    (one.is ∙ (λ i. Chain t (from i) (to i)) ∙ sym other.is, ap (λ r. one_of_two r b) one.is)

same_shape : (t n : ℕ) (a b : Record) → IsShapeRecord t n a → IsShapeRecord t n b → fits a b ≡ true → (a ≡ b) × (one_of_two a b ≡ b)
same_shape t n a b one other fit =
    let fit_too : fits (Shape t n one.pairs) (Shape t n other.pairs) ≡ true = ap (λ r. fits r (Shape t n other.pairs)) (sym one.is) ∙ ap (fits a) (sym other.is) ∙ fit in
    let pairs = pairs_fit t n t n one.pairs other.pairs fit_too in
    (one.is ∙ ap (Shape t n) pairs ∙ sym other.is, ap (λ r. one_of_two r b) one.is)

-- of two, this list tells one and the other list the other
pub data IsSplit (a b : Record) (xs ys : List Record) : Type 0 where
  is_first : xs ≡ a ∷ [] → ys ≡ b ∷ [] → IsSplit a b xs ys
  is_second : xs ≡ b ∷ [] → ys ≡ a ∷ [] → IsSplit a b xs ys

split : (t : ℕ) (all rs other : List Record) (q : Place) (a b : Record) → AreBeside t all rs other → q.tlid ≡ t → told q all ≡ a ∷ b ∷ [] → length (told q rs) ≤ 1 → length (told q other) ≤ 1
    → IsSplit a b (told q rs) (told q other)
split t all rs other q a b (before f) same are few fewer = let each = one_each (told q rs) (told q other) a b (sym (f q same) ∙ are) few fewer in is_first each.0 each.1
split t all rs other q a b (behind f) same are few fewer = let each = one_each (told q other) (told q rs) a b (sym (f q same) ∙ are) fewer few in is_second each.1 each.0

none_of_both : (t : ℕ) (all rs other : List Record) (q : Place) → AreBeside t all rs other → q.tlid ≡ t → told q all ≡ [] → told q rs ≡ []
none_of_both t all rs other q (before f) same none = (none_each (told q rs) (told q other) (sym (f q same) ∙ none)).0
none_of_both t all rs other q (behind f) same none = (none_each (told q other) (told q rs) (sym (f q same) ∙ none)).1

either_way : (a b : Record) (xs ys : List Record) → a ≡ b → IsSplit a b xs ys → xs ≡ b ∷ []
either_way a b xs ys same (is_first x y) = x ∙ ap (λ r. r ∷ []) same
either_way a b xs ys same (is_second x y) = x

-- ---- what one list tells and what all tell

-- a type I record of another list names the key
pub record IsOthers (lists : List (List Record)) (k t : ℕ) (name : PolyKey) : Type 0 where
  pub place : ℕ
  pub other : List Record
  pub is : slice_get lists place ≡ Some other
  pub apart : place ≡ k → ⊥
  pub start : Option ℕ
  pub end : Option ℕ
  pub left : Option PolyKey
  pub right : Option PolyKey
  pub has : In (Sides t start end left right) other
  pub names : (left ≡ Some name) ⊎ (right ≡ Some name)

-- the sides are this list's, or those of two lists, each of which names one
pub data AreSidesOf (lists : List (List Record)) (k t : ℕ) (own_left own_right left right : Option PolyKey) : Type 0 where
  own : own_left ≡ left → own_right ≡ right → chains t (all_records lists) ≤ 1 → AreSidesOf lists k t own_left own_right left right
  left_half : (a b : PolyKey) → own_left ≡ Some a → own_right ≡ None → left ≡ Some a → right ≡ Some b → IsOthers lists k t b → AreSidesOf lists k t own_left own_right left right
  right_half : (a b : PolyKey) → own_left ≡ None → own_right ≡ Some b → left ≡ Some a → right ≡ Some b → IsOthers lists k t a → AreSidesOf lists k t own_left own_right left right

pub record IsToldBy (lists : List (List Record)) (k t : ℕ) (js rs : List Record) : Type 0 where
  pub own : Tells rs t
  pub pairs : pairs_of js t ≡ pairs_of rs t
  pub chain : told (key t 49 0) js ≡ told (key t 49 0) rs
  pub start : Option ℕ
  pub end : Option ℕ
  pub left : Option PolyKey
  pub right : Option PolyKey
  pub sides : told (key t 73 0) js ≡ Sides t start end left right ∷ []
  pub how : AreSidesOf lists k t own.left own.right left right

module _ (lists : List (List Record)) (all : AllByRecursion HaveNoFaultButMany lists) (js : List Record) (of : AreJoinedOf js (all_records lists)) (fine : HaveNoFaultButMany js) (k : ℕ) (rs : List Record) (is : slice_get lists k ≡ Some rs) (t : ℕ) (it : Tells rs t) where
  rs_fine : HaveNoFaultButMany rs
  rs_fine = all_at HaveNoFaultButMany lists k rs all is

  some : 1 ≤ chains t rs
  some = let one = ap length it.chain in omega (arith, one)

  -- ---- where it isn't told twice

  module _ (once : is_told_twice (all_records lists) t ≡ false) where
    few : chains t (all_records lists) ≤ 1
    few = let same = of.told_is (key t 49 0) ∙ joined_apart (all_records lists) (key t 49 0) once (all_records lists) in rw (← same) (chain_once js fine t)

    same_told : (q : Place) → q.tlid ≡ t → told q js ≡ told q rs
    same_told q same =
        let once_q : is_told_twice (all_records lists) q.tlid ≡ false = ap (is_told_twice (all_records lists)) same ∙ once in
        of.told_is q ∙ joined_apart (all_records lists) q once_q (all_records lists) ∙ alone t lists all k rs is some few q same

    same_shapes : (n : ℕ) → 1 ≤ n → AreAlike t n (told (key t 50 n) js) (told (key t 50 n) rs)
    same_shapes n low = go (told (key t 50 n) rs) refl
      where
        go : (xs : List Record) → told (key t 50 n) rs ≡ xs → AreAlike t n (told (key t 50 n) js) (told (key t 50 n) rs)
        go [] none = neither (same_told (key t 50 n) refl ∙ none) none
        go (x ∷ []) one =
            let shape = shape_record t n x (first_at (key t 50 n) rs x [] one) in
            let this : told (key t 50 n) rs ≡ Shape t n shape.pairs ∷ [] = one ∙ ap (λ r. r ∷ []) shape.is in
            both shape.pairs (same_told (key t 50 n) refl ∙ this) this
        go (x ∷ y ∷ xs) more = absurd (let two = ap length more in omega (arith, two, shape_once rs rs_fine t n low))

    apart_told : IsToldBy lists k t js rs
    apart_told = record {
      own = it;
      pairs = pairs_alike js rs t (numbered js fine t) (numbered rs rs_fine t) same_shapes;
      chain = same_told (key t 49 0) refl;
      start = it.start;
      end = it.end;
      left = it.left;
      right = it.right;
      sides = same_told (key t 73 0) refl ∙ it.sides;
      how = own refl refl few;
    }

  -- ---- where it is

  module _ (twice : is_told_twice (all_records lists) t ≡ true) where
    two : IsToldTwice (all_records lists) t
    two = told_twice (all_records lists) t twice

    other : IsBeside t lists k rs
    other = beside t lists all k rs is some (ap length two.chain.are)

    other_fine : HaveNoFaultButMany other.other
    other_fine = all_at HaveNoFaultButMany lists other.place other.other all other.is

    twice_chain : told (key t 49 0) js ≡ told (key t 49 0) rs
    twice_chain =
        let a = two.chain.first in
        let b = two.chain.second in
        let same = same_chain t two.chain.first two.chain.second (chain_record t two.chain.first (first_at (key t 49 0) (all_records lists) two.chain.first (two.chain.second ∷ []) two.chain.are))
        (chain_record t two.chain.second (second_at (key t 49 0) (all_records lists) two.chain.first two.chain.second [] two.chain.are)) two.chain.fit in
        of.told_is (key t 49 0) ∙ joined_twice (all_records lists) (key t 49 0) two.chain.first two.chain.second twice two.chain.are ∙ ap (λ r. r ∷ []) same.1
        ∙ sym (either_way two.chain.first two.chain.second _ _ same.0
        (split t (all_records lists) rs other.other (key t 49 0) two.chain.first two.chain.second other.both refl two.chain.are (chain_once rs rs_fine t) (chain_once other.other other_fine t)))

    shapes_of_two : (n : ℕ) → 1 ≤ n → AreTwo (told (key t 50 n) (all_records lists)) → AreAlike t n (told (key t 50 n) js) (told (key t 50 n) rs)
    shapes_of_two n low both_of =
        let second = shape_record t n both_of.second (second_at (key t 50 n) (all_records lists) both_of.first both_of.second [] both_of.are) in
        let same = same_shape t n both_of.first both_of.second (shape_record t n both_of.first (first_at (key t 50 n) (all_records lists) both_of.first (both_of.second ∷ []) both_of.are)) second both_of.fit in
        let this : both_of.second ∷ [] ≡ Shape t n second.pairs ∷ [] = ap (λ r. r ∷ []) second.is in
        both second.pairs
        (of.told_is (key t 50 n) ∙ joined_twice (all_records lists) (key t 50 n) both_of.first both_of.second twice both_of.are ∙ ap (λ r. r ∷ []) same.1 ∙ this)
        (either_way both_of.first both_of.second _ _ same.0
        (split t (all_records lists) rs other.other (key t 50 n) both_of.first both_of.second other.both refl both_of.are (shape_once rs rs_fine t n low) (shape_once other.other other_fine t n low)) ∙ this)

    twice_shapes : (n : ℕ) → 1 ≤ n → AreAlike t n (told (key t 50 n) js) (told (key t 50 n) rs)
    twice_shapes n low = go (told (key t 50 n) (all_records lists)) refl
      where
        go : (xs : List Record) → told (key t 50 n) (all_records lists) ≡ xs → AreAlike t n (told (key t 50 n) js) (told (key t 50 n) rs)
        go [] none = neither (of.told_is (key t 50 n) ∙ joined_none (all_records lists) (key t 50 n) none) (none_of_both t (all_records lists) rs other.other (key t 50 n) other.both refl none)
        go (x ∷ xs) more =
            let first = first_told (key t 50 n) (all_records lists) x xs more in
            let shape = shape_record t n x first.1 in
            let there : In (Shape t n shape.pairs) (all_records lists) = rw shape.is at first.0 in
            shapes_of_two n low (two.shapes n shape.pairs there)

    a_is : IsSidesRecord t two.sides.first
    a_is = sides_record t two.sides.first (first_at (key t 73 0) (all_records lists) two.sides.first (two.sides.second ∷ []) two.sides.are)

    b_is : IsSidesRecord t two.sides.second
    b_is = sides_record t two.sides.second (second_at (key t 73 0) (all_records lists) two.sides.first two.sides.second [] two.sides.are)

    are_halves : AreHalves a_is.left a_is.right b_is.left b_is.right
    are_halves =
        let fit : fits (Sides t a_is.start a_is.end a_is.left a_is.right) (Sides t b_is.start b_is.end b_is.left b_is.right) ≡ true =
        ap (λ r. fits r (Sides t b_is.start b_is.end b_is.left b_is.right)) (sym a_is.is) ∙ ap (fits two.sides.first) (sym b_is.is) ∙ two.sides.fit in
        sides_fit t t a_is.start a_is.end b_is.start b_is.end a_is.left a_is.right b_is.left b_is.right fit

    union : one_of_two two.sides.first two.sides.second ≡ Sides t (first_given a_is.start b_is.start) (first_given a_is.end b_is.end) (first_given a_is.left b_is.left) (first_given a_is.right b_is.right)
    union = ap (λ r. one_of_two r two.sides.second) a_is.is ∙ ap (one_of_two (Sides t a_is.start a_is.end a_is.left a_is.right)) b_is.is

    is_split : IsSplit two.sides.first two.sides.second (told (key t 73 0) rs) (told (key t 73 0) other.other)
    is_split = split t (all_records lists) rs other.other (key t 73 0) two.sides.first two.sides.second other.both refl two.sides.are (sides_once rs rs_fine t) (sides_once other.other other_fine t)

    others : (r : Record) (r_is : IsSidesRecord t r) (name : PolyKey) → told (key t 73 0) other.other ≡ r ∷ [] → (r_is.left ≡ Some name) ⊎ (r_is.right ≡ Some name) → IsOthers lists k t name
    others r r_is name there names = record {
      place = other.place;
      other = other.other;
      is = other.is;
      apart = other.apart;
      start = r_is.start;
      end = r_is.end;
      left = r_is.left;
      right = r_is.right;
      has = let found : In r other.other = (from_passing (is_at (key t 73 0)) other.other r (one_in _ _ there)).0 in rw r_is.is at found;
      names = names;
    }

    one_record : {r : Record} → told (key t 73 0) rs ≡ r ∷ [] → (r_is : IsSidesRecord t r) → Sides t it.start it.end it.left it.right ≡ Sides t r_is.start r_is.end r_is.left r_is.right
    one_record {r} this r_is =
        let both_of : Sides t it.start it.end it.left it.right ∷ [] ≡ r ∷ [] = sym it.sides ∙ this in
        let one : Sides t it.start it.end it.left it.right ≡ r = cc in
        one ∙ r_is.is

    how_of : IsSplit two.sides.first two.sides.second (told (key t 73 0) rs) (told (key t 73 0) other.other) → AreHalves a_is.left a_is.right b_is.left b_is.right
        → AreSidesOf lists k t it.left it.right (first_given a_is.left b_is.left) (first_given a_is.right b_is.right)
    how_of (is_first x y) (left_first a b one two_of three four) =
        let same : Sides t it.start it.end it.left it.right ≡ Sides t a_is.start a_is.end a_is.left a_is.right = one_record x a_is in
        left_half a b (cc (same, one)) (cc (same, two_of)) (rw one refl) (rw two_of four) (others two.sides.second b_is b y (inr four))
    how_of (is_first x y) (right_first a b one two_of three four) =
        let same : Sides t it.start it.end it.left it.right ≡ Sides t a_is.start a_is.end a_is.left a_is.right = one_record x a_is in
        right_half a b (cc (same, one)) (cc (same, two_of)) (rw one three) (rw two_of refl) (others two.sides.second b_is a y (inl three))
    how_of (is_second x y) (left_first a b one two_of three four) =
        let same : Sides t it.start it.end it.left it.right ≡ Sides t b_is.start b_is.end b_is.left b_is.right = one_record x b_is in
        right_half a b (cc (same, three)) (cc (same, four)) (rw one refl) (rw two_of four) (others two.sides.first a_is a y (inl one))
    how_of (is_second x y) (right_first a b one two_of three four) =
        let same : Sides t it.start it.end it.left it.right ≡ Sides t b_is.start b_is.end b_is.left b_is.right = one_record x b_is in
        left_half a b (cc (same, three)) (cc (same, four)) (rw one three) (rw two_of refl) (others two.sides.first a_is b y (inr two_of))

    twice_told : IsToldBy lists k t js rs
    twice_told = record {
      own = it;
      pairs = pairs_alike js rs t (numbered js fine t) (numbered rs rs_fine t) twice_shapes;
      chain = twice_chain;
      start = first_given a_is.start b_is.start;
      end = first_given a_is.end b_is.end;
      left = first_given a_is.left b_is.left;
      right = first_given a_is.right b_is.right;
      sides = of.told_is (key t 73 0) ∙ joined_twice (all_records lists) (key t 73 0) two.sides.first two.sides.second twice two.sides.are ∙ ap (λ r. r ∷ []) union;
      how = how_of is_split are_halves;
    }

  pub told_by : IsToldBy lists k t js rs
  told_by = elim (cases_Bool (is_told_twice (all_records lists) t)) [
    | inl twice ↦ twice_told twice
    | inr once ↦ apart_told once
  ]
