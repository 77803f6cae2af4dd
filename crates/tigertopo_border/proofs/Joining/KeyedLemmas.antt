-- What joined records tell by a key: what all records tell there, or one of two that fit.
use Rattle.std.proofs.Common.{◌≡◌, ℕ, Bool, true, false, List, [], ◌∷◌, filter, cond, Option, Some, None, refl, sym, ap, ◌∙◌, inl, inr}
use Rattle.std.specs.List.{list_any, cons_option}
use Rattle.std.proofs.lemmas.Bool.{true≢false, cases_Bool, false_from_ne_true}
use Rattle.std.proofs.lemmas.List.Elements.{filter_agree}
use Rattle.tl_record_key.specs.declared.key.PolyKey.{PolyKey}
use Rattle.tl_record.specs.declared.record.Record.{Record}
use Rattle.tl_record.specs.declared.record.Record.TheVariants.{Chain, Shape, Sides, PolyPoint, Landmark, AreaLink}
use Rattle.tl_record.specs.Joining.{tells_same, is_told_twice, is_of_twice_told, with_sides_of, one_of_two, one_of, joined_one}
use Rattle.tl_map.specs.declared.joined.place.Place.{Place}
use Rattle.tl_map.specs.Joined.Keeping.Places.{place_of, is_at}
use Rattle.tl_map.specs.Joined.Told.{before_rest, joined_rest}
use Rattle.tl_map.proofs.JoinedLemmas.PlaceLemmas.{key_of, at_own}
use Rattle.tl_map.proofs.JoinedLemmas.ApartLemmas.{key}
use Rattle.tl_map.proofs.JoinedLemmas.JoinLemmas.{same_at, stays_apart, stays_once, of_key}
use Rattle.tl_map_rules.specs.MapOf.{polygon_at, polygons_in}

-- what the records tell at a key
abbrev pub told : Place → List Record → List Record
told p rs = filter (is_at p) rs

-- a list's first passes
first_passes : {X : Type 0} (p : X → Bool) (xs : List X) (x : X) (ys : List X) → filter p xs ≡ x ∷ ys → p x ≡ true
first_passes p [] x ys is = absurd (cc)
first_passes p (y ∷ xs) x ys is = elim (cases_Bool (p y)) [
  | inl holds ↦ let e : y ∷ filter p xs ≡ x ∷ ys = rw holds at is in let same : y ≡ x = cc in rw (← same) holds
  | inr fails ↦ let e : filter p xs ≡ x ∷ ys = rw fails at is in first_passes p xs x ys e
]

second_passes : {X : Type 0} (p : X → Bool) (xs : List X) (x y : X) (ys : List X) → filter p xs ≡ x ∷ y ∷ ys → p y ≡ true
second_passes p [] x y ys is = absurd (cc)
second_passes p (z ∷ xs) x y ys is = elim (cases_Bool (p z)) [
  | inl holds ↦ let e : z ∷ filter p xs ≡ x ∷ y ∷ ys = rw holds at is in let rest : filter p xs ≡ y ∷ ys = cc in first_passes p xs y ys rest
  | inr fails ↦ let e : filter p xs ≡ x ∷ y ∷ ys = rw fails at is in second_passes p xs x y ys e
]

-- the two of a key are records of that key
pub first_at : (p : Place) (rs : List Record) (a : Record) (more : List Record) → told p rs ≡ a ∷ more → is_at p a ≡ true
first_at p rs a more is = first_passes (is_at p) rs a more is

pub second_at : (p : Place) (rs : List Record) (a b : Record) (more : List Record) → told p rs ≡ a ∷ b ∷ more → is_at p b ≡ true
second_at p rs a b more is = second_passes (is_at p) rs a b more is

-- ---- what stands in the place of a record is of its key

sides_of_both : (p : Place) (t : ℕ) (s e : Option ℕ) (l r : Option PolyKey) (b : Record) → place_of b ≡ Some p → place_of (Sides t s e l r) ≡ Some p
    → place_of (with_sides_of t s e l r b) ≡ Some p
sides_of_both p t s e l r (Chain u from to) there here = there
sides_of_both p t s e l r (Shape u n pairs) there here = there
sides_of_both p t s e l r (Sides u s' e' l' r') there here = here
sides_of_both p t s e l r (PolyPoint k q) there here = there
sides_of_both p t s e l r (Landmark n q) there here = there
sides_of_both p t s e l r (AreaLink k n) there here = there

pub one_of_two_at : (p : Place) (a b : Record) → place_of a ≡ Some p → place_of b ≡ Some p → place_of (one_of_two a b) ≡ Some p
one_of_two_at p (Chain u from to) b here there = there
one_of_two_at p (Shape u n pairs) b here there = there
one_of_two_at p (Sides t s e l r) b here there = sides_of_both p t s e l r b there here
one_of_two_at p (PolyPoint k q) b here there = there
one_of_two_at p (Landmark n q) b here there = there
one_of_two_at p (AreaLink k n) b here there = there

one_of_at : (rs : List Record) (r : Record) (p : Place) (all : List Record) → place_of r ≡ Some p → told p rs ≡ all → place_of (one_of r all) ≡ Some p
one_of_at rs r p [] own is = own
one_of_at rs r p (a ∷ []) own is = own
one_of_at rs r p (a ∷ b ∷ []) own is =
    one_of_two_at p a b (key_of p a (first_at p rs a (b ∷ []) is)) (key_of p b (second_at p rs a b [] is))
one_of_at rs r p (a ∷ b ∷ c ∷ more) own is = own

-- the records that tell the same are those of the key
same_told : (rs : List Record) (r : Record) (p : Place) → place_of r ≡ Some p → filter (tells_same r) rs ≡ told p rs
same_told rs r p own = sym (filter_agree (is_at p) (tells_same r) (same_at r p own) rs)

any_told : (r : Record) (p : Place) → place_of r ≡ Some p → (behind : List Record) → list_any (tells_same r) behind ≡ list_any (is_at p) behind
any_told r p own [] = refl
any_told r p own (s ∷ behind) = rw (sym (same_at r p own s), any_told r p own behind) refl

-- of a chain that is told twice
of_two : (rs : List Record) (r : Record) (behind : List Record) (p : Place) → place_of r ≡ Some p → is_told_twice rs p.tlid ≡ true
    → joined_one rs r behind ≡ cond (list_any (is_at p) behind) None (Some (one_of r (told p rs)))
unfolding joined_one
of_two rs r behind p own twice = rw (of_key rs r p own, twice, any_told r p own behind, same_told rs r p own) refl

-- what stands in the place of a record of a key is of that key
left_at : (rs : List Record) (r : Record) (behind : List Record) (p : Place) (s : Record) → place_of r ≡ Some p → joined_one rs r behind ≡ Some s → place_of s ≡ Some p
left_at rs r behind p s own left = elim (cases_Bool (is_told_twice rs p.tlid)) [
  | inl twice ↦ last (list_any (is_at p) behind) (one_of r (told p rs)) (one_of_at rs r p (told p rs) own refl) (sym (of_two rs r behind p own twice) ∙ left)
  | inr once ↦
      let e : Some r ≡ Some s = stays_once rs r behind p own once ∙ left in
      let same : r ≡ s = cc in
      rw (← same) own
]
  where
    last : (b : Bool) (x : Record) → place_of x ≡ Some p → cond b None (Some x) ≡ Some s → place_of s ≡ Some p
    last true x at e = absurd (let wrong : None ≡ Some s = e in cc)
    last false x at e = let same : x ≡ s = cc in rw (← same) at

-- so it isn't of another key
other_left : (rs : List Record) (r : Record) (behind : List Record) (q : Place) → is_at q r ≡ false → (s : Record) → joined_one rs r behind ≡ Some s → is_at q s ≡ false
other_left rs r behind q other s left = go (place_of r) refl
  where
    go : (o : Option Place) → place_of r ≡ o → is_at q s ≡ false
    go None none =
        let e : Some r ≡ Some s = stays_apart rs r behind none ∙ left in
        let same : r ≡ s = cc in
        rw (← same) other
    go (Some p) own = false_from_ne_true (is_at q s) (λ at.
        let one : Some p ≡ Some q = sym (left_at rs r behind p s own left) ∙ key_of q s at in
        true≢false (sym (at_own r q (own ∙ one)) ∙ other))

before_other : (q : Place) (o : Option Record) (rest : List Record) → ((s : Record) → o ≡ Some s → is_at q s ≡ false) → told q (before_rest o rest) ≡ told q rest
before_other q None rest none = refl
before_other q (Some s) rest none = rw (none s refl) refl

told_here : (q : Place) (r : Record) (rs : List Record) → is_at q r ≡ true → told q (r ∷ rs) ≡ r ∷ told q rs
told_here q r rs at = rw at refl

told_other : (q : Place) (r : Record) (rs : List Record) → is_at q r ≡ false → told q (r ∷ rs) ≡ told q rs
told_other q r rs at = rw at refl

-- of a chain that isn't told twice all records stay
pub joined_apart : (all : List Record) (q : Place) → is_told_twice all q.tlid ≡ false → (rs : List Record) → told q (joined_rest all rs) ≡ told q rs
joined_apart all q once [] = refl
joined_apart all q once (r ∷ rs) = elim (cases_Bool (is_at q r)) [
  | inl at ↦
      ap (λ (o : Option Record). told q (before_rest o (joined_rest all rs))) (sym (stays_once all r rs q (key_of q r at) once))
      ∙ told_here q r (joined_rest all rs) at ∙ ap (λ (xs : List Record). r ∷ xs) (joined_apart all q once rs) ∙ sym (told_here q r rs at)
  | inr other ↦
      before_other q (joined_one all r rs) (joined_rest all rs) (other_left all r rs q other) ∙ joined_apart all q once rs ∙ sym (told_other q r rs other)
]

-- one record, where there is any
abbrev pub one_told : Record → List Record → List Record
one_told one [] = []
one_told one (r ∷ rs) = one ∷ []

one_if_any : (one : Record) (q : Place) (rs : List Record) → one_told one (told q rs) ≡ cond (list_any (is_at q) rs) (one ∷ []) []
one_if_any one q [] = refl
one_if_any one q (r ∷ rs) = elim (cases_Bool (is_at q r)) [
  | inl at ↦ rw at refl
  | inr other ↦ rw other (one_if_any one q rs)
]

-- of one that is told twice one of two stays
joined_from : (all : List Record) (q : Place) (a b : Record) → is_told_twice all q.tlid ≡ true → told q all ≡ a ∷ b ∷ [] → (rs : List Record)
    → told q (joined_rest all rs) ≡ one_told (one_of_two a b) (told q rs)
joined_from all q a b twice two [] = refl
joined_from all q a b twice two (r ∷ rs) = elim (cases_Bool (is_at q r)) [
  | inl at ↦ here (joined_from all q a b twice two rs) at (list_any (is_at q) rs) refl
  | inr other ↦
      before_other q (joined_one all r rs) (joined_rest all rs) (other_left all r rs q other) ∙ joined_from all q a b twice two rs ∙ ap (one_told (one_of_two a b)) (sym (told_other q r rs other))
]
  where
    one_at : is_at q (one_of_two a b) ≡ true
    one_at = at_own (one_of_two a b) q (one_of_two_at q a b (key_of q a (first_at q all a (b ∷ []) two)) (key_of q b (second_at q all a b [] two)))

    one_is : is_at q r ≡ true → joined_one all r rs ≡ cond (list_any (is_at q) rs) None (Some (one_of_two a b))
    one_is at = of_two all r rs q (key_of q r at) twice ∙ ap (λ (xs : List Record). cond (list_any (is_at q) rs) None (Some (one_of r xs))) two

    here : told q (joined_rest all rs) ≡ one_told (one_of_two a b) (told q rs) → is_at q r ≡ true → (any : Bool) → list_any (is_at q) rs ≡ any → told q (before_rest (joined_one all r rs) (joined_rest all rs)) ≡ one_told (one_of_two a b) (told q (r ∷ rs))
    here behind at true any =
        let gone : joined_one all r rs ≡ None = one_is at ∙ rw any refl in
        let rest : one_told (one_of_two a b) (told q rs) ≡ one_of_two a b ∷ [] = one_if_any (one_of_two a b) q rs ∙ rw any refl in
        ap (λ (o : Option Record). told q (before_rest o (joined_rest all rs))) gone ∙ behind ∙ rest
        ∙ ap (one_told (one_of_two a b)) (sym (told_here q r rs at))
    here behind at false any =
        let stays : joined_one all r rs ≡ Some (one_of_two a b) = one_is at ∙ rw any refl in
        let rest : one_told (one_of_two a b) (told q rs) ≡ [] = one_if_any (one_of_two a b) q rs ∙ rw any refl in
        ap (λ (o : Option Record). told q (before_rest o (joined_rest all rs))) stays ∙ told_here q (one_of_two a b) (joined_rest all rs) one_at
        ∙ ap (λ (xs : List Record). one_of_two a b ∷ xs) (behind ∙ rest) ∙ ap (one_told (one_of_two a b)) (sym (told_here q r rs at))

pub joined_twice : (all : List Record) (q : Place) (a b : Record) → is_told_twice all q.tlid ≡ true → told q all ≡ a ∷ b ∷ [] → told q (joined_rest all all) ≡ one_of_two a b ∷ []
joined_twice all q a b twice two = joined_from all q a b twice two all ∙ ap (one_told (one_of_two a b)) two

pub joined_none : (all : List Record) (q : Place) → told q all ≡ [] → told q (joined_rest all all) ≡ []
joined_none all q none = none_of all none
  where
    none_of : (rs : List Record) → told q rs ≡ [] → told q (joined_rest all rs) ≡ []
    none_of [] none = refl
    none_of (r ∷ rs) none = elim (cases_Bool (is_at q r)) [
      | inl at ↦ absurd (let wrong : r ∷ told q rs ≡ [] = sym (told_here q r rs at) ∙ none in cc)
      | inr other ↦ before_other q (joined_one all r rs) (joined_rest all rs) (other_left all r rs q other) ∙ none_of rs (sym (told_other q r rs other) ∙ none)
    ]

-- ---- polygons stay

no_polygon : (r : Record) (p : Place) → place_of r ≡ Some p → polygon_at r ≡ None
no_polygon (Chain u from to) p own = refl
no_polygon (Shape u n pairs) p own = refl
no_polygon (Sides u start end left right) p own = refl
no_polygon (PolyPoint k q) p own = absurd (let wrong : None ≡ Some p = own in cc)
no_polygon (Landmark n q) p own = refl
no_polygon (AreaLink k n) p own = refl

before_polygons : (o : Option Record) (rest : List Record) → ((s : Record) → o ≡ Some s → polygon_at s ≡ None) → polygons_in (before_rest o rest) ≡ polygons_in rest
before_polygons None rest none = refl
before_polygons (Some s) rest none = rw (none s refl) refl

pub polygons_stay : (all rs : List Record) → polygons_in (joined_rest all rs) ≡ polygons_in rs
polygons_stay all [] = refl
polygons_stay all (r ∷ rs) = go (polygons_stay all rs) (place_of r) refl
  where
    go : polygons_in (joined_rest all rs) ≡ polygons_in rs → (o : Option Place) → place_of r ≡ o → polygons_in (before_rest (joined_one all r rs) (joined_rest all rs)) ≡ polygons_in (r ∷ rs)
    go behind None none =
        ap (λ (o : Option Record). polygons_in (before_rest o (joined_rest all rs))) (sym (stays_apart all r rs none))
        ∙ ap (cons_option (polygon_at r)) behind
    go behind (Some p) own =
        before_polygons (joined_one all r rs) (joined_rest all rs) (λ s left. no_polygon s p (left_at all r rs p s own left)) ∙ behind
        ∙ rw (no_polygon r p own) refl

-- these records tell what all records tell where chains that are told twice are joined, and have their polygons
pub record AreJoinedOf (js all : List Record) : Type 0 where
  pub told_is : (q : Place) → told q js ≡ told q (joined_rest all all)
  pub polygons : polygons_in js ≡ polygons_in all

pub joined_itself : (all : List Record) → AreJoinedOf (joined_rest all all) all
joined_itself all = record { told_is = λ q. refl; polygons = polygons_stay all all }
