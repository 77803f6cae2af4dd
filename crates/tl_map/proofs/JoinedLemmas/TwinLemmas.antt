-- One more record among those that tell the same.
use Rattle.std.proofs.Common.{◌≡◌, ℕ, zero, suc, Bool, true, false, List, [], ◌∷◌, ◌++◌, length, filter, Option, Some, None, refl, sym, ap, ◌∙◌, inl, inr}
use Rattle.std.specs.Prelude.{slice_get, MatchOption}
use Rattle.tl_record.specs.Joining.{are_two_that_fit}
use Rattle.std.specs.BTreeMap.{BTreeMap, get, Updates}
use Rattle.std.specs.Ordering.{is_eq}
use Rattle.std.proofs.lemmas.Bool.{true≢false, cases_Bool, false_from_ne_true}
use Rattle.std.proofs.lemmas.List.{append-nil}
use Rattle.std.proofs.lemmas.List.Elements.{filter-append}
use Rattle.std.proofs.lemmas.Option.{slice_get_within}
use Rattle.tl_record.specs.declared.record.Record.{Record}
use Rattle.tl_map.specs.declared.joined.place.Place.{Place}
use Rattle.tl_map.specs.declared.joined.told.Twins.{Twins}
use Rattle.tl_map.specs.declared.joined.told.Twins.TheVariants.{One, Two, More}
use Rattle.tl_map.specs.Joined.Keeping.Places.{place_of, is_at, place_cmp}
use Rattle.tl_map.specs.Joined.Keeping.Told.{one_more, two_of, StandsTwice, AreTwins, AreAllTwins}
use Rattle.tl_map.proofs.JoinedLemmas.PlaceLemmas.{one_key, key_of, at_own, at_none, own_key}

pub found_more : {X : Type 0} (xs ys : List X) (k : ℕ) (x : X) → slice_get xs k ≡ Some x → slice_get (xs ++ ys) k ≡ Some x
found_more [] ys k x h = absurd (let wrong : None ≡ Some x = h in cc)
found_more (y ∷ xs) ys zero x h = h
found_more (y ∷ xs) ys (suc k) x h = found_more xs ys k x h

pub found_last : {X : Type 0} (xs : List X) (x : X) → slice_get (xs ++ x ∷ []) (length xs) ≡ Some x
found_last [] x = refl
found_last (y ∷ xs) x = found_last xs x

-- one more that passes comes last, and one that doesn't isn't there
passes_last : {X : Type 0} (p : X → Bool) (xs : List X) (x : X) → p x ≡ true → filter p (xs ++ x ∷ []) ≡ filter p xs ++ x ∷ []
passes_last p xs x h = filter-append p xs (x ∷ []) ∙ rw h refl

fails_last : {X : Type 0} (p : X → Bool) (xs : List X) (x : X) → p x ≡ false → filter p (xs ++ x ∷ []) ≡ filter p xs
fails_last p xs x h = filter-append p xs (x ∷ []) ∙ rw h (append-nil (filter p xs))

-- a record at a key more
pub twins_more : (rs : List Record) (r : Record) (p : Place) (o : Option Twins) → is_at p r ≡ true → AreTwins rs p o → AreTwins (rs ++ r ∷ []) p (Some (one_more o (length rs)))
twins_more rs r p None at twins = record {
  told = r;
  here = found_last rs r;
  passes = at;
  alone = passes_last (is_at p) rs r at ∙ ap (λ (xs : List Record). xs ++ r ∷ []) twins;
}
twins_more rs r p (Some (One first)) at twins = record {
  told = twins.told;
  again = r;
  before = slice_get_within rs first twins.told twins.here;
  here = found_more rs (r ∷ []) first twins.told twins.here;
  passes = twins.passes;
  there = found_last rs r;
  passes_too = at;
  both = passes_last (is_at p) rs r at ∙ ap (λ (xs : List Record). xs ++ r ∷ []) twins.alone;
}
twins_more rs r p (Some (Two first second)) at twins = record {
  told = twins.told;
  again = twins.again;
  third = r;
  more = [];
  all = passes_last (is_at p) rs r at ∙ ap (λ (xs : List Record). xs ++ r ∷ []) twins.both;
}
twins_more rs r p (Some More) at twins = record {
  told = twins.told;
  again = twins.again;
  third = twins.third;
  more = twins.more ++ r ∷ [];
  all = passes_last (is_at p) rs r at ∙ ap (λ (xs : List Record). xs ++ r ∷ []) twins.all;
}

-- a record that isn't at the key
pub twins_same : (rs : List Record) (r : Record) (p : Place) (o : Option Twins) → is_at p r ≡ false → AreTwins rs p o → AreTwins (rs ++ r ∷ []) p o
twins_same rs r p None at twins = fails_last (is_at p) rs r at ∙ twins
twins_same rs r p (Some (One first)) at twins = record {
  told = twins.told;
  here = found_more rs (r ∷ []) first twins.told twins.here;
  passes = twins.passes;
  alone = fails_last (is_at p) rs r at ∙ twins.alone;
}
twins_same rs r p (Some (Two first second)) at twins = record {
  told = twins.told;
  again = twins.again;
  before = twins.before;
  here = found_more rs (r ∷ []) first twins.told twins.here;
  passes = twins.passes;
  there = found_more rs (r ∷ []) second twins.again twins.there;
  passes_too = twins.passes_too;
  both = fails_last (is_at p) rs r at ∙ twins.both;
}
twins_same rs r p (Some More) at twins = record {
  told = twins.told;
  again = twins.again;
  third = twins.third;
  more = twins.more;
  all = fails_last (is_at p) rs r at ∙ twins.all;
}

-- a record of no chain changes nothing
pub all_same : (rs : List Record) (r : Record) (m : BTreeMap Place Twins) → place_of r ≡ None → AreAllTwins rs m → AreAllTwins (rs ++ r ∷ []) m
all_same rs r m none all = λ p. twins_same rs r p _ (at_none r p none) (all p)

-- a record of a chain is one more at its key
pub all_more : (rs : List Record) (r : Record) (k : Place) (m n : BTreeMap Place Twins) (w : Twins) → place_of r ≡ Some k → w ≡ one_more (get place_cmp m k) (length rs)
    → Updates place_cmp m n k (Some w) → AreAllTwins rs m → AreAllTwins (rs ++ r ∷ []) n
all_more rs r k m n w key is updates all = λ p. elim (cases_Bool (is_eq (place_cmp k p))) [
  | inl same ↦
      let one : k ≡ p = one_key k p same in
      let now : get place_cmp n p ≡ Some (one_more (get place_cmp m p) (length rs)) =
      updates.0 p ∙ rw same (ap (λ (t : Twins). Some t) is ∙ ap (λ (q : Place). Some (one_more (get place_cmp m q) (length rs))) one) in
      rw now (twins_more rs r p _ (at_own r p (key ∙ ap (λ (q : Place). Some q) one)) (all p))
  | inr other ↦
      let now : get place_cmp n p ≡ get place_cmp m p = updates.2 p other in
      let away : is_at p r ≡ false = false_from_ne_true (is_at p r) (λ at.
      let same : Some k ≡ Some p = sym key ∙ key_of p r at in
      let one : k ≡ p = cc in
      let wrong : is_eq (place_cmp p p) ≡ false = rw one at other in
      true≢false (sym (own_key p) ∙ wrong)) in
      rw now (twins_same rs r p _ away (all p))
]

-- who tells this, where two do, and where no two do
pub two_or_none : (rs : List Record) (p : Place) (o : Option Twins) (two : Option (ℕ × ℕ)) → AreTwins rs p o → two ≡ two_of o
    → MatchOption two (are_two_that_fit (filter (is_at p) rs) ≡ false) (λ places. StandsTwice rs p places.0 places.1)
two_or_none rs p None two twins is = rw is (rw twins refl)
two_or_none rs p (Some (One first)) two twins is = rw is (rw twins.alone refl)
two_or_none rs p (Some (Two first second)) two twins is = rw is twins
two_or_none rs p (Some More) two twins is = rw is (rw twins.all refl)
