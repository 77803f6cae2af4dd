-- Who tells what, by keys; type 2 records that don't stand twice.
use Rattle.std.proofs.Common.{◌≡◌, ℕ, Bool, true, false, ◌&&◌, ◌||◌, ◌+◌, ◌<◌, eqb, take, length, List, filter, get_or, Option, Some, None, cond, refl, sym, ap, ◌∙◌, inl, inr}
use Rattle.std.specs.BTreeSet.{BTreeSet, contains, Updates}
use Rattle.std.specs.List.{list_any}
use Rattle.std.specs.Ordering.{nat_cmp, is_eq}
use Rattle.tl_geom.specs.declared.point.Point.{Point}
use Rattle.std.proofs.lemmas.Bool.{true≢false, cases_Bool, eqb-true, eq-eqb, false_from_ne_true}
use Rattle.std.proofs.lemmas.List.Folds.{list_any_more}
use Rattle.std.proofs.lemmas.Option.{get_or_from_slice_get}
use Rattle.std.proofs.lemmas.Map.Lookups.{exact_unsigned}
use Rattle.tl_record.specs.declared.record.Record.{Record}
use Rattle.tl_record.specs.declared.record.Record.TheVariants.{Chain, Shape, Sides, PolyPoint, Landmark, AreaLink}
use Rattle.tl_record.specs.Joining.{tells_chain, tells_shape_at, tells_sides, fits, are_two_that_fit, is_shape_apart}
use Rattle.tl_map.specs.declared.joined.place.Place.{Place}
use Rattle.tl_map.specs.Joined.Keeping.Places.{is_at}
use Rattle.tl_map.specs.Joined.Keeping.Told.{StandsTwice}
use Rattle.tl_map.proofs.JoinedLemmas.PlaceLemmas.{equal, own_number}
use Rattle.tl_map.specs.Joined.Keeping.Joined.{apart_of, AreApart}

abbrev pub key : ℕ → ℕ → ℕ → Place
key t k n = record { tlid = t; kind = k; rtsq = n }

pub chain_at : (t : ℕ) (r : Record) → is_at (key t 49 0) r ≡ tells_chain t r
chain_at t (Chain u from to) = refl
chain_at t (Shape u n pairs) = refl
chain_at t (Sides u start end left right) = refl
chain_at t (PolyPoint k q) = refl
chain_at t (Landmark n q) = refl
chain_at t (AreaLink k n) = refl

pub shape_at : (t n : ℕ) (r : Record) → is_at (key t 50 n) r ≡ tells_shape_at t n r
shape_at t n (Chain u from to) = refl
shape_at t n (Shape u k pairs) = refl
shape_at t n (Sides u start end left right) = refl
shape_at t n (PolyPoint k q) = refl
shape_at t n (Landmark k q) = refl
shape_at t n (AreaLink k m) = refl

pub sides_at : (t : ℕ) (r : Record) → is_at (key t 73 0) r ≡ tells_sides t r
sides_at t (Chain u from to) = refl
sides_at t (Shape u n pairs) = refl
sides_at t (Sides u start end left right) = refl
sides_at t (PolyPoint k q) = refl
sides_at t (Landmark n q) = refl
sides_at t (AreaLink k n) = refl

-- the same test passes the same records
pub same_filter : (p q : Record → Bool) → ((r : Record) → p r ≡ q r) → (rs : List Record) → filter p rs ≡ filter q rs
same_filter p q same rs = λ i. filter (λ r. same r i) rs

pub fits_of_two : (rs : List Record) (p : Place) (first second : ℕ) (d e : Record) → StandsTwice rs p first second
    → fits (get_or rs first d) (get_or rs second e) ≡ are_two_that_fit (filter (is_at p) rs)
fits_of_two rs p first second d e two =
    rw (get_or_from_slice_get rs first two.told d two.here, get_or_from_slice_get rs second two.again e two.there, two.both) refl

-- one that stands twice isn't apart, and each other one is
pub not_apart : (rs : List Record) (t n : ℕ) (pairs : List (Option Point)) (b : Bool) → b ≡ are_two_that_fit (filter (is_at (key t 50 n)) rs) → b ≡ true → None ≡ apart_of rs (Shape t n pairs)
not_apart rs t n pairs b is holds =
    let fit : are_two_that_fit (filter (tells_shape_at t n) rs) ≡ true = ap are_two_that_fit (sym (same_filter _ _ (shape_at t n) rs)) ∙ sym is ∙ holds in
    rw fit refl

pub is_apart : (rs : List Record) (t n : ℕ) (pairs : List (Option Point)) (b : Bool) → b ≡ are_two_that_fit (filter (is_at (key t 50 n)) rs) → b ≡ false → Some t ≡ apart_of rs (Shape t n pairs)
is_apart rs t n pairs b is failing =
    let apart : are_two_that_fit (filter (tells_shape_at t n) rs) ≡ false = ap are_two_that_fit (sym (same_filter _ _ (shape_at t n) rs)) ∙ sym is ∙ failing in
    rw apart refl

none_apart : (rs : List Record) (r : Record) (t : ℕ) → apart_of rs r ≡ None → is_shape_apart rs t r ≡ false
none_apart rs (Chain u from to) t none = refl
none_apart rs (Shape u n pairs) t none = elim (cases_Bool (are_two_that_fit (filter (tells_shape_at u n) rs))) [
  | inl fit ↦ rw fit (without (eqb t u))
  | inr apart ↦ absurd (let wrong : Some u ≡ None = rw apart at none in cc)
]
  where
    without : (b : Bool) → (b && false) ≡ false
    without true = refl
    without false = refl
none_apart rs (Sides u start end left right) t none = refl
none_apart rs (PolyPoint k q) t none = refl
none_apart rs (Landmark n q) t none = refl
none_apart rs (AreaLink k n) t none = refl

some_apart : (rs : List Record) (r : Record) (t u : ℕ) → apart_of rs r ≡ Some u → is_shape_apart rs t r ≡ eqb t u
some_apart rs (Chain v from to) t u some = absurd (let wrong : None ≡ Some u = some in cc)
some_apart rs (Shape v n pairs) t u some = elim (cases_Bool (are_two_that_fit (filter (tells_shape_at v n) rs))) [
  | inl fit ↦ absurd (let wrong : None ≡ Some u = rw fit at some in cc)
  | inr apart ↦
      let found : Some v ≡ Some u = rw apart at some in
      let one : v ≡ u = cc in
      rw apart (with_it (eqb t v) ∙ ap (eqb t) one)
]
  where
    with_it : (b : Bool) → (b && true) ≡ b
    with_it true = refl
    with_it false = refl
some_apart rs (Sides v start end left right) t u some = absurd (let wrong : None ≡ Some u = some in cc)
some_apart rs (PolyPoint k q) t u some = absurd (let wrong : None ≡ Some u = some in cc)
some_apart rs (Landmark n q) t u some = absurd (let wrong : None ≡ Some u = some in cc)
some_apart rs (AreaLink k n) t u some = absurd (let wrong : None ≡ Some u = some in cc)

or_no : (a b : Bool) → b ≡ false → (a || b) ≡ a
or_no true b e = refl
or_no false b e = e

-- one more that isn't apart
pub apart_same : (rs : List Record) (i : ℕ) (d : Record) (apart : BTreeSet ℕ) → i < length rs → None ≡ apart_of rs (get_or rs i d) → AreApart rs (take i rs) apart
    → AreApart rs (take (i + 1) rs) apart
apart_same rs i d apart within none are = λ t.
    are t ∙ sym (list_any_more (is_shape_apart rs t) rs i d within ∙ or_no _ _ (none_apart rs (get_or rs i d) t (sym none)))

same_number : (t u : ℕ) → is_eq (nat_cmp u t) ≡ eqb t u
same_number t u = elim (cases_Bool (is_eq (nat_cmp u t))) [
  | inl same ↦ same ∙ sym (eq-eqb t u (sym (exact_unsigned u t (equal (nat_cmp u t) same))))
  | inr other ↦ other ∙ sym (false_from_ne_true (eqb t u) (λ holds.
      let one = eqb-true t u holds in
      true≢false (sym (own_number u) ∙ ap (λ (n : ℕ). is_eq (nat_cmp u n)) (sym one) ∙ other)))
]

set_or : (a b : Bool) → cond b true a ≡ (a || b)
set_or true true = refl
set_or true false = refl
set_or false true = refl
set_or false false = refl

-- one more that is apart
pub apart_more : (rs : List Record) (i : ℕ) (d : Record) (m n : BTreeSet ℕ) (u : ℕ) → i < length rs → Some u ≡ apart_of rs (get_or rs i d) → Updates nat_cmp m n u true
    → AreApart rs (take i rs) m → AreApart rs (take (i + 1) rs) n
apart_more rs i d m n u within some updates are = λ t.
    let now : contains nat_cmp n t ≡ cond (is_eq (nat_cmp u t)) true (contains nat_cmp m t) = updates.0 t in
    let more = list_any_more (is_shape_apart rs t) rs i d within in
    let last = some_apart rs (get_or rs i d) t u (sym some) in
    rw (now, more, same_number t u, are t, last) (set_or (list_any (is_shape_apart rs t) (take i rs)) (eqb t u))
