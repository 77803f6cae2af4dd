-- What stands in the place of a record.
use Rattle.std.proofs.Common.{◌≡◌, ◌≢◌, ℕ, suc, Bool, true, false, not, ◌&&◌, ◌+◌, ◌<◌, ◌++◌, List, [], ◌∷◌, filter, map, drop, length, get_or, Option, Some, None, cond, refl, sym, ap, ◌∙◌, add-one, subst}
use Rattle.std.specs.Prelude.{slice_get}
use Rattle.std.specs.List.{list_any}
use Rattle.std.proofs.lemmas.Bool.{true≢false, eq-eqb, and_parts, not-true}
use Rattle.std.proofs.lemmas.List.Folds.{list_any_at}
use Rattle.std.proofs.lemmas.Option.{get_or_from_slice_get, slice_get_within, slice_get-get_or}
use Rattle.std.proofs.lemmas.List.{append_assoc}
use Rattle.std.proofs.Math.Seq.{drop-cons}
use Rattle.tl_record.specs.declared.record.Record.{Record}
use Rattle.tl_record.specs.declared.record.Record.TheVariants.{Chain, Shape, Sides, PolyPoint, Landmark, AreaLink}
use Rattle.tl_record.specs.Joining.{tells_chain, tells_shape_at, tells_sides, tells_same, are_two_that_fit, is_shape_apart, is_told_twice, is_of_twice_told, one_of_two, one_of, joined_one, joined_entries, joined, before_record}
use Rattle.tl_map.specs.declared.joined.place.Place.{Place}
use Rattle.tl_map.specs.Joined.Keeping.Places.{place_of, is_at}
use Rattle.tl_map.specs.Joined.Keeping.Told.{StandsTwice}
use Rattle.tl_map.specs.Joined.Told.{before_rest, joined_rest, joined_records}
use Rattle.tl_map.proofs.JoinedLemmas.PlaceLemmas.{at_own}
use Rattle.tl_map.proofs.JoinedLemmas.ApartLemmas.{key, chain_at, shape_at, sides_at, same_filter}
use Rattle.tl_map.proofs.JoinedLemmas.LastLemmas.{IsSecond, second, first, two_last}

fit_by : (p q : Record → Bool) → ((r : Record) → p r ≡ q r) → (rs : List Record) (b : Bool) → are_two_that_fit (filter p rs) ≡ b → are_two_that_fit (filter q rs) ≡ b
fit_by p q same rs b is = ap are_two_that_fit (sym (same_filter p q same rs)) ∙ is

-- TLIDs that aren't told twice, and those that are
pub ends_differ : (rs : List Record) (t : ℕ) → are_two_that_fit (filter (is_at (key t 49 0)) rs) ≡ false → false ≡ is_told_twice rs t
unfolding is_told_twice
ends_differ rs t failing = rw (fit_by _ _ (chain_at t) rs false failing) refl

pub sides_differ : (rs : List Record) (t : ℕ) → are_two_that_fit (filter (is_at (key t 73 0)) rs) ≡ false → false ≡ is_told_twice rs t
unfolding is_told_twice
sides_differ rs t failing = rw (fit_by _ _ (sides_at t) rs false failing) (without (are_two_that_fit (filter (tells_chain t) rs)))
  where
    without : (b : Bool) → false ≡ (b && false)
    without true = refl
    without false = refl

pub unless_apart : (rs : List Record) (t : ℕ) (b : Bool) → are_two_that_fit (filter (is_at (key t 49 0)) rs) ≡ true → are_two_that_fit (filter (is_at (key t 73 0)) rs) ≡ true
    → b ≡ list_any (is_shape_apart rs t) rs → not b ≡ is_told_twice rs t
unfolding is_told_twice
unless_apart rs t b ends sides is = rw (fit_by _ _ (chain_at t) rs true ends, fit_by _ _ (sides_at t) rs true sides, is) refl

-- the records of one key tell the same
pub same_at : (r : Record) (p : Place) → place_of r ≡ Some p → (s : Record) → is_at p s ≡ tells_same r s
same_at (Chain t from to) p h s = let e : key t 49 0 ≡ p = cc in rw (← e) (chain_at t s)
same_at (Shape t n pairs) p h s = let e : key t 50 n ≡ p = cc in rw (← e) (shape_at t n s)
same_at (Sides t start end left right) p h s = let e : key t 73 0 ≡ p = cc in rw (← e) (sides_at t s)
same_at (PolyPoint k q) p h s = absurd (let wrong : None ≡ Some p = h in cc)
same_at (Landmark n q) p h s = absurd (let wrong : None ≡ Some p = h in cc)
same_at (AreaLink k n) p h s = absurd (let wrong : None ≡ Some p = h in cc)

pub of_key : (rs : List Record) (r : Record) (p : Place) → place_of r ≡ Some p → is_of_twice_told rs r ≡ is_told_twice rs p.tlid
of_key rs (Chain t from to) p h = let e : key t 49 0 ≡ p = cc in ap (λ (q : Place). is_told_twice rs q.tlid) e
of_key rs (Shape t n pairs) p h = let e : key t 50 n ≡ p = cc in ap (λ (q : Place). is_told_twice rs q.tlid) e
of_key rs (Sides t start end left right) p h = let e : key t 73 0 ≡ p = cc in ap (λ (q : Place). is_told_twice rs q.tlid) e
of_key rs (PolyPoint k q) p h = absurd (let wrong : None ≡ Some p = h in cc)
of_key rs (Landmark n q) p h = absurd (let wrong : None ≡ Some p = h in cc)
of_key rs (AreaLink k n) p h = absurd (let wrong : None ≡ Some p = h in cc)

of_none : (rs : List Record) (r : Record) → place_of r ≡ None → is_of_twice_told rs r ≡ false
of_none rs (Chain t from to) h = absurd (let wrong : Some (key t 49 0) ≡ None = h in cc)
of_none rs (Shape t n pairs) h = absurd (let wrong : Some (key t 50 n) ≡ None = h in cc)
of_none rs (Sides t start end left right) h = absurd (let wrong : Some (key t 73 0) ≡ None = h in cc)
of_none rs (PolyPoint k q) h = refl
of_none rs (Landmark n q) h = refl
of_none rs (AreaLink k n) h = refl

-- a record of failing chain that is told twice stays
stays : (rs : List Record) (r : Record) (behind : List Record) → is_of_twice_told rs r ≡ false → Some r ≡ joined_one rs r behind
unfolding joined_one
stays rs r behind failing = rw failing refl

pub stays_apart : (rs : List Record) (r : Record) (behind : List Record) → place_of r ≡ None → Some r ≡ joined_one rs r behind
stays_apart rs r behind none = stays rs r behind (of_none rs r none)

pub stays_once : (rs : List Record) (r : Record) (behind : List Record) (p : Place) → place_of r ≡ Some p → is_told_twice rs p.tlid ≡ false → Some r ≡ joined_one rs r behind
stays_once rs r behind p at failing = stays rs r behind (of_key rs r p at ∙ failing)

-- of two that tell the same of a chain that is told twice the second stays, and the first goes
both_told : (rs : List Record) (r : Record) (behind : List Record) (b : Bool) → is_of_twice_told rs r ≡ true → list_any (tells_same r) behind ≡ b
    → joined_one rs r behind ≡ (cond b None (Some (one_of r (filter (tells_same r) rs))))
unfolding joined_one
both_told rs r behind b holds any = rw (holds, any) refl

behind_two : (rs : List Record) (p : Place) (f s at : ℕ) (r : Record) → StandsTwice rs p f s → slice_get rs at ≡ Some r → is_at p r ≡ true
    → IsSecond at s (list_any (is_at p) (drop (suc at) rs))
behind_two rs p f s at r two here passes = two_last (is_at p) rs f s at two.told two.again r two.before two.both two.here two.passes two.there two.passes_too here passes

any_by : (r : Record) (p : Place) → place_of r ≡ Some p → (xs : List Record) (b : Bool) → list_any (is_at p) xs ≡ b → list_any (tells_same r) xs ≡ b
any_by r p at xs b is = (λ i. list_any (λ s. sym (same_at r p at s) i) xs) ∙ is

pub second_stays : (rs : List Record) (r d : Record) (p : Place) (f at : ℕ) → place_of r ≡ Some p → is_told_twice rs p.tlid ≡ true → slice_get rs at ≡ Some r → is_at p r ≡ true
    → StandsTwice rs p f at → Some (one_of_two (get_or rs f d) r) ≡ joined_one rs r (drop (at + 1) rs)
second_stays rs r d p f at key twice here passes two = elim (behind_two rs p f at at r two here passes) [
  | second same none ↦
      let a = get_or_from_slice_get rs f two.told d two.here in
      let again : Some two.again ≡ Some r = sym two.there ∙ here in
      let b : two.again ≡ r = cc in
      let all : filter (tells_same r) rs ≡ two.told ∷ r ∷ [] = sym (same_filter _ _ (same_at r p key) rs) ∙ two.both ∙ ap (λ (x : Record). two.told ∷ x ∷ []) b in
      let gone = both_told rs r (drop (suc at) rs) false (of_key rs r p key ∙ twice) (any_by r p key _ false none) in
      rw (add-one, a) (sym (gone ∙ rw all refl))
  | first other some ↦ absurd (other refl)
]

pub first_goes : (rs : List Record) (r : Record) (p : Place) (f s at : ℕ) → place_of r ≡ Some p → is_told_twice rs p.tlid ≡ true → slice_get rs at ≡ Some r → is_at p r ≡ true
    → StandsTwice rs p f s → s ≢ at → None ≡ joined_one rs r (drop (at + 1) rs)
first_goes rs r p f s at key twice here passes two other = elim (behind_two rs p f s at r two here passes) [
  | second same none ↦ absurd (other (sym same))
  | first not_it some ↦
      let gone = both_told rs r (drop (suc at) rs) true (of_key rs r p key ∙ twice) (any_by r p key _ true some) in
      rw add-one (sym gone)
]

-- a record of a chain that is told twice is one of two that fit
pub twice_fit : (rs : List Record) (t : ℕ) → is_told_twice rs t ≡ true
    → (are_two_that_fit (filter (tells_chain t) rs) ≡ true) × (are_two_that_fit (filter (tells_sides t) rs) ≡ true) × (list_any (is_shape_apart rs t) rs ≡ false)
unfolding is_told_twice
twice_fit rs t holds =
    let one = and_parts _ _ holds in
    let two = and_parts _ _ one.1 in
    (one.0, two.0, not-true _ two.1)

pub never_alone : (rs : List Record) (r : Record) (p : Place) (at : ℕ) → place_of r ≡ Some p → is_told_twice rs p.tlid ≡ true → slice_get rs at ≡ Some r
    → are_two_that_fit (filter (is_at p) rs) ≡ false → ⊥
never_alone rs (Chain t from to) p at key_is twice here failing =
    let e : key t 49 0 ≡ p = cc in
    let told : is_told_twice rs t ≡ true = rw (← e) at twice in
    let apart : are_two_that_fit (filter (is_at (key t 49 0)) rs) ≡ false = rw (← e) at failing in
    true≢false (sym (twice_fit rs t told).0 ∙ fit_by _ _ (chain_at t) rs false apart)
never_alone rs (Shape t n pairs) p at key_is twice here failing =
    let e : key t 50 n ≡ p = cc in
    let told : is_told_twice rs t ≡ true = rw (← e) at twice in
    let alone : are_two_that_fit (filter (is_at (key t 50 n)) rs) ≡ false = rw (← e) at failing in
    let fails : are_two_that_fit (filter (tells_shape_at t n) rs) ≡ false = fit_by _ _ (shape_at t n) rs false alone in
    let own : is_shape_apart rs t (Shape t n pairs) ≡ true = rw (eq-eqb t t refl, fails) refl in
    let found = list_any_at (is_shape_apart rs t) rs at (Shape t n pairs) (slice_get_within rs at (Shape t n pairs) here)
    (rw (get_or_from_slice_get rs at (Shape t n pairs) (Shape t n pairs) here) own) in
    true≢false (sym found ∙ (twice_fit rs t told).2)
never_alone rs (Sides t start end left right) p at key_is twice here failing =
    let e : key t 73 0 ≡ p = cc in
    let told : is_told_twice rs t ≡ true = rw (← e) at twice in
    let apart : are_two_that_fit (filter (is_at (key t 73 0)) rs) ≡ false = rw (← e) at failing in
    true≢false (sym (twice_fit rs t told).1 ∙ fit_by _ _ (sides_at t) rs false apart)
never_alone rs (PolyPoint k q) p at key_is twice here failing = let wrong : None ≡ Some p = key_is in cc
never_alone rs (Landmark n q) p at key_is twice here failing = let wrong : None ≡ Some p = key_is in cc
never_alone rs (AreaLink k n) p at key_is twice here failing = let wrong : None ≡ Some p = key_is in cc

-- one record more is looked at: what stands in its place comes first of what was left
rest_here : (rs : List Record) (at : ℕ) (one : Option Record) → at < length rs → ((r : Record) → slice_get rs at ≡ Some r → one ≡ joined_one rs r (drop (at + 1) rs))
    → joined_rest rs (drop at rs) ≡ before_rest one (joined_rest rs (drop (at + 1) rs))
rest_here rs at one within is =
    let d : Record = Landmark 0 None in
    let here : one ≡ joined_one rs (get_or rs at d) (drop (suc at) rs) = rw add-one at (is (get_or rs at d) (slice_get-get_or rs at d within)) in
    rw (drop-cons rs at d within, add-one, here) refl

pub step_some : (rs : List Record) (at : ℕ) (one : Option Record) (r : Record) (old new : List Record) → at < length rs
    → ((r : Record) → slice_get rs at ≡ Some r → one ≡ joined_one rs r (drop (at + 1) rs)) → one ≡ Some r → new ≡ old ++ r ∷ []
    → old ++ joined_rest rs (drop at rs) ≡ joined_records rs → new ++ joined_rest rs (drop (at + 1) rs) ≡ joined_records rs
step_some rs at one r old new within is some more so_far =
    let rest = joined_rest rs (drop (at + 1) rs) in
    let next : joined_rest rs (drop at rs) ≡ r ∷ rest = rest_here rs at one within is ∙ ap (λ (o : Option Record). before_rest o rest) some in
    ap (λ (xs : List Record). xs ++ rest) more ∙ append_assoc old (r ∷ []) rest ∙ ap (λ (xs : List Record). old ++ xs) (sym next) ∙ so_far

pub step_none : (rs : List Record) (at : ℕ) (one : Option Record) (old new : List Record) → at < length rs
    → ((r : Record) → slice_get rs at ≡ Some r → one ≡ joined_one rs r (drop (at + 1) rs)) → one ≡ None → new ≡ old
    → old ++ joined_rest rs (drop at rs) ≡ joined_records rs → new ++ joined_rest rs (drop (at + 1) rs) ≡ joined_records rs
step_none rs at one old new within is none same so_far =
    let rest = joined_rest rs (drop (at + 1) rs) in
    let next : joined_rest rs (drop at rs) ≡ rest = rest_here rs at one within is ∙ ap (λ (o : Option Record). before_rest o rest) none in
    ap (λ (xs : List Record). xs ++ rest) same ∙ ap (λ (xs : List Record). old ++ xs) (sym next) ∙ so_far

-- entries are joined as their records are
pub entries_joined : (rs : List Record) (entries : List (ℕ × Record)) → map (λ (e : ℕ × Record). e.1) (joined_entries rs entries) ≡ joined_rest rs (map (λ (e : ℕ × Record). e.1) entries)
entries_joined rs [] = refl
entries_joined rs ((number, r) ∷ entries) = one (joined_one rs r (map (λ (e : ℕ × Record). e.1) entries)) (joined_entries rs entries) _ (entries_joined rs entries)
  where
    one : (o : Option Record) (xs : List (ℕ × Record)) (ys : List Record) → map (λ (e : ℕ × Record). e.1) xs ≡ ys → map (λ (e : ℕ × Record). e.1) (before_record number o xs) ≡ before_rest o ys
    one None xs ys e = e
    one (Some s) xs ys e = ap (λ (zs : List Record). s ∷ zs) e

pub records_joined : (entries : List (ℕ × Record)) → map (λ (e : ℕ × Record). e.1) (joined entries) ≡ joined_records (map (λ (e : ℕ × Record). e.1) entries)
unfolding joined
records_joined entries = entries_joined (map (λ (e : ℕ × Record). e.1) entries) entries

-- the same at a place of the list
pub at_none : (rs : List Record) (r d : Record) (at : ℕ) (behind : List Record) (o : Option Place) → o ≡ place_of (get_or rs at d) → o ≡ None → slice_get rs at ≡ Some r
    → Some (get_or rs at d) ≡ joined_one rs r behind
at_none rs r d at behind o is none here =
    let e = get_or_from_slice_get rs at r d here in
    rw e (stays_apart rs r behind (ap place_of (sym e) ∙ sym is ∙ none))

key_here : (rs : List Record) (r d : Record) (at : ℕ) (p : Place) (o : Option Place) → o ≡ place_of (get_or rs at d) → o ≡ Some p → slice_get rs at ≡ Some r → place_of r ≡ Some p
key_here rs r d at p o is some here = ap place_of (sym (get_or_from_slice_get rs at r d here)) ∙ sym is ∙ some

pub at_once : (rs : List Record) (r d : Record) (at : ℕ) (behind : List Record) (p : Place) (o : Option Place) (b : Bool) → o ≡ place_of (get_or rs at d) → o ≡ Some p
    → b ≡ is_told_twice rs p.tlid → b ≡ false → slice_get rs at ≡ Some r → Some (get_or rs at d) ≡ joined_one rs r behind
at_once rs r d at behind p o b is some told failing here =
    let e = get_or_from_slice_get rs at r d here in
    rw e (stays_once rs r behind p (key_here rs r d at p o is some here) (sym told ∙ failing))

pub at_second : (rs : List Record) (r d e : Record) (f s at : ℕ) (p : Place) (o : Option Place) (b : Bool) (one : Record) → o ≡ place_of (get_or rs at d) → o ≡ Some p
    → b ≡ is_told_twice rs p.tlid → b ≡ true → StandsTwice rs p f s → s ≡ at → one ≡ one_of_two (get_or rs f e) (get_or rs at d) → slice_get rs at ≡ Some r
    → Some one ≡ joined_one rs r (drop (at + 1) rs)
at_second rs r d e f s at p o b one is some told holds two same made here =
    let key_of_it = key_here rs r d at p o is some here in
    let there = subst (StandsTwice rs p f) same two in
    let found = get_or_from_slice_get rs at r d here in
    let which : one ≡ one_of_two (get_or rs f e) r = made ∙ ap (one_of_two (get_or rs f e)) found in
    rw which (second_stays rs r e p f at key_of_it (sym told ∙ holds) here (at_own r p key_of_it) there)

pub at_first : (rs : List Record) (r d : Record) (f s at : ℕ) (p : Place) (o : Option Place) (b : Bool) → o ≡ place_of (get_or rs at d) → o ≡ Some p
    → b ≡ is_told_twice rs p.tlid → b ≡ true → StandsTwice rs p f s → s ≢ at → slice_get rs at ≡ Some r → None ≡ joined_one rs r (drop (at + 1) rs)
at_first rs r d f s at p o b is some told holds two other here =
    let key_of_it = key_here rs r d at p o is some here in
    first_goes rs r p f s at key_of_it (sym told ∙ holds) here (at_own r p key_of_it) two other

pub at_never : (rs : List Record) (r d : Record) (at : ℕ) (p : Place) (o : Option Place) (b : Bool) → o ≡ place_of (get_or rs at d) → o ≡ Some p
    → b ≡ is_told_twice rs p.tlid → b ≡ true → are_two_that_fit (filter (is_at p) rs) ≡ false → slice_get rs at ≡ Some r → ⊥
at_never rs r d at p o b is some told holds apart here =
    never_alone rs r p at (key_here rs r d at p o is some here) (sym told ∙ holds) here apart
