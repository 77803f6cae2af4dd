-- A key says what a record tells, and no other key says it.
use Rattle.std.proofs.Common.{◌≡◌, ℕ, true, false, ◌&&◌, eqb, Some, None, refl, sym}
use Rattle.std.specs.Ordering.{nat_cmp, ordering_then, is_eq}
use Rattle.std.specs.declared.cmp.Ordering.{Ordering}
use Rattle.std.specs.declared.cmp.Ordering.TheVariants.{Less, Equal, Greater}
use Rattle.std.proofs.lemmas.Bool.{and_parts, and_from, eq-eqb, eqb-true}
use Rattle.std.proofs.lemmas.Map.Lookups.{exact_unsigned}
use Rattle.std.specs.Cmp.{nat_cmp_is}
use Rattle.tl_record.specs.declared.record.Record.{Record}
use Rattle.tl_record.specs.declared.record.Record.TheVariants.{Chain, Shape, Sides, PolyPoint, Landmark, AreaLink}
use Rattle.tl_map.specs.declared.joined.place.Place.{Place}
use Rattle.tl_map.specs.Joined.Keeping.Places.{place_of, is_at, place_cmp}

pub equal : (o : Ordering) → is_eq o ≡ true → o ≡ Equal
equal Less h = absurd (let wrong : false ≡ true = h in cc)
equal Equal h = refl
equal Greater h = absurd (let wrong : false ≡ true = h in cc)

both_equal : (a b : Ordering) → is_eq (ordering_then a b) ≡ true → (a ≡ Equal) × (is_eq b ≡ true)
both_equal Less b h = absurd (let wrong : false ≡ true = h in cc)
both_equal Equal b h = (refl, h)
both_equal Greater b h = absurd (let wrong : false ≡ true = h in cc)

-- keys that compare equal are one
pub one_key : (p q : Place) → is_eq (place_cmp p q) ≡ true → p ≡ q
one_key p q h =
    let tlid = both_equal (nat_cmp p.tlid q.tlid) (ordering_then (nat_cmp p.kind q.kind) (nat_cmp p.rtsq q.rtsq)) h in
    let kind = both_equal (nat_cmp p.kind q.kind) (nat_cmp p.rtsq q.rtsq) tlid.1 in
    let a = exact_unsigned p.tlid q.tlid tlid.0 in
    let b = exact_unsigned p.kind q.kind kind.0 in
    let c = exact_unsigned p.rtsq q.rtsq (equal (nat_cmp p.rtsq q.rtsq) kind.1) in
    λ i. record { tlid = a i; kind = b i; rtsq = c i }

key_is : (p : Place) (t k n : ℕ) → p.tlid ≡ t → p.kind ≡ k → p.rtsq ≡ n → record { tlid = t; kind = k; rtsq = n } ≡ p
key_is p t k n a b c = λ i. record { tlid = sym a i; kind = sym b i; rtsq = sym c i }

some_is : {X : Type 0} (p q : X) → p ≡ q → Some p ≡ Some q
some_is p q e = λ i. Some (e i)

-- who is at a key has that key
pub key_of : (p : Place) (r : Record) → is_at p r ≡ true → place_of r ≡ Some p
key_of p (Chain t from to) h =
    let kind = and_parts (eqb p.kind 49) (eqb p.rtsq 0 && eqb p.tlid t) h in
    let rest = and_parts (eqb p.rtsq 0) (eqb p.tlid t) kind.1 in
    some_is _ p (key_is p t 49 0 (eqb-true _ _ rest.1) (eqb-true _ _ kind.0) (eqb-true _ _ rest.0))
key_of p (Shape t n pairs) h =
    let kind = and_parts (eqb p.kind 50) (eqb p.tlid t && eqb p.rtsq n) h in
    let rest = and_parts (eqb p.tlid t) (eqb p.rtsq n) kind.1 in
    some_is _ p (key_is p t 50 n (eqb-true _ _ rest.0) (eqb-true _ _ kind.0) (eqb-true _ _ rest.1))
key_of p (Sides t start end left right) h =
    let kind = and_parts (eqb p.kind 73) (eqb p.rtsq 0 && eqb p.tlid t) h in
    let rest = and_parts (eqb p.rtsq 0) (eqb p.tlid t) kind.1 in
    some_is _ p (key_is p t 73 0 (eqb-true _ _ rest.1) (eqb-true _ _ kind.0) (eqb-true _ _ rest.0))
key_of p (PolyPoint k q) h = absurd (let wrong : false ≡ true = h in cc)
key_of p (Landmark n q) h = absurd (let wrong : false ≡ true = h in cc)
key_of p (AreaLink k n) h = absurd (let wrong : false ≡ true = h in cc)

-- a record is at its own key
pub at_own : (r : Record) (p : Place) → place_of r ≡ Some p → is_at p r ≡ true
at_own (Chain t from to) p h =
    let e : record { tlid = t; kind = 49; rtsq = 0 } ≡ p = cc in
    rw (← e) (eq-eqb t t refl)
at_own (Shape t n pairs) p h =
    let e : record { tlid = t; kind = 50; rtsq = n } ≡ p = cc in
    rw (← e) (and_from _ _ (eq-eqb t t refl) (eq-eqb n n refl))
at_own (Sides t start end left right) p h =
    let e : record { tlid = t; kind = 73; rtsq = 0 } ≡ p = cc in
    rw (← e) (eq-eqb t t refl)
at_own (PolyPoint k q) p h = absurd (let wrong : None ≡ Some p = h in cc)
at_own (Landmark n q) p h = absurd (let wrong : None ≡ Some p = h in cc)
at_own (AreaLink k n) p h = absurd (let wrong : None ≡ Some p = h in cc)

-- a record of no chain is at no key
pub at_none : (r : Record) (p : Place) → place_of r ≡ None → is_at p r ≡ false
at_none (Chain t from to) p h = absurd cc
at_none (Shape t n pairs) p h = absurd cc
at_none (Sides t start end left right) p h = absurd cc
at_none (PolyPoint k q) p h = refl
at_none (Landmark n q) p h = refl
at_none (AreaLink k n) p h = refl

pub own_number : (n : ℕ) → is_eq (nat_cmp n n) ≡ true
own_number n = rw (← nat_cmp_is n n Equal refl) refl

then_equal : (a b : Ordering) → is_eq a ≡ true → is_eq b ≡ true → is_eq (ordering_then a b) ≡ true
then_equal Less b h e = absurd (let wrong : false ≡ true = h in cc)
then_equal Equal b h e = e
then_equal Greater b h e = absurd (let wrong : false ≡ true = h in cc)

-- a key compares equal to itself
pub own_key : (p : Place) → is_eq (place_cmp p p) ≡ true
own_key p = then_equal (nat_cmp p.tlid p.tlid) _ (own_number p.tlid)
    (then_equal (nat_cmp p.kind p.kind) (nat_cmp p.rtsq p.rtsq) (own_number p.kind) (own_number p.rtsq))
