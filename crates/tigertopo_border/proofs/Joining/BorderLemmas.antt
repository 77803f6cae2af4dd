-- Borders that are joined as maps of their own are joined as borders of parts.
use Rattle.std.proofs.Common.{◌≡◌, ℕ, suc, ◌-◌, ◌<◌, ◌≤◌, eqb, ◌&&◌, ◌||◌, Bool, true, false, List, [], ◌∷◌, length, take, Some, refl, sym, ap, ◌∙◌, inl, inr, arith}
use Rattle.std.specs.Prelude.{slice_get, IsTrue}
use Rattle.std.proofs.lemmas.Bool.{true≢false, cases_Bool, cases_lt, lt-ltb, le-ltb, eqb-true}
use Rattle.std.proofs.lemmas.Option.{slice_get_within}
use Rattle.tl_map_county.specs.declared.polygons.Polygon.{Polygon}
use Rattle.tl_map_county.specs.declared.sides.Side.{Side}
use Rattle.tl_map_county.specs.declared.sides.Side.TheVariants.{Outside, Polygon as InPolygon}
use Rattle.tl_map_county.specs.TheMap.{TheMap, MapChain}
use Rattle.tigertopo_border.specs.Whole.Told.{IsNamed, AreTold}
use Rattle.tigertopo_border.specs.Whole.Homes.{Homes, is_of, is_blank, own, tells, IsOfParts, IsToldByParts}
use Rattle.tigertopo_border.specs.Whole.Joined.{IsJoined}
use Rattle.tigertopo_border.specs.Whole.Borders.{as_one, has_blank, AreBordersOf, of_borders, AreTlidsRising}
use Rattle.tigertopo_border.proofs.WholeLemmas.Told.{there}
use Rattle.tigertopo_border.specs.Parts.{part_at, number_at, teller_at, homes_of}
use Rattle.tigertopo_border.specs.InParts.{EmptyComeLast}
use Rattle.tigertopo_border.proofs.Joining.InLemmas.{In, from_place, placed}
use Rattle.tigertopo_border.proofs.Joining.HomeLemmas.{found_teller, some_chain}
use Rattle.tigertopo_border.proofs.Joining.WalkLemmas.{same_chain}
use Rattle.tigertopo_border.proofs.Joining.DrawnLemmas.{item_beside}

-- ---- polygons of borders

-- each border has one polygon at most
abbrev pub AreSmall : List TheMap → Type 0
AreSmall borders = (k : ℕ) (border : TheMap) → slice_get borders k ≡ Some border → length border.polygons ≤ 1

none_anywhere : (borders : List TheMap) → ((k : ℕ) (border : TheMap) → slice_get borders k ≡ Some border → length border.polygons ≡ 0) → (p : ℕ) → part_at borders p ≡ length borders
none_anywhere [] none p = refl
none_anywhere (b ∷ borders) none p =
    let here = none 0 b refl in
    let rest = none_anywhere borders (λ k border is. none (suc k) border is) (p - length b.polygons) in
    rw (le-ltb p (length b.polygons) (omega (arith, here))) (omega (arith, rest))

pub record IsItsOwn (borders : List TheMap) (p : ℕ) : Type 0 where
  pub part : part_at borders p ≡ p
  pub number : number_at borders p ≡ 0

-- so polygon p is that of border p
pub its_own : (borders : List TheMap) → AreSmall borders → EmptyComeLast borders → (p : ℕ) → part_at borders p < length borders → IsItsOwn borders p
its_own [] small last p within = absurd (omega (arith, within))
its_own (b ∷ borders) small last p within = elim (cases_lt p (length b.polygons)) [
  | inl here ↦
      let few = small 0 b refl in
      record { part = rw (lt-ltb p (length b.polygons) here) (omega (arith, here, few)); number = rw (lt-ltb p (length b.polygons) here) (omega (arith, here, few)) }
  | inr later ↦ elim (cases_lt 0 (length b.polygons)) [
    | inl some ↦
        let few = small 0 b refl in
        let part_is : part_at (b ∷ borders) p ≡ suc (part_at borders (p - length b.polygons)) = rw (le-ltb p (length b.polygons) later) refl in
        let number_is : number_at (b ∷ borders) p ≡ number_at borders (p - length b.polygons) = rw (le-ltb p (length b.polygons) later) refl in
        let rest = its_own borders (λ k border is. small (suc k) border is) (λ k l part other before is at. last (suc k) (suc l) part other (omega (arith, before)) is at) (p - length b.polygons)
        (omega (arith, within, part_is)) in
        let rest_part = rest.part in
        let rest_number = rest.number in
        record { part = omega (arith, part_is, rest_part, few, some, later); number = omega (arith, number_is, rest_number) }
    | inr none ↦
        let part_is : part_at (b ∷ borders) p ≡ suc (part_at borders (p - length b.polygons)) = rw (le-ltb p (length b.polygons) later) refl in
        let nowhere = none_anywhere borders (λ k border is. elim (cases_lt 0 (length border.polygons)) [
          | inl some ↦ absurd (let first = last 0 (suc k) b border (omega arith) refl is some in omega (arith, first, none))
          | inr nothing ↦ omega (arith, nothing)
        ]) (p - length b.polygons) in
        absurd (omega (arith, within, part_is, nowhere))
  ]
]

-- ---- what is told by the same names is the same

pub told_alike : (names others : Side → Side) (told told_too : MapChain → Bool) (cs os : List MapChain) → ((c : MapChain) → In c cs → told c ≡ told_too c) → ((c : MapChain) → In c cs → names c.left ≡ others c.left)
    → ((c : MapChain) → In c cs → names c.right ≡ others c.right) → AreTold names told cs os → AreTold others told_too cs os
told_alike names others told told_too [] os same left right are = are
told_alike names others told told_too (c ∷ cs) [] same left right are =
    (sym (same c (inl refl)) ∙ are.0, told_alike names others told told_too cs [] (λ d has. same d (inr has)) (λ d has. left d (inr has)) (λ d has. right d (inr has)) are.1)
told_alike names others told told_too (c ∷ cs) (o ∷ os) same left right (inl are) =
    let named = are.1.0 in
    inl (
      sym (same c (inl refl)) ∙ are.0,
      (
        record { tlid = named.tlid; points = named.points; left = named.left ∙ left c (inl refl); right = named.right ∙ right c (inl refl) },
        told_alike names others told told_too cs os (λ d has. same d (inr has)) (λ d has. left d (inr has)) (λ d has. right d (inr has)) are.1.1,
      ),
    )
told_alike names others told told_too (c ∷ cs) (o ∷ os) same left right (inr are) =
    inr (sym (same c (inl refl)) ∙ are.0, told_alike names others told told_too cs (o ∷ os) (λ d has. same d (inr has)) (λ d has. left d (inr has)) (λ d has. right d (inr has)) are.1)

-- ---- sides that name nothing

pub blank_is : (side : Side) → is_blank side ≡ true → side ≡ Outside
blank_is Outside is = refl
blank_is (InPolygon p) is = absurd (true≢false (sym is))

as_one_blank : (side : Side) → as_one side ≡ Outside → side ≡ Outside
as_one_blank Outside is = refl
as_one_blank (InPolygon p) is = absurd (let wrong : InPolygon 0 ≡ Outside = is in cc)

own_blank : (homes : Homes) (k : ℕ) (side : Side) → own homes k side ≡ Outside → is_of homes k side ≡ false
own_blank homes k Outside is = refl
own_blank homes k (InPolygon p) is = elim (cases_Bool (eqb (homes.part p) k)) [
  | inl same ↦ absurd (let wrong : InPolygon (homes.number p) ≡ Outside = rw same at is in cc)
  | inr other ↦ other
]

teller_of : (l r a b q : Bool) → l ≡ false → r ≡ false → (l || (r || (a && (b && q)))) ≡ true → q ≡ true
teller_of l r a b q left right all = go a b (rw (left, right) at all)
  where
    go : (a b : Bool) → (a && (b && q)) ≡ true → q ≡ true
    go true true is = is
    go true false is = absurd (true≢false (sym is))
    go false b is = absurd (true≢false (sym is))

-- a chain without a name that a part tells is of that part
pub blank_teller : (homes : Homes) (k : ℕ) (e d : MapChain) → IsNamed (own homes k) e d → tells homes k e ≡ true → d.left ≡ Outside → d.right ≡ Outside → homes.teller d.tlid ≡ k
blank_teller homes k e d named told left right =
    let is : eqb (homes.teller e.tlid) k ≡ true =
    teller_of (is_of homes k e.left) (is_of homes k e.right) (is_blank e.left) (is_blank e.right) (eqb (homes.teller e.tlid) k)
    (own_blank homes k e.left (sym named.left ∙ left)) (own_blank homes k e.right (sym named.right ∙ right)) told in
    ap homes.teller named.tlid ∙ eqb-true (homes.teller e.tlid) k is

-- ---- borders that are joined

module _ (parts borders : List TheMap) (m b : TheMap) (of_parts : IsJoined (homes_of parts) parts m) (are : AreBordersOf parts borders) (is : IsJoined (homes_of borders) borders b)
    (last : EmptyComeLast parts) (rising : AreTlidsRising b.chains) where
  many_is : (k : ℕ) (border : TheMap) → slice_get borders k ≡ Some border → (part : TheMap) × (slice_get parts k ≡ Some part) × (length border.polygons ≡ length (take 1 part.polygons))
  many_is k border at = let part = item_beside parts borders k border (sym are.many) at in (part.0, part.1, (are.each k part.0 border part.1 at).many)

  one_at_most : (ps : List Polygon) → length (take 1 ps) ≤ 1
  one_at_most [] = omega arith
  one_at_most (p ∷ ps) = omega arith

  some_of : (ps : List Polygon) → 0 < length (take 1 ps) → 0 < length ps
  some_of [] some = some
  some_of (p ∷ ps) some = omega arith

  some_too : (ps : List Polygon) → 0 < length ps → 0 < length (take 1 ps)
  some_too [] some = some
  some_too (p ∷ ps) some = omega arith

  small : AreSmall borders
  small k border at = let part = many_is k border at in omega (arith, part.2, one_at_most part.0.polygons)

  last_too : EmptyComeLast borders
  last_too k l border later before at there some =
      let one = many_is k border at in
      let other = many_is l later there in
      let has = last k l one.0 other.0 before one.1 other.1 (some_of other.0.polygons (omega (arith, other.2, some))) in
      omega (arith, one.2, some_too one.0.polygons has)

  -- a polygon of the joined borders
  own_place : (p : ℕ) → part_at borders p < length borders → IsItsOwn borders p
  own_place p within = its_own borders small last_too p within

  place_of_polygon : (p : ℕ) (polygon : Polygon) → slice_get b.polygons p ≡ Some polygon → IsItsOwn borders p
  place_of_polygon p polygon at = let home = is.no_other p polygon at in own_place p (slice_get_within borders (part_at borders p) home.part home.is)

  -- its sides by both homes
  same_own : (k : ℕ) (side : Side) → IsOfParts (homes_of borders) (length borders) side → own (homes_of borders) k side ≡ own (of_borders (homes_of parts)) k side
  same_own k Outside within = refl
  same_own k (InPolygon p) within = let at = own_place p within in rw (at.part, at.number) refl

  same_is_of : (k : ℕ) (side : Side) → IsOfParts (homes_of borders) (length borders) side → is_of (homes_of borders) k side ≡ is_of (of_borders (homes_of parts)) k side
  same_is_of k Outside within = refl
  same_is_of k (InPolygon p) within = let at = own_place p within in rw at.part refl

  is_told : (c : MapChain) → In c b.chains → IsToldByParts (homes_of borders) (length borders) c
  is_told c has = let at = placed b.chains c has in is.told at.0 c at.1

  -- who tells a chain without a name
  same_teller : (c : MapChain) → In c b.chains → c.left ≡ Outside → c.right ≡ Outside → teller_at borders c.tlid < length borders → teller_at parts c.tlid ≡ teller_at borders c.tlid
  same_teller c has left right within =
      let l = teller_at borders c.tlid in
      let border = found_teller borders c.tlid within in
      let o = some_chain c.tlid border.0.chains border.2 in
      let o_at = placed border.0.chains o.0 o.1 in
      let from_b = there (own (homes_of borders) (teller_at borders c.tlid)) (tells (homes_of borders) (teller_at borders c.tlid)) b.chains border.0.chains (is.each (teller_at borders c.tlid) border.0 border.1) o_at.0 o.0 o_at.1 in
      let it : from_b.chain ≡ c = same_chain b.chains rising from_b.chain c (from_place b.chains _ from_b.chain from_b.is) has (sym from_b.named.tlid ∙ o.2) in
      let o_left : o.0.left ≡ Outside = from_b.named.left ∙ ap (λ (x : MapChain). own (homes_of borders) (teller_at borders c.tlid) x.left) it ∙ ap (own (homes_of borders) (teller_at borders c.tlid)) left in
      let o_right : o.0.right ≡ Outside = from_b.named.right ∙ ap (λ (x : MapChain). own (homes_of borders) (teller_at borders c.tlid) x.right) it ∙ ap (own (homes_of borders) (teller_at borders c.tlid)) right in
      let part = item_beside parts borders (teller_at borders c.tlid) border.0 (sym are.many) border.1 in
      let from_part = there as_one has_blank part.0.chains border.0.chains (are.each (teller_at borders c.tlid) part.0 border.0 part.1 border.1).chains o_at.0 o.0 o_at.1 in
      let d_left : from_part.chain.left ≡ Outside = as_one_blank from_part.chain.left (sym from_part.named.left ∙ o_left) in
      let d_right : from_part.chain.right ≡ Outside = as_one_blank from_part.chain.right (sym from_part.named.right ∙ o_right) in
      let from_m = there (own (homes_of parts) (teller_at borders c.tlid)) (tells (homes_of parts) (teller_at borders c.tlid)) m.chains part.0.chains (of_parts.each (teller_at borders c.tlid) part.0 part.1) _ from_part.chain from_part.is in
      let tlid : from_part.chain.tlid ≡ c.tlid = sym from_part.named.tlid ∙ o.2 in
      ap (teller_at parts) (sym tlid) ∙ blank_teller (homes_of parts) (teller_at borders c.tlid) from_m.chain from_part.chain from_m.named from_m.told_is d_left d_right

  same_tells : (k : ℕ) (c : MapChain) → In c b.chains → tells (homes_of borders) k c ≡ tells (of_borders (homes_of parts)) k c
  same_tells k c has =
      let told = is_told c has in
      go (is_blank c.left) (is_blank c.right) refl refl (same_is_of k c.left told.left) (same_is_of k c.right told.right) told.blank
    where
      go : (x y : Bool) → is_blank c.left ≡ x → is_blank c.right ≡ y → is_of (homes_of borders) k c.left ≡ is_of (of_borders (homes_of parts)) k c.left
          → is_of (homes_of borders) k c.right ≡ is_of (of_borders (homes_of parts)) k c.right → (IsTrue (is_blank c.left) → IsTrue (is_blank c.right) → teller_at borders c.tlid < length borders)
          → tells (homes_of borders) k c ≡ tells (of_borders (homes_of parts)) k c
      go true true left right of_left of_right within =
          let same = same_teller c has (blank_is c.left left) (blank_is c.right right) (within left right) in
          rw (of_left, of_right, same) refl
      go true false left right of_left of_right within = rw (of_left, of_right, left, right) refl
      go false y left right of_left of_right within = rw (of_left, of_right, left) refl

  -- so they are joined as borders are
  pub of_borders_joined : IsJoined (of_borders (homes_of parts)) borders b
  of_borders_joined = record {
    apart = λ p q part number. part;
    each = λ k border at.
        told_alike (own (homes_of borders) k) (own (of_borders (homes_of parts)) k) (tells (homes_of borders) k) (tells (of_borders (homes_of parts)) k) b.chains border.chains
        (same_tells k) (λ c has. same_own k c.left (is_told c has).left) (λ c has. same_own k c.right (is_told c has).right) (is.each k border at);
    told = λ c chain at. told_too chain (from_place b.chains c chain at);
    known = λ k p border polygon at at_place.
        let found = is.known k p border polygon at at_place in
        let own_is = place_of_polygon found.place polygon found.is in
        record { place = found.place; is = found.is; part = sym own_is.part ∙ found.part; number = sym own_is.number ∙ found.number };
    no_other = λ p polygon at.
        let home = is.no_other p polygon at in
        let own_is = place_of_polygon p polygon at in
        record {
          part = home.part;
          is = ap (slice_get borders) (sym own_is.part) ∙ home.is;
          polygon_is = ap (slice_get home.part.polygons) (sym own_is.number) ∙ home.polygon_is;
        };
  }
    where
      within_too : (side : Side) → IsOfParts (homes_of borders) (length borders) side → IsOfParts (of_borders (homes_of parts)) (length borders) side
      within_too Outside within = tt
      within_too (InPolygon p) within = let at = own_place p within in let same = at.part in omega (arith, within, same)

      told_too : (c : MapChain) → In c b.chains → IsToldByParts (of_borders (homes_of parts)) (length borders) c
      told_too c has =
          let told = is_told c has in
          record {
            left = within_too c.left told.left;
            right = within_too c.right told.right;
            blank = λ left right.
                let within = told.blank left right in
                let same = same_teller c has (blank_is c.left left) (blank_is c.right right) within in
                omega (arith, within, same);
          }
