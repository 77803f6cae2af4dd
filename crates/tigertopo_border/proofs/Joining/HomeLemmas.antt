-- Where polygons of parts that stand one after the other are at home, and who tells a chain.
use Rattle.std.proofs.Common.{◌≡◌, ℕ, zero, suc, ◌+◌, ◌-◌, ◌<◌, ◌≤◌, eqb, true, List, [], ◌∷◌, ◌++◌, length, Some, None, refl, sym, ap, ◌∙◌, inl, inr, arith}
use Rattle.std.specs.Prelude.{slice_get}
use Rattle.std.specs.List.{flat_map, list_any}
use Rattle.std.proofs.lemmas.Bool.{true≢false, cases_Bool, cases_lt, lt-ltb, le-ltb, eq-eqb, eqb-true}
use Rattle.std.proofs.lemmas.List.{map-append, length-map}
use Rattle.std.proofs.lemmas.Option.{slice_get_within}
use Rattle.tl_record_key.specs.declared.key.PolyKey.{PolyKey}
use Rattle.tl_map_county.specs.declared.polygons.Polygon.{Polygon}
use Rattle.tl_map_county.specs.TheMap.{TheMap, MapChain}
use Rattle.tl_map_rules.specs.MapOf.{keys, same_key, place_of}
use Rattle.tl_map_rules.specs.Faults.{StandsTwice}
use Rattle.tl_map_rules.proofs.KeyLemmas.{same_key-refl, same_key-is}
use Rattle.tigertopo_border.specs.Parts.{has_chain, part_at, number_at, teller_at}
use Rattle.tigertopo_border.proofs.Joining.InLemmas.{In, placed, in_first, in_second}

-- the polygons of all parts
abbrev pub polygons_of : List TheMap → List Polygon
polygons_of parts = flat_map (λ (m : TheMap). m.polygons) parts

here_part : (part : TheMap) (parts : List TheMap) (p : ℕ) → p < length part.polygons → part_at (part ∷ parts) p ≡ 0
here_part part parts p lt = rw (lt-ltb p (length part.polygons) lt) refl

here_number : (part : TheMap) (parts : List TheMap) (p : ℕ) → p < length part.polygons → number_at (part ∷ parts) p ≡ p
here_number part parts p lt = rw (lt-ltb p (length part.polygons) lt) refl

later_part : (part : TheMap) (parts : List TheMap) (p : ℕ) → length part.polygons ≤ p → part_at (part ∷ parts) p ≡ suc (part_at parts (p - length part.polygons))
later_part part parts p le = rw (le-ltb p (length part.polygons) le) refl

later_number : (part : TheMap) (parts : List TheMap) (p : ℕ) → length part.polygons ≤ p → number_at (part ∷ parts) p ≡ number_at parts (p - length part.polygons)
later_number part parts p le = rw (le-ltb p (length part.polygons) le) refl

-- a place behind those of the first part
behind_part : (part : TheMap) (parts : List TheMap) (p : ℕ) → part_at (part ∷ parts) (length part.polygons + p) ≡ suc (part_at parts p)
behind_part part parts p =
    let at : length part.polygons + p - length part.polygons ≡ p = omega arith in
    later_part part parts (length part.polygons + p) (omega arith) ∙ ap (λ q. suc (part_at parts q)) at

behind_number : (part : TheMap) (parts : List TheMap) (p : ℕ) → number_at (part ∷ parts) (length part.polygons + p) ≡ number_at parts p
behind_number part parts p =
    let at : length part.polygons + p - length part.polygons ≡ p = omega arith in
    later_number part parts (length part.polygons + p) (omega arith) ∙ ap (number_at parts) at

-- no two polygons have one home
pub homes_apart : (parts : List TheMap) (p q : ℕ) → part_at parts p ≡ part_at parts q → number_at parts p ≡ number_at parts q → p ≡ q
homes_apart [] p q one other = other
homes_apart (part ∷ parts) p q one other = elim (cases_lt p (length part.polygons)) [
  | inl p_here ↦ elim (cases_lt q (length part.polygons)) [
    | inl q_here ↦ sym (here_number part parts p p_here) ∙ other ∙ here_number part parts q q_here
    | inr q_later ↦ absurd (omega (arith, here_part part parts p p_here, later_part part parts q q_later, one))
  ]
  | inr p_later ↦ elim (cases_lt q (length part.polygons)) [
    | inl q_here ↦ absurd (omega (arith, later_part part parts p p_later, here_part part parts q q_here, one))
    | inr q_later ↦
        let same = homes_apart parts (p - length part.polygons) (q - length part.polygons) (omega (arith, later_part part parts p p_later, later_part part parts q q_later, one))
        (sym (later_number part parts p p_later) ∙ other ∙ later_number part parts q q_later) in
        omega (arith, same, p_later, q_later)
  ]
]

got_first : {X : Type 0} (xs ys : List X) (i : ℕ) → i < length xs → slice_get (xs ++ ys) i ≡ slice_get xs i
got_first [] ys i within = absurd (omega (arith, within))
got_first (x ∷ xs) ys zero within = refl
got_first (x ∷ xs) ys (suc i) within = got_first xs ys i (omega (arith, within))

got_later : {X : Type 0} (xs ys : List X) (i j : ℕ) → i ≡ length xs + j → slice_get (xs ++ ys) i ≡ slice_get ys j
got_later [] ys i j is = ap (slice_get ys) (omega (arith, is))
got_later (x ∷ xs) ys zero j is = absurd (omega (arith, is))
got_later (x ∷ xs) ys (suc i) j is = got_later xs ys i j (omega (arith, is))

-- a polygon of a part has its place among all
pub record HasPlace (parts : List TheMap) (k p : ℕ) (polygon : Polygon) : Type 0 where
  pub place : ℕ
  pub is : slice_get (polygons_of parts) place ≡ Some polygon
  pub part : part_at parts place ≡ k
  pub number : number_at parts place ≡ p

pub has_place : (parts : List TheMap) (k p : ℕ) (part : TheMap) (polygon : Polygon) → slice_get parts k ≡ Some part → slice_get part.polygons p ≡ Some polygon → HasPlace parts k p polygon
has_place [] k p part polygon is at = absurd (let wrong : None ≡ Some part = is in cc)
has_place (one ∷ parts) zero p part polygon is at =
    let same : one ≡ part = cc in
    let there : slice_get one.polygons p ≡ Some polygon = rw same at in
    let within = slice_get_within one.polygons p polygon there in
    record {
      place = p;
      is = got_first one.polygons (polygons_of parts) p within ∙ there;
      part = here_part one parts p within;
      number = here_number one parts p within;
    }
has_place (one ∷ parts) (suc k) p part polygon is at =
    let rest = has_place parts k p part polygon is at in
    record {
      place = length one.polygons + rest.place;
      is = got_later one.polygons (polygons_of parts) (length one.polygons + rest.place) rest.place refl ∙ rest.is;
      part = behind_part one parts rest.place ∙ ap suc rest.part;
      number = behind_number one parts rest.place ∙ rest.number;
    }

-- and a polygon among all is that of its part
pub record HasHome (parts : List TheMap) (p : ℕ) (polygon : Polygon) : Type 0 where
  pub part : TheMap
  pub is : slice_get parts (part_at parts p) ≡ Some part
  pub polygon_is : slice_get part.polygons (number_at parts p) ≡ Some polygon

pub has_home : (parts : List TheMap) (p : ℕ) (polygon : Polygon) → slice_get (polygons_of parts) p ≡ Some polygon → HasHome parts p polygon
has_home [] p polygon is = absurd (let wrong : None ≡ Some polygon = is in cc)
has_home (one ∷ parts) p polygon is = elim (cases_lt p (length one.polygons)) [
  | inl here ↦ record {
    part = one;
    is = ap (slice_get (one ∷ parts)) (here_part one parts p here);
    polygon_is = ap (slice_get one.polygons) (here_number one parts p here) ∙ sym (got_first one.polygons (polygons_of parts) p here) ∙ is;
  }
  | inr later ↦
      let there : slice_get (polygons_of parts) (p - length one.polygons) ≡ Some polygon =
      sym (got_later one.polygons (polygons_of parts) p (p - length one.polygons) (omega (arith, later))) ∙ is in
      let rest = has_home parts (p - length one.polygons) polygon there in
      record {
        part = rest.part;
        is = ap (slice_get (one ∷ parts)) (later_part one parts p later) ∙ rest.is;
        polygon_is = ap (slice_get rest.part.polygons) (later_number one parts p later) ∙ rest.polygon_is;
      }
]

-- ---- the polygon that a key names

abbrev pub AreDistinct : List PolyKey → Type 0
AreDistinct [] = Unit {0}
AreDistinct (k ∷ ks) = (In k ks → ⊥) × AreDistinct ks

pub distinct : (ks : List PolyKey) → ((k : PolyKey) → StandsTwice ks k → ⊥) → AreDistinct ks
distinct [] never = tt
distinct (k ∷ ks) never = (
  λ has. let there = placed ks k has in never k (0, suc there.0, omega arith, refl, there.1),
  distinct ks (λ l twice. let before = twice.2 in never l (suc twice.0, suc twice.1, omega (arith, before), twice.3, twice.4)),
)

not_in_both : (xs ys : List PolyKey) (k : PolyKey) → AreDistinct (xs ++ ys) → In k xs → In k ys → ⊥
not_in_both [] ys k apart here there = here
not_in_both (x ∷ xs) ys k apart (inl same) there = apart.0 (rw same (in_second xs ys k there))
not_in_both (x ∷ xs) ys k apart (inr more) there = not_in_both xs ys k apart.1 more there

distinct_behind : (xs ys : List PolyKey) → AreDistinct (xs ++ ys) → AreDistinct ys
distinct_behind [] ys apart = apart
distinct_behind (x ∷ xs) ys apart = distinct_behind xs ys apart.1

place_within : (ks : List PolyKey) (k : PolyKey) → In k ks → place_of ks k < length ks
place_within [] k has = absurd has
place_within (l ∷ ks) k (inl same) = rw (same, same_key-refl k) (omega arith)
place_within (l ∷ ks) k (inr more) = elim (cases_Bool (same_key l k)) [
  | inl here ↦ rw here (omega arith)
  | inr other ↦ rw other (omega (arith, place_within ks k more))
]

place_first : (xs ys : List PolyKey) (k : PolyKey) → In k xs → place_of (xs ++ ys) k ≡ place_of xs k
place_first [] ys k has = absurd has
place_first (x ∷ xs) ys k (inl same) = rw (same, same_key-refl k) refl
place_first (x ∷ xs) ys k (inr more) = elim (cases_Bool (same_key x k)) [
  | inl here ↦ rw here refl
  | inr other ↦ rw other (ap suc (place_first xs ys k more))
]

place_later : (xs ys : List PolyKey) (k : PolyKey) → (In k xs → ⊥) → place_of (xs ++ ys) k ≡ length xs + place_of ys k
place_later [] ys k none = omega arith
place_later (x ∷ xs) ys k none = elim (cases_Bool (same_key x k)) [
  | inl here ↦ absurd (none (inl (same_key-is x k here)))
  | inr other ↦ rw other (omega (arith, place_later xs ys k (λ has. none (inr has))))
]

-- a key of a part names the part's polygon
pub record IsAtHome (parts : List TheMap) (k : ℕ) (part : TheMap) (key : PolyKey) : Type 0 where
  pub part_is : part_at parts (place_of (keys (polygons_of parts)) key) ≡ k
  pub number_is : number_at parts (place_of (keys (polygons_of parts)) key) ≡ place_of (keys part.polygons) key

pub at_home : (parts : List TheMap) (k : ℕ) (part : TheMap) (key : PolyKey) → AreDistinct (keys (polygons_of parts)) → slice_get parts k ≡ Some part → In key (keys part.polygons)
    → IsAtHome parts k part key
at_home [] k part key apart is has = absurd (let wrong : None ≡ Some part = is in cc)
at_home (one ∷ parts) zero part key apart is has =
    let same : one ≡ part = cc in
    let there : In key (keys one.polygons) = rw same has in
    let both : keys (polygons_of (one ∷ parts)) ≡ keys one.polygons ++ keys (polygons_of parts) = map-append (λ (p : Polygon). p.key) one.polygons (polygons_of parts) in
    let place : place_of (keys (polygons_of (one ∷ parts))) key ≡ place_of (keys one.polygons) key =
    ap (λ (ks : List PolyKey). place_of ks key) both ∙ place_first (keys one.polygons) (keys (polygons_of parts)) key there in
    let within : place_of (keys one.polygons) key < length one.polygons = omega (arith, place_within (keys one.polygons) key there, length-map one.polygons (λ (p : Polygon). p.key)) in
    record {
      part_is = ap (part_at (one ∷ parts)) place ∙ here_part one parts (place_of (keys one.polygons) key) within;
      number_is = ap (number_at (one ∷ parts)) place ∙ here_number one parts (place_of (keys one.polygons) key) within ∙ ap (λ (m : TheMap). place_of (keys m.polygons) key) same;
    }
at_home (one ∷ parts) (suc k) part key apart is has =
    let both : keys (polygons_of (one ∷ parts)) ≡ keys one.polygons ++ keys (polygons_of parts) = map-append (λ (p : Polygon). p.key) one.polygons (polygons_of parts) in
    let apart_both : AreDistinct (keys one.polygons ++ keys (polygons_of parts)) = rw both at apart in
    let behind = in_keys parts k part key is has in
    let rest = at_home parts k part key (distinct_behind (keys one.polygons) (keys (polygons_of parts)) apart_both) is has in
    let place : place_of (keys (polygons_of (one ∷ parts))) key ≡ length one.polygons + place_of (keys (polygons_of parts)) key =
    ap (λ (ks : List PolyKey). place_of ks key) both
    ∙ place_later (keys one.polygons) (keys (polygons_of parts)) key (λ here. not_in_both (keys one.polygons) (keys (polygons_of parts)) key apart_both here behind)
    ∙ ap (λ n. n + place_of (keys (polygons_of parts)) key) (length-map one.polygons (λ (p : Polygon). p.key)) in
    record {
      part_is = ap (part_at (one ∷ parts)) place ∙ behind_part one parts (place_of (keys (polygons_of parts)) key) ∙ ap suc rest.part_is;
      number_is = ap (number_at (one ∷ parts)) place ∙ behind_number one parts (place_of (keys (polygons_of parts)) key) ∙ rest.number_is;
    }
  where
    in_keys : (parts : List TheMap) (k : ℕ) (part : TheMap) (key : PolyKey) → slice_get parts k ≡ Some part → In key (keys part.polygons) → In key (keys (polygons_of parts))
    in_keys [] k part key is has = absurd (let wrong : None ≡ Some part = is in cc)
    in_keys (one ∷ parts) zero part key is has =
        let same : one ≡ part = cc in
        rw (map-append (λ (p : Polygon). p.key) one.polygons (polygons_of parts)) (in_first (keys one.polygons) (keys (polygons_of parts)) key (rw same has))
    in_keys (one ∷ parts) (suc k) part key is has =
        rw (map-append (λ (p : Polygon). p.key) one.polygons (polygons_of parts)) (in_second (keys one.polygons) (keys (polygons_of parts)) key (in_keys parts k part key is has))

-- ---- who tells a chain that names no polygon

pub found_teller : (parts : List TheMap) (t : ℕ) → teller_at parts t < length parts → (part : TheMap) × (slice_get parts (teller_at parts t) ≡ Some part) × (has_chain t part ≡ true)
found_teller [] t within = absurd (omega (arith, within))
found_teller (one ∷ parts) t within = elim (cases_Bool (has_chain t one)) [
  | inl here ↦ (one, rw here refl, here)
  | inr other ↦
      let e : teller_at (one ∷ parts) t ≡ suc (teller_at parts t) = rw other refl in
      let rest = found_teller parts t (omega (arith, within, e)) in
      (rest.0, ap (slice_get (one ∷ parts)) e ∙ rest.1, rest.2)
]

pub teller_before : (parts : List TheMap) (t k : ℕ) (part : TheMap) → slice_get parts k ≡ Some part → has_chain t part ≡ true → teller_at parts t ≤ k
teller_before [] t k part is has = absurd (let wrong : None ≡ Some part = is in cc)
teller_before (one ∷ parts) t zero part is has =
    let same : one ≡ part = cc in
    let here : has_chain t one ≡ true = rw same has in
    rw here (omega arith)
teller_before (one ∷ parts) t (suc k) part is has = elim (cases_Bool (has_chain t one)) [
  | inl here ↦ rw here (omega arith)
  | inr other ↦ rw other (omega (arith, teller_before parts t k part is has))
]

-- a test of some chain of a list
pub some_chain : (t : ℕ) (cs : List MapChain) → list_any (λ (c : MapChain). eqb c.tlid t) cs ≡ true → (c : MapChain) × In c cs × (c.tlid ≡ t)
some_chain t [] some = absurd (true≢false (sym some))
some_chain t (c ∷ cs) some = elim (cases_Bool (eqb c.tlid t)) [
  | inl here ↦ (c, inl refl, eqb-true c.tlid t here)
  | inr other ↦ let rest = some_chain t cs (rw other at some) in (rest.0, inr rest.1, rest.2)
]

pub chain_there : (t : ℕ) (cs : List MapChain) (c : MapChain) → In c cs → c.tlid ≡ t → list_any (λ (d : MapChain). eqb d.tlid t) cs ≡ true
chain_there t [] c has same = absurd has
chain_there t (d ∷ cs) c (inl is) same = rw (eq-eqb d.tlid t (ap (λ (x : MapChain). x.tlid) is ∙ same)) refl
chain_there t (d ∷ cs) c (inr more) same = elim (cases_Bool (eqb d.tlid t)) [
  | inl here ↦ rw here refl
  | inr other ↦ rw other (chain_there t cs c more same)
]
