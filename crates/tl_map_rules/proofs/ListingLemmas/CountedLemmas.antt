use Rattle.std.proofs.Common.{◌≡◌, ℕ, suc, ◌+◌, ◌<◌, ◌≤◌, Bool, true, false, cond, eqb, inl, inr, Option, Some, None, List, [], ◌∷◌, length, map, count_by, get_or, Contains, refl, ap, ◌∙◌, arith, add-one}
use Rattle.std.specs.List.{filter_map}
use Rattle.std.specs.List.Sorted.{IsNonDecreasing, IsPermutation}
use Rattle.std.proofs.lemmas.Bool.{eq-eqb, eqb-true, cases_Bool}
use Rattle.std.proofs.lemmas.List.{get_or_default}
use Rattle.std.proofs.lemmas.List.Sums.{sum_by-cons}
use Rattle.std.proofs.lemmas.List.Sorted.{sum_by-IsPermutation}
use Rattle.tl_record.specs.declared.record.Record.{Record}
use Rattle.tl_record.specs.declared.record.Record.TheVariants.{Chain, Shape, Sides, PolyPoint, Landmark, AreaLink}
use Rattle.tl_map_rules.specs.declared.entry.ChainEntry.{ChainEntry}
use Rattle.tl_map_rules.specs.declared.entry.SidesEntry.{SidesEntry}
use Rattle.tl_map_rules.specs.ChainsOf.{is_chain, is_shape, shape_count}
use Rattle.tl_map_rules.specs.MapOf.{sides_in}
use Rattle.tl_map_rules.specs.Faults.{HasChain, HasSides}
use Rattle.tl_map_rules.proofs.CountLemmas.{one_counted}
use Rattle.tl_map_rules.specs.declared.listing.shape.ShapeSummary.{ShapeSummary}
use Rattle.tl_map_rules.specs.Listing.Shapes.{seen_in}
use Rattle.tl_map_rules.specs.Listing.Kept.{chain_at, shape_at}
use Rattle.tl_map_rules.specs.Listing.Keeping.Numbers.{StandAsOften, chains_with, sides_with}

pub count_yes : {X : Type 0} (p : X → Bool) (x : X) (xs : List X) → p x ≡ true → count_by p (x ∷ xs) ≡ count_by p xs + 1
count_yes {X} p x xs e = omega (arith, sum_by-cons (λ (y : X). cond (p y) 1 0) x xs, ap (λ (b : Bool). cond {A = ℕ} b 1 0) e)

pub count_no : {X : Type 0} (p : X → Bool) (x : X) (xs : List X) → p x ≡ false → count_by p (x ∷ xs) ≡ count_by p xs
count_no {X} p x xs e = omega (arith, sum_by-cons (λ (y : X). cond (p y) 1 0) x xs, ap (λ (b : Bool). cond {A = ℕ} b 1 0) e)

-- what is counted stands in the list
pub counted_stands : {X : Type 0} (E : X → X → Bool) → ((a b : X) → E a b ≡ true → a ≡ b) → (xs : List X) (x : X) → 1 ≤ count_by (λ y. E y x) xs → Contains xs x
counted_stands E exact [] x h = absurd (omega arith)
counted_stands {X} E exact (y ∷ ys) x h = elim (cases_Bool (E y x)) [
  | inl met ↦ (0, omega arith, exact y x met)
  | inr other ↦
      let rest = counted_stands E exact ys x (omega (arith, h, count_no (λ z. E z x) y ys other)) in
      (suc rest.0, omega (arith, rest.1), rest.2)
]

-- what stands in the list is counted
pub stands_counted : {X : Type 0} (E : X → X → Bool) → ((x : X) → E x x ≡ true) → (xs : List X) (x : X) → Contains xs x → 1 ≤ count_by (λ y. E y x) xs
stands_counted E itself xs x has = omega (arith, one_counted (λ y. E y x) xs has.0 x has.1 (rw has.2 (itself x)))

-- numbers that stand as often as they are counted
pub number_stands : (count : ℕ → ℕ) (numbers : List ℕ) (n : ℕ) → StandAsOften count numbers → 1 ≤ count n → Contains numbers n
number_stands count numbers n often h = counted_stands eqb eqb-true numbers n (omega (arith, often n))

pub number_counted : (count : ℕ → ℕ) (numbers : List ℕ) (n : ℕ) → StandAsOften count numbers → Contains numbers n → 1 ≤ count n
number_counted count numbers n often has = omega (arith, often n, stands_counted eqb (λ x. eq-eqb x x refl) numbers n has)

-- what is left of a list that doesn't fall
pub fewer : (x : ℕ) (xs : List ℕ) → IsNonDecreasing (x ∷ xs) → IsNonDecreasing xs
fewer x xs order i j d le lt = rw (add-one i, add-one j) at (order (i + 1) (j + 1) d (omega arith) (omega arith))

behind : (x : ℕ) (xs : List ℕ) (k d n : ℕ) → get_or xs (k + 1) d ≡ n → get_or (x ∷ xs) (suc k + 1) d ≡ n
behind x xs k d n h = let there = rw (add-one k) at h in rw (add-one (suc k)) there

-- a number that stands twice in a list that doesn't fall stands at two neighbouring places
pub next_from_twice : (numbers : List ℕ) (n : ℕ) → IsNonDecreasing numbers → 2 ≤ count_by (λ x. eqb x n) numbers → (k : ℕ) × (k + 1 < length numbers) × ((d : ℕ) → get_or numbers k d ≡ n) × ((d : ℕ) → get_or numbers (k + 1) d ≡ n)
next_from_twice [] n order h = absurd (omega arith)
next_from_twice (x ∷ xs) n order h =
    elim (cases_Bool (eqb x n)) [
      | inl met ↦
          let here : x ≡ n = eqb-true x n met in
          let later = counted_stands eqb eqb-true xs n (omega (arith, h, count_yes (λ z. eqb z n) x xs met)) in
          let least : x ≤ get_or xs 0 n = order 0 1 n (omega arith) (omega (arith, later.1)) in
          let most : get_or xs 0 n ≤ get_or xs later.0 n = fewer x xs order 0 later.0 n (omega arith) later.1 in
          let next : get_or xs 0 n ≡ n = omega (arith, least, most, here, later.2) in
          (0, omega (arith, later.1), λ d. here, λ d. get_or_default xs 0 d n (omega (arith, later.1)) ∙ next)
      | inr other ↦
          let rest = next_from_twice xs n (fewer x xs order) (omega (arith, h, count_no (λ z. eqb z n) x xs other)) in
          (suc rest.0, omega (arith, rest.1), rest.2, λ d. behind x xs rest.0 d n (rest.3 d))
    ]

-- items of records are counted as the records are
pub items_counted : {Y : Type 0} (h : Record → Option Y) (p : Y → Bool) (q : Record → Bool) → ((r : Record) → count_by p (filter_map h (r ∷ [])) ≡ cond (q r) 1 0) → (rs : List Record) → count_by p (filter_map h rs) ≡ count_by q rs
items_counted h p q each [] = refl
items_counted {Y} h p q each (r ∷ rs) = go (h r) refl (items_counted h p q each rs)
  where
    go : (o : Option Y) → h r ≡ o → count_by p (filter_map h rs) ≡ count_by q rs → count_by p (filter_map h (r ∷ rs)) ≡ count_by q (r ∷ rs)
    go None e rest =
        let none = rw e at (each r) in
        rw e (omega (arith, rest, none, sum_by-cons (λ (x : Record). cond (q x) 1 0) r rs))
    go (Some y) e rest =
        let some = rw e at (each r) in
        rw e (omega (arith, rest, some, sum_by-cons (λ (x : Record). cond (q x) 1 0) r rs, sum_by-cons (λ (x : Y). cond (p x) 1 0) y (filter_map h rs), sum_by-cons (λ (x : Y). cond (p x) 1 0) y []))

pub count-map : {X Y : Type 0} (p : Y → Bool) (f : X → Y) (xs : List X) → count_by p (map f xs) ≡ count_by (λ x. p (f x)) xs
count-map p f [] = refl
count-map {X} {Y} p f (x ∷ xs) =
    omega (arith, count-map p f xs, sum_by-cons (λ (y : Y). cond (p y) 1 0) (f x) (map f xs), sum_by-cons (λ (y : X). cond (p (f y)) 1 0) x xs)

-- the TLIDs of chains, in any order
pub chain_tlids : (rs : List Record) (kept sorted : List ChainEntry) → kept ≡ filter_map chain_at rs → IsPermutation kept sorted → StandAsOften (chains_with rs) (map (λ c. c.tlid) sorted)
chain_tlids rs kept sorted is moved n =
    count-map (λ x. eqb x n) (λ (c : ChainEntry). c.tlid) sorted
    ∙ sum_by-IsPermutation (λ (c : ChainEntry). cond (eqb c.tlid n) 1 0) kept sorted moved
    ∙ ap (count_by (λ (c : ChainEntry). eqb c.tlid n)) is
    ∙ items_counted chain_at (λ c. eqb c.tlid n) (is_chain n) each rs
  where
    each : (r : Record) → count_by (λ (c : ChainEntry). eqb c.tlid n) (filter_map chain_at (r ∷ [])) ≡ cond (is_chain n r) 1 0
    each (Chain t from to) = sum_by-cons (λ (c : ChainEntry). cond (eqb c.tlid n) 1 0) (record { tlid = t; from = from; to = to }) [] ∙ omega arith
    each (Shape t k pairs) = refl
    each (Sides t s e l r) = refl
    each (PolyPoint k p) = refl
    each (Landmark k p) = refl
    each (AreaLink k m) = refl

-- the TLIDs of shapes
pub shape_tlids : (rs : List Record) (kept sorted : List ShapeSummary) → kept ≡ filter_map shape_at rs → IsPermutation kept sorted → StandAsOften (shape_count rs) (map (λ s. s.tlid) sorted)
shape_tlids rs kept sorted is moved n =
    count-map (λ x. eqb x n) (λ (s : ShapeSummary). s.tlid) sorted
    ∙ sum_by-IsPermutation (λ (s : ShapeSummary). cond (eqb s.tlid n) 1 0) kept sorted moved
    ∙ ap (count_by (λ (s : ShapeSummary). eqb s.tlid n)) is
    ∙ items_counted shape_at (λ s. eqb s.tlid n) (is_shape n) each rs
  where
    each : (r : Record) → count_by (λ (s : ShapeSummary). eqb s.tlid n) (filter_map shape_at (r ∷ [])) ≡ cond (is_shape n r) 1 0
    each (Chain t from to) = refl
    each (Shape t k pairs) = sum_by-cons (λ (s : ShapeSummary). cond (eqb s.tlid n) 1 0) (record { tlid = t; seen = seen_in pairs; rtsq = k }) [] ∙ omega arith
    each (Sides t s e l r) = refl
    each (PolyPoint k p) = refl
    each (Landmark k p) = refl
    each (AreaLink k m) = refl

-- the TLIDs of sides
pub side_tlids : (rs : List Record) (kept sorted : List ℕ) → kept ≡ map (λ s. s.tlid) (sides_in rs) → IsPermutation kept sorted → StandAsOften (sides_with rs) sorted
side_tlids rs kept sorted is moved n =
    sum_by-IsPermutation (λ x. cond (eqb x n) 1 0) kept sorted moved
    ∙ ap (count_by (λ x. eqb x n)) is
    ∙ count-map (λ x. eqb x n) (λ (s : SidesEntry). s.tlid) (sides_in rs)

-- a type 1 record that is counted is there
pub has_chain : (rs : List Record) (t : ℕ) → 1 ≤ chains_with rs t → HasChain rs t
has_chain [] t h = absurd (omega arith)
has_chain (r ∷ rs) t h = go r (omega (arith, h, sum_by-cons (λ (x : Record). cond (is_chain t x) 1 0) r rs)) (has_chain rs t)
  where
    later : (r : Record) → HasChain rs t → HasChain (r ∷ rs) t
    later r (from, to, (k, lt, at)) = (from, to, (suc k, omega arith, at))

    go : (r : Record) → 1 ≤ cond (is_chain t r) 1 0 + chains_with rs t → (1 ≤ chains_with rs t → HasChain rs t) → HasChain (r ∷ rs) t
    go (Chain u from to) more rest = elim (cases_Bool (eqb u t)) [
      | inl met ↦ (from, to, (0, omega arith, ap (λ v. Chain v from to) (eqb-true u t met)))
      | inr other ↦ later (Chain u from to) (rest (omega (arith, rw other at more)))
    ]
    go (Shape u k pairs) more rest = later (Shape u k pairs) (rest (omega (arith, more)))
    go (Sides u s e l r) more rest = later (Sides u s e l r) (rest (omega (arith, more)))
    go (PolyPoint k p) more rest = later (PolyPoint k p) (rest (omega (arith, more)))
    go (Landmark k p) more rest = later (Landmark k p) (rest (omega (arith, more)))
    go (AreaLink k m) more rest = later (AreaLink k m) (rest (omega (arith, more)))

pub counted_chain : (rs : List Record) (t : ℕ) → HasChain rs t → 1 ≤ chains_with rs t
counted_chain rs t has = omega (arith, one_counted (is_chain t) rs has.2.0 (Chain t has.0 has.1) has.2.1 (rw has.2.2 (eq-eqb t t refl)))

-- type I records that are counted are there
pub has_sides : (rs : List Record) (t : ℕ) → 1 ≤ sides_with rs t → HasSides rs t
has_sides rs t h = counted_stands eqb eqb-true (map (λ (s : SidesEntry). s.tlid) (sides_in rs)) t (omega (arith, h, count-map (λ x. eqb x t) (λ (s : SidesEntry). s.tlid) (sides_in rs)))

pub counted_sides : (rs : List Record) (t : ℕ) → HasSides rs t → 1 ≤ sides_with rs t
counted_sides rs t has = omega (arith, stands_counted eqb (λ x. eq-eqb x x refl) (map (λ (s : SidesEntry). s.tlid) (sides_in rs)) t has, count-map (λ x. eqb x t) (λ (s : SidesEntry). s.tlid) (sides_in rs))
