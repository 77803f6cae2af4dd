-- What records without a fault tell at a key.
use Rattle.std.proofs.Common.{◌≡◌, ℕ, ◌≤◌, true, false, cond, eqb, List, [], ◌∷◌, length, map, Option, Some, None, count_by, refl, sym, ap, ◌∙◌, inl, inr, arith}
use Rattle.std.specs.List.{cons_option}
use Rattle.std.proofs.lemmas.Bool.{true≢false, cases_Bool, cases_lt, eq-eqb, eqb-true, false_from_ne_true}
use Rattle.std.proofs.lemmas.List.Elements.{filter_agree}
use Rattle.std.proofs.lemmas.List.Sums.{length-filter, sum_by-cons}
use Rattle.tl_geom.specs.declared.point.Point.{Point}
use Rattle.tl_record_key.specs.declared.key.PolyKey.{PolyKey}
use Rattle.tl_record.specs.declared.record.Record.{Record}
use Rattle.tl_record.specs.declared.record.Record.TheVariants.{Chain, Shape, Sides, PolyPoint, Landmark, AreaLink}
use Rattle.tl_map.specs.declared.joined.place.Place.{Place}
use Rattle.tl_map.specs.Joined.Keeping.Places.{is_at}
use Rattle.tl_map.proofs.JoinedLemmas.PlaceLemmas.{key_of}
use Rattle.tl_map.proofs.JoinedLemmas.ApartLemmas.{key}
use Rattle.tl_map_rules.specs.declared.entry.SidesEntry.{SidesEntry}
use Rattle.tl_map_rules.specs.declared.fault.RecordFault.TheVariants.{DuplicateChain, ShapeWithoutChain, ShapeSequence, ChainWithoutSides, SidesWithoutChain, DuplicateSides}
use Rattle.tl_map_rules.specs.ChainsOf.{is_chain, is_shape, is_shape_at}
use Rattle.tl_map_rules.specs.MapOf.{sides_at, sides_in}
use Rattle.tl_map_rules.specs.Faults.{AreShapesNumbered, HasChain, HasSides}
use Rattle.tigertopo_border.specs.Parts.{HaveNoFaultButMany}
use Rattle.tigertopo_border.proofs.Joining.KeyedLemmas.{told}
use Rattle.tigertopo_border.proofs.Joining.ShapeLemmas.{at_number, once_at_most}
use Rattle.tigertopo_border.proofs.Joining.InLemmas.{In, contained, from_contained, in_mapped, from_mapped, in_passing, from_passing, in_counted, single}

pub equal_swapped : (m n : ℕ) → eqb m n ≡ eqb n m
equal_swapped m n = elim (cases_Bool (eqb m n)) [
  | inl same ↦ same ∙ sym (eq-eqb n m (sym (eqb-true m n same)))
  | inr other ↦ other ∙ sym (false_from_ne_true (eqb n m) (λ same. true≢false (sym (eq-eqb m n (sym (eqb-true n m same))) ∙ other)))
]

-- ---- counts by keys

chain_at_key : (t : ℕ) (r : Record) → is_chain t r ≡ is_at (key t 49 0) r
chain_at_key t (Chain u from to) = equal_swapped u t
chain_at_key t (Shape u n pairs) = refl
chain_at_key t (Sides u start end left right) = refl
chain_at_key t (PolyPoint k q) = refl
chain_at_key t (Landmark n q) = refl
chain_at_key t (AreaLink k n) = refl

shape_at_key : (t n : ℕ) (r : Record) → is_shape_at t n r ≡ is_at (key t 50 n) r
shape_at_key t n (Chain u from to) = refl
shape_at_key t n (Shape u k pairs) = rw (equal_swapped u t, equal_swapped k n) refl
shape_at_key t n (Sides u start end left right) = refl
shape_at_key t n (PolyPoint k q) = refl
shape_at_key t n (Landmark k q) = refl
shape_at_key t n (AreaLink k m) = refl

pub chains_counted : (rs : List Record) (t : ℕ) → count_by (is_chain t) rs ≡ length (told (key t 49 0) rs)
chains_counted rs t = sym (length-filter (is_chain t) rs) ∙ ap length (filter_agree (is_chain t) (is_at (key t 49 0)) (chain_at_key t) rs)

pub shapes_counted : (rs : List Record) (t n : ℕ) → at_number rs t n ≡ length (told (key t 50 n) rs)
shapes_counted rs t n = sym (length-filter (is_shape_at t n) rs) ∙ ap length (filter_agree (is_shape_at t n) (is_at (key t 50 n)) (shape_at_key t n) rs)

pub sides_counted : (rs : List Record) (t : ℕ) → count_by (λ (s : SidesEntry). eqb s.tlid t) (sides_in rs) ≡ length (told (key t 73 0) rs)
sides_counted [] t = refl
sides_counted (Sides u start end left right ∷ rs) t =
    let entry : SidesEntry = record { tlid = u; start_cell = start; end_cell = end; left = left; right = right } in
    let more = sum_by-cons (λ (s : SidesEntry). cond {A = ℕ} (eqb s.tlid t) 1 0) entry (sides_in rs) in
    let behind = sides_counted rs t in
    elim (cases_Bool (eqb t u)) [
      | inl same ↦
          let here : eqb u t ≡ true = equal_swapped u t ∙ same in
          let one : cond {A = ℕ} (eqb u t) 1 0 ≡ 1 = rw here refl in
          rw same (omega (arith, more, behind, one))
      | inr other ↦
          let here : eqb u t ≡ false = equal_swapped u t ∙ other in
          let none : cond {A = ℕ} (eqb u t) 1 0 ≡ 0 = rw here refl in
          rw other (omega (arith, more, behind, none))
    ]
sides_counted (Chain u from to ∷ rs) t = sides_counted rs t
sides_counted (Shape u n pairs ∷ rs) t = sides_counted rs t
sides_counted (PolyPoint k q ∷ rs) t = sides_counted rs t
sides_counted (Landmark n q ∷ rs) t = sides_counted rs t
sides_counted (AreaLink k n ∷ rs) t = sides_counted rs t

-- ---- type I records and their entries

abbrev pub entry : ℕ → Option ℕ → Option ℕ → Option PolyKey → Option PolyKey → SidesEntry
entry t start end left right = record { tlid = t; start_cell = start; end_cell = end; left = left; right = right }

pub in_entries : (rs : List Record) (t : ℕ) (s e : Option ℕ) (l r : Option PolyKey) → In (Sides t s e l r) rs → In (entry t s e l r) (sides_in rs)
in_entries [] t s e l r has = absurd has
in_entries (x ∷ rs) t s e l r (inl same) = rw same (inl refl)
in_entries (x ∷ rs) t s e l r (inr more) = later (sides_at x) (in_entries rs t s e l r more)
  where
    later : (o : Option SidesEntry) → In (entry t s e l r) (sides_in rs) → In (entry t s e l r) (cons_option o (sides_in rs))
    later None has = has
    later (Some other) has = inr has

pub from_entries : (rs : List Record) (s : SidesEntry) → In s (sides_in rs) → In (Sides s.tlid s.start_cell s.end_cell s.left s.right) rs
from_entries [] s has = absurd has
from_entries (Sides u start end left right ∷ rs) s (inl same) = inl (λ i. Sides (same i).tlid (same i).start_cell (same i).end_cell (same i).left (same i).right)
from_entries (Sides u start end left right ∷ rs) s (inr more) = inr (from_entries rs s more)
from_entries (Chain u from to ∷ rs) s has = inr (from_entries rs s has)
from_entries (Shape u n pairs ∷ rs) s has = inr (from_entries rs s has)
from_entries (PolyPoint k q ∷ rs) s has = inr (from_entries rs s has)
from_entries (Landmark n q ∷ rs) s has = inr (from_entries rs s has)
from_entries (AreaLink k n ∷ rs) s has = inr (from_entries rs s has)

-- ---- at a key

pub at_chain : (rs : List Record) (t : ℕ) (from to : Point) → In (Chain t from to) rs → In (Chain t from to) (told (key t 49 0) rs)
at_chain rs t from to has = in_passing (is_at (key t 49 0)) rs (Chain t from to) (eq-eqb t t refl) has

pub at_sides : (rs : List Record) (t : ℕ) (s e : Option ℕ) (l r : Option PolyKey) → In (Sides t s e l r) rs → In (Sides t s e l r) (told (key t 73 0) rs)
at_sides rs t s e l r has = in_passing (is_at (key t 73 0)) rs (Sides t s e l r) (eq-eqb t t refl) has

-- what stands at the key of a chain, of a shape, of sides
pub record IsChainRecord (t : ℕ) (r : Record) : Type 0 where
  pub from : Point
  pub to : Point
  pub is : r ≡ Chain t from to

pub chain_record : (t : ℕ) (r : Record) → is_at (key t 49 0) r ≡ true → IsChainRecord t r
chain_record t (Chain u from to) at = record { from = from; to = to; is = ap (λ v. Chain v from to) (sym (eqb-true t u at)) }
chain_record t (Shape u n pairs) at = absurd (true≢false (sym at))
chain_record t (Sides u start end left right) at = absurd (true≢false (sym at))
chain_record t (PolyPoint k q) at = absurd (true≢false (sym at))
chain_record t (Landmark n q) at = absurd (true≢false (sym at))
chain_record t (AreaLink k n) at = absurd (true≢false (sym at))

pub record IsShapeRecord (t n : ℕ) (r : Record) : Type 0 where
  pub pairs : List (Option Point)
  pub is : r ≡ Shape t n pairs

pub shape_record : (t n : ℕ) (r : Record) → is_at (key t 50 n) r ≡ true → IsShapeRecord t n r
shape_record t n (Chain u from to) at = absurd (true≢false (sym at))
shape_record t n (Shape u m pairs) at =
    let own : Some (key u 50 m) ≡ Some (key t 50 n) = key_of (key t 50 n) (Shape u m pairs) at in
    let one : key u 50 m ≡ key t 50 n = cc in
    record { pairs = pairs; is = λ i. Shape (one i).tlid (one i).rtsq pairs }
shape_record t n (Sides u start end left right) at = absurd (true≢false (sym at))
shape_record t n (PolyPoint k q) at = absurd (true≢false (sym at))
shape_record t n (Landmark k q) at = absurd (true≢false (sym at))
shape_record t n (AreaLink k m) at = absurd (true≢false (sym at))

pub record IsSidesRecord (t : ℕ) (r : Record) : Type 0 where
  pub start : Option ℕ
  pub end : Option ℕ
  pub left : Option PolyKey
  pub right : Option PolyKey
  pub is : r ≡ Sides t start end left right

pub sides_record : (t : ℕ) (r : Record) → is_at (key t 73 0) r ≡ true → IsSidesRecord t r
sides_record t (Chain u from to) at = absurd (true≢false (sym at))
sides_record t (Shape u n pairs) at = absurd (true≢false (sym at))
sides_record t (Sides u s e l r) at = record { start = s; end = e; left = l; right = r; is = ap (λ v. Sides v s e l r) (sym (eqb-true t u at)) }
sides_record t (PolyPoint k q) at = absurd (true≢false (sym at))
sides_record t (Landmark n q) at = absurd (true≢false (sym at))
sides_record t (AreaLink k n) at = absurd (true≢false (sym at))

-- a record of a TLID
pub record Tells (rs : List Record) (t : ℕ) : Type 0 where
  pub from : Point
  pub to : Point
  pub start : Option ℕ
  pub end : Option ℕ
  pub left : Option PolyKey
  pub right : Option PolyKey
  pub chain : told (key t 49 0) rs ≡ Chain t from to ∷ []
  pub sides : told (key t 73 0) rs ≡ Sides t start end left right ∷ []

pub tells_once : (rs : List Record) (t : ℕ) → Tells rs t → length (told (key t 49 0) rs) ≡ 1
tells_once rs t it = ap length it.chain

-- what is told at a key is a record of the list at the key
pub first_told : (q : Place) (rs : List Record) (x : Record) (xs : List Record) → told q rs ≡ x ∷ xs → In x rs × (is_at q x ≡ true)
first_told q rs x xs is = from_passing (is_at q) rs x (rw is (inl refl))

module _ (rs : List Record) (none : HaveNoFaultButMany rs) (t : ℕ) where
  pub chain_once : length (told (key t 49 0) rs) ≤ 1
  chain_once = elim (cases_lt 1 (length (told (key t 49 0) rs))) [
    | inl many ↦ absurd (none (DuplicateChain t) (λ what same. cc) (rw (chains_counted rs t) (omega (arith, many))))
    | inr few ↦ few
  ]

  pub sides_once : length (told (key t 73 0) rs) ≤ 1
  sides_once = elim (cases_lt 1 (length (told (key t 73 0) rs))) [
    | inl many ↦ absurd (none (DuplicateSides t) (λ what same. cc) (rw (sides_counted rs t) (omega (arith, many))))
    | inr few ↦ few
  ]

  pub has_chain : (from to : Point) → In (Chain t from to) rs → HasChain rs t
  has_chain from to has = (from, to, contained rs (Chain t from to) has)

  has_sides : (s e : Option ℕ) (l r : Option PolyKey) → In (Sides t s e l r) rs → HasSides rs t
  has_sides s e l r has =
      contained (map (λ (x : SidesEntry). x.tlid) (sides_in rs)) t (in_mapped (λ (x : SidesEntry). x.tlid) (sides_in rs) (entry t s e l r) (in_entries rs t s e l r has))

  -- no chain is told: nothing is
  no_chain : told (key t 49 0) rs ≡ [] → HasChain rs t → ⊥
  no_chain nothing has =
      let there : In (Chain t has.0 has.1) (told (key t 49 0) rs) = at_chain rs t has.0 has.1 (from_contained rs (Chain t has.0 has.1) has.2) in
      rw nothing at there

  silent_of : told (key t 49 0) rs ≡ [] → (q : Place) → q.tlid ≡ t → (x : Record) → is_at q x ≡ true → In x rs → ⊥
  silent_of nothing q same (Chain u from to) at has =
      let own : Some (key u 49 0) ≡ Some q = key_of q (Chain u from to) at in
      let one : key u 49 0 ≡ q = cc in
      let here : u ≡ t = ap (λ (p : Place). p.tlid) one ∙ same in
      let there : In (Chain t from to) rs = rw here at has in
      no_chain nothing (has_chain from to there)
  silent_of nothing q same (Shape u n pairs) at has =
      let own : Some (key u 50 n) ≡ Some q = key_of q (Shape u n pairs) at in
      let one : key u 50 n ≡ q = cc in
      let here : u ≡ t = ap (λ (p : Place). p.tlid) one ∙ same in
      none (ShapeWithoutChain t) (λ what same. cc) (in_counted (is_shape t) rs (Shape u n pairs) (eq-eqb u t here) has, chains_counted rs t ∙ ap length nothing)
  silent_of nothing q same (Sides u s e l r) at has =
      let own : Some (key u 73 0) ≡ Some q = key_of q (Sides u s e l r) at in
      let one : key u 73 0 ≡ q = cc in
      let here : u ≡ t = ap (λ (p : Place). p.tlid) one ∙ same in
      let there : In (Sides t s e l r) rs = rw here at has in
      none (SidesWithoutChain t) (λ what same. cc) (has_sides s e l r there, no_chain nothing)
  silent_of nothing q same (PolyPoint k p) at has = true≢false (sym at)
  silent_of nothing q same (Landmark n p) at has = true≢false (sym at)
  silent_of nothing q same (AreaLink k n) at has = true≢false (sym at)

  pub silent : told (key t 49 0) rs ≡ [] → (q : Place) → q.tlid ≡ t → told q rs ≡ []
  silent nothing q same = go (told q rs) refl
    where
      go : (xs : List Record) → told q rs ≡ xs → told q rs ≡ []
      go [] is = is
      go (x ∷ xs) is = let first = first_told q rs x xs is in absurd (silent_of nothing q same x first.1 first.0)

  -- a chain is told: so are its sides
  no_sides : told (key t 73 0) rs ≡ [] → HasSides rs t → ⊥
  no_sides nothing has =
      let found = from_mapped (λ (x : SidesEntry). x.tlid) (sides_in rs) t (from_contained (map (λ (x : SidesEntry). x.tlid) (sides_in rs)) t has) in
      let s : SidesEntry = found.0 in
      let there : In (Sides t s.start_cell s.end_cell s.left s.right) rs = rw found.2 at (from_entries rs s found.1) in
      let wrong : In (Sides t s.start_cell s.end_cell s.left s.right) (told (key t 73 0) rs) = at_sides rs t s.start_cell s.end_cell s.left s.right there in
      rw nothing at wrong

  tells_with : (from to : Point) → In (Chain t from to) rs → (xs : List Record) → told (key t 73 0) rs ≡ xs → Tells rs t
  tells_with from to has [] is = absurd (none (ChainWithoutSides t) (λ what same. cc) (has_chain from to has, no_sides is))
  tells_with from to has (x ∷ xs) is =
      let first = first_told (key t 73 0) rs x xs is in
      let x_is : IsSidesRecord t x = sides_record t x first.1 in
      record {
        from = from;
        to = to;
        start = x_is.start;
        end = x_is.end;
        left = x_is.left;
        right = x_is.right;
        chain = single (told (key t 49 0) rs) (Chain t from to) chain_once (at_chain rs t from to has);
        sides = single (told (key t 73 0) rs) (Sides t x_is.start x_is.end x_is.left x_is.right) sides_once (rw is (inl x_is.is));
      }

  pub tells : HasChain rs t → Tells rs t
  tells has = tells_with has.0 has.1 (from_contained rs (Chain t has.0 has.1) has.2) (told (key t 73 0) rs) refl

  pub numbered : AreShapesNumbered rs t
  numbered n low high = elim (cases_Bool (eqb (count_by (is_shape_at t n) rs) 1)) [
    | inl one ↦ eqb-true _ 1 one
    | inr other ↦ absurd (none (ShapeSequence t) (λ what same. cc) (λ all. true≢false (sym (eq-eqb _ 1 (all n low high)) ∙ other)))
  ]

  pub shape_once : (n : ℕ) → 1 ≤ n → length (told (key t 50 n) rs) ≤ 1
  shape_once n some = rw (← shapes_counted rs t n) (once_at_most rs t n numbered some)

  -- sides are told: so is their chain
  pub chain_of_sides : (s e : Option ℕ) (l r : Option PolyKey) → In (Sides t s e l r) rs → HasChain rs t
  chain_of_sides s e l r has = go (told (key t 49 0) rs) refl
    where
      go : (xs : List Record) → told (key t 49 0) rs ≡ xs → HasChain rs t
      go [] is = absurd (none (SidesWithoutChain t) (λ what same. cc) (has_sides s e l r has, no_chain is))
      go (x ∷ xs) is =
          let first = first_told (key t 49 0) rs x xs is in
          let chain = chain_record t x first.1 in
          let there : In (Chain t chain.from chain.to) rs = rw chain.is at first.0 in
          has_chain chain.from chain.to there
