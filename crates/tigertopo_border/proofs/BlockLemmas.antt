-- The records of one chain of a border.
use Rattle.std.proofs.Common.{◌≡◌, ◌≢◌, ℕ, zero, suc, ◌+◌, ◌-◌, ◌*◌, ◌<◌, ◌≤◌, ◌==◌, Bool, true, false, cond, inl, inr, List, [], ◌∷◌, ◌++◌, Option, None, Contains, count_by, refl, ap, ◌∙◌, arith, ne_eqb}
use Rattle.std.proofs.lemmas.Bool.{eq-eqb, cases_lt}
use Rattle.std.proofs.lemmas.List.Sums.{sum_by-append, sum_by-cons}
use Rattle.std.proofs.lemmas.List.{length-append}
use Rattle.std.proofs.lemmas.List.Elements.{Contains-append_left, Contains-append_right}
use Rattle.tl_geom.specs.declared.point.Point.{Point}
use Rattle.tl_record.specs.declared.record.Record.{Record}
use Rattle.tl_record.specs.declared.record.Record.TheVariants.{Chain, Shape, Sides}
use Rattle.tl_map_county.specs.TheMap.{MapChain}
use Rattle.tl_map_rules.specs.ChainsOf.{is_chain, is_any_chain, is_shape, is_shape_at}
use Rattle.tigertopo_border.specs.Border.{side_key, start_of, end_of, inner, pairs_from, shapes_below, shape_count, chain_records}

-- the records of a chain of the border
abbrev pub block : List ℕ → MapChain → List Record
block name c = chain_records name c.tlid c.points c.left c.right

-- is this a type I record with TLID t
abbrev pub is_sides : ℕ → Record → Bool
is_sides t (Sides u s e l r) = u == t
is_sides t other = false

-- a test that counts: how much one record is
pub count_cons : (p : Record → Bool) (r : Record) (rs : List Record) → count_by p (r ∷ rs) ≡ cond (p r) 1 0 + count_by p rs
count_cons p r rs = sum_by-cons (λ x. cond (p x) 1 0) r rs

pub count_both : (p : Record → Bool) (xs ys : List Record) → count_by p (xs ++ ys) ≡ count_by p xs + count_by p ys
count_both p xs ys = sum_by-append (λ x. cond (p x) 1 0) xs ys

worth : (b : Bool) → ℕ
worth b = cond b 1 0

-- what passes of a chain's records: of that of type 1, of those of type 2, and of that of type I
pub of_block : (p : Record → Bool) (name : List ℕ) (c : MapChain) → count_by p (block name c) ≡ cond (p (Chain c.tlid (start_of c.points) (end_of c.points))) 1 0
    + count_by p (shapes_below c.tlid (inner c.points) (shape_count c.points)) + cond (p (Sides c.tlid None None (side_key name c.left) (side_key name c.right))) 1 0
unfolding chain_records
of_block p name c =
    let first = Chain c.tlid (start_of c.points) (end_of c.points) in
    let last = Sides c.tlid None None (side_key name c.left) (side_key name c.right) in
    let shapes = shapes_below c.tlid (inner c.points) (shape_count c.points) in
    let one = count_cons p last [] in
    let none : count_by p [] ≡ 0 = refl in
    omega (arith, count_both p (first ∷ shapes) (last ∷ []), count_cons p first shapes, one, none)

same_here : (t : ℕ) → (t == t) ≡ true
same_here t = eq-eqb t t refl

other_here : (u t : ℕ) → u ≢ t → (u == t) ≡ false
other_here u t not = ne_eqb u t not

-- no record of type 2 passes
no_shapes : (p : Record → Bool) (tlid : ℕ) (points : List Point) (n : ℕ) → ((k : ℕ) (pairs : List (Option Point)) → p (Shape tlid k pairs) ≡ false) → count_by p (shapes_below tlid points n) ≡ 0
no_shapes p tlid points zero not = refl
no_shapes p tlid points (suc n) not =
    let last : cond {A = ℕ} (p (Shape tlid (n + 1) (pairs_from points (10 * n) 10))) 1 0 ≡ 0 = rw (not (n + 1) (pairs_from points (10 * n) 10)) refl in
    let none : count_by p [] ≡ 0 = refl in
    omega (arith, count_both p (shapes_below tlid points n) (Shape tlid (n + 1) (pairs_from points (10 * n) 10) ∷ []), count_cons p (Shape tlid (n + 1) (pairs_from points (10 * n) 10)) [], no_shapes p tlid points n not, last, none)

-- all do
each_shape : (p : Record → Bool) (tlid : ℕ) (points : List Point) (n : ℕ) → ((k : ℕ) (pairs : List (Option Point)) → p (Shape tlid k pairs) ≡ true) → count_by p (shapes_below tlid points n) ≡ n
each_shape p tlid points zero all = refl
each_shape p tlid points (suc n) all =
    let last : cond {A = ℕ} (p (Shape tlid (n + 1) (pairs_from points (10 * n) 10))) 1 0 ≡ 1 = rw (all (n + 1) (pairs_from points (10 * n) 10)) refl in
    let none : count_by p [] ≡ 0 = refl in
    omega (arith, count_both p (shapes_below tlid points n) (Shape tlid (n + 1) (pairs_from points (10 * n) 10) ∷ []), count_cons p (Shape tlid (n + 1) (pairs_from points (10 * n) 10)) [], each_shape p tlid points n all, last, none)

-- one of this number stands among the first n, or none
few_numbered : (tlid : ℕ) (points : List Point) (k n : ℕ) → n < k → count_by (is_shape_at tlid k) (shapes_below tlid points n) ≡ 0
few_numbered tlid points k zero past = refl
few_numbered tlid points k (suc n) past =
    let p = is_shape_at tlid k in
    let shape = Shape tlid (n + 1) (pairs_from points (10 * n) 10) in
    let last : cond {A = ℕ} (p shape) 1 0 ≡ 0 = rw (same_here tlid, other_here (n + 1) k (omega (arith, past))) refl in
    let none : count_by p [] ≡ 0 = refl in
    omega (arith, count_both p (shapes_below tlid points n) (shape ∷ []), count_cons p shape [], few_numbered tlid points k n (omega (arith, past)), last, none)

one_numbered : (tlid : ℕ) (points : List Point) (k n : ℕ) → 1 ≤ k → k ≤ n → count_by (is_shape_at tlid k) (shapes_below tlid points n) ≡ 1
one_numbered tlid points k zero low high = absurd (omega (arith, low, high))
one_numbered tlid points k (suc n) low high =
    let p = is_shape_at tlid k in
    let shape = Shape tlid (n + 1) (pairs_from points (10 * n) 10) in
    let none : count_by p [] ≡ 0 = refl in
    elim (cases_lt n k) [
      | inl is ↦
          let last : cond {A = ℕ} (p shape) 1 0 ≡ 1 = rw (same_here tlid, eq-eqb (n + 1) k (omega (arith, is, high))) refl in
          omega (arith, count_both p (shapes_below tlid points n) (shape ∷ []), count_cons p shape [], few_numbered tlid points k n is, last, none)
      | inr earlier ↦
          let last : cond {A = ℕ} (p shape) 1 0 ≡ 0 = rw (same_here tlid, other_here (n + 1) k (omega (arith, earlier))) refl in
          omega (arith, count_both p (shapes_below tlid points n) (shape ∷ []), count_cons p shape [], one_numbered tlid points k n low (omega (arith, earlier)), last, none)
    ]

-- it stands there
there_numbered : (tlid : ℕ) (points : List Point) (k n : ℕ) → 1 ≤ k → k ≤ n → Contains (shapes_below tlid points n) (Shape tlid k (pairs_from points (10 * (k - 1)) 10))
there_numbered tlid points k zero low high = absurd (omega (arith, low, high))
there_numbered tlid points k (suc n) low high = elim (cases_lt n k) [
  | inl is ↦
      let a : n + 1 ≡ k = omega (arith, is, high) in
      let b : n ≡ k - 1 = omega (arith, is, high) in
      Contains-append_right (shapes_below tlid points n) (Shape tlid (n + 1) (pairs_from points (10 * n) 10) ∷ []) (Shape tlid k (pairs_from points (10 * (k - 1)) 10))
      (0, omega arith, ap (λ j. Shape tlid j (pairs_from points (10 * n) 10)) a ∙ ap (λ j. Shape tlid k (pairs_from points (10 * j) 10)) b)
  | inr earlier ↦
      Contains-append_left (shapes_below tlid points n) (Shape tlid (n + 1) (pairs_from points (10 * n) 10) ∷ []) (Shape tlid k (pairs_from points (10 * (k - 1)) 10))
      (there_numbered tlid points k n low earlier)
]

-- ---- the records of one TLID

module _ (name : List ℕ) (c : MapChain) where
  pub own_chain : count_by (is_chain c.tlid) (block name c) ≡ 1
  own_chain =
      let first : cond {A = ℕ} (is_chain c.tlid (Chain c.tlid (start_of c.points) (end_of c.points))) 1 0 ≡ 1 = rw (same_here c.tlid) refl in
      omega (arith, of_block (is_chain c.tlid) name c, first, no_shapes (is_chain c.tlid) c.tlid (inner c.points) (shape_count c.points) (λ k pairs. refl))

  pub own_any : count_by is_any_chain (block name c) ≡ 1
  own_any = omega (arith, of_block is_any_chain name c, no_shapes is_any_chain c.tlid (inner c.points) (shape_count c.points) (λ k pairs. refl))

  pub own_sides : count_by (is_sides c.tlid) (block name c) ≡ 1
  own_sides =
      let last : cond {A = ℕ} (is_sides c.tlid (Sides c.tlid None None (side_key name c.left) (side_key name c.right))) 1 0 ≡ 1 = rw (same_here c.tlid) refl in
      omega (arith, of_block (is_sides c.tlid) name c, last, no_shapes (is_sides c.tlid) c.tlid (inner c.points) (shape_count c.points) (λ k pairs. refl))

  pub own_shapes : count_by (is_shape c.tlid) (block name c) ≡ shape_count c.points
  own_shapes = omega (arith, of_block (is_shape c.tlid) name c, each_shape (is_shape c.tlid) c.tlid (inner c.points) (shape_count c.points) (λ k pairs. same_here c.tlid))

  pub own_numbered : (k : ℕ) → 1 ≤ k → k ≤ shape_count c.points → count_by (is_shape_at c.tlid k) (block name c) ≡ 1
  own_numbered k low high = omega (arith, of_block (is_shape_at c.tlid k) name c, one_numbered c.tlid (inner c.points) k (shape_count c.points) low high)

  pub has_chain : Contains (block name c) (Chain c.tlid (start_of c.points) (end_of c.points))
  unfolding chain_records
  has_chain = (0, omega (arith, length-append (Chain c.tlid (start_of c.points) (end_of c.points) ∷ shapes_below c.tlid (inner c.points) (shape_count c.points)) (Sides c.tlid None None (side_key name c.left) (side_key name c.right) ∷ [])), refl)

  pub has_sides : Contains (block name c) (Sides c.tlid None None (side_key name c.left) (side_key name c.right))
  unfolding chain_records
  has_sides =
      Contains-append_right (Chain c.tlid (start_of c.points) (end_of c.points) ∷ shapes_below c.tlid (inner c.points) (shape_count c.points))
      (Sides c.tlid None None (side_key name c.left) (side_key name c.right) ∷ []) (Sides c.tlid None None (side_key name c.left) (side_key name c.right)) (0, omega arith, refl)

  pub has_shape : (k : ℕ) → 1 ≤ k → k ≤ shape_count c.points → Contains (block name c) (Shape c.tlid k (pairs_from (inner c.points) (10 * (k - 1)) 10))
  unfolding chain_records
  has_shape k low high =
      let shape = Shape c.tlid k (pairs_from (inner c.points) (10 * (k - 1)) 10) in
      Contains-append_left (Chain c.tlid (start_of c.points) (end_of c.points) ∷ shapes_below c.tlid (inner c.points) (shape_count c.points))
      (Sides c.tlid None None (side_key name c.left) (side_key name c.right) ∷ []) shape
      (Contains-append_right (Chain c.tlid (start_of c.points) (end_of c.points) ∷ []) (shapes_below c.tlid (inner c.points) (shape_count c.points)) shape
      (there_numbered c.tlid (inner c.points) k (shape_count c.points) low high))

-- ---- and none of another

module _ (name : List ℕ) (c : MapChain) (t : ℕ) (not : c.tlid ≢ t) where
  pub other_chain : count_by (is_chain t) (block name c) ≡ 0
  other_chain =
      let first : cond {A = ℕ} (is_chain t (Chain c.tlid (start_of c.points) (end_of c.points))) 1 0 ≡ 0 = rw (other_here c.tlid t not) refl in
      omega (arith, of_block (is_chain t) name c, first, no_shapes (is_chain t) c.tlid (inner c.points) (shape_count c.points) (λ k pairs. refl))

  pub other_sides : count_by (is_sides t) (block name c) ≡ 0
  other_sides =
      let last : cond {A = ℕ} (is_sides t (Sides c.tlid None None (side_key name c.left) (side_key name c.right))) 1 0 ≡ 0 = rw (other_here c.tlid t not) refl in
      omega (arith, of_block (is_sides t) name c, last, no_shapes (is_sides t) c.tlid (inner c.points) (shape_count c.points) (λ k pairs. refl))

  pub other_shapes : count_by (is_shape t) (block name c) ≡ 0
  other_shapes = omega (arith, of_block (is_shape t) name c, no_shapes (is_shape t) c.tlid (inner c.points) (shape_count c.points) (λ k pairs. other_here c.tlid t not))

  pub other_numbered : (n : ℕ) → count_by (is_shape_at t n) (block name c) ≡ 0
  other_numbered n = omega (arith, of_block (is_shape_at t n) name c, no_shapes (is_shape_at t n) c.tlid (inner c.points) (shape_count c.points) (λ k pairs. rw (other_here c.tlid t not) refl))
