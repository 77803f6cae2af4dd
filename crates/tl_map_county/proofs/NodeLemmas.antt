use Rattle.std.proofs.Common.{◌≡◌, ◌≢◌, ℕ, zero, suc, ◌+◌, ◌*◌, ◌/◌, ◌%◌, ◌<◌, ◌⊎◌, pos, ◌↔◌, Bool, true, false, inl, inr, Option, Some, None, List, [], ◌∷◌, ◌++◌, length, map, get_or, Contains, refl, sym, ap, ◌∙◌, arith}
use Rattle.std.specs.Prelude.{slice_get}
use Rattle.std.specs.Cmp.{IsTotalOrder}
use Rattle.std.specs.List.{AllPairs}
use Rattle.std.specs.List.Sorted.{IsPermutation}
use Rattle.std.specs.Option.{option_and_then}
use Rattle.std.specs.Ordering.{int_cmp, is_lt, ordering_reverse, ordering_then}
use Rattle.std.specs.declared.cmp.Ordering.{Ordering}
use Rattle.std.specs.declared.cmp.Ordering.TheVariants.{Less, Equal, Greater}
use Rattle.std.proofs.lemmas.Bool.{cases_lt, eqb-true, eqb-false}
use Rattle.std.proofs.lemmas.Option.{slice_get_within, slice_get-get_or, get_or_from_slice_get}
use Rattle.std.proofs.lemmas.Cmp.{tied_itself, then_total, on_total, int_cmp_total}
use Rattle.std.proofs.lemmas.List.{get_or-map, length-map, length_push}
use Rattle.std.proofs.lemmas.List.Sorted.{All-permutation, Contains-permutation, IsPermutation-map, length_permutation}
use Rattle.std.proofs.lemmas.Map.Lookups.{CmpEqualImpliesEq, exact_signed}
use Rattle.tl_geom.specs.declared.point.Point.{Point}
use Rattle.tl_map_county.specs.declared.nodes.DartStart.{DartStart}
use Rattle.tl_map_county.specs.declared.sides.ChainSides.{ChainSides}
use Rattle.tl_map_county.specs.Chains.{CompleteChain}
use Rattle.tl_map_county.specs.TheMap.{MapChain}
use Rattle.tl_map_county.specs.Darts.{directed, is_along, dart_start}
use Rattle.tl_map_county.specs.Nodes.{point_cmp, IsBefore, AreStarts}
use Rattle.tl_map_county.specs.Rows.{sided}
use Rattle.tl_map_county.specs.Keeping.Noded.{start_in, TellStarts, AreDarts}

-- points are ordered
pub point_total : IsTotalOrder point_cmp
point_total = then_total (on_total (λ (p : Point). p.x) int_cmp_total) (on_total (λ (p : Point). p.y) int_cmp_total)

point_exact : CmpEqualImpliesEq point_cmp
point_exact p q e =
    let both = then_equal (int_cmp p.x q.x) (int_cmp p.y q.y) e in
    let x : p.x ≡ q.x = exact_signed p.x q.x both.0 in
    let y : p.y ≡ q.y = exact_signed p.y q.y both.1 in
    λ i. record { x = x i; y = y i }
  where
    then_equal : (a b : Ordering) → ordering_then a b ≡ Equal → (a ≡ Equal) × (b ≡ Equal)
    then_equal Less b e = absurd (let h : Less ≡ Equal = e in cc)
    then_equal Equal b e = (refl, e)
    then_equal Greater b e = absurd (let h : Greater ≡ Equal = e in cc)

three : (o : Ordering) → (o ≡ Less) ⊎ ((o ≡ Equal) ⊎ (o ≡ Greater))
three Less = inl refl
three Equal = inr (inl refl)
three Greater = inr (inr refl)

-- a point that doesn't come after another and isn't that one comes before it
pub before_or_same : (p q : Point) → is_lt (point_cmp q p) ≡ false → p ≢ q → IsBefore p q
before_or_same p q not_after other = elim (three (point_cmp p q)) [
  | inl less ↦ less
  | inr more ↦ elim more [
    | inl equal ↦ absurd (other (point_exact p q equal))
    | inr greater ↦ absurd (
        let back : point_cmp q p ≡ Less = point_total.antisymm q p ∙ ap ordering_reverse greater in
        let h : true ≡ false = sym (ap is_lt back) ∙ not_after in
        cc)
  ]
]

not_before_itself : (p : Point) → ¬ IsBefore p p
not_before_itself p h = absurd (let e : Less ≡ Equal = sym h ∙ tied_itself point_total p in cc)

never_both : (p q : Point) → IsBefore p q → ¬ IsBefore q p
never_both p q a b = absurd (let e : Less ≡ Greater = sym a ∙ point_total.antisymm p q ∙ ap ordering_reverse b in cc)

-- of two points neither of which comes before the other, both are one
pub neither : (p q : Point) → is_lt (point_cmp q p) ≡ false → is_lt (point_cmp p q) ≡ false → p ≡ q
neither p q a b = elim (three (point_cmp p q)) [
  | inl less ↦ absurd (let h : true ≡ false = sym (ap is_lt less) ∙ b in cc)
  | inr more ↦ elim more [
    | inl equal ↦ point_exact p q equal
    | inr greater ↦ absurd (
        let back : point_cmp q p ≡ Less = point_total.antisymm q p ∙ ap ordering_reverse greater in
        let h : true ≡ false = sym (ap is_lt back) ∙ a in
        cc)
  ]
]

-- lists in order with the same points are one list
same_points : (ps qs : List Point) → AllPairs IsBefore ps → AllPairs IsBefore qs → ((t : Point) → Contains ps t → Contains qs t) → ((t : Point) → Contains qs t → Contains ps t) → ps ≡ qs
same_points [] [] up_p up_q there back = refl
same_points [] (q ∷ qs) up_p up_q there back = absurd (let h = back q (0, omega arith, refl) in omega (arith, h.1))
same_points (p ∷ ps) [] up_p up_q there back = absurd (let h = there p (0, omega arith, refl) in omega (arith, h.1))
same_points (p ∷ ps) (q ∷ qs) up_p up_q there back =
    let first : p ≡ q = heads p q ps qs up_p up_q (there p (0, omega arith, refl)) (back q (0, omega arith, refl)) in
    let rest = same_points ps qs (λ i j d before within. up_p (suc i) (suc j) d (omega arith) (omega arith)) (λ i j d before within. up_q (suc i) (suc j) d (omega arith) (omega arith))
    (λ t has. tail p ps q qs t up_p first (there t (suc has.0, omega (arith, has.1), has.2)) has)
    (λ t has. tail q qs p ps t up_q (sym first) (back t (suc has.0, omega (arith, has.1), has.2)) has) in
    λ i. first i ∷ rest i
  where
    heads : (p q : Point) (ps qs : List Point) → AllPairs IsBefore (p ∷ ps) → AllPairs IsBefore (q ∷ qs) → Contains (q ∷ qs) p → Contains (p ∷ ps) q → p ≡ q
    heads p q ps qs up_p up_q (zero, lt, at) other = sym at
    heads p q ps qs up_p up_q (suc k, lt, at) (zero, low, is) = is
    heads p q ps qs up_p up_q (suc k, lt, at) (suc j, low, is) =
        absurd (never_both p q (rw is at (up_p 0 (suc j) q (omega arith) low)) (rw at at (up_q 0 (suc k) p (omega arith) lt)))

    tail : (z : Point) (zs : List Point) (w : Point) (ws : List Point) (t : Point) → AllPairs IsBefore (z ∷ zs) → z ≡ w → Contains (w ∷ ws) t → Contains zs t → Contains ws t
    tail z zs w ws t up same (zero, lt, at) has =
        absurd (
        let above : IsBefore z t = rw has.2 at (up 0 (suc has.0) t (omega arith) (omega (arith, has.1))) in
        let one : z ≡ t = same ∙ at in
        not_before_itself t (rw one at above))
    tail z zs w ws t up same (suc k, lt, at) has = (k, omega arith, at)

-- things that start at the same points have one list of nodes
pub one_list : (start : ℕ → Option Point) (ps qs : List Point) → AreStarts start ps → AreStarts start qs → ps ≡ qs
one_list start ps qs are_p are_q =
    same_points ps qs are_p.in_order are_q.in_order (λ t has. there ps qs t are_p are_q has) (λ t has. there qs ps t are_q are_p has)
  where
    there : (ps qs : List Point) (t : Point) → AreStarts start ps → AreStarts start qs → Contains ps t → Contains qs t
    there ps qs t are_p are_q has = let known = rw has.2 at (are_p.no_other has.0 t has.1) in are_q.each known.0 t known.1

-- the nodes of things that start alike
pub starts_alike : (f g : ℕ → Option Point) (ps : List Point) → ((d : ℕ) → f d ≡ g d) → AreStarts f ps → AreStarts g ps
starts_alike f g ps alike are = record {
  in_order = are.in_order;
  each = λ d p at. are.each d p (alike d ∙ at);
  no_other = λ k x lt. let known = are.no_other k x lt in (known.0, sym (alike known.0) ∙ known.1);
}

-- a dart of chains with sides starts where it does without
pub start_sided : (cs : List CompleteChain) (ss : List ChainSides) (d : ℕ) → length ss ≡ length cs → start_in cs d ≡ dart_start (sided cs ss) d
start_sided cs ss d same = go (is_along d) cs ss (d / 2) same
  where
    go : (b : Bool) (cs : List CompleteChain) (ss : List ChainSides) (i : ℕ) → length ss ≡ length cs → option_and_then (λ (c : CompleteChain). slice_get (directed b c.points) 0) (slice_get cs i) ≡ option_and_then (λ (c : MapChain). slice_get (directed b c.points) 0) (slice_get (sided cs ss) i)
    go b [] ss i same = refl
    go b (c ∷ cs) [] i same = absurd (omega arith)
    go b (c ∷ cs) (s ∷ ss) zero same = refl
    go b (c ∷ cs) (s ∷ ss) (suc i) same = go b cs ss i (omega arith)

-- where a dart starts, by the points of its chain
pub start_told : (cs : List CompleteChain) (i : ℕ) (b : Bool) (ps : List Point) (p : Point) → slice_get (map (λ (c : CompleteChain). c.points) cs) i ≡ Some ps → slice_get (directed b ps) 0 ≡ Some p → option_and_then (λ (c : CompleteChain). slice_get (directed b c.points) 0) (slice_get cs i) ≡ Some p
start_told [] i b ps p points at = absurd (let e : None ≡ Some ps = points in cc)
start_told (c ∷ cs) zero b ps p points at = let e : c.points ≡ ps = cc in rw e at
start_told (c ∷ cs) (suc i) b ps p points at = start_told cs i b ps p points at

-- where the darts of a chain start, by its points
pub starts_told : (cs : List CompleteChain) (n : ℕ) (ps : List Point) (p q : Point) → slice_get (map (λ (c : CompleteChain). c.points) cs) n ≡ Some ps →
    slice_get (directed true ps) 0 ≡ Some p → slice_get (directed false ps) 0 ≡ Some q → (start_in cs (2 * n) ≡ Some p) × (start_in cs (2 * n + 1) ≡ Some q)
starts_told cs n ps p q points first last = (along (is_along (2 * n)) refl, against (is_along (2 * n + 1)) refl)
  where
    along : (b : Bool) → is_along (2 * n) ≡ b → start_in cs (2 * n) ≡ Some p
    along true e = let half : (2 * n) / 2 ≡ n = omega arith in rw (half, e) (start_told cs n true ps p points first)
    along false e = absurd (eqb-false ((2 * n) % 2) 0 e (omega arith))

    against : (b : Bool) → is_along (2 * n + 1) ≡ b → start_in cs (2 * n + 1) ≡ Some q
    against true e = let even : (2 * n + 1) % 2 ≡ 0 = eqb-true ((2 * n + 1) % 2) 0 e in absurd (omega (arith, even))
    against false e = let half : (2 * n + 1) / 2 ≡ n = omega arith in rw (half, e) (start_told cs n false ps q points last)

-- a dart that starts somewhere is one of the chains'
pub start_within : (cs : List CompleteChain) (d : ℕ) (p : Point) → start_in cs d ≡ Some p → d < 2 * length cs
start_within cs d p at = let h = go (is_along d) cs (d / 2) p at in omega (arith, h)
  where
    go : (b : Bool) (cs : List CompleteChain) (i : ℕ) (p : Point) → option_and_then (λ (c : CompleteChain). slice_get (directed b c.points) 0) (slice_get cs i) ≡ Some p → i < length cs
    go b [] i p at = absurd (let e : None ≡ Some p = at in cc)
    go b (c ∷ cs) zero p at = omega arith
    go b (c ∷ cs) (suc i) p at = let h = go b cs i p at in omega (arith, h)

-- entries of the first i darts, in the order of the darts
pub record Told (start : ℕ → Option Point) (i : ℕ) (entries : List DartStart) : Type 0 where
  pub count : length entries ≡ i
  pub each : (k : ℕ) (x : DartStart) → k < i → ((get_or entries k x).dart ≡ k) × (start k ≡ Some (get_or entries k x).point)

pub told_more : (start : ℕ → Option Point) (i : ℕ) (entries : List DartStart) (e : DartStart) → e.dart ≡ i → start i ≡ Some e.point → Told start i entries → Told start (i + 1) (entries ++ e ∷ [])
told_more start i entries e dart at before = record {
  count = omega (arith, length_push entries e, before.count);
  each = λ k x lt. elim (cases_lt k i) [
    | inl earlier ↦ rw (front entries e k x (omega (arith, before.count))) (before.each k x earlier)
    | inr last ↦ let same : k ≡ length entries = omega (arith, before.count) in let is : i ≡ k = omega arith in rw (same, seam entries e x) (rw (← same, ← is) (dart, at))
  ];
}
  where
    front : (xs : List DartStart) (e : DartStart) (k : ℕ) (x : DartStart) → k < length xs → get_or (xs ++ e ∷ []) k x ≡ get_or xs k x
    front [] e k x lt = absurd (omega arith)
    front (y ∷ ys) e zero x lt = refl
    front (y ∷ ys) e (suc k) x lt = front ys e k x (omega arith)

    seam : (xs : List DartStart) (e x : DartStart) → get_or (xs ++ e ∷ []) (length xs) x ≡ e
    seam [] e x = refl
    seam (y ∷ ys) e x = seam ys e x

pub told_whole : (start : ℕ → Option Point) (n : ℕ) (entries : List DartStart) → Told start n entries → TellStarts start n entries
told_whole start n entries told = record {
  count = told.count;
  each = λ k x lt.
      let here = told.each k x (omega (arith, told.count)) in
      (omega (arith, here.0, told.count), rw here.0 here.1);
  whole = λ d lt.
      let x : DartStart = record { point = record { x = pos 0; y = pos 0 }; dart = 0 } in
      let low : d < length entries = omega (arith, told.count) in
      (d, omega (arith, length-map entries (λ (e : DartStart). e.dart), low), get_or-map (λ (e : DartStart). e.dart) entries d x d low ∙ (told.each d x lt).0);
}

-- the same in another order
pub starts_moved : (start : ℕ → Option Point) (n : ℕ) (old new : List DartStart) → IsPermutation old new → TellStarts start n old → TellStarts start n new
starts_moved start n old new moved tell = record {
  count = length_permutation old new moved ∙ tell.count;
  each = All-permutation (λ (e : DartStart). (e.dart < n) × (start e.dart ≡ Some e.point)) old new moved tell.each;
  whole = λ d lt. Contains-permutation (map (λ (e : DartStart). e.dart) old) (map (λ (e : DartStart). e.dart) new) d (IsPermutation-map (λ (e : DartStart). e.dart) old new moved) (tell.whole d lt);
}

-- entries of one dart have one point
pub darts_told : (start : ℕ → Option Point) (n : ℕ) (entries : List DartStart) → TellStarts start n entries → AreDarts (length entries) entries
darts_told start n entries tell = record {
  below = λ k x lt. let here = tell.each k x lt in omega (arith, here.0, tell.count);
  one_point = λ i j x lt_i lt_j same.
      let a : start (get_or entries i x).dart ≡ Some (get_or entries i x).point = (tell.each i x lt_i).1 in
      let b : start (get_or entries j x).dart ≡ Some (get_or entries j x).point = (tell.each j x lt_j).1 in
      let c : Some (get_or entries i x).point ≡ Some (get_or entries j x).point = sym a ∙ ap start same ∙ b in
      cc;
}

-- numbers of nodes are one exactly where their points are one
pub one_number : (start : ℕ → Option Point) (nodes : List Point) (d e n m : ℕ) → AreStarts start nodes → n < length nodes → slice_get nodes n ≡ start d → slice_get nodes m ≡ start e → (n ≡ m) ↔ (start d ≡ start e)
one_number start nodes d e n m are lt at_n at_m =
    ((λ same. sym at_n ∙ ap (λ k. slice_get nodes k) same ∙ at_m), (λ same. back (at_m ∙ sym same ∙ sym at_n)))
  where
    p : Point
    p = get_or nodes n (record { x = pos 0; y = pos 0 })

    apart : (i j : ℕ) → i < j → slice_get nodes i ≡ Some (get_or nodes n (record { x = pos 0; y = pos 0 })) → slice_get nodes j ≡ Some (get_or nodes n (record { x = pos 0; y = pos 0 })) → ⊥
    apart i j before at_i at_j =
        let q = get_or nodes n (record { x = pos 0; y = pos 0 }) in
        let above = are.in_order i j q before (slice_get_within nodes j q at_j) in
        not_before_itself q (rw (get_or_from_slice_get nodes i q q at_i, get_or_from_slice_get nodes j q q at_j) at above)

    back : slice_get nodes m ≡ slice_get nodes n → n ≡ m
    back same =
        let here = slice_get-get_or nodes n (record { x = pos 0; y = pos 0 }) lt in
        let there = same ∙ here in
        elim (cases_lt n m) [
          | inl before ↦ absurd (apart n m before here there)
          | inr not_before ↦ elim (cases_lt m n) [ inl after ↦ absurd (apart m n after there here) | inr last ↦ omega arith ]
        ]
