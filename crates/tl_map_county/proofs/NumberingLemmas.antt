use Rattle.std.proofs.Common.{◌≡◌, ◌≢◌, ℕ, zero, suc, ◌+◌, ◌-◌, ◌*◌, ◌<◌, ◌≤◌, inl, inr, pos, false, Option, Some, None, List, [], ◌∷◌, ◌++◌, length, set, get_or, All, refl, sym, ap, ◌∙◌, arith, get_or-set_other, get_or-set_same}
use Rattle.std.specs.Prelude.{slice_get, IfNone, IfSome}
use Rattle.std.specs.List.{AllPairs}
use Rattle.std.specs.Ordering.{is_lt}
use Rattle.std.proofs.lemmas.Bool.{cases_eq, cases_lt}
use Rattle.std.proofs.lemmas.Option.{slice_get_within}
use Rattle.std.proofs.lemmas.List.{get_or_default, get_or-map, length-map, length_push}
use Rattle.std.proofs.lemmas.List.Elements.{All-push}
use Rattle.std.proofs.lemmas.List.Quantifiers.{all_pairs_push}
use Rattle.std.proofs.lemmas.List.Sorted.{ranks_by, sorted_far}
use Rattle.tl_geom.specs.declared.point.Point.{Point}
use Rattle.tl_map_county.specs.declared.nodes.DartStart.{DartStart}
use Rattle.tl_map_county.specs.declared.nodes.Nodes.{Nodes}
use Rattle.tl_map_county.specs.Chains.{CompleteChain}
use Rattle.tl_map_county.specs.Nodes.{point_cmp, IsBefore}
use Rattle.tl_map_county.specs.Keeping.Noded.{start_in, TellStarts, AreByPoint, AreDarts, AreNumbered, CountsOn, AreNumberedNodes}
use Rattle.tl_map_county.proofs.PlaceLemmas.{contained}
use Rattle.tl_map_county.proofs.NodeLemmas.{point_total, before_or_same, neither, start_within}

-- the distinct points of the first i entries are numbered, and the last of them is the previous point
pub record Numbering (entries : List DartStart) (i : ℕ) (numbers : List ℕ) (count : ℕ) (previous : Option Point) : Type 0 where
  pub nodes : List Point
  pub in_order : AllPairs IsBefore nodes
  pub no_other : All (λ p. (k : ℕ) × (k < i) × ((x : DartStart) → (get_or entries k x).point ≡ p)) nodes
  pub numbers_are : (k : ℕ) (x : DartStart) → k < i → slice_get nodes (get_or numbers (get_or entries k x).dart 0) ≡ Some (get_or entries k x).point
  pub count_is : count ≡ length nodes
  pub few : count ≤ i
  pub first : IfNone previous (i ≡ 0)
  pub last : IfSome previous (λ p. (0 < i) × (0 < count) × ((x : DartStart) → (get_or entries (i - 1) x).point ≡ p) × (slice_get nodes (count - 1) ≡ Some p))

pub numbering_none : (entries : List DartStart) (numbers : List ℕ) → Numbering entries 0 numbers 0 None
numbering_none entries numbers = record {
  nodes = [];
  in_order = λ i j d before within. absurd (omega arith);
  no_other = λ k x lt. absurd (omega arith);
  numbers_are = λ k x lt. absurd (omega arith);
  count_is = refl;
  few = omega arith;
  first = refl;
  last = tt;
}

pub numbering_whole : (entries : List DartStart) (i : ℕ) (numbers : List ℕ) (count : ℕ) (previous : Option Point) → i ≡ length entries → Numbering entries i numbers count previous → AreNumbered entries numbers count
numbering_whole entries i numbers count previous whole before = record {
  nodes = before.nodes;
  in_order = before.in_order;
  no_other = λ k x lt. let o = before.no_other k x lt in (o.0, omega (arith, o.1), o.2);
  numbers_are = λ k x lt. before.numbers_are k x (omega arith);
  count_is = before.count_is;
}

-- one entry more, whose point has the last number of a list that keeps the numbers of the others
step : (entries : List DartStart) (i : ℕ) (x : DartStart) (numbers : List ℕ) (old new : List Point) (more : ℕ) → i < length entries → AreDarts (length entries) entries → length numbers ≡ length entries → ((k : ℕ) (y : DartStart) → k < i → slice_get old (get_or numbers (get_or entries k y).dart 0) ≡ Some (get_or entries k y).point) → AllPairs IsBefore new → ((j : ℕ) (p : Point) → slice_get old j ≡ Some p → slice_get new j ≡ Some p) → All (λ p. (k : ℕ) × (k < i + 1) × ((y : DartStart) → (get_or entries k y).point ≡ p)) new → slice_get new (more - 1) ≡ Some (get_or entries i x).point → more ≡ length new → 0 < more → more ≤ i + 1 → Numbering entries (i + 1) (set numbers (get_or entries i x).dart (more - 1)) more (Some (get_or entries i x).point)
step entries i x numbers old new more lt darts long were up keep points here count some few = record {
  nodes = new;
  in_order = up;
  no_other = points;
  numbers_are = λ k y low. elim (cases_lt k i) [
    | inl earlier ↦ elim (cases_eq (get_or entries k y).dart (get_or entries i x).dart) [
      | inl same ↦
          let dart : (get_or entries k y).dart ≡ (get_or entries i y).dart = same ∙ ap (λ (e : DartStart). e.dart) (get_or_default entries i x y lt) in
          let point : (get_or entries k y).point ≡ (get_or entries i x).point = darts.one_point k i y (omega arith) lt dart ∙ ap (λ (e : DartStart). e.point) (get_or_default entries i y x lt) in
          rw (same, get_or-set_same numbers (get_or entries i x).dart (more - 1) 0 inside, point) here
      | inr other ↦ rw (get_or-set_other numbers (get_or entries i x).dart (get_or entries k y).dart (more - 1) 0 other) (keep _ _ (were k y earlier))
    ]
    | inr last ↦
        let e : k ≡ i = omega arith in
        rw (e, get_or_default entries i y x lt, get_or-set_same numbers (get_or entries i x).dart (more - 1) 0 inside) here
  ];
  count_is = count;
  few = few;
  first = tt;
  last = (omega arith, some, (λ y. let e : i + 1 - 1 ≡ i = omega arith in rw (e, get_or_default entries i y x lt) refl), here);
}
  where
    inside : (get_or entries i x).dart < length numbers
    inside = omega (arith, darts.below i x lt, long)

-- the number of a point stays where one is appended
kept : (ps : List Point) (q : Point) (j : ℕ) (p : Point) → slice_get ps j ≡ Some p → slice_get (ps ++ q ∷ []) j ≡ Some p
kept [] q j p at = absurd (let e : None ≡ Some p = at in cc)
kept (x ∷ xs) q zero p at = at
kept (x ∷ xs) q (suc j) p at = kept xs q j p at

seam : (ps : List Point) (q : Point) → slice_get (ps ++ q ∷ []) (length ps) ≡ Some q
seam [] q = refl
seam (x ∷ xs) q = seam xs q

-- in sorted entries the points so far come before one that isn't the previous
before_next : (entries : List DartStart) (i j : ℕ) (x : DartStart) (p : Point) (count : ℕ) (nodes : List Point) (previous : Option Point) → AreByPoint entries → i < length entries → j < i → ((y : DartStart) → (get_or entries j y).point ≡ p) → previous ≢ Some (get_or entries i x).point → IfNone previous (i ≡ 0) → IfSome previous (λ p. (0 < i) × (0 < count) × ((x : DartStart) → (get_or entries (i - 1) x).point ≡ p) × (slice_get nodes (count - 1) ≡ Some p)) → IsBefore p (get_or entries i x).point
before_next entries i j x p count nodes None sorted lt low at other first last = absurd (let e : i ≡ 0 = first in omega arith)
before_next entries i j x p count nodes (Some u) sorted lt low at other first last =
    before_or_same p (get_or entries i x).point (rw (at x) at (far j i (omega arith) lt)) (λ same. other (ap Some (sym (last.2 x) ∙ previous_is same)))
  where
    far : (j i : ℕ) → j ≤ i → i < length entries → is_lt (point_cmp (get_or entries i x).point (get_or entries j x).point) ≡ false
    far j i le lt = sorted_far (λ (a b : DartStart). is_lt (point_cmp a.point b.point)) (ranks_by point_total (λ (e : DartStart). e.point)) entries sorted j i x le lt

    previous_is : p ≡ (get_or entries i x).point → (get_or entries (i - 1) x).point ≡ (get_or entries i x).point
    previous_is same =
        let up = far j (i - 1) (omega arith) (omega arith) in
        neither (get_or entries (i - 1) x).point (get_or entries i x).point (far (i - 1) i (omega arith) lt) (rw (at x ∙ same) at up)

-- one entry more
pub numbering_more : (entries : List DartStart) (i : ℕ) (x : DartStart) (numbers : List ℕ) (count more : ℕ) (previous : Option Point) → AreByPoint entries → AreDarts (length entries) entries → i < length entries → length numbers ≡ length entries → CountsOn count previous (get_or entries i x).point more → Numbering entries i numbers count previous → Numbering entries (i + 1) (set numbers (get_or entries i x).dart (more - 1)) more (Some (get_or entries i x).point)
numbering_more entries i x numbers count more previous sorted darts lt long counts before = elim counts [
  | inl same ↦
      let last = rw same.0 at before.last in
      step entries i x numbers before.nodes before.nodes more lt darts long before.numbers_are before.in_order (λ j p at. at)
      (λ k y low. let o = before.no_other k y low in (o.0, omega (arith, o.1), o.2))
      (rw same.1 last.3) (same.1 ∙ before.count_is) (omega (arith, same.1, last.1)) (omega (arith, same.1, before.few))
  | inr other ↦
      let q : Point = (get_or entries i x).point in
      let new : List Point = before.nodes ++ (get_or entries i x).point ∷ [] in
      let long_new = length_push before.nodes (get_or entries i x).point in
      step entries i x numbers before.nodes (before.nodes ++ (get_or entries i x).point ∷ []) more lt darts long before.numbers_are
      (all_pairs_push IsBefore before.nodes (get_or entries i x).point before.in_order
      (λ k d low. let o = before.no_other k d low in before_next entries i o.0 x (get_or before.nodes k d) count before.nodes previous sorted lt o.1 o.2 other.0 before.first before.last))
      (λ j p at. kept before.nodes (get_or entries i x).point j p at)
      (All-push (λ p. (k : ℕ) × (k < i + 1) × ((y : DartStart) → (get_or entries k y).point ≡ p)) before.nodes (get_or entries i x).point
      (λ k y low. let o = before.no_other k y low in (o.0, omega (arith, o.1), o.2))
      (i, omega arith, λ y. ap (λ (e : DartStart). e.point) (get_or_default entries i y x lt)))
      (let e : more - 1 ≡ length before.nodes = omega (arith, other.1, before.count_is) in rw e (seam before.nodes (get_or entries i x).point))
      (omega (arith, other.1, before.count_is, long_new)) (omega (arith, other.1)) (omega (arith, other.1, before.few))
]

-- how many there are is above 0
pub some_counted : (entries : List DartStart) (i : ℕ) (numbers : List ℕ) (count more : ℕ) (previous : Option Point) (q : Point) → CountsOn count previous q more → Numbering entries i numbers count previous → 0 < more
some_counted entries i numbers count more previous q counts before = elim counts [
  | inl same ↦ let last = rw same.0 at before.last in omega (arith, same.1, last.1)
  | inr other ↦ omega (arith, other.1)
]

-- the numbers of the nodes of chains
pub numbered_nodes : (cs : List CompleteChain) (entries : List DartStart) (n : Nodes) → TellStarts (start_in cs) (2 * length cs) entries → AreNumbered entries n.numbers.items n.count → length n.numbers.items ≡ length entries → AreNumberedNodes cs n
numbered_nodes cs entries n tell numbered long = record {
  points = numbered.nodes;
  are = record {
    in_order = numbered.in_order;
    each = λ d p at.
        let o = entry d (start_within cs d p at) in
        let point : Some p ≡ Some (get_or entries o.0 none).point = sym at ∙ o.3 in
        let e : (get_or entries o.0 none).point ≡ p = cc in
        rw e at (contained numbered.nodes _ _ (numbered.numbers_are o.0 none o.1));
    no_other = λ k x lt.
        let o = numbered.no_other k x lt in
        ((get_or entries o.0 none).dart, (tell.each o.0 none o.1).1 ∙ ap Some (o.2 none));
  };
  count = numbered.count_is;
  long = long ∙ tell.count;
  numbers = λ d lt.
      let o = entry d lt in
      (rw o.2 at (numbered.numbers_are o.0 none o.1)) ∙ sym o.3;
  within = λ d lt. let o = entry d lt in rw o.2 at (slice_get_within numbered.nodes _ _ (numbered.numbers_are o.0 none o.1));
}
  where
    none : DartStart
    none = record { point = record { x = pos 0; y = pos 0 }; dart = 0 }

    entry : (d : ℕ) → d < 2 * length cs → (k : ℕ) × (k < length entries) × ((get_or entries k none).dart ≡ d) × (start_in cs d ≡ Some (get_or entries k none).point)
    entry d lt =
        let has = tell.whole d lt in
        let low : has.0 < length entries = omega (arith, has.1, length-map entries (λ (e : DartStart). e.dart)) in
        let dart : (get_or entries has.0 none).dart ≡ d = sym (get_or-map (λ (e : DartStart). e.dart) entries has.0 none d low) ∙ has.2 in
        (has.0, low, dart, rw dart at (tell.each has.0 none low).1)
