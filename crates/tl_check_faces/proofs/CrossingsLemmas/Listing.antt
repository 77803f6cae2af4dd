-- Counts over a list of segments, and over all segments that cross a height, as sums over the numbers of segments. And the
-- list of those that are hit.
use Rattle.std.proofs.Common.{◌≡◌, ◌⊎◌, inl, inr, ℕ, zero, suc, ◌+◌, ◌*◌, ◌<◌, ◌≤◌, ℤ, Bool, false, cond, eqb, List, [], ◌∷◌, length, map, get_or, sum_by, count_by, refl, sym, ap, subst, ◌∙◌, arith}
use Rattle.std.proofs.lemmas.Bool.{cases_lt}
use Rattle.std.proofs.lemmas.List.Sums.{sum_by-cons, sum_by-append}
use Rattle.tl_geom.specs.declared.point.Point.{Point}
use Rattle.tl_map_county.specs.declared.sides.Side.{Side}
use Rattle.tl_map_county.specs.TheMap.{MapChain}
use Rattle.tl_map_county.specs.Segments.{segments_before}
use Rattle.tl_tree_index.specs.Hits.{times, AreHits}
use Rattle.tl_tree_index.proofs.Times.{same_or, times-same, times-other}
use Rattle.tl_check_inside.specs.declared.flanks.Flanks.{Flanks}
use Rattle.tl_check_inside.specs.Inside.{flanks_between}
use Rattle.tl_check_faces.specs.Crossings.Heights.{parts, crossed_from, crossed_along, crossed_at}
use Rattle.tl_check_faces.proofs.CrossingsLemmas.Sums.{sum_below, sum_below-none, sum_same, sum_both, sum_first, sum_once, sum_zero, cond-same, cond-other}
use Rattle.tl_check_faces.proofs.CrossingsLemmas.Telescoping.{bit, count_from}
use Rattle.tl_check_faces.proofs.CrossingsLemmas.Located.{each_from, each_along, each_of, length-each}

-- ---- over a list of numbers below n

module _ (n : ℕ) (v : ℕ → ℕ) where
  one_more : (x i t : ℕ) → (cond (eqb i x) 1 0 + t) * v i ≡ cond (eqb x i) (v i) 0 + t * v i
  one_more x i t =
      same_or i x
      (λ e.
      let p : ◌≡◌ {A = ℕ} (cond (eqb i x) 1 0) 1 = cond-same i x 1 0 e in
      let q : cond (eqb x i) (v i) 0 ≡ v i = cond-same x i (v i) 0 (sym e) in
      rw (p, q) (omega arith))
      (λ ne.
      let p : ◌≡◌ {A = ℕ} (cond (eqb i x) 1 0) 0 = cond-other i x 1 0 ne in
      let q : cond (eqb x i) (v i) 0 ≡ 0 = cond-other x i (v i) 0 (λ e. ne (sym e)) in
      rw (p, q) (omega arith))

  pub listed : (xs : List ℕ) → ((i : ℕ) → n ≤ i → times i xs ≡ 0) → sum_by v xs ≡ sum_below (λ i. times i xs * v i) n
  listed [] known = sym (sum_zero (λ i. 0 * v i) n (λ i lt. omega arith))
  listed (x ∷ xs) known =
      let low : x < n = elim (cases_lt x n) [
        | inl lt ↦ lt
        | inr le ↦ absurd (let none = known x le in let one = times-same x x xs refl in omega (arith, none, one))
      ] in
      let rest = listed xs (λ i le. let none : cond (eqb i x) 1 0 + times i xs ≡ 0 = known i le in omega (arith, none)) in
      let here = sum_once v x n low in
      let both = sum_both (λ i. cond (eqb x i) (v i) 0) (λ i. times i xs * v i) n in
      let each = sum_same (λ i. (cond (eqb i x) 1 0 + times i xs) * v i) (λ i. cond (eqb x i) (v i) 0 + times i xs * v i) n (λ i lt. one_more x i (times i xs)) in
      sum_by-cons v x xs ∙ (λ i. sym here i + rest i) ∙ sym both ∙ sym each

count-map : {X : Type 0} (P : Flanks → Bool) (g : X → Flanks) (xs : List X) → count_by P (map g xs) ≡ sum_by (λ x. bit (P (g x))) xs
count-map P g [] = refl
count-map P g (x ∷ xs) =
    sum_by-cons (λ f. bit (P f)) (g x) (map g xs) ∙ ap (λ n. bit (P (g x)) + n) (count-map P g xs) ∙ sym (sum_by-cons (λ y. bit (P (g y))) x xs)

-- the count of such flanks over a list of segments
pub listed_count : (n : ℕ) (P : Flanks → Bool) (g : ℕ → Flanks) (xs : List ℕ) → ((i : ℕ) → n ≤ i → times i xs ≡ 0) → count_by P (map g xs) ≡ sum_below (λ i. times i xs * bit (P (g i))) n
listed_count n P g xs known = count-map P g xs ∙ listed n (λ i. bit (P (g i))) xs known

-- ---- over all segments

pub places_sum : (xs : List ℕ) → sum_by (λ x. x) xs ≡ sum_below (λ i. get_or xs i 0) (length xs)
places_sum [] = sym (sum_below-none (λ i. get_or [] i 0))
places_sum (x ∷ xs) = sum_by-cons (λ y. y) x xs ∙ ap (λ n. x + n) (places_sum xs) ∙ sym (sum_first (λ i. get_or (x ∷ xs) i 0) (length xs))

module _ (y : ℤ) (P : Flanks → Bool) where
  -- what a segment counts: 1 where it crosses the height and has such flanks
  abbrev pub step : (p q : Point) → (left right : Side) → ℕ
  step p q left right = cond (parts y p q) (bit (P (flanks_between p q left right))) 0

  sum_from : (p : Point) (points : List Point) (left right : Side) → count_by P (crossed_from y p points left right) ≡ sum_by (λ x. x) (each_from step p points left right)
  sum_from p [] left right = refl
  sum_from p (q ∷ points) left right =
      let here = count_from y (λ s. false) P p q points left right in
      let rest = sum_from q points left right in
      let more = sum_by-cons (λ x. x) (step p q left right) (each_from step q points left right) in
      omega (arith, here, rest, more)

  sum_along : (points : List Point) (left right : Side) → count_by P (crossed_along y points left right) ≡ sum_by (λ x. x) (each_along step points left right)
  sum_along [] left right = refl
  sum_along (p ∷ points) left right = sum_from p points left right

  sum_of : (chains : List MapChain) → count_by P (crossed_at y chains) ≡ sum_by (λ x. x) (each_of step chains)
  sum_of [] = refl
  sum_of (c ∷ chains) =
      let here = sum_along c.points c.left c.right in
      let rest = sum_of chains in
      let count = sum_by-append (λ f. bit (P f)) (crossed_along y c.points c.left c.right) (crossed_at y chains) in
      let sum = sum_by-append (λ x. x) (each_along step c.points c.left c.right) (each_of step chains) in
      omega (arith, here, rest, count, sum)

  pub crossed_count : (chains : List MapChain) → count_by P (crossed_at y chains) ≡ sum_below (λ s. get_or (each_of step chains) s 0) (segments_before chains (length chains))
  crossed_count chains =
      sum_of chains ∙ places_sum (each_of step chains) ∙ ap (sum_below (λ s. get_or (each_of step chains) s 0)) (length-each step chains)

-- ---- the list of what is hit

module _ (hit : ℕ → Type 0) where
  -- a list of what is hit below n
  record IsListed (n : ℕ) : Type 0 where
    list : List ℕ
    once : (i : ℕ) → i < n → hit i → times i list ≡ 1
    others : (i : ℕ) → i < n → ¬ hit i → times i list ≡ 0
    past : (i : ℕ) → n ≤ i → times i list ≡ 0

  with_more : (n : ℕ) → IsListed n → hit n ⊎ (¬ hit n) → IsListed (suc n)
  with_more n l (inl h) = record {
    list = n ∷ l.list;
    once = λ i lt hi. same_or i n (λ e. let here = times-same i n l.list e in let rest = l.past i (omega (arith, e)) in omega (arith, here, rest)) (λ ne. times-other i n l.list ne ∙ l.once i (omega (arith, lt, ne)) hi);
    others = λ i lt no. same_or i n (λ e. absurd (no (subst hit (sym e) h))) (λ ne. times-other i n l.list ne ∙ l.others i (omega (arith, lt, ne)) no);
    past = λ i le. times-other i n l.list (λ e. omega (arith, le, e)) ∙ l.past i (omega (arith, le));
  }
  with_more n l (inr not) = record {
    list = l.list;
    once = λ i lt hi. same_or i n (λ e. absurd (not (subst hit e hi))) (λ ne. l.once i (omega (arith, lt, ne)) hi);
    others = λ i lt no. same_or i n (λ e. l.past i (omega (arith, e))) (λ ne. l.others i (omega (arith, lt, ne)) no);
    past = λ i le. l.past i (omega (arith, le));
  }

  all_listed : (n : ℕ) → ((i : ℕ) → i < n → hit i ⊎ (¬ hit i)) → IsListed n
  all_listed zero known = record { list = []; once = λ i lt. absurd (omega (arith, lt)); others = λ i lt. absurd (omega (arith, lt)); past = λ i le. refl }
  all_listed (suc n) known = with_more n (all_listed n (λ i lt. known i (omega (arith, lt)))) (known n (omega arith))

  pub all_hits : (n : ℕ) → ((i : ℕ) → i < n → hit i ⊎ (¬ hit i)) → (found : List ℕ) × AreHits n hit found
  all_hits n known =
      let l : IsListed n = all_listed n known in (
        l.list,
        record {
          once = l.once;
          others = λ i no. elim (cases_lt i n) [ inl lt ↦ l.others i lt no | inr le ↦ l.past i le ];
          known = l.past;
        },
      )
