-- The counts of all polygons tell those of any sides but the outside.
use Rattle.std.proofs.Common.{◌≡◌, ◌≢◌, ℕ, zero, suc, ◌+◌, ◌<◌, Bool, true, false, if◌then◌else◌, count_by, List, [], ◌∷◌, All, refl, sym, ap, ◌∙◌, arith}
use Rattle.std.proofs.lemmas.Bool.Decides.{nat_tests}
use Rattle.std.proofs.lemmas.List.Elements.{All-head, All-tail}
use Rattle.std.proofs.lemmas.List.Sums.{sum_by-cons}
use Rattle.tl_map_county.specs.declared.sides.Side.{Side}
use Rattle.tl_map_county.specs.declared.sides.Side.TheVariants.{Outside, Polygon}
use Rattle.tl_map_county.specs.Sides.{IsSideAmong}
use Rattle.tl_tree_index.proofs.Times.{same_or}
use Rattle.tl_check_active.proofs.Bits.{bit}
use Rattle.tl_check_inside.specs.declared.flanks.Flanks.{Flanks}
use Rattle.tl_check_inside.specs.Inside.{is_polygon}
use Rattle.tl_check_inside.specs.Keeping.Tallies.{near_count, far_count}
use Rattle.tl_check_points.specs.Keeping.Balances.{AreAmong, HaveOneBalance}

-- ---- one polygon

pub own_test : (p q : ℕ) → p ≡ q → is_polygon p (Polygon q) ≡ true
own_test p q e = grind (arith, nat_tests)

pub other_test : (p q : ℕ) → ¬ (p ≡ q) → is_polygon p (Polygon q) ≡ false
other_test p q ne = grind (arith, nat_tests)

pub test_own : (p q : ℕ) → is_polygon p (Polygon q) ≡ true → p ≡ q
test_own p q e = same_or p q (λ is. is) (λ ne. absurd (let no = other_test p q ne in cc))

if_zero : (b : Bool) (n : ℕ) → n ≡ 0 → (if b then n else 0) ≡ 0
if_zero true n e = e
if_zero false n e = refl

if_one : (b : Bool) (n : ℕ) → n ≡ 1 → (if b then n else 0) ≡ bit b
if_one true n e = e
if_one false n e = refl

if_sum : (b : Bool) (m n : ℕ) → (if b then m + n else 0) ≡ (if b then m else 0) + (if b then n else 0)
if_sum true m n = refl
if_sum false m n = refl

-- ---- sums over the first n polygons

module _ (S : Side → Bool) where
  -- of those that pass
  pub weighed : (ℕ → ℕ) → ℕ → ℕ
  weighed h zero = 0
  weighed h (suc n) = weighed h n + (if S (Polygon n) then h n else 0)

  weighed_same : (h k : ℕ → ℕ) (n : ℕ) → ((p : ℕ) → p < n → h p ≡ k p) → weighed h n ≡ weighed k n
  unfolding weighed
  weighed_same h k zero same = refl
  weighed_same h k (suc n) same =
      let rest = weighed_same h k n (λ p lt. same p (omega (arith, lt))) in
      let last : (if S (Polygon n) then h n else 0) ≡ (if S (Polygon n) then k n else 0) = ap (λ x. if S (Polygon n) then x else 0) (same n (omega arith)) in
      omega (arith, rest, last)

  weighed_sum : (h k : ℕ → ℕ) (n : ℕ) → weighed (λ p. h p + k p) n ≡ weighed h n + weighed k n
  unfolding weighed
  weighed_sum h k zero = refl
  weighed_sum h k (suc n) = let rest = weighed_sum h k n in let last = if_sum (S (Polygon n)) (h n) (k n) in omega (arith, rest, last)

  weighed_none : (h : ℕ → ℕ) (n : ℕ) → ((p : ℕ) → p < n → h p ≡ 0) → weighed h n ≡ 0
  unfolding weighed
  weighed_none h zero none = refl
  weighed_none h (suc n) none =
      let rest = weighed_none h n (λ p lt. none p (omega (arith, lt))) in
      let last = if_zero (S (Polygon n)) (h n) (none n (omega arith)) in
      omega (arith, rest, last)

  weighed_one : (q n : ℕ) → q < n → weighed (λ p. bit (is_polygon p (Polygon q))) n ≡ bit (S (Polygon q))
  unfolding weighed
  weighed_one q zero lt = absurd (omega (arith, lt))
  weighed_one q (suc n) lt =
      same_or n q
      (λ e.
      let rest = weighed_none (λ p. bit (is_polygon p (Polygon q))) n (λ p less. ap bit (other_test p q (λ is. omega (arith, less, e, is)))) in
      let last = if_one (S (Polygon n)) (bit (is_polygon n (Polygon q))) (ap bit (own_test n q e)) in
      let here : bit (S (Polygon n)) ≡ bit (S (Polygon q)) = ap (λ k. bit (S (Polygon k))) e in
      omega (arith, rest, last, here))
      (λ ne.
      let rest = weighed_one q n (let no : q ≢ n = λ e. ne (sym e) in omega (arith, lt, no)) in
      let last = if_zero (S (Polygon n)) (bit (is_polygon n (Polygon q))) (ap bit (other_test n q ne)) in
      omega (arith, rest, last))

  module _ (none : S Outside ≡ false) (pick : Flanks → Side) where
    one_side : (side : Side) (n : ℕ) → IsSideAmong n side → weighed (λ p. bit (is_polygon p side)) n ≡ bit (S side)
    one_side Outside n among = weighed_none (λ p. 0) n (λ p lt. refl) ∙ sym (ap bit none)
    one_side (Polygon q) n among = weighed_one q n among

    -- of flanks whose sides are among the first n polygons
    pub spread : (n : ℕ) (fs : List Flanks) → All (λ f. IsSideAmong n (pick f)) fs →
        count_by (λ f. S (pick f)) fs ≡ weighed (λ p. count_by (λ f. is_polygon p (pick f)) fs) n
    spread n [] all = sym (weighed_none (λ p. 0) n (λ p lt. refl))
    spread n (f ∷ fs) all =
        let rest = spread n fs (All-tail (λ x. IsSideAmong n (pick x)) f fs all) in
        let more = sum_by-cons (λ x. bit (S (pick x))) f fs in
        let here = one_side (pick f) n (All-head (λ x. IsSideAmong n (pick x)) f fs all) in
        let both = weighed_sum (λ p. bit (is_polygon p (pick f))) (λ p. count_by (λ x. is_polygon p (pick x)) fs) n in
        let each = weighed_same (λ p. count_by (λ x. is_polygon p (pick x)) (f ∷ fs))
        (λ p. bit (is_polygon p (pick f)) + count_by (λ x. is_polygon p (pick x)) fs) n (λ p lt. sum_by-cons (λ x. bit (is_polygon p (pick x))) f fs) in
        omega (arith, rest, more, here, both, each)

-- where two lists have each polygon as much more often near than far, they have any sides so
pub told_by_polygons : (n : ℕ) (one other : List Flanks) → All (AreAmong n) one → All (AreAmong n) other →
    ((p : ℕ) → p < n → near_count one (is_polygon p) + far_count other (is_polygon p) ≡ far_count one (is_polygon p) + near_count other (is_polygon p)) →
    HaveOneBalance one other
told_by_polygons n one other all all' each S none =
    let near : Flanks → Side = λ f. f.near in
    let far : Flanks → Side = λ f. f.far in
    let a = spread S none near n one (λ k d lt. (all k d lt).near) in
    let b = spread S none far n other (λ k d lt. (all' k d lt).far) in
    let c = spread S none far n one (λ k d lt. (all k d lt).far) in
    let e = spread S none near n other (λ k d lt. (all' k d lt).near) in
    let left = weighed_sum S (λ p. near_count one (is_polygon p)) (λ p. far_count other (is_polygon p)) n in
    let right = weighed_sum S (λ p. far_count one (is_polygon p)) (λ p. near_count other (is_polygon p)) n in
    let same = weighed_same S (λ p. near_count one (is_polygon p) + far_count other (is_polygon p))
    (λ p. far_count one (is_polygon p) + near_count other (is_polygon p)) n each in
    omega (arith, a, b, c, e, left, right, same)
