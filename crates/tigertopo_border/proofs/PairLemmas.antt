-- The shape pairs of a chain have its inner points, and with its ends these are its points.
use Rattle.std.proofs.Common.{◌≡◌, ◌≢◌, ℕ, zero, suc, ◌+◌, ◌-◌, ◌<◌, ◌≤◌, ◌&&◌, ◌||◌, Bool, true, false, inl, inr, List, [], ◌∷◌, ◌++◌, length, take, drop, get_or, slice_get, Option, refl, sym, ap, ◌∙◌, arith, add-one, append_assoc, append-nil, take_all}
use Rattle.std.specs.List.{dedup}
use Rattle.std.proofs.lemmas.Bool.{cases_Bool}
use Rattle.std.proofs.lemmas.List.{take_more, length-take, length-drop}
use Rattle.std.proofs.lemmas.Option.{slice_get_cases}
use Rattle.tl_geom.specs.declared.point.Point.{Point}
use Rattle.tl_geom.proofs.Conditions.{same_point as one_point}
use Rattle.tl_map_county.specs.Chains.{IsProperChain}
use Rattle.tl_map_rules.specs.ChainsOf.{used, has_gap, points_between}
use Rattle.tl_record.specs.Joining.{same_point}
use Rattle.tl_map_rules.specs.Keeping.Pairs.{some_unused, dedup_after}
use Rattle.tl_map_rules.proofs.PairLemmas.{used-append, some_unused-append, has_gap-append, dedup_from-is}
use Rattle.tigertopo_border.specs.Border.{inner, start_of, end_of, pairs_from, origin}

-- ---- pairs

-- pairs behind pairs
pub pairs_both : (points : List Point) (a n m : ℕ) → pairs_from points a n ++ pairs_from points (a + n) m ≡ pairs_from points a (n + m)
pairs_both points a n zero = let e : n ≡ n + zero = omega arith in append-nil (pairs_from points a n) ∙ ap (pairs_from points a) e
pairs_both points a n (suc m) =
    let next : n + suc m ≡ suc (n + m) = omega arith in
    let at : a + n + m ≡ a + (n + m) = omega arith in
    sym (append_assoc (pairs_from points a n) (pairs_from points (a + n) m) (slice_get points (a + n + m) ∷ []))
    ∙ ap (λ front. front ++ slice_get points (a + n + m) ∷ []) (pairs_both points a n m)
    ∙ ap (λ place. pairs_from points a (n + m) ++ slice_get points place ∷ []) at
    ∙ ap (pairs_from points a) (sym next)

pub length_pairs_from : (points : List Point) (a n : ℕ) → length (pairs_from points a n) ≡ n
length_pairs_from points a zero = refl
length_pairs_from points a (suc n) = let rest = length_pairs_from points a n in omega (arith, rest, longer (pairs_from points a n) (slice_get points (a + n)))
  where
    longer : (xs : List (Option Point)) (x : Option Point) → length (xs ++ x ∷ []) ≡ length xs + 1
    longer [] x = refl
    longer (y ∷ xs) x = let more = longer xs x in omega (arith, more)

-- the points of the used pairs are the first ones
used_step : (points : List Point) (n : ℕ) → used (pairs_from points 0 n) ≡ take n points → used (pairs_from points 0 (suc n)) ≡ take (suc n) points
used_step points n before =
    let at : 0 + n ≡ n = omega arith in
    used-append (pairs_from points 0 n) (slice_get points (0 + n) ∷ [])
    ∙ rw (before, at) (elim (slice_get_cases points n).1 [
      | inl there ↦
          let more = take_more points n there.0 there.1 in
          rw there.2 (ap (λ y. take n points ++ y ∷ []) (sym there.3) ∙ sym more ∙ ap (λ k. take k points) (add-one n))
      | inr past ↦ rw past.1 (append-nil (take n points) ∙ take_all n points past.0 ∙ sym (take_all (suc n) points (omega (arith, past.0))))
    ])

pub used_is : (points : List Point) (n : ℕ) → used (pairs_from points 0 n) ≡ take n points
used_is points zero = refl
used_is points (suc n) = used_step points n (used_is points n)

-- no used pair stands behind an unused one
full_step : (points : List Point) (n : ℕ) → suc n ≤ length points → some_unused (pairs_from points 0 n) ≡ false → some_unused (pairs_from points 0 (suc n)) ≡ false
full_step points n lt before =
    some_unused-append (pairs_from points 0 n) (slice_get points (0 + n) ∷ [])
    ∙ (let at : 0 + n ≡ n = omega arith in rw (before, at) (elim (slice_get_cases points n).1 [
      | inl there ↦ rw there.2 refl
      | inr past ↦ absurd (omega (arith, lt, past.0))
    ]))

full : (points : List Point) (n : ℕ) → n ≤ length points → some_unused (pairs_from points 0 n) ≡ false
full points zero le = refl
full points (suc n) le = full_step points n le (full points n (omega (arith, le)))

gap_step : (points : List Point) (n : ℕ) → has_gap (pairs_from points 0 n) ≡ false → has_gap (pairs_from points 0 (suc n)) ≡ false
gap_step points n before =
    has_gap-append (pairs_from points 0 n) (slice_get points (0 + n) ∷ [])
    ∙ (let at : 0 + n ≡ n = omega arith in rw (before, at) (elim (slice_get_cases points n).1 [
      | inl there ↦ rw (there.2, full points n (omega (arith, there.1))) refl
      | inr past ↦ rw past.1 (nothing (some_unused (pairs_from points 0 n)))
    ]))
  where
    nothing : (b : Bool) → ((b && false) || false) ≡ false
    nothing true = refl
    nothing false = refl

pub no_gap : (points : List Point) (n : ℕ) → has_gap (pairs_from points 0 n) ≡ false
no_gap points zero = refl
no_gap points (suc n) = gap_step points n (no_gap points n)

-- ---- points

pub inside : (xs : List Point) (k : ℕ) (d e : Point) → k < length xs → get_or xs k d ≡ get_or xs k e
inside [] k d e lt = absurd (omega (arith, lt))
inside (w ∷ xs) zero d e lt = refl
inside (w ∷ xs) (suc k) d e lt = inside xs k d e (omega (arith, lt))

-- a list of two or more: its first item, those between, and its last
split_ends : (x : Point) (rest : List Point) → 1 ≤ length rest → rest ≡ take (length (x ∷ rest) - 2) rest ++ get_or (x ∷ rest) (length (x ∷ rest) - 1) x ∷ []
split_ends x [] some = absurd (omega arith)
split_ends x (y ∷ []) some = refl
split_ends x (y ∷ z ∷ rest) some =
    let more = split_ends y (z ∷ rest) (omega arith) in
    let n : length (x ∷ y ∷ z ∷ rest) - 2 ≡ suc (length (y ∷ z ∷ rest) - 2) = omega arith in
    let l : length (x ∷ y ∷ z ∷ rest) - 1 ≡ suc (length (y ∷ z ∷ rest) - 1) = omega arith in
    let last : get_or (y ∷ z ∷ rest) (length (y ∷ z ∷ rest) - 1) y ≡ get_or (y ∷ z ∷ rest) (length (y ∷ z ∷ rest) - 1) x = inside (y ∷ z ∷ rest) (length (y ∷ z ∷ rest) - 1) y x (omega arith) in
    rw (n, l) (ap (λ ys. y ∷ ys) (more ∙ ap (λ p. take (length (y ∷ z ∷ rest) - 2) (z ∷ rest) ++ p ∷ []) last))

pub points_are : (points : List Point) → 2 ≤ length points → points ≡ start_of points ∷ (inner points ++ end_of points ∷ [])
points_are [] several = absurd (omega arith)
points_are (x ∷ rest) several =
    ap (λ ys. x ∷ ys) (split_ends x rest (omega (arith, several))
    ∙ ap (λ p. take (length (x ∷ rest) - 2) rest ++ p ∷ []) (inside (x ∷ rest) (length (x ∷ rest) - 1) x origin (omega (arith, several))))

-- neighbours differ, so that each is kept
apart : (p q : Point) → q ≢ p → same_point q p ≡ false
apart p q other = elim (cases_Bool (same_point q p)) [
  | inl same ↦ absurd (other (one_point q p (same_point q p) refl same))
  | inr not ↦ not
]

abbrev DoDiffer : List Point → Type 0
DoDiffer points = (k : ℕ) (d : Point) → k + 1 < length points → get_or points k d ≢ get_or points (k + 1) d

all_kept : (p : Point) (rest : List Point) → DoDiffer (p ∷ rest) → dedup_after p rest ≡ rest
all_kept p [] differ = refl
all_kept p (q ∷ rest) differ =
    let first : q ≢ p = λ same. differ 0 p (omega arith) (sym same) in
    let next : dedup_after q rest ≡ rest = all_kept q rest (λ k d lt same. let e : suc (k + 1) ≡ suc k + 1 = omega arith in differ (suc k) d (omega (arith, lt)) (same ∙ ap (λ j. get_or (p ∷ q ∷ rest) j d) e)) in
    rw (apart p q first, next) refl

pub deduped : (points : List Point) → IsProperChain points → dedup same_point points ≡ points
deduped [] proper = refl
deduped (p ∷ rest) proper = dedup_from-is p rest ∙ ap (λ ps. p ∷ ps) (all_kept p rest proper.distinct)

-- what is drawn between the ends by these pairs are the chain's points
pub drawn_again : (points : List Point) (n : ℕ) → IsProperChain points → length points - 2 ≤ n → points_between (start_of points) (pairs_from (inner points) 0 n) (end_of points) ≡ points
drawn_again points n proper enough =
    let many : length (inner points) ≤ n = omega (arith, enough, length-take (length points - 2) (drop 1 points), length-drop 1 points) in
    let middle : used (pairs_from (inner points) 0 n) ≡ inner points = used_is (inner points) n ∙ take_all n (inner points) many in
    ap (λ ps. dedup same_point (start_of points ∷ (ps ++ end_of points ∷ []))) middle
    ∙ ap (dedup same_point) (sym (points_are points proper.several)) ∙ deduped points proper
