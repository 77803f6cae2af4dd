-- The map that records draw can be told in records.
use Rattle.std.proofs.Common.{◌≡◌, ℕ, zero, suc, ◌+◌, ◌-◌, ◌*◌, ◌<◌, ◌≤◌, ◌==◌, ◌&&◌, Bool, true, false, cond, inl, inr, List, [], ◌∷◌, ◌++◌, length, take, get_or, Option, Some, None, Contains, count_by, refl, sym, ap, subst, ◌∙◌, arith, length-append}
use Rattle.std.specs.List.{AllByRecursion, dedup}
use Rattle.std.proofs.lemmas.Bool.{eqb-true, cases_Bool}
use Rattle.tl_geom.specs.declared.point.Point.{Point}
use Rattle.tl_geom.proofs.Conditions.{same_point as one_point}
use Rattle.tl_record.specs.declared.record.Record.{Record}
use Rattle.tl_record.specs.declared.record.Record.TheVariants.{Chain, Shape, Sides, PolyPoint, Landmark, AreaLink}
use Rattle.tl_map_rules.specs.ChainsOf.{is_shape_at, pairs_at, pairs_up_to, used}
use Rattle.tl_record.specs.Joining.{same_point}
use Rattle.tl_map_rules.specs.Keeping.Pairs.{dedup_after}
use Rattle.tl_map_rules.proofs.PairLemmas.{dedup_from-is}
use Rattle.tigertopo_border.specs.Border.{inner, start_of, end_of, origin}
use Rattle.tigertopo_border.specs.Spellable.{IsPair, ArePairs}
use Rattle.tigertopo_border.proofs.ColumnLemmas.{Fits}
use Rattle.tigertopo_border.proofs.BlockLemmas.{count_cons}

-- ---- what holds of each record

fits_at : (rs : List Record) (k : ℕ) (r : Record) → AllByRecursion Fits rs → k < length rs → get_or rs k r ≡ r → Fits r
fits_at [] k r all lt at = absurd (omega (arith, lt))
fits_at (x ∷ rs) zero r all lt at = subst Fits at all.0
fits_at (x ∷ rs) (suc k) r all lt at = fits_at rs k r all.1 (omega (arith, lt)) at

pub fits_there : (rs : List Record) (r : Record) → AllByRecursion Fits rs → Contains rs r → Fits r
fits_there rs r all has = fits_at rs has.0 r all has.1 has.2

-- a record that is counted stands there
pub shape_counted : (rs : List Record) (t n : ℕ) → AllByRecursion Fits rs → 1 ≤ count_by (is_shape_at t n) rs → n < 1000
shape_counted [] t n all some = absurd (omega (arith, some))
shape_counted (Chain u from to ∷ rs) t n all some = shape_counted rs t n all.1 (omega (arith, some, count_cons (is_shape_at t n) (Chain u from to) rs))
shape_counted (Shape u k pairs ∷ rs) t n all some = elim (cases_Bool ((u == t) && (k == n))) [
  | inl is ↦ (let small = all.0.0 in let same : k ≡ n = eqb-true k n (second (u == t) (k == n) is) in omega (arith, small, same))
  | inr not ↦ (let none : cond {A = ℕ} ((u == t) && (k == n)) 1 0 ≡ 0 = rw not refl in shape_counted rs t n all.1 (omega (arith, some, none, count_cons (is_shape_at t n) (Shape u k pairs) rs)))
]
  where
    second : (a b : Bool) → (a && b) ≡ true → b ≡ true
    second true b is = is
    second false b is = absurd (cc is)
shape_counted (Sides u s e l r ∷ rs) t n all some = shape_counted rs t n all.1 (omega (arith, some, count_cons (is_shape_at t n) (Sides u s e l r) rs))
shape_counted (PolyPoint key point ∷ rs) t n all some = shape_counted rs t n all.1 (omega (arith, some, count_cons (is_shape_at t n) (PolyPoint key point) rs))
shape_counted (Landmark land point ∷ rs) t n all some = shape_counted rs t n all.1 (omega (arith, some, count_cons (is_shape_at t n) (Landmark land point) rs))
shape_counted (AreaLink key land ∷ rs) t n all some = shape_counted rs t n all.1 (omega (arith, some, count_cons (is_shape_at t n) (AreaLink key land) rs))

-- the pairs of a record
pairs_of_record : (rs : List Record) (t n : ℕ) → AllByRecursion Fits rs → (length (pairs_at rs t n) ≤ 10) × ArePairs (pairs_at rs t n)
pairs_of_record [] t n all = (omega arith, tt)
pairs_of_record (Chain u from to ∷ rs) t n all = pairs_of_record rs t n all.1
pairs_of_record (Shape u k pairs ∷ rs) t n all = elim (cases_Bool ((u == t) && (k == n))) [
  | inl is ↦ rw is (let long = all.0.1 in (omega (arith, long), all.0.2))
  | inr not ↦ rw not (pairs_of_record rs t n all.1)
]
pairs_of_record (Sides u s e l r ∷ rs) t n all = pairs_of_record rs t n all.1
pairs_of_record (PolyPoint key point ∷ rs) t n all = pairs_of_record rs t n all.1
pairs_of_record (Landmark land point ∷ rs) t n all = pairs_of_record rs t n all.1
pairs_of_record (AreaLink key land ∷ rs) t n all = pairs_of_record rs t n all.1

pairs_both : (xs ys : List (Option Point)) → ArePairs xs → ArePairs ys → ArePairs (xs ++ ys)
pairs_both [] ys a b = b
pairs_both (x ∷ xs) ys a b = (a.0, pairs_both xs ys a.1 b)

pub up_to : (rs : List Record) (t n : ℕ) → AllByRecursion Fits rs → (length (pairs_up_to rs t n) ≤ 10 * n) × ArePairs (pairs_up_to rs t n)
up_to rs t zero all = (omega arith, tt)
up_to rs t (suc n) all =
    let before = up_to rs t n all in
    let here = pairs_of_record rs t (suc n) all in
    let a = before.0 in
    let b = here.0 in
    (omega (arith, a, b, length-append (pairs_up_to rs t n) (pairs_at rs t (suc n))), pairs_both (pairs_up_to rs t n) (pairs_at rs t (suc n)) before.1 here.1)

-- the used ones
pub used_fine : (pairs : List (Option Point)) → ArePairs pairs → (length (used pairs) ≤ length pairs) × AllByRecursion (λ p. IsPair (Some p)) (used pairs)
used_fine [] fine = (omega arith, tt)
used_fine (None ∷ pairs) fine = let rest = used_fine pairs fine.1 in let few = rest.0 in (omega (arith, few), rest.1)
used_fine (Some p ∷ pairs) fine = let rest = used_fine pairs fine.1 in let few = rest.0 in (omega (arith, few), (fine.0, rest.1))

-- ---- points that are left where equal neighbours are one

after_few : (p : Point) (qs : List Point) → length (dedup_after p qs) ≤ length qs
after_few p [] = omega arith
after_few p (q ∷ qs) = elim (cases_Bool (same_point q p)) [
  | inl same ↦ rw same (let rest = after_few p qs in omega (arith, rest))
  | inr not ↦ rw not (let rest = after_few q qs in omega (arith, rest))
]

-- the last one
last_of : Point → List Point → Point
last_of p [] = p
last_of p (q ∷ qs) = last_of q qs

ends_in : (p : Point) (us : List Point) (to : Point) → last_of p (dedup_after p (us ++ to ∷ [])) ≡ to
unfolding last_of
ends_in p [] to = elim (cases_Bool (same_point to p)) [
  | inl same ↦ rw same (sym (one_point to p (same_point to p) refl same))
  | inr not ↦ rw not refl
]
ends_in p (q ∷ us) to = elim (cases_Bool (same_point q p)) [
  | inl same ↦ rw same (ends_in p us to)
  | inr not ↦ rw not (ends_in q us to)
]

last_at : (p : Point) (qs : List Point) (d : Point) → get_or (p ∷ qs) (length (p ∷ qs) - 1) d ≡ last_of p qs
unfolding last_of
last_at p [] d = refl
last_at p (q ∷ qs) d = let e : length (p ∷ q ∷ qs) - 1 ≡ suc (length (q ∷ qs) - 1) = omega arith in rw e (last_at q qs d)

-- all but the last come from the pairs
but_last : (P : Point → Type 0) (p : Point) (us : List Point) (to : Point) → AllByRecursion P us → AllByRecursion P (take (length (dedup_after p (us ++ to ∷ [])) - 1) (dedup_after p (us ++ to ∷ [])))
but_last P p [] to all = elim (cases_Bool (same_point to p)) [
  | inl same ↦ rw same tt
  | inr not ↦ rw not tt
]
but_last P p (q ∷ us) to all = elim (cases_Bool (same_point q p)) [
  | inl same ↦ rw same (but_last P p us to all.1)
  | inr not ↦ rw not (longer (dedup_after q (us ++ to ∷ [])) (but_last P q us to all.1))
]
  where
    longer : (rest : List Point) → AllByRecursion P (take (length rest - 1) rest) → AllByRecursion P (take (length (q ∷ rest) - 1) (q ∷ rest))
    longer [] fine = tt
    longer (r ∷ rest) fine = let e : length (q ∷ r ∷ rest) - 1 ≡ suc (length (r ∷ rest) - 1) = omega arith in rw e (all.0, fine)

module _ (from to : Point) (us : List Point) where
  pub drawn_is : dedup same_point (from ∷ (us ++ to ∷ [])) ≡ from ∷ dedup_after from (us ++ to ∷ [])
  drawn_is = dedup_from-is from (us ++ to ∷ [])

  pub drawn_few : length (dedup same_point (from ∷ (us ++ to ∷ []))) ≤ 2 + length us
  drawn_few = let long = ap length drawn_is in omega (arith, long, after_few from (us ++ to ∷ []), length-append us (to ∷ []))

  pub drawn_start : start_of (dedup same_point (from ∷ (us ++ to ∷ []))) ≡ from
  drawn_start = ap start_of drawn_is

  pub drawn_end : end_of (dedup same_point (from ∷ (us ++ to ∷ []))) ≡ to
  drawn_end = ap end_of drawn_is ∙ last_at from (dedup_after from (us ++ to ∷ [])) origin ∙ ends_in from us to

  pub drawn_inner : AllByRecursion (λ p. IsPair (Some p)) us → AllByRecursion (λ p. IsPair (Some p)) (inner (dedup same_point (from ∷ (us ++ to ∷ []))))
  drawn_inner all =
      let rest = dedup_after from (us ++ to ∷ []) in
      let e : length (from ∷ rest) - 2 ≡ length rest - 1 = omega arith in
      subst (λ ps. AllByRecursion (λ p. IsPair (Some p)) (inner ps)) (sym drawn_is)
      (subst (λ n. AllByRecursion (λ p. IsPair (Some p)) (take n rest)) (sym e) (but_last (λ p. IsPair (Some p)) from us to all))
