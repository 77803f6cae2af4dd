-- What is used and unused of pairs, and which points are left of several that follow one another.
use Rattle.std.proofs.Common.{◌≡◌, ℕ, zero, suc, ◌+◌, ◌<◌, ◌≤◌, Bool, true, false, cond, eqb, ◌&&◌, ◌||◌, inl, inr, Option, Some, None, List, [], ◌∷◌, ◌++◌, length, get_or, count_by, Contains, refl, ap, ◌∙◌, arith}
use Rattle.std.specs.List.{dedup_from}
use Rattle.std.proofs.lemmas.Bool.{eq-eqb, cases_Bool}
use Rattle.std.proofs.lemmas.List.Sums.{sum_by-cons}
use Rattle.tl_geom.specs.declared.point.Point.{Point}
use Rattle.tl_record.specs.declared.record.Record.{Record}
use Rattle.tl_record.specs.declared.record.Record.TheVariants.{Shape}
use Rattle.tl_map_rules.specs.ChainsOf.{is_shape_at, pairs_at, used, some_used, has_gap}
use Rattle.tl_record.specs.Joining.{same_point}
use Rattle.tl_map_rules.specs.Keeping.Pairs.{some_unused, dedup_after}
use Rattle.tl_map_rules.proofs.CountLemmas.{one_counted}

pub used-append : (xs ys : List (Option Point)) → used (xs ++ ys) ≡ used xs ++ used ys
used-append [] ys = refl
used-append (None ∷ xs) ys = used-append xs ys
used-append (Some p ∷ xs) ys = ap (λ ps. p ∷ ps) (used-append xs ys)

pub some_used-append : (xs ys : List (Option Point)) → some_used (xs ++ ys) ≡ (some_used xs || some_used ys)
some_used-append [] ys = refl
some_used-append (None ∷ xs) ys = some_used-append xs ys
some_used-append (Some p ∷ xs) ys = refl

pub some_unused-append : (xs ys : List (Option Point)) → some_unused (xs ++ ys) ≡ (some_unused xs || some_unused ys)
some_unused-append [] ys = refl
some_unused-append (None ∷ xs) ys = refl
some_unused-append (Some p ∷ xs) ys = some_unused-append xs ys

-- a gap has a used pair behind it
used_from_gap : (xs : List (Option Point)) → has_gap xs ≡ true → some_used xs ≡ true
used_from_gap [] h = h
used_from_gap (None ∷ xs) h = h
used_from_gap (Some p ∷ xs) h = refl

-- and an unused one
pub unused_from_gap : (xs : List (Option Point)) → has_gap xs ≡ true → some_unused xs ≡ true
unused_from_gap [] h = h
unused_from_gap (None ∷ xs) h = refl
unused_from_gap (Some p ∷ xs) h = unused_from_gap xs h

-- where two lists of pairs are joined, a gap is one of either, or it begins in the first and ends in the second
pub has_gap-append : (xs ys : List (Option Point)) → has_gap (xs ++ ys) ≡ ((has_gap xs || (some_unused xs && some_used ys)) || has_gap ys)
has_gap-append [] ys = refl
has_gap-append (None ∷ xs) ys = some_used-append xs ys ∙ absorbed (some_used xs) (some_used ys) (has_gap ys) (used_from_gap ys)
  where
    absorbed : (a b c : Bool) → (c ≡ true → b ≡ true) → (a || b) ≡ ((a || (true && b)) || c)
    absorbed true b c h = refl
    absorbed false true c h = refl
    absorbed false false true h = h refl
    absorbed false false false h = refl
has_gap-append (Some p ∷ xs) ys = has_gap-append xs ys

-- the record with this TLID and RTSQ, where there is one alone
pub pairs_at_is : (rs : List Record) (t n : ℕ) (pairs : List (Option Point)) → Contains rs (Shape t n pairs) → count_by (is_shape_at t n) rs ≡ 1 → pairs_at rs t n ≡ pairs
pairs_at_is rs t n pairs found once = go rs found.0 found.1 found.2 once
  where
    counted : (rs : List Record) (k : ℕ) → k < length rs → get_or rs k (Shape t n pairs) ≡ Shape t n pairs → 1 ≤ count_by (is_shape_at t n) rs
    counted rs k h at = omega (arith, one_counted (is_shape_at t n) rs k (Shape t n pairs) h (rw at (rw (eq-eqb t t refl) (eq-eqb n n refl))))

    go : (rs : List Record) (k : ℕ) → k < length rs → get_or rs k (Shape t n pairs) ≡ Shape t n pairs → count_by (is_shape_at t n) rs ≡ 1 → pairs_at rs t n ≡ pairs
    go [] k h at once = absurd (omega arith)
    go (r ∷ rs) zero h at once = rw at (rw (eq-eqb t t refl, eq-eqb n n refl) refl)
    go (Shape u m others ∷ rs) (suc k) h at once =
        let more : count_by (is_shape_at t n) (Shape u m others ∷ rs) ≡ cond (eqb u t && eqb m n) 1 0 + count_by (is_shape_at t n) rs = sum_by-cons (λ r. cond (is_shape_at t n r) 1 0) (Shape u m others) rs in
        let later = counted rs k (omega arith) at in
        elim (cases_Bool (eqb u t && eqb m n)) [
          | inl here ↦ absurd (let two : count_by (is_shape_at t n) (Shape u m others ∷ rs) ≡ 1 + count_by (is_shape_at t n) rs = more ∙ ap (λ (b : Bool). cond {A = ℕ} b 1 0 + count_by (is_shape_at t n) rs) here in omega (arith, two))
          | inr other ↦ rw other (go rs k (omega arith) at (let same : count_by (is_shape_at t n) (Shape u m others ∷ rs) ≡ 0 + count_by (is_shape_at t n) rs = more ∙ ap (λ (b : Bool). cond {A = ℕ} b 1 0 + count_by (is_shape_at t n) rs) other in omega (arith, same)))
        ]
    go (r ∷ rs) (suc k) h at once =
        let more = sum_by-cons (λ r. cond (is_shape_at t n r) 1 0) r rs in
        go rs k (omega arith) at (omega (arith, more))

-- dedup keeps the first point and what follows it
pub dedup_from-is : (p : Point) (qs : List Point) → dedup_from same_point p qs ≡ p ∷ dedup_after p qs
dedup_from-is p [] = refl
dedup_from-is p (q ∷ qs) = go (same_point q p) (dedup_from-is p qs) (dedup_from-is q qs)
  where
    go : (b : Bool) → dedup_from same_point p qs ≡ p ∷ dedup_after p qs → dedup_from same_point q qs ≡ q ∷ dedup_after q qs → cond b (dedup_from same_point p qs) (p ∷ dedup_from same_point q qs) ≡ p ∷ cond b (dedup_after p qs) (q ∷ dedup_after q qs)
    go true here next = here
    go false here next = ap (λ ps. p ∷ ps) next
