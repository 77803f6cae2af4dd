-- Flanks of which near sides and far ones of one polygon cancel.
use Rattle.std.proofs.Common.{◌≡◌, ℕ, ◌+◌, Bool, true, false, if◌then◌else◌, count_by, List, [], ◌∷◌, ◌++◌, refl, ap, ◌∙◌, arith}
use Rattle.std.proofs.lemmas.List.Sums.{sum_by-cons, sum_by-append}
use Rattle.tl_check_active.proofs.Bits.{bit}
use Rattle.tl_check_inside.specs.declared.flanks.Flanks.{Flanks}

pub no_times : (P : Flanks → Bool) (flanks : Flanks) (short : List Flanks) → count_by P short ≡ count_by P short + (if P flanks then 0 else 0)
no_times P flanks short = go (P flanks)
  where
    go : (b : Bool) → count_by P short ≡ count_by P short + (if b then 0 else 0)
    go true = omega arith
    go false = omega arith

pub one_time : (P : Flanks → Bool) (flanks : Flanks) (old short new : List Flanks) (times : ℕ) → new ≡ short ++ flanks ∷ [] →
    count_by P short ≡ count_by P old + (if P flanks then times else 0) → count_by P new ≡ count_by P old + (if P flanks then times + 1 else 0)
one_time P flanks old short new times pushed before =
    ap (count_by P) pushed ∙ sum_by-append (λ (x : Flanks). bit (P x)) short (flanks ∷ []) ∙ go (P flanks) refl
  where
    go : (b : Bool) → P flanks ≡ b → count_by P short + count_by P (flanks ∷ []) ≡ count_by P old + (if P flanks then times + 1 else 0)
    go true e =
        let one = sum_by-cons (λ (x : Flanks). bit (P x)) flanks [] in
        let is : bit (P flanks) ≡ 1 = ap bit e in
        let was : (if P flanks then times else 0) ≡ times = ap (λ (x : Bool). if x then times else 0) e in
        let now : (if P flanks then times + 1 else 0) ≡ times + 1 = ap (λ (x : Bool). if x then times + 1 else 0) e in
        omega (arith, one, is, was, now, before)
    go false e =
        let one = sum_by-cons (λ (x : Flanks). bit (P x)) flanks [] in
        let is : bit (P flanks) ≡ 0 = ap bit e in
        let was : (if P flanks then times else 0) ≡ 0 = ap (λ (x : Bool). if x then times else 0) e in
        let now : (if P flanks then times + 1 else 0) ≡ 0 = ap (λ (x : Bool). if x then times + 1 else 0) e in
        omega (arith, one, is, was, now, before)
