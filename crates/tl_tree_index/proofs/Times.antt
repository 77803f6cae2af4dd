-- How often a number stands in a list.
use Rattle.std.proofs.Common.{◌≡◌, ℕ, zero, suc, ◌+◌, ◌≤◌, List, [], ◌∷◌, ◌++◌, refl, ap, ◌∙◌, arith}
use Rattle.std.proofs.lemmas.Bool.Decides.{nat_tests}
use Rattle.tl_tree_index.specs.Hits.{times}
use Rattle.tl_tree_index.specs.Fits.{AreBelow}

pub same_or : {P : Type 0} (n x : ℕ) → (n ≡ x → P) → ((n ≡ x → ⊥) → P) → P
same_or zero zero f g = f refl
same_or zero (suc x) f g = g (λ e. omega (arith, e))
same_or (suc n) zero f g = g (λ e. omega (arith, e))
same_or (suc n) (suc x) f g = same_or n x (λ e. f (ap suc e)) (λ ne. g (λ e. ne (omega (arith, e))))

pub times-same : (n x : ℕ) (xs : List ℕ) → n ≡ x → times n (x ∷ xs) ≡ 1 + times n xs
times-same n x xs e = grind (arith, nat_tests)

pub times-other : (n x : ℕ) (xs : List ℕ) → (n ≡ x → ⊥) → times n (x ∷ xs) ≡ times n xs
times-other n x xs ne = grind (arith, nat_tests)

pub times-append : (i : ℕ) (xs ys : List ℕ) → times i (xs ++ ys) ≡ times i xs + times i ys
times-append i [] ys = omega arith
times-append i (x ∷ xs) ys = omega (arith, times-append i xs ys)

pub times-one : (i : ℕ) → times i (i ∷ []) ≡ 1
times-one i = times-same i i [] refl

pub times-unhit : (i x : ℕ) → (i ≡ x → ⊥) → times i (x ∷ []) ≡ 0
times-unhit i x ne = times-other i x [] ne

pub times-above : (n i : ℕ) (xs : List ℕ) → AreBelow n xs → n ≤ i → times i xs ≡ 0
times-above n i [] h k = refl
times-above n i (x ∷ xs) h k = times-other i x xs (λ e. omega (arith, h.0, k, e)) ∙ times-above n i xs h.1 k
