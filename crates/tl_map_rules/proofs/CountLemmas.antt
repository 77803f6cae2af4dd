use Rattle.std.proofs.Common.{eqb, Option, Some, None, MatchOption, ◌≡◌, ◌≢◌, ℕ, zero, suc, ◌+◌, ◌-◌, ◌<◌, ◌≤◌, Bool, true, false, cond, List, [], ◌∷◌, length, take, map, get_or, sum_by, count_by, All, refl, sym, ◌∙◌, arith, add-one, inl, inr}
use Rattle.std.specs.Prelude.{IfNone, IfSome}
use Rattle.std.specs.Option.{option_eq}
use Rattle.std.specs.List.Sorted.{IsNonDecreasingBy, IsStrictlyIncreasing}
use Rattle.std.proofs.lemmas.Bool.{true≢false, eq-eqb, eqb-true, cases_lt}
use Rattle.std.proofs.lemmas.List.{get_or_default, get_or-map, length-map}
use Rattle.std.proofs.lemmas.List.Sums.{sum_by-cons, sum_by-take-le, sum_by-le, count_by_more_yes}

-- neighbours that pass are two that pass
pub two_counted : {X : Type 0} (p : X → Bool) (xs : List X) (i : ℕ) (d : X) → i + 1 < length xs → p (get_or xs i d) ≡ true → p (get_or xs (i + 1) d) ≡ true → 2 ≤ count_by p xs
two_counted p xs i d h a b =
    omega (arith, count_by_more_yes p xs i d (omega arith) a, count_by_more_yes p xs (i + 1) d h b, sum_by-take-le (λ x. cond (p x) 1 0) xs (i + 1 + 1))

-- where none passes, none is counted
pub none_counted : {X : Type 0} (p : X → Bool) (xs : List X) → All (λ x. p x ≡ false) xs → count_by p xs ≡ 0
none_counted p xs h =
    omega (arith, sum_by-le (λ x. cond (p x) 1 0) 0 xs (λ k d lt. let e = h k d lt in grind (arith, e)))

-- one that passes is counted
pub one_counted : {X : Type 0} (p : X → Bool) (xs : List X) (i : ℕ) (d : X) → i < length xs → p (get_or xs i d) ≡ true → count_by p (take i xs) + 1 ≤ count_by p xs
one_counted p xs i d h a =
    omega (arith, count_by_more_yes p xs i d h a, sum_by-take-le (λ x. cond (p x) 1 0) xs (i + 1))

-- the keys rise where neighbours do
pub rising_keys : {X : Type 0} (n : X → ℕ) (xs : List X) → ((k : ℕ) (d : X) → k + 1 < length xs → n (get_or xs k d) < n (get_or xs (k + 1) d)) → IsStrictlyIncreasing (map n xs)
rising_keys n [] h k lt = absurd (omega arith)
rising_keys n (x ∷ xs) h k lt =
    let len = length-map (x ∷ xs) n in
    rw (get_or-map n (x ∷ xs) k x 0 (omega arith), get_or-map n (x ∷ xs) (k + 1) x 0 (omega arith)) (h k x (omega arith))

-- two sums over one list
pub sum_by-both : {X : Type 0} (f g h : X → ℕ) → ((x : X) → h x ≡ f x + g x) → (xs : List X) → sum_by h xs ≡ sum_by f xs + sum_by g xs
sum_by-both f g h e [] = refl
sum_by-both f g h e (x ∷ xs) =
    let rest = sum_by-both f g h e xs in
    omega (arith, rest, e x, sum_by-cons f x xs, sum_by-cons g x xs, sum_by-cons h x xs)

-- equal terms have equal sums
pub sum_by-same : {X : Type 0} (f g : X → ℕ) → ((x : X) → f x ≡ g x) → (xs : List X) → sum_by f xs ≡ sum_by g xs
sum_by-same f g e [] = refl
sum_by-same f g e (x ∷ xs) =
    omega (arith, sum_by-same f g e xs, e x, sum_by-cons f x xs, sum_by-cons g x xs)

-- a key that is the one before stands twice
pub repeat_found : {X : Type 0} (n : X → ℕ) (A : Type 0) (xs : List X) (i t : ℕ) (d : X) (previous : Option ℕ) → i < length xs → IfSome previous (λ u. (0 < i) × ((e : X) → n (get_or xs (i - 1) e) ≡ u)) → n (get_or xs i d) ≡ t → option_eq eqb previous (Some t) ≡ true → MatchOption previous A (λ u. 2 ≤ count_by (λ x. eqb (n x) u) xs)
repeat_found n A xs i t d None h last here same = cc
repeat_found n A xs i t d (Some u) h last here same =
    let u_is = eqb-true u t same in
    two_counted (λ c. eqb (n c) u) xs (i - 1) d (omega (arith, last.0)) (eq-eqb _ _ (last.1 d))
    (let at : i - 1 + 1 ≡ i = omega (arith, last.0) in rw at (eq-eqb _ _ (here ∙ sym u_is)))

-- each key is below all later ones where it is below the next
pub rising_pairs : {X : Type 0} (n : X → ℕ) (xs : List X) → ((k : ℕ) (d : X) → k + 1 < length xs → n (get_or xs k d) < n (get_or xs (k + 1) d)) → (i j : ℕ) (d : X) → i < j → j < length xs → n (get_or xs i d) < n (get_or xs j d)
rising_pairs n xs up i zero d before within = absurd (omega arith)
rising_pairs n xs up i (suc j) d before within =
    let next : n (get_or xs j d) < n (get_or xs (suc j) d) = rw (add-one j) at (up j d (omega arith)) in
    elim (cases_lt i j) [
      | inl earlier ↦ omega (arith, rising_pairs n xs up i j d earlier (omega arith), next)
      | inr last ↦ let at : i ≡ j = omega arith in rw at next
    ]

-- the keys of a list that rises rise
pub rising_keys_from_pairs : {X : Type 0} (n : X → ℕ) (xs : List X) → ((i j : ℕ) (d : X) → i < j → j < length xs → n (get_or xs i d) < n (get_or xs j d)) → IsStrictlyIncreasing (map n xs)
rising_keys_from_pairs n xs up = rising_keys n xs (λ k d h. up k (k + 1) d (omega arith) h)

-- the last of the first i + 1 keys
pub last_key : {X : Type 0} (n : X → ℕ) (xs : List X) (i t : ℕ) (d : X) → i < length xs → n (get_or xs i d) ≡ t → (e : X) → n (get_or xs (i + 1 - 1) e) ≡ t
last_key n xs i t d h here e =
    let place : i + 1 - 1 ≡ i = omega arith in
    rw (place, sym (get_or_default xs i d e h)) here

-- keys that don't fall, and rise where each differs from the one before
pub rising_more : {X : Type 0} (n : X → ℕ) (xs : List X) (i t : ℕ) (d : X) (previous : Option ℕ) → IsNonDecreasingBy n xs → i < length xs → IfNone previous (i ≡ 0) → IfSome previous (λ u. (0 < i) × ((e : X) → n (get_or xs (i - 1) e) ≡ u)) → n (get_or xs i d) ≡ t → option_eq eqb previous (Some t) ≡ false → ((k : ℕ) (e : X) → k + 1 < i → n (get_or xs k e) < n (get_or xs (k + 1) e)) → (k : ℕ) (e : X) → k + 1 < i + 1 → n (get_or xs k e) < n (get_or xs (k + 1) e)
rising_more n xs i t d None order h first last here differs up k e lt = absurd (omega (arith, first))
rising_more n xs i t d (Some u) order h first last here differs up k e lt = elim (cases_lt (k + 1) i) [
  | inl earlier ↦ up k e earlier
  | inr at_last ↦
      let at : i - 1 ≡ k = omega arith in
      let next : k + 1 ≡ i = omega arith in
      let before = rw at at (last.1 e) in
      let this = rw (get_or_default xs i d e h) at here in
      let apart : u ≢ t = λ same. true≢false (sym (eq-eqb u t same) ∙ differs) in
      let le = order k i e (omega arith) h in
      rw next (omega (arith, before, this, apart, le))
]
