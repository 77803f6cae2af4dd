-- Numbers that are listed because they pass are those that are counted.
use Rattle.std.proofs.Common.{◌≡◌, ℕ, zero, suc, ◌+◌, ◌-◌, ◌<◌, ◌≤◌, ◌⊎◌, Result, Ok, Err, add-one, ℤ, pos, Bool, true, false, if◌then◌else◌, inl, inr, List, [], ◌∷◌, ◌++◌, length, get_or, All, Contains, sym, ap, subst, ◌∙◌, refl, arith}
use Rattle.std.specs.List.Sorted.{IsStrictlyIncreasing}
use Rattle.std.specs.Result.{is_ok, is_err}
use Rattle.std.proofs.lemmas.Bool.{cases_lt, cases_order, false≢true}
use Rattle.std.proofs.lemmas.List.{length-append, get_or_append_left, get_or-append_right}
use Rattle.std.proofs.lemmas.List.Elements.{All-nil, All-push, Contains-append_left, Contains-append_right}
use Rattle.tl_check_inside.specs.Keeping.Listed.{passing}
use Rattle.tl_check_inside.specs.Places.{AreCounted, HasCount}

all_weaker : (P Q : ℕ → Type 0) (xs : List ℕ) → ((x : ℕ) → P x → Q x) → All P xs → All Q xs
all_weaker P Q xs f h k d lt = f (get_or xs k d) (h k d lt)

module _ (P : ℕ → Bool) where
  all_pass : (n : ℕ) → All (λ p. (p < n) × (P p ≡ true)) (passing P n)
  all_pass zero = All-nil (λ p. (p < 0) × (P p ≡ true))
  all_pass (suc n) = go (P n) refl (all_weaker (λ p. (p < n) × (P p ≡ true)) (λ p. (p < suc n) × (P p ≡ true)) (passing P n) (λ p h. (let lt = h.0 in omega (arith, lt), h.1)) (all_pass n))
    where
      go : (b : Bool) → P n ≡ b → All (λ p. (p < suc n) × (P p ≡ true)) (passing P n) → All (λ p. (p < suc n) × (P p ≡ true)) (if b then passing P n ++ n ∷ [] else passing P n)
      go true e wider = All-push (λ p. (p < suc n) × (P p ≡ true)) (passing P n) n wider (omega arith, e)
      go false e wider = wider

  rising_push : (n : ℕ) (xs : List ℕ) → All (λ x. x < n) xs → IsStrictlyIncreasing xs → IsStrictlyIncreasing (xs ++ n ∷ [])
  rising_push n xs below up k lt =
      let long : k + 1 < length xs + 1 = subst (λ m. k + 1 < m) (length-append xs (n ∷ [])) lt in
      let here : get_or (xs ++ n ∷ []) k 0 ≡ get_or xs k 0 = get_or_append_left xs (n ∷ []) 0 k (omega (arith, long)) in
      elim (cases_lt (k + 1) (length xs)) [
        | inl inner ↦
            let next : get_or (xs ++ n ∷ []) (k + 1) 0 ≡ get_or xs (k + 1) 0 = get_or_append_left xs (n ∷ []) 0 (k + 1) inner in
            let rises = up k inner in
            omega (arith, here, next, rises)
        | inr end ↦
            let last : length xs ≡ k + 1 = omega (arith, long, end) in
            let next : get_or (xs ++ n ∷ []) (k + 1) 0 ≡ get_or (n ∷ []) (k + 1 - (k + 1)) 0 = get_or-append_right xs (n ∷ []) (k + 1) (k + 1) 0 last (omega arith) in
            let first : k + 1 - (k + 1) ≡ 0 = omega arith in
            let is : get_or (xs ++ n ∷ []) (k + 1) 0 ≡ n = next ∙ ap (λ i. get_or (n ∷ []) i 0) first in
            let less = below k 0 (omega (arith, long)) in
            omega (arith, here, is, less)
      ]

  all_rise : (n : ℕ) → IsStrictlyIncreasing (passing P n)
  all_rise zero = λ k lt. absurd (let no : k + 1 < 0 = lt in omega (arith, no))
  all_rise (suc n) = go (P n) (all_rise n)
    where
      go : (b : Bool) → IsStrictlyIncreasing (passing P n) → IsStrictlyIncreasing (if b then passing P n ++ n ∷ [] else passing P n)
      go true up = rising_push n (passing P n) (all_weaker (λ p. (p < n) × (P p ≡ true)) (λ p. p < n) (passing P n) (λ p h. h.0) (all_pass n)) up
      go false up = up

  contains_itself : (n : ℕ) → Contains (n ∷ []) n
  contains_itself n = (0, omega arith, refl)

  contained : (n p : ℕ) → p < n → P p ≡ true → Contains (passing P n) p
  contained zero p lt e = absurd (let none : p < 0 = lt in omega (arith, none))
  contained (suc n) p lt e = elim (cases_order p n) [
    | inl same ↦ last (P n) refl same
    | inr other ↦ first (P n) (contained n p (elim other [ inl less ↦ less | inr more ↦ absurd (omega (arith, more, lt)) ]) e)
  ]
    where
      last : (b : Bool) → P n ≡ b → p ≡ n → Contains (if b then passing P n ++ n ∷ [] else passing P n) p
      last true f same = subst (λ k. Contains (passing P n ++ n ∷ []) k) (sym same) (Contains-append_right (passing P n) (n ∷ []) n (contains_itself n))
      last false f same = absurd (let clash : true ≡ false = sym e ∙ ap P same ∙ f in cc)

      first : (b : Bool) → Contains (passing P n) p → Contains (if b then passing P n ++ n ∷ [] else passing P n) p
      first true c = Contains-append_left (passing P n) (n ∷ []) p c
      first false c = c

-- those that pass are those whose count isn't 0
pub counted_by : (P : ℕ → Bool) (counts : ℕ → ℤ → Type 0) (n : ℕ) → ((p : ℕ) → p < n → P p ≡ true → HasCount (counts p)) → ((p : ℕ) → p < n → P p ≡ false → counts p (pos 0)) → AreCounted n counts (passing P n)
counted_by P counts n some none = record {
  rising = all_rise P n;
  each = all_weaker (λ p. (p < n) × (P p ≡ true)) (λ p. (p < n) × HasCount (counts p)) (passing P n) (λ p h. (h.0, some p h.0 h.1)) (all_pass P n);
  others = λ p lt. go p lt (P p) refl;
}
  where
    go : (p : ℕ) → p < n → (b : Bool) → P p ≡ b → Contains (passing P n) p ⊎ counts p (pos 0)
    go p lt true e = inl (contained P n p lt e)
    go p lt false e = inr (none p lt e)

-- one number more, that passes
pub passed_on : (P : ℕ → Bool) (n : ℕ) (old new : List ℕ) → old ≡ passing P n → P n ≡ true → new ≡ old ++ n ∷ [] → new ≡ passing P (n + 1)
passed_on P n old new is passes more =
    more ∙ ap (λ xs. xs ++ n ∷ []) is ∙ sym (ap (passing P) (add-one n) ∙ ap (λ (b : Bool). if b then passing P n ++ n ∷ [] else passing P n) passes)

-- or that doesn't
pub passed_by : (P : ℕ → Bool) (n : ℕ) (old new : List ℕ) → old ≡ passing P n → P n ≡ false → new ≡ old → new ≡ passing P (n + 1)
passed_by P n old new is fails same =
    same ∙ is ∙ sym (ap (passing P) (add-one n) ∙ ap (λ (b : Bool). if b then passing P n ++ n ∷ [] else passing P n) fails)

-- what is pushed without an error is appended
pub pushed : {X T E : Type 0} (r : Result T E) (old more new : List X) → new ≡ (if is_ok r then more else old) → is_err r ≡ false → new ≡ more
pushed (Ok x) old more new is ok = is
pushed (Err e) old more new is bad = absurd (false≢true (sym bad))
