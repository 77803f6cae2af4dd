-- Two ways to part one list.
use Rattle.std.proofs.Common.{◌≡◌, ◌⊎◌, inl, inr, ⊎_elim, ℕ, List, [], ◌∷◌, ◌++◌, refl, sym}
use Rattle.tl_check_faces.specs.Odd.{last_number}

pub last_behind : (xs : List ℕ) (y : ℕ) (ys : List ℕ) → last_number (xs ++ (y ∷ ys)) ≡ last_number (y ∷ ys)
last_behind [] y ys = refl
last_behind (x ∷ []) y ys = refl
last_behind (x ∷ (z ∷ xs)) y ys = last_behind (z ∷ xs) y ys

-- the front ends within the first part, or with it or behind it
pub record EndsWithin (xs ys front back : List ℕ) : Type 0 where
  pub number : ℕ
  pub more : List ℕ
  pub first : xs ≡ front ++ (number ∷ more)
  pub last : back ≡ (number ∷ more) ++ ys

pub record EndsBehind (xs ys front back : List ℕ) : Type 0 where
  pub more : List ℕ
  pub first : front ≡ xs ++ more
  pub last : ys ≡ more ++ back

pub parted_or : (xs ys front back : List ℕ) → xs ++ ys ≡ front ++ back → EndsWithin xs ys front back ⊎ EndsBehind xs ys front back
parted_or [] ys front back e = inr (record { more = front; first = refl; last = e })
parted_or (x ∷ xs) ys [] back e = inl (record { number = x; more = xs; first = refl; last = sym e })
parted_or (x ∷ xs) ys (f ∷ front) back e =
    let head : x ≡ f = cc in
    let tail : xs ++ ys ≡ front ++ back = cc in
    ⊎_elim
    (λ w. inl (record { number = w.number; more = w.more; first = (λ i. head i ∷ w.first i); last = w.last }))
    (λ b. inr (record { more = b.more; first = (λ i. sym head i ∷ b.first i); last = b.last }))
    (parted_or xs ys front back tail)
