-- Sums over pairs.
use Rattle.std.proofs.Common.{◌≡◌, ℕ, ◌+◌, List, [], ◌∷◌, ◌++◌, refl, sym, arith}
use Rattle.tl_tree_index.specs.Pairs.{row_sum, cross_sum, pair_sum, AllRow, AllCross, AllPairs}

pub row-append : (f : ℕ → ℕ → ℕ) (x : ℕ) (ys zs : List ℕ) → row_sum f x (ys ++ zs) ≡ row_sum f x ys + row_sum f x zs
row-append f x [] zs = omega arith
row-append f x (y ∷ ys) zs = omega (arith, row-append f x ys zs)

pub cross-append : (f : ℕ → ℕ → ℕ) (xs ys zs : List ℕ) → cross_sum f (xs ++ ys) zs ≡ cross_sum f xs zs + cross_sum f ys zs
cross-append f [] ys zs = omega arith
cross-append f (x ∷ xs) ys zs = omega (arith, cross-append f xs ys zs)

pub cross-nil : (f : ℕ → ℕ → ℕ) (xs : List ℕ) → cross_sum f xs [] ≡ 0
cross-nil f [] = refl
cross-nil f (x ∷ xs) = omega (arith, cross-nil f xs)

pub cross-append_right : (f : ℕ → ℕ → ℕ) (xs ys zs : List ℕ) → cross_sum f xs (ys ++ zs) ≡ cross_sum f xs ys + cross_sum f xs zs
cross-append_right f [] ys zs = omega arith
cross-append_right f (x ∷ xs) ys zs = omega (arith, row-append f x ys zs, cross-append_right f xs ys zs)

pub pair-append : (f : ℕ → ℕ → ℕ) (xs ys : List ℕ) → pair_sum f (xs ++ ys) ≡ pair_sum f xs + cross_sum f xs ys + pair_sum f ys
pair-append f [] ys = omega arith
pair-append f (x ∷ xs) ys = omega (arith, row-append f x xs ys, pair-append f xs ys)

-- f is the same with its arguments exchanged
abbrev pub IsSymmetric : (ℕ → ℕ → ℕ) → Type 0
IsSymmetric f = (x y : ℕ) → f x y ≡ f y x

pub cross-cons_right : (f : ℕ → ℕ → ℕ) → IsSymmetric f → (xs : List ℕ) (y : ℕ) (ys : List ℕ) → cross_sum f xs (y ∷ ys) ≡ row_sum f y xs + cross_sum f xs ys
cross-cons_right f s [] y ys = omega arith
cross-cons_right f s (x ∷ xs) y ys = omega (arith, s x y, cross-cons_right f s xs y ys)

pub cross-swap : (f : ℕ → ℕ → ℕ) → IsSymmetric f → (xs ys : List ℕ) → cross_sum f xs ys ≡ cross_sum f ys xs
cross-swap f s [] ys = sym (cross-nil f ys)
cross-swap f s (x ∷ xs) ys = omega (arith, cross-cons_right f s ys x xs, cross-swap f s xs ys)

-- ---- what is true of each pair

-- the relation is the same with its sides exchanged
abbrev pub Turns : (ℕ → ℕ → Type 0) → Type 0
Turns P = (x y : ℕ) → P x y → P y x

module _ (P : ℕ → ℕ → Type 0) where
  pub all_row-join : (x : ℕ) (ys zs : List ℕ) → AllRow P x ys → AllRow P x zs → AllRow P x (ys ++ zs)
  all_row-join x [] zs h k = k
  all_row-join x (y ∷ ys) zs h k = (h.0, all_row-join x ys zs h.1 k)

  pub all_cross-nil : (xs : List ℕ) → AllCross P xs []
  all_cross-nil [] = tt
  all_cross-nil (x ∷ xs) = (tt, all_cross-nil xs)

  pub all_cross-join : (xs ys zs : List ℕ) → AllCross P xs ys → AllCross P xs zs → AllCross P xs (ys ++ zs)
  all_cross-join [] ys zs h k = tt
  all_cross-join (x ∷ xs) ys zs h k = (all_row-join x ys zs h.0 k.0, all_cross-join xs ys zs h.1 k.1)

  pub all_pairs-join : (xs ys : List ℕ) → AllPairs P xs → AllCross P xs ys → AllPairs P ys → AllPairs P (xs ++ ys)
  all_pairs-join [] ys h c k = k
  all_pairs-join (x ∷ xs) ys h c k = (all_row-join x xs ys h.0 c.0, all_pairs-join xs ys h.1 c.1 k)

  all_cross-cons : Turns P → (xs : List ℕ) (y : ℕ) (ys : List ℕ) → AllRow P y xs → AllCross P xs ys → AllCross P xs (y ∷ ys)
  all_cross-cons s [] y ys h k = tt
  all_cross-cons s (x ∷ xs) y ys h k = ((s y x h.0, k.0), all_cross-cons s xs y ys h.1 k.1)

  pub all_cross-swap : Turns P → (xs ys : List ℕ) → AllCross P xs ys → AllCross P ys xs
  all_cross-swap s [] ys h = all_cross-nil ys
  all_cross-swap s (x ∷ xs) ys h = all_cross-cons s ys x xs h.0 (all_cross-swap s xs ys h.1)
