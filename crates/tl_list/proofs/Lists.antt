-- What stands in lists.
use Rattle.std.proofs.Common.{◌≡◌, ◌≢◌, ◌⊎◌, inl, inr, ℕ, zero, suc, ◌<◌, List, [], ◌∷◌, map, None, length, get_or, refl, ap, arith}
use Rattle.std.specs.Prelude.{slice_get}
use Rattle.tl_tree_index.proofs.Times.{same_or}
use Rattle.std.specs.List.{Any, Contains}

-- what stands in a list stands in what is made of it
held_map_at : {X Y : Type 0} (f : X → Y) (xs : List X) (x : X) (k : ℕ) → k < length xs → get_or xs k x ≡ x → Contains (map f xs) (f x)
held_map_at f [] x k lt e = absurd (omega (arith, lt))
held_map_at f (y ∷ xs) x zero lt e = (zero, omega arith, ap f e)
held_map_at f (y ∷ xs) x (suc k) lt e = let rest = held_map_at f xs x k (omega (arith, lt)) e in (suc rest.0, omega (arith, rest.1), rest.2)

pub held_map : {X Y : Type 0} (f : X → Y) (xs : List X) (x : X) → Contains xs x → Contains (map f xs) (f x)
held_map f xs x held = held_map_at f xs x held.0 held.1 held.2

pub named_by : {X : Type 0} (P : X → Type 0) (xs : List X) (x : X) → Contains xs x → P x → Any P xs
named_by P xs x held p = (held.0, x, held.1, held.2, p)

-- a list that isn't empty has a first element
pub some_first : {X : Type 0} (xs : List X) → xs ≢ [] → (x : X) × Contains xs x
some_first [] some = absurd (some refl)
some_first (x ∷ xs) some = (x, (zero, omega arith, refl))

pub none_first : {X : Type 0} (xs : List X) → slice_get xs 0 ≡ None → xs ≡ []
none_first [] none = refl
none_first (x ∷ xs) none = absurd cc

-- a number stands in a list, or doesn't
pub contains_or : (xs : List ℕ) (x : ℕ) → Contains xs x ⊎ (¬ Contains xs x)
contains_or [] x = inr (λ h. let lt : h.0 < 0 = h.1 in omega (arith, lt))
contains_or (y ∷ ys) x =
    same_or y x (λ e. inl (0, omega arith, e))
    (λ other. elim (contains_or ys x) [
      | inl h ↦ inl (suc h.0, let lt = h.1 in omega (arith, lt), h.2)
      | inr none ↦ inr (λ h. go other none h.0 h.1 h.2)
    ])
  where
    go : (y ≡ x → ⊥) → (¬ Contains ys x) → (k : ℕ) → k < length (y ∷ ys) → get_or (y ∷ ys) k x ≡ x → ⊥
    go other none zero lt is = other is
    go other none (suc k) lt is = none (k, omega (arith, lt), is)
