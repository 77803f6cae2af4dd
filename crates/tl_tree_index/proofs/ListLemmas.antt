-- Lists of the numbers below n, rising.
use Rattle.std.proofs.Common.{◌≡◌, ℕ, ◌+◌, ◌++◌, arith, List, [], ◌∷◌, length, map, refl, ap, sym, ◌∙◌, add-one}
use Rattle.std.proofs.lemmas.List.{map-append}
use Rattle.tl_tree_index.specs.Lists.{up}

pub up_none : up 0 ≡ []
unfolding up
up_none = refl

pub up_more : (n : ℕ) → up (n + 1) ≡ up n ++ n ∷ []
unfolding up
up_more n = rw (add-one) refl

-- one more is pushed
pub up_pushed : {X : Type 0} (number : X → ℕ) (xs ys : List X) (n : ℕ) (x : X) →
    ys ≡ xs ++ x ∷ [] → number x ≡ n → map number xs ≡ up n → map number ys ≡ up (n + 1)
up_pushed number xs ys n x e at h =
    ap (map number) e ∙ (map-append number xs (x ∷ []) ∙ (rw (at, h) (sym (up_more n))))

pub no_items : {X : Type 0} (xs : List X) → length xs ≡ 0 → xs ≡ []
no_items [] e = refl
no_items (x ∷ xs) e = absurd (omega (arith, e))
