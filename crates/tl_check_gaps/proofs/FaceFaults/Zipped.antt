-- Two lists whose items are related place by place, one item at a time.
use Rattle.std.proofs.Common.{ℕ, ◌+◌, ◌<◌, List, [], ◌∷◌, ◌++◌, length, take, get_or, sym, subst}
use Rattle.std.proofs.lemmas.List.{take_more}
use Rattle.std.specs.List.{AllZip}

module _ {A B : Type 0} (R : A → B → Type 0) where
  both_more : (xs : List A) (ys : List B) (x : A) (y : B) → AllZip R xs ys → R x y → AllZip R (xs ++ (x ∷ [])) (ys ++ (y ∷ []))
  both_more [] [] x y each one = (one, tt)
  both_more [] (b ∷ ys) x y each one = absurd each
  both_more (a ∷ xs) [] x y each one = absurd each
  both_more (a ∷ xs) (b ∷ ys) x y each one = (each.0, both_more xs ys x y each.1 one)

  -- one more, of the item at the next place
  pub zipped_next : (xs : List A) (ys : List B) (k : ℕ) (d : A) (y : B) → k < length xs → AllZip R (take k xs) ys → R (get_or xs k d) y →
      AllZip R (take (k + 1) xs) (ys ++ (y ∷ []))
  zipped_next xs ys k d y lt each one =
      subst (λ l. AllZip R l (ys ++ (y ∷ []))) (sym (take_more xs k d lt)) (both_more (take k xs) ys (get_or xs k d) y each one)
