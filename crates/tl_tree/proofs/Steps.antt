-- One step of a loop over a list, seen from what is left of it.
use Rattle.std.proofs.Common.{◌≡◌, ℕ, zero, suc, ◌+◌, ◌<◌, ◌≤◌, List, [], ◌∷◌, ◌++◌, length, get_or, take, drop, ◌-◌, sym, subst, arith}
use Rattle.std.proofs.lemmas.Grind.{common_steps}
use Rattle.std.proofs.lemmas.List.{at_drop_more, at_drop_all}
use Rattle.tl_tree_index.specs.Pairs.{row_sum, cross_sum, pair_sum, AllRow, AllCross, AllPairs}
use Rattle.tl_tree_index.specs.Fits.{AreBelow}

at_drop : (f : List ℕ → ℕ) (xs : List ℕ) (k : ℕ) → k < length xs → f (drop k xs) ≡ f (get_or xs k 0 ∷ drop (k + 1) xs)
at_drop f xs k h = at_drop_more f xs k 0 h

pub row-step : (f : ℕ → ℕ → ℕ) (x : ℕ) (ys : List ℕ) (k : ℕ) → k < length ys → row_sum f x (drop k ys) ≡ f x (get_or ys k 0) + row_sum f x (drop (k + 1) ys)
row-step f x ys k h = at_drop (row_sum f x) ys k h

pub row-end : (f : ℕ → ℕ → ℕ) (x : ℕ) (ys : List ℕ) (k : ℕ) → length ys ≤ k → row_sum f x (drop k ys) ≡ 0
row-end f x ys k h = at_drop_all (row_sum f x) ys k h

pub cross-step : (f : ℕ → ℕ → ℕ) (xs ys : List ℕ) (k : ℕ) → k < length xs → cross_sum f (drop k xs) ys ≡ row_sum f (get_or xs k 0) ys + cross_sum f (drop (k + 1) xs) ys
cross-step f xs ys k h = at_drop (λ zs. cross_sum f zs ys) xs k h

pub cross-end : (f : ℕ → ℕ → ℕ) (xs ys : List ℕ) (k : ℕ) → length xs ≤ k → cross_sum f (drop k xs) ys ≡ 0
cross-end f xs ys k h = at_drop_all (λ zs. cross_sum f zs ys) xs k h

pub pair-step : (f : ℕ → ℕ → ℕ) (xs : List ℕ) (k : ℕ) → k < length xs → pair_sum f (drop k xs) ≡ row_sum f (get_or xs k 0) (drop (k + 1) xs) + pair_sum f (drop (k + 1) xs)
pair-step f xs k h = at_drop (pair_sum f) xs k h

pub pair-end : (f : ℕ → ℕ → ℕ) (xs : List ℕ) (k : ℕ) → length xs ≤ k → pair_sum f (drop k xs) ≡ 0
pair-end f xs k h = at_drop_all (pair_sum f) xs k h

pub below-at : (n : ℕ) (xs : List ℕ) (k : ℕ) → k < length xs → AreBelow n xs → get_or xs k 0 < n
below-at n [] k h b = absurd (omega arith)
below-at n (x ∷ xs) zero h b = b.0
below-at n (x ∷ xs) (suc k) h b = below-at n xs k (omega arith) b.1

pub below-drop : (n : ℕ) (xs : List ℕ) (k : ℕ) → AreBelow n xs → AreBelow n (drop k xs)
below-drop n xs zero b = b
below-drop n [] (suc k) b = b
below-drop n (x ∷ xs) (suc k) b = below-drop n xs k b.1

pub below-parts : (n : ℕ) (xs ys : List ℕ) → AreBelow n (xs ++ ys) → AreBelow n xs × AreBelow n ys
below-parts n [] ys h = (tt, h)
below-parts n (x ∷ xs) ys h = let k = below-parts n xs ys h.1 in ((h.0, k.0), k.1)

-- what a slice from k on has
pub rest-of : (xs : List ℕ) (k : ℕ) → take (length xs - k) (drop k xs) ≡ drop k xs
rest-of xs k = grind (arith, common_steps)

-- ---- what is true of each pair

at_drop-fact : (P : List ℕ → Type 0) (xs : List ℕ) (k : ℕ) → k < length xs → P (get_or xs k 0 ∷ drop (k + 1) xs) → P (drop k xs)
at_drop-fact P xs k h p = let e = at_drop_more (λ (ys : List ℕ). ys) xs k 0 h in subst P (sym e) p

at_drop-end : (P : List ℕ → Type 0) (xs : List ℕ) (k : ℕ) → length xs ≤ k → P [] → P (drop k xs)
at_drop-end P xs k h p = let e = at_drop_all (λ (ys : List ℕ). ys) xs k h in subst P (sym e) p

module _ (P : ℕ → ℕ → Type 0) where
  pub all_row-step : (x : ℕ) (ys : List ℕ) (k : ℕ) → k < length ys → P x (get_or ys k 0) → AllRow P x (drop (k + 1) ys) → AllRow P x (drop k ys)
  all_row-step x ys k h p q = at_drop-fact (AllRow P x) ys k h (p, q)

  pub all_row-end : (x : ℕ) (ys : List ℕ) (k : ℕ) → length ys ≤ k → AllRow P x (drop k ys)
  all_row-end x ys k h = at_drop-end (AllRow P x) ys k h tt

  pub all_cross-step : (xs ys : List ℕ) (k : ℕ) → k < length xs → AllRow P (get_or xs k 0) ys → AllCross P (drop (k + 1) xs) ys → AllCross P (drop k xs) ys
  all_cross-step xs ys k h p q = let Q : List ℕ → Type 0 = λ zs. AllCross P zs ys in at_drop-fact Q xs k h (p, q)

  pub all_cross-end : (xs ys : List ℕ) (k : ℕ) → length xs ≤ k → AllCross P (drop k xs) ys
  all_cross-end xs ys k h = let Q : List ℕ → Type 0 = λ zs. AllCross P zs ys in at_drop-end Q xs k h tt

  pub all_pairs-step : (xs : List ℕ) (k : ℕ) → k < length xs → AllRow P (get_or xs k 0) (drop (k + 1) xs) → AllPairs P (drop (k + 1) xs) → AllPairs P (drop k xs)
  all_pairs-step xs k h p q = at_drop-fact (AllPairs P) xs k h (p, q)

  pub all_pairs-end : (xs : List ℕ) (k : ℕ) → length xs ≤ k → AllPairs P (drop k xs)
  all_pairs-end xs k h = at_drop-end (AllPairs P) xs k h tt
