-- Steps of a list that is filled pair by pair.
use Rattle.std.proofs.Common.{◌≡◌, inl, inr, ℕ, ◌+◌, ◌<◌, ◌≤◌, List, [], ◌∷◌, ◌++◌, sym, ◌∙◌, arith, length-append}
use Rattle.std.specs.List.{Any}
use Rattle.std.proofs.lemmas.Bool.{cases_lt}
use Rattle.std.proofs.lemmas.List.{get_or_append_left}
use Rattle.std.proofs.lemmas.List.Elements.{All-nil, All-push, All-weaker}
use Rattle.std.proofs.lemmas.List.Quantifiers.{Any-push, all_pairs_push}
use Rattle.tl_check_planar.specs.Listing.Orders.{IsPairBefore}
use Rattle.tl_check_planar.specs.Listing.Keeping.Reaching.{ReachTo}

-- what stands in a list stands in it with one more at its end
pub any_kept : {X : Type 0} (P : X → Type 0) (xs : List X) (y : X) → Any P xs → Any P (xs ++ y ∷ [])
any_kept P xs y a = (a.0, a.1, omega (arith, length-append xs (y ∷ []), a.2), get_or_append_left xs (y ∷ []) a.1 a.0 a.2 ∙ a.3, a.4)

pub pair_on : (a b c d e : ℕ) → IsPairBefore a b c d → d ≤ e → IsPairBefore a b c e
pair_on a b c d e (inl less) on = inl less
pair_on a b c d e (inr same) on = inr (same.0, omega (arith, same.1, on))

module _ {X : Type 0} (first second : X → ℕ) (Good : X → Type 0) (Wanted : ℕ → ℕ → Type 0) where
  pub none_yet : ReachTo first second Good Wanted 0 0 []
  none_yet = record {
    good = All-nil _;
    rising = λ i j d lt within. absurd (omega (arith, within));
    before = All-nil _;
    each = λ i j wanted before. absurd (nothing i j before);
  }
    where
      nothing : (i j : ℕ) → ¬ IsPairBefore i j 0 0
      nothing i j (inl less) = omega (arith, less)
      nothing i j (inr same) = omega (arith, same.1)

  -- where no pair of a from b on is wanted, up to the last one
  pub row_done : (a b : ℕ) (xs : List X) → ((j : ℕ) → b ≤ j → ¬ Wanted a j) → ReachTo first second Good Wanted a b xs → ReachTo first second Good Wanted (a + 1) 0 xs
  row_done a b xs no_more r = record {
    good = r.good;
    rising = r.rising;
    before = All-weaker _ _ (λ x h. next (first x) (second x) h) xs r.before;
    each = λ i j wanted before. r.each i j wanted (back i j wanted before);
  }
    where
      next : (i j : ℕ) → IsPairBefore i j a b → IsPairBefore i j (a + 1) 0
      next i j (inl less) = inl (omega (arith, less))
      next i j (inr same) = inl (omega (arith, same.0))

      back : (i j : ℕ) → Wanted i j → IsPairBefore i j (a + 1) 0 → IsPairBefore i j a b
      back i j wanted (inr same) = absurd (omega (arith, same.1))
      back i j wanted (inl less) = elim (cases_lt i a) [
        | inl lt ↦ inl lt
        | inr last ↦
            let here : i ≡ a = omega (arith, less, last) in
            elim (cases_lt j b) [
              | inl lt ↦ inr (here, lt)
              | inr past ↦ absurd (no_more j (omega (arith, past)) (rw here at wanted))
            ]
      ]

  -- where no pair of a from b up to c is wanted
  pub passed : (a b c : ℕ) (xs : List X) → b ≤ c → ((j : ℕ) → b ≤ j → j < c → ¬ Wanted a j) → ReachTo first second Good Wanted a b xs → ReachTo first second Good Wanted a c xs
  passed a b c xs on none r = record {
    good = r.good;
    rising = r.rising;
    before = All-weaker _ _ (λ x h. pair_on (first x) (second x) a b c h on) xs r.before;
    each = λ i j wanted before. r.each i j wanted (back i j wanted before);
  }
    where
      back : (i j : ℕ) → Wanted i j → IsPairBefore i j a c → IsPairBefore i j a b
      back i j wanted (inl less) = inl less
      back i j wanted (inr same) = elim (cases_lt j b) [
        | inl lt ↦ inr (same.0, lt)
        | inr past ↦ absurd (none j (omega (arith, past)) same.1 (rw same.0 at wanted))
      ]

  -- the pair of a and b itself is added
  pub added : (a b : ℕ) (xs : List X) (x : X) → first x ≡ a → second x ≡ b → Good x → ReachTo first second Good Wanted a b xs → ReachTo first second Good Wanted a (b + 1) (xs ++ x ∷ [])
  added a b xs x is_first is_second good r = record {
    good = All-push Good xs x r.good good;
    rising = all_pairs_push (λ y z. IsPairBefore (first y) (second y) (first z) (second z)) xs x r.rising (λ k d lt. rw (is_first, is_second) (r.before k d lt));
    before = All-push (λ y. IsPairBefore (first y) (second y) a (b + 1)) xs x (All-weaker _ _ (λ y h. pair_on (first y) (second y) a b (b + 1) h (omega arith)) xs r.before) (inr (is_first, omega (arith, is_second)));
    each = λ i j wanted before. listed i j wanted before;
  }
    where
      listed : (i j : ℕ) → Wanted i j → IsPairBefore i j a (b + 1) → Any (λ y. (first y ≡ i) × (second y ≡ j)) (xs ++ x ∷ [])
      listed i j wanted (inl less) = any_kept _ xs x (r.each i j wanted (inl less))
      listed i j wanted (inr same) = elim (cases_lt j b) [
        | inl lt ↦ any_kept _ xs x (r.each i j wanted (inr (same.0, lt)))
        | inr last ↦ Any-push _ xs x (is_first ∙ sym same.0, omega (arith, is_second, last, same.1))
      ]
