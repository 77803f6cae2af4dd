-- Lists of darts: what stands in them, and the one before each place.
use Rattle.std.proofs.Common.{◌≡◌, ℕ, zero, suc, ◌+◌, ◌-◌, ◌<◌, ◌≤◌, List, [], ◌∷◌, ◌++◌, length, refl, sym, ap, ◌∙◌, inl, inr, arith}
use Rattle.std.specs.List.{concat}
use Rattle.std.specs.Prelude.{slice_index}
use Rattle.std.proofs.lemmas.Bool.{cases_lt}
use Rattle.std.proofs.lemmas.List.{append-nil, append_assoc, length_push, get_or_push}
use Rattle.tl_tree_index.specs.Hits.{times}
use Rattle.tl_tree_index.proofs.Times.{times-append, same_or, times-same, times-other}
use Rattle.tl_tree_index.proofs.Marks.{times-at}
use Rattle.tl_check_sides.specs.Lists.{before, times_in, and_list, list_at, EachList}

-- ---- one list

-- a number that stands in a list stands at some place
pub record IsAt (xs : List ℕ) (d : ℕ) : Type 0 where
  pub place : ℕ
  pub within : place < length xs
  pub at : slice_index xs place ≡ d

pub place_of : (d : ℕ) (xs : List ℕ) → 1 ≤ times d xs → IsAt xs d
place_of d [] h = absurd (omega (arith, h))
place_of d (x ∷ xs) h = same_or d x
    (λ e. record { place = 0; within = omega arith; at = sym e })
    (λ ne. let t = place_of d xs (omega (arith, h, times-other d x xs ne)) in record { place = suc t.place; within = omega (arith, t.within); at = t.at })

pub stands : (xs : List ℕ) (k d : ℕ) → k < length xs → slice_index xs k ≡ d → 1 ≤ times d xs
stands xs k d h e = rw (← e) (times-at xs k h)

-- where it stands once, it stands at one place
pub one_place : (d : ℕ) (xs : List ℕ) (j k : ℕ) → times d xs ≤ 1 → j < length xs → k < length xs → slice_index xs j ≡ d → slice_index xs k ≡ d → j ≡ k
one_place d [] j k t hj hk ej ek = absurd (omega (arith, hj))
one_place d (x ∷ xs) zero zero t hj hk ej ek = refl
one_place d (x ∷ xs) zero (suc k) t hj hk ej ek = absurd (omega (arith, t, times-same d x xs (sym ej), stands xs k d (omega (arith, hk)) ek))
one_place d (x ∷ xs) (suc j) zero t hj hk ej ek = absurd (omega (arith, t, times-same d x xs (sym ek), stands xs j d (omega (arith, hj)) ej))
one_place d (x ∷ xs) (suc j) (suc k) t hj hk ej ek =
    let less : times d xs ≤ 1 = same_or d x (λ e. omega (arith, t, times-same d x xs e)) (λ ne. omega (arith, t, times-other d x xs ne)) in
    ap suc (one_place d xs j k less (omega (arith, hj)) (omega (arith, hk)) ej ek)

-- ---- a list taken round

-- the place before a place
pub place_before : List ℕ → ℕ → ℕ
place_before xs zero = length xs - 1
place_before xs (suc k) = k

pub before_at : (xs : List ℕ) (k : ℕ) → before xs k ≡ slice_index xs (place_before xs k)
unfolding place_before
before_at xs zero = refl
before_at xs (suc k) = refl

pub place_before_within : (xs : List ℕ) (k : ℕ) → k < length xs → place_before xs k < length xs
unfolding place_before
place_before_within xs zero h = omega (arith, h)
place_before_within xs (suc k) h = omega (arith, h)

pub one_before : (xs : List ℕ) (j k : ℕ) → j < length xs → k < length xs → place_before xs j ≡ place_before xs k → j ≡ k
unfolding place_before
one_before xs zero zero hj hk e = refl
one_before xs zero (suc k) hj hk e = absurd (omega (arith, hk, e))
one_before xs (suc j) zero hj hk e = absurd (omega (arith, hj, e))
one_before xs (suc j) (suc k) hj hk e = ap suc e

pub before_more : (xs : List ℕ) (k : ℕ) → before xs (k + 1) ≡ slice_index xs k
before_more xs k = let e : k + 1 ≡ suc k = omega arith in ap (before xs) e

pub before_stands : (xs : List ℕ) (k : ℕ) → k < length xs → 1 ≤ times (before xs k) xs
before_stands xs k h = rw (before_at xs k) (times-at xs (place_before xs k) (place_before_within xs k h))

-- the darts before two places are two, where each stands once
pub two_before : (xs : List ℕ) (j k : ℕ) → ((d : ℕ) → times d xs ≤ 1) → j < length xs → k < length xs → before xs j ≡ before xs k → j ≡ k
two_before xs j k once hj hk e =
    one_before xs j k hj hk (one_place (before xs k) xs (place_before xs j) (place_before xs k) (once (before xs k)) (place_before_within xs j hj) (place_before_within xs k hk) (sym (before_at xs j) ∙ e) (sym (before_at xs k)))

-- ---- lists

pub concat-more : (lists more : List (List ℕ)) → concat (lists ++ more) ≡ concat lists ++ concat more
concat-more [] more = refl
concat-more (ys ∷ lists) more = ap (λ zs. ys ++ zs) (concat-more lists more) ∙ sym (append_assoc ys (concat lists) (concat more))

pub times-more : (d : ℕ) (lists more : List (List ℕ)) → times_in d (lists ++ more) ≡ times_in d lists + times_in d more
times-more d lists more = ap (times d) (concat-more lists more) ∙ times-append d (concat lists) (concat more)

pub times-and : (d : ℕ) (lists : List (List ℕ)) (xs : List ℕ) → times_in d (and_list lists xs) ≡ times_in d lists + times d xs
times-and d lists xs = times-more d lists (xs ∷ []) ∙ ap (λ ys. times_in d lists + times d ys) (append-nil xs)

pub length-and : (lists : List (List ℕ)) (xs : List ℕ) → length (and_list lists xs) ≡ length lists + 1
length-and lists xs = length_push lists xs

pub list-kept : (lists more : List (List ℕ)) (k : ℕ) → k < length lists → list_at (lists ++ more) k ≡ list_at lists k
list-kept [] more k h = absurd (omega (arith, h))
list-kept (ys ∷ lists) more zero h = refl
list-kept (ys ∷ lists) more (suc k) h = list-kept lists more k (omega (arith, h))

pub list-first : (lists : List (List ℕ)) (xs : List ℕ) (k : ℕ) → k < length lists → list_at (and_list lists xs) k ≡ list_at lists k
list-first lists xs k h = list-kept lists (xs ∷ []) k h

pub list-last : (lists : List (List ℕ)) (xs : List ℕ) (k : ℕ) → length lists ≡ k → list_at (and_list lists xs) k ≡ xs
list-last lists xs k e = get_or_push lists xs [] k e

-- what holds of each list and of one more holds of each
pub each-and : (P : List ℕ → Type 0) (lists : List (List ℕ)) (xs : List ℕ) → EachList P lists → P xs → EachList P (and_list lists xs)
each-and P lists xs each one = λ k h. elim (cases_lt k (length lists)) [
  | inl earlier ↦ rw (list-first lists xs k earlier) (each k earlier)
  | inr later ↦ rw (list-last lists xs k (omega (arith, h, later, length-and lists xs))) one
]

-- a number that stands in lists stands in one of them
pub record IsIn (lists : List (List ℕ)) (d : ℕ) : Type 0 where
  pub list : ℕ
  pub within : list < length lists
  pub place : ℕ
  pub place_within : place < length (list_at lists list)
  pub at : slice_index (list_at lists list) place ≡ d

pub list_of : (d : ℕ) (lists : List (List ℕ)) → 1 ≤ times_in d lists → IsIn lists d
list_of d [] h = absurd (omega (arith, h))
list_of d (xs ∷ lists) h = elim (cases_lt 0 (times d xs)) [
  | inl here ↦ let t = place_of d xs (omega (arith, here)) in record { list = 0; within = omega arith; place = t.place; place_within = t.within; at = t.at }
  | inr none ↦
      let t = list_of d lists (omega (arith, h, none, times-append d xs (concat lists))) in
      record { list = suc t.list; within = omega (arith, t.within); place = t.place; place_within = t.place_within; at = t.at }
]

pub stands_in : (d : ℕ) (lists : List (List ℕ)) (r : ℕ) → r < length lists → times d (list_at lists r) ≤ times_in d lists
stands_in d [] r h = absurd (omega (arith, h))
stands_in d (xs ∷ lists) zero h = omega (arith, times-append d xs (concat lists))
stands_in d (xs ∷ lists) (suc r) h = omega (arith, times-append d xs (concat lists), stands_in d lists r (omega (arith, h)))

-- no number is below 0
pub none_below : {A : Type 0} (k : ℕ) → k < 0 → A
none_below k h = absurd (omega (arith, h))

pub under : (k n m : ℕ) → k < n → n ≤ m → k < m
under k n m h l = omega (arith, h, l)

pub last_below : (n : ℕ) → 0 < n → n - 1 < n
last_below n some = omega (arith, some)

pub before_below : (k n : ℕ) → k < n → k - 1 < n
before_below k n h = omega (arith, h)
