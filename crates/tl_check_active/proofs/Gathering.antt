-- What is counted of lists of events and of numbers.
use Rattle.std.proofs.Common.{◌≡◌, ℕ, ◌+◌, ◌==◌, Bool, if◌then◌else◌, List, [], ◌∷◌, ◌++◌, sum_by, count_by, refl, sym, ap, ◌∙◌, arith}
use Rattle.std.specs.List.Sorted.{IsPermutation}
use Rattle.std.proofs.lemmas.Bool.Decides.{nat_tests}
use Rattle.std.proofs.lemmas.List.Sorted.{sum_by-IsPermutation}
use Rattle.std.proofs.lemmas.List.Sums.{sum_by-cons, sum_by-append}
use Rattle.tl_tree_index.specs.Hits.{times}
use Rattle.tl_tree_index.proofs.Times.{times-append}
use Rattle.tl_check_active.specs.declared.events.Event.{Event}
use Rattle.tl_check_active.proofs.Bits.{bit}

-- ---- numbers

abbrev is_it : ℕ → ℕ → ℕ
is_it s x = if s == x then 1 else 0

times_sum : (s : ℕ) (xs : List ℕ) → times s xs ≡ sum_by (is_it s) xs
times_sum s [] = refl
times_sum s (x ∷ xs) = ap (λ n. is_it s x + n) (times_sum s xs) ∙ sym (sum_by-cons (is_it s) x xs)

-- in another order a number stands as often
pub times_moved : (s : ℕ) (xs ys : List ℕ) → IsPermutation xs ys → times s ys ≡ times s xs
times_moved s xs ys moved = times_sum s ys ∙ sum_by-IsPermutation (is_it s) xs ys moved ∙ sym (times_sum s xs)

-- ---- events

-- what is noted of an event
pub noted : (s : ℕ) (list : List ℕ) (x : Event) (f : Event → Bool) → f x ≡ (x.segment == s) → times s (list ++ x.segment ∷ []) ≡ times s list + count_by f (x ∷ [])
noted s list x f is =
    let both = times-append s list (x.segment ∷ []) in
    let one : bit (f x) ≡ bit (x.segment == s) = ap bit is in
    let same : bit (x.segment == s) ≡ times s (x.segment ∷ []) = turned x.segment s in
    let sum = sum_by-cons (λ (e : Event). bit (f e)) x [] in
    omega (arith, both, one, same, sum)
  where
    turned : (t s : ℕ) → bit (t == s) ≡ (if s == t then 1 else 0) + 0
    turned t s = grind (arith, nat_tests)

-- what is counted of two lists
pub counted_both : (f : Event → Bool) (events more : List Event) → count_by f (events ++ more) ≡ count_by f events + count_by f more
counted_both f events more = sum_by-append (λ (e : Event). bit (f e)) events more
