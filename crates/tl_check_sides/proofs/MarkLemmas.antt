-- Marks of darts, one after the other.
use Rattle.std.proofs.Common.{◌≡◌, ℕ, zero, suc, ◌+◌, ◌<◌, ◌≤◌, Bool, true, false, true≢false, cond, List, [], ◌∷◌, length, get_or, take, set, refl, ap, ◌∙◌, length-set, length-take, get_or-set_same, get_or-set_other, arith}
use Rattle.std.proofs.lemmas.List.{take_all}
use Rattle.tl_tree_index.specs.Hits.{times}
use Rattle.tl_tree_index.specs.Keeping.Marked.{mark_at}
use Rattle.tl_tree_index.proofs.Times.{same_or, times-same, times-other}
use Rattle.tl_tree_index.proofs.Marks.{times-at, times-take, times-more, unmarked, is-marked}
use Rattle.tl_check_sides.specs.Keeping.Marked.{marked_count, AddMarks}

mark-same : (marks : List Bool) (d : ℕ) → d < length marks → mark_at (set marks d true) d ≡ 1
mark-same marks d h = ap (λ t. cond t 1 0) (get_or-set_same marks d true false h)

mark-other : (marks : List Bool) (d e : ℕ) → (e ≡ d → ⊥) → mark_at (set marks d true) e ≡ mark_at marks e
mark-other marks d e ne = let f : Bool → ℕ = λ t. cond t 1 0 in ap f (get_or-set_other marks d e true false ne)

count-true : (marks : List Bool) → marked_count (true ∷ marks) ≡ suc (marked_count marks)
count-true marks = refl

count-false : (marks : List Bool) → marked_count (false ∷ marks) ≡ marked_count marks
count-false marks = refl

pub count-set : (marks : List Bool) (d : ℕ) → d < length marks → get_or marks d false ≡ false → marked_count (set marks d true) ≡ marked_count marks + 1
count-set [] d h e = absurd (omega (arith, h))
count-set (true ∷ marks) zero h e = absurd (true≢false e)
count-set (false ∷ marks) zero h e = let s : marked_count (set (false ∷ marks) zero true) ≡ suc (marked_count marks) = refl in omega (arith, s, count-false marks)
count-set (true ∷ marks) (suc d) h e =
    let s : marked_count (set (true ∷ marks) (suc d) true) ≡ suc (marked_count (set marks d true)) = refl in
    omega (arith, s, count-true marks, count-set marks d (omega (arith, h)) e)
count-set (false ∷ marks) (suc d) h e =
    let s : marked_count (set (false ∷ marks) (suc d) true) ≡ marked_count (set marks d true) = refl in
    omega (arith, s, count-false marks, count-set marks d (omega (arith, h)) e)

pub count-within : (marks : List Bool) → marked_count marks ≤ length marks
count-within [] = omega arith
count-within (true ∷ marks) = let l : length (true ∷ marks) ≡ suc (length marks) = refl in omega (arith, l, count-true marks, count-within marks)
count-within (false ∷ marks) = let l : length (false ∷ marks) ≡ suc (length marks) = refl in omega (arith, l, count-false marks, count-within marks)

pub none-added : (old : List Bool) → AddMarks old [] old
none-added old = record { long = refl; marked = λ d. omega arith; count = omega arith }

module _ (old : List Bool) (xs : List ℕ) (k : ℕ) (marks : List Bool) where
  pub add-more : AddMarks old (take k xs) marks → k < length xs → get_or xs k 0 < length marks → get_or marks (get_or xs k 0) false ≡ false → AddMarks old (take (k + 1) xs) (set marks (get_or xs k 0) true)
  add-more m h l e =
      let x = get_or xs k 0 in
      record {
        long = length-set marks x true ∙ m.long;
        marked = λ d. same_or d x
            (λ p. rw p (omega (arith, mark-same marks x l, times-more x xs k h, times-same x x [] refl, m.marked x, unmarked marks x e)))
            (λ ne. omega (arith, mark-other marks x d ne, times-more d xs k h, times-other d x [] ne, m.marked d));
        count = omega (arith, count-set marks x l e, m.count, length-take k xs, length-take (k + 1) xs, h);
      }

  pub is-twice : AddMarks old (take k xs) marks → k < length xs → get_or marks (get_or xs k 0) false ≡ true → 2 ≤ mark_at old (get_or xs k 0) + times (get_or xs k 0) xs
  is-twice m h e =
      let x = get_or xs k 0 in
      omega (arith, m.marked x, is-marked marks x e, times-more x xs k h, times-same x x [] refl, times-take x xs (k + 1))

  pub is-unknown : AddMarks old (take k xs) marks → k < length xs → length marks ≤ get_or xs k 0 → (length old ≤ get_or xs k 0) × (1 ≤ times (get_or xs k 0) xs)
  is-unknown m h l = (omega (arith, m.long, l), times-at xs k h)

pub all-added : (old : List Bool) (xs : List ℕ) (k : ℕ) (marks : List Bool) → AddMarks old (take k xs) marks → length xs ≤ k → AddMarks old xs marks
all-added old xs k marks m l = rw (take_all k xs l) at m

pub not-fewer : (old : List Bool) (xs : List ℕ) (new : List Bool) → AddMarks old xs new → marked_count old ≤ marked_count new
not-fewer old xs new m = omega (arith, m.count)
