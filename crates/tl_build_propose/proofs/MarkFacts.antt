-- Darts that a walk takes, one after the other.
use Rattle.std.proofs.Common.{◌≡◌, ℕ, zero, suc, ◌<◌, ◌≤◌, Bool, true, cond, false, Vec, Global, map, replicate, append-nil, subst, List, [], ◌∷◌, ◌++◌, length, get_or, set, refl, ap, sym, ◌∙◌, length-set, length-append, get_or-set_same, get_or-set_other, arith}
use Rattle.tl_tree_index.specs.Keeping.Marked.{mark_at}
use Rattle.tl_tree_index.proofs.Times.{same_or, times-same, times-other, times-append}
use Rattle.tl_tree_index.proofs.Marks.{unmarked}
use Rattle.std.proofs.lemmas.List.{map-append}
use Rattle.tl_tree.proofs.Checks.{none-marked}
use Rattle.tl_check_sides.specs.Lists.{and_list}
use Rattle.tl_check_sides.specs.Keeping.Marked.{AddMarks, MarkLists, marked_count}
use Rattle.tl_check_sides.proofs.TakeFacts.{mark_more}
use Rattle.tl_build_propose.specs.Keeping.Lists.{AreUnmarked}
use Rattle.tl_build_propose.proofs.ListLemmas.{all_in, all_in_append}
use Rattle.tl_check_sides.proofs.MarkLemmas.{count-set}

pub mark_same : (marks : List Bool) (d : ℕ) → d < length marks → mark_at (set marks d true) d ≡ 1
mark_same marks d h = ap (λ t. cond t 1 0) (get_or-set_same marks d true false h)

pub mark_other : (marks : List Bool) (d e : ℕ) → (e ≡ d → ⊥) → mark_at (set marks d true) e ≡ mark_at marks e
mark_other marks d e ne = let f : Bool → ℕ = λ t. cond t 1 0 in ap f (get_or-set_other marks d e true false ne)

-- one dart more is taken
pub add_taken : (old : List Bool) (xs : List ℕ) (marks : List Bool) (d : ℕ) → AddMarks old xs marks → d < length marks → get_or marks d false ≡ false → AddMarks old (xs ++ d ∷ []) (set marks d true)
add_taken old xs marks d m l e =
    record {
      long = length-set marks d true ∙ m.long;
      marked = λ i. same_or i d
          (λ p. rw p (omega (arith, mark_same marks d l, times-append d xs (d ∷ []), times-same d d [] refl, m.marked d, unmarked marks d e)))
          (λ ne. omega (arith, mark_other marks d i ne, times-append i xs (d ∷ []), times-other i d [] ne, m.marked i));
      count = omega (arith, count-set marks d l e, m.count, length-append xs (d ∷ []));
    }

-- the first dart is taken, or the next to be taken is the first
pub begun_more : (marks : List Bool) (first dart next : ℕ) → dart < length marks → ((dart ≡ first → ⊥) → mark_at marks first ≡ 1) → (next ≡ first → ⊥) → mark_at (set marks dart true) first ≡ 1
begun_more marks first dart next l before ne =
    same_or first dart
    (λ p. rw p (mark_same marks dart l))
    (λ other. mark_other marks dart first other ∙ before (λ e. other (sym e)))

mark_few : (marks : List Bool) (d : ℕ) → mark_at marks d ≤ 1
mark_few marks d = elim (get_or marks d false) as (λ b. cond b 1 0 ≤ 1) [ true ↦ omega arith | false ↦ omega arith ]

-- no mark of new ones
count_free : (n : ℕ) → marked_count (replicate n false) ≡ 0
count_free zero = refl
count_free (suc n) = count_free n

pub free_marks : (n : ℕ) (marks : List Bool) → marks ≡ replicate n false → AreUnmarked marks
free_marks n marks e = subst AreUnmarked (sym e) (record { each = none-marked n; count = count_free n })

pub no_lists : (n : ℕ) (marks : List Bool) → length marks ≡ n → AreUnmarked marks → MarkLists n [] marks
no_lists n marks l f = record { long = l; marked = f.each }

-- a walk that took a dart has one
pub some_taken : (old new : List Bool) (xs : List ℕ) (d : ℕ) → AddMarks old xs new → mark_at old d ≡ 0 → mark_at new d ≡ 1 → 0 < length xs
some_taken old new [] d m z o = absurd (omega (arith, m.marked d, z, o))
some_taken old new (x ∷ xs) d m z o = omega arith

-- the darts that were taken stay so
pub stay_taken : (old new : List Bool) (xs : List ℕ) (d : ℕ) → AddMarks old xs new → mark_at old d ≡ 1 → mark_at new d ≡ 1
stay_taken old new xs d m o = omega (arith, m.marked d, o, mark_few new d)

module _ (old new : List Bool) (xs : List ℕ) (lists pushed : List (Vec ℕ Global)) (v : Vec ℕ Global) where
  -- a walk more is pushed
  pub lists_more : (n : ℕ) → MarkLists n (map (λ w. w.items) lists) old → AddMarks old xs new → v.items ≡ xs → pushed ≡ lists ++ v ∷ [] → MarkLists n (map (λ w. w.items) pushed) new
  lists_more n m a e p =
      let more : map (λ (w : Vec ℕ Global). w.items) pushed ≡ and_list (map (λ w. w.items) lists) xs =
      ap (map (λ w. w.items)) p ∙ (map-append _ lists (v ∷ []) ∙ ap (λ l. map (λ (w : Vec ℕ Global). w.items) lists ++ l ∷ []) e) in
      subst (λ l. MarkLists n l new) (sym more) (mark_more n (map (λ w. w.items) lists) old xs new m a)

  pub count_more : length (all_in lists) ≡ marked_count old → AddMarks old xs new → v.items ≡ xs → pushed ≡ lists ++ v ∷ [] → length (all_in pushed) ≡ marked_count new
  count_more c a e p =
      let whole : all_in pushed ≡ all_in lists ++ (v.items ++ []) = ap all_in p ∙ all_in_append lists (v ∷ []) in
      omega (arith, c, a.count, ap length whole, length-append (all_in lists) (v.items ++ []), ap length (append-nil v.items), ap length e)
