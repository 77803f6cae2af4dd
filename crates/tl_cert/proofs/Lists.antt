-- Lists of lists of darts.
use Rattle.std.proofs.Common.{◌≡◌, All, map, ℕ, ◌+◌, ◌<◌, List, length, slice_index_or, sym, ap, subst, ◌∙◌, arith, Vec, Global}
use Rattle.std.proofs.lemmas.List.{length-map, get_or_default}
use Rattle.std.proofs.lemmas.List.Elements.{All-map}
use Rattle.std.proofs.Math.ListN.{get_or-map}
use Rattle.tl_tree_index.proofs.Times.{same_or}
use Rattle.tl_cert.specs.Certificates.{IsDartList}

-- what each vector holds is what each of their lists holds
pub each_list : (lists : List (Vec ℕ Global)) → All IsDartList (map (λ l. l.items) lists) → All (λ l. IsDartList l.items) lists
each_list lists all k d below =
    subst IsDartList (get_or-map (λ (l : Vec ℕ Global). l.items) lists k d)
    (all k d.items (subst (λ n. k < n) (sym (length-map lists (λ (l : Vec ℕ Global). l.items))) below))

pub each_vector : (lists : List (Vec ℕ Global)) → All (λ l. IsDartList l.items) lists → All IsDartList (map (λ l. l.items) lists)
each_vector lists all = All-map IsDartList (λ (l : Vec ℕ Global). l.items) lists all

-- what holds of the first elements and of the next one
pub one_more : {A : Type 0} (P : A → Type 0) (xs : List A) (i : ℕ) (x : A) → i < length xs → x ≡ slice_index_or xs i x → P x
    → ((k : ℕ) (d : A) → k < i → P (slice_index_or xs k d)) → (k : ℕ) (d : A) → k < i + 1 → P (slice_index_or xs k d)
one_more {A} P xs i x within is here before k d lt =
    same_or k i
    (λ e. subst P (is ∙ get_or_default xs i x d within ∙ ap (λ j. slice_index_or xs j d) (sym e)) here)
    (λ ne. before k d (omega (arith, lt, ne)))
