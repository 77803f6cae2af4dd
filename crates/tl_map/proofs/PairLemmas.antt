use Rattle.std.proofs.Common.{◌≡◌, ℕ, suc, ◌+◌, ◌<◌, inl, inr, Some, None, List, [], ◌∷◌, length, get_or, refl, arith}
use Rattle.std.specs.Prelude.{slice_get}
use Rattle.std.proofs.lemmas.Bool.{cases_lt}
use Rattle.std.proofs.lemmas.Option.{slice_get-get_or}
use Rattle.std.proofs.lemmas.List.{get_or-map}
use Rattle.tl_map_rules.specs.declared.entry.SidesEntry.{SidesEntry}
use Rattle.tl_map.specs.Keeping.Sided.{sides_tlids}

-- what a look-up of a list gives
pub told : (xs : List ℕ) (i x : ℕ) → i < length xs → slice_get xs i ≡ Some x → get_or xs i 0 ≡ x
told xs i x lt at = let h = slice_get-get_or xs i 0 lt in cc

-- a record, for where a list has none
pub no_sides : SidesEntry
no_sides = record { tlid = 0; start_cell = None; end_cell = None; left = None; right = None }

-- the TLID of the i-th sides
pub tlid_at : (sides : List SidesEntry) (i : ℕ) (d : SidesEntry) → i < length sides → get_or (sides_tlids sides) i 0 ≡ (get_or sides i d).tlid
tlid_at sides i d lt = get_or-map (λ (s : SidesEntry). s.tlid) sides i d 0 lt

-- lists of one length with the same numbers
pub same_lists : (xs ys : List ℕ) → length xs ≡ length ys → ((k : ℕ) → k < length xs → get_or xs k 0 ≡ get_or ys k 0) → xs ≡ ys
same_lists [] [] long each = refl
same_lists [] (y ∷ ys) long each = absurd (omega arith)
same_lists (x ∷ xs) [] long each = absurd (omega arith)
same_lists (x ∷ xs) (y ∷ ys) long each =
    let first : x ≡ y = each 0 (omega arith) in
    let rest = same_lists xs ys (omega arith) (λ k lt. each (suc k) (omega arith)) in
    λ i. first i ∷ rest i

-- one number more is the same
pub same_more : (us ts : List ℕ) (i : ℕ) → ((k : ℕ) → k < i → get_or us k 0 ≡ get_or ts k 0) → get_or us i 0 ≡ get_or ts i 0 → (k : ℕ) → k < i + 1 → get_or us k 0 ≡ get_or ts k 0
same_more us ts i before here k lt = elim (cases_lt k i) [ inl earlier ↦ before k earlier | inr last ↦ let e : k ≡ i = omega arith in rw e here ]
