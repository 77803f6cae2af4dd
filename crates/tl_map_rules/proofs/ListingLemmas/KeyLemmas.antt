use Rattle.std.proofs.Common.{◌≡◌, ◌≢◌, ℕ, false, inl, inr, Result, Ok, Err, List, length, get_or, Contains, refl, sym, ap, ◌∙◌, arith}
use Rattle.std.specs.Prelude.{is_ok}
use Rattle.std.specs.Bool.{Decides}
use Rattle.std.specs.List.Sorted.{IsBinarySearchResult, IsSearchInRange}
use Rattle.std.specs.declared.cmp.Ordering.{Ordering}
use Rattle.std.specs.declared.cmp.Ordering.TheVariants.{Less, Equal, Greater}
use Rattle.std.specs.Ordering.{ordering_then, nat_cmp, is_eq}
use Rattle.std.specs.Cmp.{IsTotalOrder, unsigned_ties}
use Rattle.std.specs.Cmp.Lexicographic.{slice_cmp, lists_ties, same_text}
use Rattle.std.proofs.lemmas.Bool.{cases_lt, true≢false, eqb-true}
use Rattle.std.proofs.lemmas.Cmp.{on_total, then_total, nat_cmp_total, nat_list_cmp_total, tied_itself}
use Rattle.std.proofs.lemmas.List.Sorted.{searchable_from_sorted}
use Rattle.tl_record_key.specs.declared.key.PolyKey.{PolyKey}
use Rattle.tl_map_rules.specs.MapOf.{same_key}
use Rattle.tl_map_rules.specs.Listing.Keeping.Keys.{parts, parts_cmp, AreByKey}
use Rattle.tl_map_rules.proofs.KeyLemmas.{same_key-refl}

pub parts_total : IsTotalOrder parts_cmp
parts_total = then_total (on_total (λ (p : ℕ × List ℕ). p.0) nat_cmp_total) (on_total (λ (p : ℕ × List ℕ). p.1) nat_list_cmp_total)

both_equal : (a b : Ordering) → ordering_then a b ≡ Equal → (a ≡ Equal) × (b ≡ Equal)
both_equal Less b h = absurd (let e : Less ≡ Equal = h in cc)
both_equal Equal b h = (refl, h)
both_equal Greater b h = absurd (let e : Greater ≡ Equal = h in cc)

-- parts that tie are those of one key
pub one_key : (k l : PolyKey) → parts_cmp (parts k) (parts l) ≡ Equal → k ≡ l
one_key k l h =
    let both = both_equal (nat_cmp k.polyid l.polyid) (slice_cmp nat_cmp k.cenid l.cenid) h in
    let a = same_text k.cenid l.cenid (sym (lists_ties nat_cmp unsigned_ties k.cenid l.cenid ∙ ap is_eq both.1)) in
    let b = eqb-true k.polyid l.polyid (unsigned_ties k.polyid l.polyid ∙ ap is_eq both.0) in
    λ i. record { cenid = a i; polyid = b i }

-- what a search for a key answers
pub searched_key : (keys : List PolyKey) (k : PolyKey) (r : Result ℕ ℕ) → AreByKey keys → IsSearchInRange r (length keys) → IsBinarySearchResult (λ y. parts_cmp (parts y) (parts k)) keys r → Decides (is_ok r) (Contains keys k)
searched_key keys k (Ok i) sorted within found = (λ e. (i, within, one_key (get_or keys i k) k (found k)), λ has. refl)
searched_key keys k (Err i) sorted within found =
    let part = found (searchable_from_sorted parts_total parts keys (parts k) sorted) in
    let itself = tied_itself parts_total (parts k) in (
      λ e. absurd (true≢false (sym e)),
      λ has. elim (cases_lt has.0 i) [
        | inl below ↦ absurd (let less : parts_cmp (parts k) (parts k) ≡ Less = rw has.2 at (part.0 has.0 k (omega arith) below) in let not : Less ≡ Equal = sym less ∙ itself in cc)
        | inr above ↦ absurd (let more : parts_cmp (parts k) (parts k) ≡ Greater = rw has.2 at (part.1 has.0 k above has.1) in let not : Greater ≡ Equal = sym more ∙ itself in cc)
      ],
    )

-- keys that are not the same differ
pub other_key : (k l : PolyKey) → same_key k l ≡ false → k ≢ l
other_key k l h e = true≢false (sym (same_key-refl k) ∙ ap (same_key k) e ∙ h)
