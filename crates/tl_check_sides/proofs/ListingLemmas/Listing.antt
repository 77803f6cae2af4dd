-- Numbers that are sorted, and each left once.
use Rattle.std.proofs.Common.{◌≡◌, ◌↔◌, ℕ, eqb, List, get_or, All, Contains, subst}
use Rattle.std.specs.Ordering.{nat_cmp}
use Rattle.std.specs.List.{dedup}
use Rattle.std.specs.List.Sorted.{IsPermutation, IsSorted, IsStrictlyIncreasing}
use Rattle.std.proofs.lemmas.List.{get_or_default}
use Rattle.std.proofs.lemmas.List.Elements.{All-weaker}
use Rattle.std.proofs.lemmas.List.Kept.{Contains-dedup_nat, Contains-from_dedup}
use Rattle.std.proofs.lemmas.List.Sorted.{Contains-permutation, IsPermutation-sym}
use Rattle.std.proofs.lemmas.Map.Keys.{IsStrictlyIncreasing-dedup}
use Rattle.tl_check_sides.specs.Listing.Keeping.Listed.{AreListed}

pub rises : (sorted new : List ℕ) → IsSorted nat_cmp sorted → new ≡ dedup eqb sorted → IsStrictlyIncreasing new
rises sorted new up kept = rw kept (IsStrictlyIncreasing-dedup sorted up)

pub same : (old sorted new : List ℕ) → IsPermutation old sorted → new ≡ dedup eqb sorted → (x : ℕ) → Contains new x ↔ Contains old x
same old sorted new moved kept x = rw kept (
  (λ h. Contains-permutation sorted old x (IsPermutation-sym old sorted moved) (Contains-from_dedup eqb sorted x h)),
  (λ h. Contains-dedup_nat sorted x (Contains-permutation old sorted x moved h)),
)

-- so what holds of each number of the old list, and of no other, is listed
pub listed_once : (P : ℕ → Type 0) (old new : List ℕ) → IsStrictlyIncreasing new → ((x : ℕ) → Contains new x ↔ Contains old x) →
    All P old → ((x : ℕ) → P x → Contains old x) → AreListed P new
listed_once P old new up one each complete = record {
  rising = up;
  each = λ k d lt.
      let x : ℕ = get_or new k d in
      let at = (one x).0 (k, lt, get_or_default new k x d lt) in
      subst P at.2 (each at.0 x at.1);
  complete = λ x p. (one x).1 (complete x p);
}

pub listed_as : (P Q : ℕ → Type 0) (numbers : List ℕ) → ((x : ℕ) → P x → Q x) → ((x : ℕ) → Q x → P x) → AreListed P numbers →
    AreListed Q numbers
listed_as P Q numbers there back listed = record {
  rising = listed.rising;
  each = All-weaker P Q there numbers listed.each;
  complete = λ x q. listed.complete x (back x q);
}
