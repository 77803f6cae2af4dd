-- Darts that are listed by their numbers and sorted.
use Rattle.std.proofs.Common.{◌≡◌, inl, inr, ℕ, ◌+◌, ◌<◌, ◌^◌, List, [], ◌∷◌, ◌++◌, length, get_or, refl, ap, length-append, arith}
use Rattle.std.specs.List.Sorted.{IsSortedBy}
use Rattle.std.proofs.lemmas.Bool.{cases_lt}
use Rattle.std.proofs.lemmas.List.{get_or_append_left}
use Rattle.std.proofs.lemmas.List.Elements.{All-nil, All-push, All-same}
use Rattle.std.proofs.lemmas.List.Sorted.{sorted_far}
use Rattle.tl_geom.specs.declared.point.Point.{Point}
use Rattle.tl_map_county.specs.TheMap.{MapChain}
use Rattle.tl_map_county.specs.Nodes.{AreNodes}
use Rattle.tl_check_sides.specs.declared.headed.HeadedDart.{HeadedDart}
use Rattle.tl_check_sides.specs.Headed.{AreSorted, IsHeaded, AreHeaded}
use Rattle.tl_check_sides.proofs.SortLemmas.{comes, weak_order, not_before}

pub are_sorted : (darts : List HeadedDart) → IsSortedBy comes darts → AreSorted darts
are_sorted darts up = λ i j d lt within. not_before (get_or darts j d) (get_or darts i d) (sorted_far comes weak_order darts up i j d (omega (arith, lt)) within)

last_of : (xs : List HeadedDart) (x d : HeadedDart) (k : ℕ) → k ≡ length xs → get_or (xs ++ x ∷ []) k d ≡ x
last_of [] x d k e = rw e refl
last_of (y ∷ xs) x d k e = rw e (last_of xs x d (length xs) refl)

pub none_headed : (chains : List MapChain) (nodes : List Point) (darts : List HeadedDart) → AreNodes chains nodes → darts ≡ [] → AreHeaded chains 0 darts
none_headed chains nodes darts are none = record {
  nodes = nodes;
  are = are;
  few = omega arith;
  long = ap length none;
  each = All-same (IsHeaded chains nodes) darts [] none (All-nil _);
  numbered = λ k d lt. absurd (omega (arith, lt));
}

pub one_headed : (chains : List MapChain) (n : ℕ) (old new : List HeadedDart) (s : HeadedDart) → n + 1 < 2 ^ 32 → s.dart ≡ n → ((nodes : List Point) → AreNodes chains nodes → IsHeaded chains nodes s) → new ≡ old ++ s ∷ [] → AreHeaded chains n old → AreHeaded chains (n + 1) new
one_headed chains n old new s few is headed grown h = record {
  nodes = h.nodes;
  are = h.are;
  few = few;
  long = let l = h.long in omega (arith, ap length grown, length-append old (s ∷ []), l);
  each = All-same (IsHeaded chains h.nodes) new _ grown (All-push (IsHeaded chains h.nodes) old s h.each (headed h.nodes h.are));
  numbered = λ k d lt. rw grown (elim (cases_lt k n) [
    | inl before ↦ rw (get_or_append_left old (s ∷ []) d k (let l = h.long in omega (arith, before, l))) (h.numbered k d before)
    | inr last ↦ rw (last_of old s d k (let l = h.long in omega (arith, last, lt, l))) (omega (arith, is, last, lt))
  ]);
}
