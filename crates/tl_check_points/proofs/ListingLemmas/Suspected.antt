-- The faults of some polygons are all where the others' points lie where they have to.
use Rattle.std.proofs.Common.{◌≡◌, inl, inr, ℕ, ◌+◌, ◌<◌, ◌≤◌, List, [], ◌∷◌, ◌++◌, length, get_or, take, Contains}
use Rattle.std.proofs.Common.{refl, sym, subst, ◌∙◌, arith}
use Rattle.std.specs.Prelude.{slice_index}
use Rattle.std.specs.List.Sorted.{IsStrictlyIncreasing}
use Rattle.std.proofs.lemmas.List.{take_more, take_all, length-take, get_or-take, get_or_default}
use Rattle.std.proofs.lemmas.List.Elements.{All-nil, All-weaker, Contains-append_left, Contains-append_right, Contains-append_cases}
use Rattle.std.proofs.lemmas.List.Kept.{AllPairs-from_increasing}
use Rattle.std.proofs.lemmas.Option.{slice_get_within}
use Rattle.tl_map_county.specs.TheMap.{TheMap}
use Rattle.tl_check_inside.specs.declared.misplaced.Misplaced.{Misplaced}
use Rattle.tl_check_inside.specs.declared.misplaced.Misplaced.TheVariants.{OnChain, Outside, InOther}
use Rattle.tl_check_points.specs.Listing.AllMisplaced.{FaultPlace, IsTrueAt, AreAllMisplaced}
use Rattle.tl_check_inside.specs.Suspects.{AreSuspects}
use Rattle.tl_check_points.specs.Listing.Keeping.Parts.{AreFaultsIn, HasPart, IsBefore, IsOfPolygon, IsOfAny, AndSettled}
use Rattle.tl_check_points.proofs.ListingLemmas.Joining.{joined}
use Rattle.tl_check_points.proofs.ListingLemmas.Wholes.{all_of}

pub none_among : (H : ℕ → Type 0) (m : TheMap) → AreFaultsIn m (AndSettled H (IsOfAny [])) []
none_among H m = record {
  places = [];
  told = tt;
  within = All-nil (AndSettled H (IsOfAny []));
  whole = λ at fault inside told. absurd (let lt = inside.0.1 in omega (arith, lt));
  in_order = λ i j d lt within. absurd (omega (arith, within));
}

-- what stands among the first k is below the one at k
below_next : (polygons : List ℕ) (k : ℕ) → k < length polygons → IsStrictlyIncreasing polygons → (p : ℕ) → Contains (take k polygons) p →
    p < slice_index polygons k
below_next polygons k lt up p h =
    let long = length-take k polygons in
    let within = h.1 in
    let less : h.0 < k = omega (arith, within, long, lt) in
    let is : get_or polygons h.0 p ≡ p = sym (get_or-take k polygons h.0 p less) ∙ h.2 in
    let rises = AllPairs-from_increasing polygons up h.0 k p less lt in
    subst (λ q. q < slice_index polygons k) is (subst (λ q. get_or polygons h.0 p < q) (get_or_default polygons k p 0 lt) rises)

-- those of one polygon more
pub one_more_among : (H : ℕ → Type 0) (m : TheMap) (polygons : List ℕ) (k : ℕ) (old new : List Misplaced) → k < length polygons → IsStrictlyIncreasing polygons →
    AreFaultsIn m (AndSettled H (IsOfAny (take k polygons))) old → HasPart m (AndSettled H (IsOfPolygon (slice_index polygons k))) old new →
    AreFaultsIn m (AndSettled H (IsOfAny (take (k + 1) polygons))) new
one_more_among H m polygons k old new lt up before h =
    let p : ℕ = slice_index polygons k in
    rw (h.are, take_more polygons k 0 lt) (joined m (AndSettled H (IsOfAny (take k polygons ++ p ∷ []))) (AndSettled H (IsOfAny (take k polygons))) (AndSettled H (IsOfPolygon p)) old h.faults
    (λ f g first here. inl (let less = below_next polygons k lt up f.polygon first.0 in let is = here.0 in omega (arith, less, is)))
    (λ f first. (Contains-append_left (take k polygons) (p ∷ []) f.polygon first.0, first.1))
    (λ f here. (subst (Contains (take k polygons ++ p ∷ [])) (sym here.0) (Contains-append_right (take k polygons) (p ∷ []) p (0, omega arith, refl)), here.1))
    (λ f fault any told. elim (Contains-append_cases (take k polygons) (p ∷ []) f.polygon any.0) [
      | inl first ↦ inl (first, any.1)
      | inr last ↦ inr (only p f.polygon last, any.1)
    ])
    before h.part)
  where
    only : (p q : ℕ) → Contains (p ∷ []) q → q ≡ p
    only p q h = let lt : h.0 < 1 = h.1 in let zero_is : h.0 ≡ 0 = omega (arith, lt) in sym (subst (λ n. get_or (p ∷ []) n q ≡ q) zero_is h.2)

-- those of all that are suspected are those of all polygons
pub all_among : (H : ℕ → Type 0) (m : TheMap) (suspects polygons : List ℕ) (k : ℕ) (found : List Misplaced) → length polygons ≤ k → AreSuspects m suspects →
    ((x : ℕ) → Contains suspects x → Contains polygons x) → ((x : ℕ) → Contains polygons x → Contains suspects x) →
    AreFaultsIn m (AndSettled H (IsOfAny (take k polygons))) found → AreAllMisplaced H m found
all_among H m suspects polygons k found past are there back part =
    let whole : take k polygons ≡ polygons = take_all k polygons past in
    all_of H m (length m.polygons) found (omega arith) (record {
      places = part.places;
      told = part.told;
      within = All-weaker (AndSettled H (IsOfAny (take k polygons))) (AndSettled H (IsBefore (length m.polygons)))
          (λ at any.
          let of = back at.polygon (subst (λ ps. Contains ps at.polygon) whole any.0) in
          (subst (λ p. p < length m.polygons) of.2 (are.known of.0 at.polygon of.1), any.1)) part.places part.within;
      whole = λ at fault low told. part.whole at fault
          (subst (λ ps. Contains ps at.polygon) (sym whole) (there at.polygon (suspected at fault told)), low.1) told;
      in_order = part.in_order;
    })
  where
    suspected : (at : FaultPlace) (fault : Misplaced) → IsTrueAt m at fault → Contains suspects at.polygon
    suspected at (OnChain key tlid) t = elim (are.others at.polygon (record { key = key; point = t.point }) t.of) [
      | inl of ↦ of
      | inr placed ↦ absurd (placed.off at.other t.held)
    ]
    suspected at (Outside key) t = elim (are.others at.polygon (record { key = key; point = t.point }) t.of) [
      | inl of ↦ of
      | inr placed ↦ absurd (t.outside placed.inside)
    ]
    suspected at (InOther key other) t = elim (are.others at.polygon (record { key = key; point = t.point }) t.of) [
      | inl of ↦ of
      | inr placed ↦ absurd (t.within (placed.clear at.other
          (slice_get_within m.polygons at.other (record { key = other; point = t.other_point }) t.other_of) t.two))
    ]
