-- Parts of the list of all faults, one behind the other.
use Rattle.std.proofs.Common.{◌≡◌, ◌⊎◌, inl, inr, ℕ, ◌+◌, ◌-◌, ◌<◌, List}
use Rattle.std.proofs.Common.{[], ◌∷◌, ◌++◌, length, get_or, All, refl, arith, length-append}
use Rattle.std.specs.List.{AllPairs}
use Rattle.std.proofs.lemmas.Bool.{cases_lt}
use Rattle.std.proofs.lemmas.List.{get_or_append_left, get_or-append_right}
use Rattle.std.proofs.lemmas.List.Elements.{All-append, All-weaker, All-nil, Contains-append_left, Contains-append_right}
use Rattle.tl_map_county.specs.TheMap.{TheMap}
use Rattle.tl_check_inside.specs.declared.misplaced.Misplaced.{Misplaced}
use Rattle.tl_check_points.specs.Listing.AllMisplaced.{FaultPlace, ComesBefore, IsTrueAt, AreTrueAt}
use Rattle.tl_check_points.specs.Listing.Keeping.Parts.{AreFaultsIn, HasPart, IsBefore, IsOfPolygon, AndSettled}

pub told_append : (m : TheMap) (places others : List FaultPlace) (found more : List Misplaced) → AreTrueAt m places found → AreTrueAt m others more →
    AreTrueAt m (places ++ others) (found ++ more)
told_append m [] others [] more t u = u
told_append m [] others (fault ∷ found) more t u = absurd t
told_append m (at ∷ places) others [] more t u = absurd t
told_append m (at ∷ places) others (fault ∷ found) more t u = (t.0, told_append m places others found more t.1 u)

pairs_append : {X : Type 0} (R : X → X → Type 0) (P Q : X → Type 0) (xs ys : List X) → ((x y : X) → P x → Q y → R x y) → All P xs →
    All Q ys → AllPairs R xs → AllPairs R ys → AllPairs R (xs ++ ys)
pairs_append R P Q xs ys between p q first second i j d lt within =
    let long = length-append xs ys in
    elim (cases_lt j (length xs)) [
      | inl low ↦ rw (get_or_append_left xs ys d i (omega (arith, lt, low)), get_or_append_left xs ys d j low) (first i j d lt low)
      | inr high ↦
          let there : get_or (xs ++ ys) j d ≡ get_or ys (j - length xs) d = get_or-append_right xs ys (length xs) j d refl high in
          let inner : j - length xs < length ys = omega (arith, within, long, high) in
          elim (cases_lt i (length xs)) [
            | inl low ↦ rw (get_or_append_left xs ys d i low, there) (between (get_or xs i d) (get_or ys (j - length xs) d) (p i d low)
                (q (j - length xs) d inner))
            | inr past ↦ rw (get_or-append_right xs ys (length xs) i d refl past, there)
                (second (i - length xs) (j - length xs) d (omega (arith, lt, past, high)) inner)
          ]
    ]

-- all faults of one part come before all of the other
pub joined : (m : TheMap) (In First Second : FaultPlace → Type 0) (found more : List Misplaced) →
    ((f g : FaultPlace) → First f → Second g → ComesBefore f g) → ((f : FaultPlace) → First f → In f) →
    ((f : FaultPlace) → Second f → In f) → ((f : FaultPlace) (fault : Misplaced) → In f → IsTrueAt m f fault → First f ⊎ Second f) →
    AreFaultsIn m First found → AreFaultsIn m Second more → AreFaultsIn m In (found ++ more)
joined m In First Second found more between first_in second_in split a b = record {
  places = a.places ++ b.places;
  told = told_append m a.places b.places found more a.told b.told;
  within = All-append In a.places b.places (All-weaker First In first_in a.places a.within) (All-weaker Second In second_in b.places b.within);
  whole = λ at fault inside told. elim (split at fault inside told) [
    | inl f ↦ Contains-append_left a.places b.places at (a.whole at fault f told)
    | inr s ↦ Contains-append_right a.places b.places at (b.whole at fault s told)
  ];
  in_order = pairs_append ComesBefore First Second a.places b.places between a.within b.within a.in_order b.in_order;
}

-- no polygon comes before the first
pub none_yet : (H : ℕ → Type 0) (m : TheMap) → AreFaultsIn m (AndSettled H (IsBefore 0)) []
none_yet H m = record {
  places = [];
  told = tt;
  within = All-nil (AndSettled H (IsBefore 0));
  whole = λ at fault inside told. absurd (let lt = inside.0 in omega (arith, lt));
  in_order = λ i j d lt within. absurd (omega (arith, within));
}

-- those of one polygon more
pub one_more : (H : ℕ → Type 0) (m : TheMap) (p : ℕ) (old new : List Misplaced) → AreFaultsIn m (AndSettled H (IsBefore p)) old →
    HasPart m (AndSettled H (IsOfPolygon p)) old new → AreFaultsIn m (AndSettled H (IsBefore (p + 1))) new
one_more H m p old new before h =
    rw h.are (joined m (AndSettled H (IsBefore (p + 1))) (AndSettled H (IsBefore p)) (AndSettled H (IsOfPolygon p)) old h.faults
    (λ f g low here. inl (let lt = low.0 in let is = here.0 in omega (arith, lt, is)))
    (λ f low. (let lt = low.0 in omega (arith, lt), low.1))
    (λ f here. (let is = here.0 in omega (arith, is), here.1))
    (λ f fault low told. let lt = low.0 in elim (cases_lt f.polygon p) [ inl less ↦ inl (less, low.1) | inr high ↦ inr (omega (arith, lt, high), low.1) ])
    before h.part)
