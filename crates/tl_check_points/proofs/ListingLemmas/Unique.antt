-- A map has one list of all faults.
use Rattle.std.proofs.Common.{◌≡◌, ◌⊎◌, inl, inr, ℕ, zero, suc, ◌<◌, List}
use Rattle.std.proofs.Common.{[], ◌∷◌, length, get_or, Contains, refl, sym, subst, ◌∙◌, arith}
use Rattle.std.specs.List.{AllPairs}
use Rattle.tl_map_county.specs.TheMap.{TheMap}
use Rattle.tl_check_inside.specs.declared.misplaced.Misplaced.{Misplaced}
use Rattle.tl_check_points.specs.Listing.AllMisplaced.{FaultPlace, ComesBefore, IsTrueAt, AreTrueAt, IsSettled, AreAllMisplaced}
use Rattle.tl_check_points.proofs.ListingLemmas.Wholes.{told_at, one_fault}

-- of two places one at most comes before the other
asymmetric : (f g : FaultPlace) → ComesBefore f g → ComesBefore g f → ⊥
asymmetric f g (inl a) (inl b) = omega (arith, a, b)
asymmetric f g (inl a) (inr b) = let e = b.0 in omega (arith, a, e)
asymmetric f g (inr a) (inl b) = let e = a.0 in omega (arith, b, e)
asymmetric f g (inr a) (inr b) = inner a.1 b.1
  where
    inner : ((f.kind < g.kind) ⊎ ((f.kind ≡ g.kind) × (f.other < g.other))) → ((g.kind < f.kind) ⊎ ((g.kind ≡ f.kind) × (g.other < f.other))) →
        ⊥
    inner (inl x) (inl y) = omega (arith, x, y)
    inner (inl x) (inr y) = let e = y.0 in omega (arith, x, e)
    inner (inr x) (inl y) = let e = x.0 in omega (arith, y, e)
    inner (inr x) (inr y) = let s = x.1 in let t = y.1 in omega (arith, s, t)

module _ {X : Type 0} (R : X → X → Type 0) (never : (x y : X) → R x y → R y x → ⊥) where
  -- what stands in a list is its first, or stands in the rest
  first_or : (y : X) (ys : List X) (x : X) → Contains (y ∷ ys) x → (y ≡ x) ⊎ Contains ys x
  first_or y ys x h = go h.0 h.1 h.2
    where
      go : (k : ℕ) → k < length (y ∷ ys) → get_or (y ∷ ys) k x ≡ x → (y ≡ x) ⊎ Contains ys x
      go zero lt is = inl is
      go (suc k) lt is = inr (k, omega (arith, lt), is)

  first_in : (y : X) (ys : List X) → Contains (y ∷ ys) y
  first_in y ys = (0, omega arith, refl)

  rest_in : (y : X) (ys : List X) (x : X) → Contains ys x → Contains (y ∷ ys) x
  rest_in y ys x h = (suc h.0, let lt = h.1 in omega (arith, lt), h.2)

  none_in : (x : X) → Contains [] x → ⊥
  none_in x h = let lt = h.1 in omega (arith, lt)

  before_rest : (y : X) (ys : List X) (x : X) → AllPairs R (y ∷ ys) → Contains ys x → R y x
  before_rest y ys x up h = subst (R y) h.2 (up 0 (suc h.0) x (omega arith) (let lt = h.1 in omega (arith, lt)))

  rest_up : (y : X) (ys : List X) → AllPairs R (y ∷ ys) → AllPairs R ys
  rest_up y ys up i j d lt within = up (suc i) (suc j) d (omega (arith, lt)) (omega (arith, within))

  same_first : (x y : X) (xs ys : List X) → AllPairs R (x ∷ xs) → AllPairs R (y ∷ ys) → Contains (y ∷ ys) x → Contains (x ∷ xs) y → x ≡ y
  same_first x y xs ys a b there back = elim (first_or y ys x there) [
    | inl e ↦ sym e
    | inr s ↦ elim (first_or x xs y back) [
      | inl e ↦ e
      | inr t ↦ absurd (never x y (before_rest x xs y a t) (before_rest y ys x b s))
    ]
  ]

  -- two lists in that order are one where the same stands in both
  pub one_list : (xs ys : List X) → AllPairs R xs → AllPairs R ys → ((x : X) → Contains xs x → Contains ys x) →
      ((x : X) → Contains ys x → Contains xs x) → xs ≡ ys
  one_list [] [] a b there back = refl
  one_list [] (y ∷ ys) a b there back = absurd (none_in y (back y (first_in y ys)))
  one_list (x ∷ xs) [] a b there back = absurd (none_in x (there x (first_in x xs)))
  one_list (x ∷ xs) (y ∷ ys) a b there back =
      let one : x ≡ y = same_first x y xs ys a b (there x (first_in x xs)) (back y (first_in y ys)) in
      let rest : xs ≡ ys = one_list xs ys (rest_up x xs a) (rest_up y ys b)
      (λ z h. elim (first_or y ys z (there z (rest_in x xs z h))) [
        | inl e ↦ absurd (let r : R x z = before_rest x xs z a h in let s : R x x = subst (R x) (sym (one ∙ e)) r in never x x s s)
        | inr s ↦ s
      ])
      (λ z h. elim (first_or x xs z (back z (rest_in y ys z h))) [
        | inl e ↦ absurd (let r : R y z = before_rest y ys z b h in let s : R y y = subst (R y) (sym (sym one ∙ e)) r in never y y s s)
        | inr s ↦ s
      ]) in
      λ i. one i ∷ rest i

one_told : (m : TheMap) (places : List FaultPlace) (found others : List Misplaced) → AreTrueAt m places found → AreTrueAt m places others →
    found ≡ others
one_told m [] [] [] a b = refl
one_told m [] (f ∷ found) others a b = absurd a
one_told m [] [] (g ∷ others) a b = absurd b
one_told m (at ∷ places) [] others a b = absurd a
one_told m (at ∷ places) (f ∷ found) [] a b = absurd b
one_told m (at ∷ places) (f ∷ found) (g ∷ others) a b =
    let first : f ≡ g = one_fault m at f g a.0 b.0 in
    let rest : found ≡ others = one_told m places found others a.1 b.1 in
    λ i. first i ∷ rest i

stands_in : (H : ℕ → Type 0) (m : TheMap) (found others : List Misplaced) (a : AreAllMisplaced H m found) (b : AreAllMisplaced H m others) (at : FaultPlace) →
    Contains a.places at → Contains b.places at
stands_in H m found others a b at h =
    let told = told_at m a.places found h.0 at a.told h.1 in
    b.whole at told.fault (subst (IsSettled H) h.2 (a.settled h.0 at h.1)) (subst (λ f. IsTrueAt m f told.fault) h.2 told.true_one)

pub one_list_of_all : (H : ℕ → Type 0) (m : TheMap) (found others : List Misplaced) → AreAllMisplaced H m found → AreAllMisplaced H m others → found ≡ others
one_list_of_all H m found others a b =
    let places : a.places ≡ b.places = one_list ComesBefore asymmetric a.places b.places a.in_order b.in_order (stands_in H m found others a b)
    (stands_in H m others found b a) in
    one_told m b.places found others (subst (λ ps. AreTrueAt m ps found) places a.told) b.told
