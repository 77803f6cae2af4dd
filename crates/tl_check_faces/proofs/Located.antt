-- Where faces agree, the look-up of a point lists what lies there.
use Rattle.std.proofs.Common.{◌≡◌, ◌⊎◌, ◌↔◌, inl, inr, ⊎_elim, ℕ, ◌<◌, ◌≤◌, pos, List, [], ◌∷◌, length, All, Contains, refl, sym, ap, subst, ◌∙◌, arith}
use Rattle.std.proofs.lemmas.Int.{ints}
use Rattle.std.specs.List.Sorted.{IsStrictlyIncreasing}
use Rattle.std.proofs.lemmas.Bool.{cases_eq}
use Rattle.tl_geom.specs.declared.point.Point.{Point}
use Rattle.tl_geom.specs.Plane.{whole}
use Rattle.tl_map_county.specs.declared.sides.Side.{Side}
use Rattle.tl_map_county.specs.declared.sides.Side.TheVariants.{Outside, Polygon}
use Rattle.tl_map_county.specs.TheMap.{TheMap, MapChain}
use Rattle.tl_check_inside.specs.declared.place.Place.{Place}
use Rattle.tl_check_inside.specs.declared.place.Place.TheVariants.{OnChain, In}
use Rattle.tl_check_inside.specs.Inside.{IsPolygonCount, is_polygon}
use Rattle.tl_check_inside.specs.Places.{IsPlaceOf, IsOffChains, HasCount, AreCounted}
use Rattle.tl_check_inside.proofs.Counting.{one_count}
use Rattle.tl_check_faces.specs.Facing.{IsOff}
use Rattle.tl_check_faces.specs.Truth.{LiesAt, HasOnePolygon}
use Rattle.tl_check_faces.specs.Located.{ListsWhatLies}
use Rattle.tl_check_faces.proofs.Known.{is_known}

off_whole : (chains : List MapChain) (q : Point) → IsOffChains chains q → IsOff chains (whole q)
off_whole chains q off c chain is on = off c (record { chain = chain; is = is; on = on })

module _ (chains : List MapChain) (q : Point) where
  -- what is counted isn't 0
  no_count : (x : ℕ) → HasCount (IsPolygonCount chains q x) → ¬ IsPolygonCount chains q x (pos 0)
  no_count x has none = has.2 (one_count chains q (is_polygon x) has.0 (pos 0) has.1 none)

  module _ (n : ℕ) (xs : List ℕ) (are : AreCounted n (IsPolygonCount chains q) xs) where
    -- each that is listed lies there
    it_lies : (side : Side) → LiesAt chains (whole q) side → (x : ℕ) → HasCount (IsPolygonCount chains q x) → side ≡ Polygon x
    it_lies Outside lies x has = absurd (no_count x has (lies x))
    it_lies (Polygon p) lies x has =
        ⊎_elim (λ e. ap Polygon (sym e)) (λ ne. absurd (no_count x has (lies.1 x ne))) (cases_eq x p)

    one_of : (x y : ℕ) → Polygon x ≡ Polygon y → x ≡ y
    one_of x y e = cc

    -- none is listed, or one
    IsShort : Type 0
    IsShort = (xs ≡ []) ⊎ ((x : ℕ) × (xs ≡ x ∷ []) × HasCount (IsPolygonCount chains q x))

    module _ (side : Side) (lies : LiesAt chains (whole q) side) where
      short : IsShort
      unfolding IsShort
      short = go xs are.each are.rising
        where
          go : (ys : List ℕ) → All (λ x. (x < n) × HasCount (IsPolygonCount chains q x)) ys → IsStrictlyIncreasing ys →
              (ys ≡ []) ⊎ ((x : ℕ) × (ys ≡ x ∷ []) × HasCount (IsPolygonCount chains q x))
          go [] each up = inl refl
          go (x ∷ []) each up = inr (x, refl, (each 0 x (omega arith)).1)
          go (x ∷ (y ∷ ys)) each up =
              let rises : x < y = up 0 (omega arith) in
              let same : x ≡ y = one_of x y (sym (it_lies side lies x (each 0 x (omega arith)).1) ∙ it_lies side lies y (each 1 x (omega arith)).1) in
              absurd (omega (arith, rises, same))

      few : length xs ≤ 1
      unfolding IsShort
      few = ⊎_elim (λ e. rw e (omega arith)) (λ k. rw k.1 (omega arith)) short

      no_list : (p : ℕ) → p ∷ [] ≡ [] → ⊥
      no_list p e = cc

      first_is : (x p : ℕ) → x ∷ [] ≡ p ∷ [] → x ≡ p
      first_is x p e = cc

      alone : (p : ℕ) → p < n → (xs ≡ p ∷ []) ↔ LiesAt chains (whole q) (Polygon p)
      unfolding IsShort
      alone p lt = (
        λ e. ⊎_elim
            (λ f. absurd (no_list p (sym e ∙ f)))
            (λ k. subst (LiesAt chains (whole q)) (it_lies side lies k.0 k.2 ∙ ap Polygon (first_is k.0 p (sym k.1 ∙ e))) lies)
            short,
        λ there. ⊎_elim
            (λ f. absurd (⊎_elim
            (λ has. let h : Contains [] p = subst (λ ys. Contains ys p) f has in let no : h.0 < 0 = h.1 in omega (arith, no))
            (λ zero.
            let e : pos 1 ≡ pos 0 =
            one_count chains q (is_polygon p) (pos 1) (pos 0) there.0 zero in
            omega (arith, ints, e))
            (are.others p lt)))
            (λ k. k.1 ∙ ap (λ y. y ∷ []) (sym (one_of p k.0 (it_lies (Polygon p) there k.0 k.2))))
            short,
      )

      nowhere : ((p : ℕ) → LiesAt chains (whole q) (Polygon p) → p < n) → (xs ≡ []) ↔ LiesAt chains (whole q) Outside
      unfolding IsShort
      nowhere known = (λ e. by_side side lies e, λ there. ⊎_elim (λ e. e) (λ k. absurd (apart k.0 (it_lies Outside there k.0 k.2))) short)
        where
          apart : (p : ℕ) → Outside ≡ Polygon p → ⊥
          apart p e = cc

          by_side : (s : Side) → LiesAt chains (whole q) s → xs ≡ [] → LiesAt chains (whole q) Outside
          by_side Outside h e = h
          by_side (Polygon p) h e = absurd (no_list p (sym ((alone p (known p h)).1 h) ∙ e))

pub lists_what_lies : (m : TheMap) (q : Point) (place : Place) → HasOnePolygon m.chains → IsPlaceOf m q place → ListsWhatLies m q place
lists_what_lies m q (OnChain c) one is = tt
lists_what_lies m q (In polygons landmarks) one is =
    let lies : (side : Side) × LiesAt m.chains (whole q) side = one (whole q) (off_whole m.chains q is.0) in
    let n : ℕ = length m.polygons in
    record {
      one_at_most = few m.chains q n polygons.items is.1 lies.0 lies.1;
      polygon = λ p lt. alone m.chains q n polygons.items is.1 lies.0 lies.1 p lt;
      outside = λ known. nowhere m.chains q n polygons.items is.1 lies.0 lies.1 (λ p there. is_known m (whole q) p known there);
    }
