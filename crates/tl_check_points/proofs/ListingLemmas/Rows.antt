-- The faults of one polygon's point.
use Rattle.std.proofs.Common.{◌≡◌, ◌⊎◌, inl, inr, true, false, Bool, ℕ, ◌+◌, ◌<◌, ◌≤◌, ◌↔◌, List, []}
use Rattle.std.proofs.Common.{◌∷◌, ◌++◌, length, map, take, cond, All, Contains, refl, sym, subst, ap, ◌∙◌, arith}
use Rattle.std.specs.Prelude.{slice_get, slice_index, Some}
use Rattle.std.specs.Bool.{IsTrue}
use Rattle.std.specs.List.{AllPairs}
use Rattle.std.specs.List.Sorted.{IsStrictlyIncreasing}
use Rattle.std.proofs.lemmas.List.{map-append, take_more, take_all, length-map, get_or-map, append-nil, append_assoc}
use Rattle.std.proofs.lemmas.List.Elements.{All-nil, All-cons, All-head, All-tail}
use Rattle.std.proofs.lemmas.List.Kept.{AllPairs-from_increasing}
use Rattle.std.proofs.lemmas.Option.{slice_get_within}
use Rattle.tl_geom.specs.declared.point.Point.{Point}
use Rattle.tl_record_key.specs.declared.key.PolyKey.{PolyKey}
use Rattle.tl_map_county.specs.declared.polygons.Polygon.{Polygon}
use Rattle.tl_map_county.specs.declared.sides.Side.{Side}
use Rattle.tl_map_county.specs.TheMap.{TheMap, MapChain, IsChain}
use Rattle.tl_check_planar.specs.Keeping.Apart.{one_found}
use Rattle.tl_check_inside.specs.declared.misplaced.Misplaced.{Misplaced}
use Rattle.tl_check_inside.specs.declared.misplaced.Misplaced.TheVariants.{OnChain, Outside, InOther}
use Rattle.tl_check_inside.specs.Inside.{IsInside, IsClear}
use Rattle.tl_check_inside.specs.Places.{IsHeldBy}
use Rattle.tl_check_points.specs.Listing.AllMisplaced.{FaultPlace, ComesBefore, IsTrueAt, AreTrueAt, IsSettled}
use Rattle.tl_check_sides.specs.Listing.Keeping.Listed.{AreListed}
use Rattle.tl_check_points.specs.Listing.Keeping.Parts.{AreFaultsIn, HasPart, HasRow, IsOf, IsOfPolygon, IsIn, AndSettled, row_places}
use Rattle.tl_check_points.proofs.ListingLemmas.Joining.{told_append, joined}

abbrev pub place : (p kind n : ℕ) → FaultPlace
place p kind n = record { polygon = p; kind = kind; other = n }

place_is : (at : FaultPlace) (p kind : ℕ) → at.polygon ≡ p → at.kind ≡ kind → place p kind at.other ≡ at
place_is at p kind e f = λ i. record { polygon = sym e i; kind = sym f i; other = at.other }

-- nothing is told yet
pub row_begun : (m : TheMap) (p kind : ℕ) (old : List Misplaced) → HasRow m p kind [] old old
row_begun m p kind old = record { faults = []; are = sym (append-nil old); told = tt }

-- one is told more
pub row_more : (m : TheMap) (p kind : ℕ) (others : List ℕ) (k : ℕ) (old now new : List Misplaced) (fault : Misplaced) → k < length others →
    HasRow m p kind (take k others) old now → new ≡ now ++ fault ∷ [] → IsTrueAt m (place p kind (slice_index others k)) fault →
    HasRow m p kind (take (k + 1) others) old new
row_more m p kind others k old now new fault lt before is holds = record {
  faults = before.faults ++ fault ∷ [];
  are = is ∙ ap (λ fs. fs ++ fault ∷ []) before.are ∙ append_assoc old before.faults (fault ∷ []);
  told =
      subst (λ ps. AreTrueAt m ps (before.faults ++ fault ∷ []))
      (sym (ap (map (place p kind)) (take_more others k 0 lt) ∙ map-append (place p kind) (take k others) (slice_index others k ∷ [])))
      (told_append m (row_places p kind (take k others)) (place p kind (slice_index others k) ∷ []) before.faults (fault ∷ []) before.told (holds, tt));
}

-- all are told
pub row_ended : (m : TheMap) (p kind : ℕ) (others : List ℕ) (k : ℕ) (old now : List Misplaced) → length others ≤ k →
    HasRow m p kind (take k others) old now → HasRow m p kind others old now
row_ended m p kind others k old now past row = subst (λ ns. HasRow m p kind ns old now) (take_all k others past) row

-- what is told of a polygon's point is true at its place
module _ (m : TheMap) (p : ℕ) (polygon : Polygon) (is : slice_get m.polygons p ≡ Some polygon) where
  pub on_chain : (c tlid : ℕ) (points : List Point) (left right : Side) → IsHeldBy m.chains polygon.point c →
      IsChain (slice_get m.chains c) tlid points left right → IsTrueAt m (place p 0 c) (OnChain polygon.key tlid)
  on_chain c tlid points left right held chain = record {
    kind = refl;
    point = polygon.point;
    of = is;
    held = held;
    tlid_is =
        let one : held.chain ≡ chain.chain = one_found held.chain chain.chain (slice_get m.chains c) held.is chain.is in
        ap (λ (z : MapChain). z.tlid) one ∙ sym chain.tlid_is;
  }

  pub outside : ¬ IsInside m.chains polygon.point p → IsTrueAt m (place p 1 0) (Outside polygon.key)
  outside out = record { kind = refl; no_other = refl; point = polygon.point; of = is; outside = out }

  pub in_other : (n : ℕ) (other : Polygon) → slice_get m.polygons n ≡ Some other → IsIn m polygon.point p n →
      IsTrueAt m (place p 2 n) (InOther polygon.key other.key)
  in_other n other other_is h = record {
    kind = refl;
    point = polygon.point;
    of = is;
    other_point = other.point;
    other_of = other_is;
    two = h.two;
    within = h.within;
  }

row_within : (H P : ℕ → Type 0) (p kind : ℕ) (others : List ℕ) → ((n : ℕ) → P n → IsSettled H (place p kind n)) → All P others →
    All (AndSettled H (IsOf p kind)) (row_places p kind others)
row_within H P p kind [] fits each = All-nil (AndSettled H (IsOf p kind))
row_within H P p kind (n ∷ others) fits each =
    All-cons (AndSettled H (IsOf p kind)) (place p kind n) (row_places p kind others) ((refl, refl), fits n (All-head P n others each))
    (row_within H P p kind others fits (All-tail P n others each))

row_has : (p kind : ℕ) (others : List ℕ) (at : FaultPlace) → at.polygon ≡ p → at.kind ≡ kind → Contains others at.other →
    Contains (row_places p kind others) at
row_has p kind others at e f h = (
  h.0,
  let long = length-map others (place p kind) in let lt = h.1 in omega (arith, long, lt),
  get_or-map (place p kind) others h.0 at.other at h.1 ∙ ap (place p kind) h.2 ∙ place_is at p kind e f,
)

row_rises : (p kind : ℕ) (others : List ℕ) → IsStrictlyIncreasing others → AllPairs ComesBefore (row_places p kind others)
row_rises p kind others up i j d lt within =
    let long = length-map others (place p kind) in
    let inner : j < length others = omega (arith, within, long) in
    rw (get_or-map (place p kind) others i 0 d (omega (arith, lt, inner)), get_or-map (place p kind) others j 0 d inner)
    (inr (refl, inr (refl, AllPairs-from_increasing others up i j 0 lt inner)))

-- those of one kind
pub row_part : (H : ℕ → Type 0) (m : TheMap) (P : ℕ → Type 0) (p kind : ℕ) (others : List ℕ) (faults : List Misplaced) → AreListed P others →
    ((n : ℕ) (fault : Misplaced) → IsSettled H (place p kind n) → IsTrueAt m (place p kind n) fault → P n) →
    ((n : ℕ) → P n → IsSettled H (place p kind n)) → AreTrueAt m (row_places p kind others) faults →
    AreFaultsIn m (AndSettled H (IsOf p kind)) faults
row_part H m P p kind others faults listed wanted fits told = record {
  places = row_places p kind others;
  told = told;
  within = row_within H P p kind others fits listed.each;
  whole = λ at fault of is.
      let same : place p kind at.other ≡ at = place_is at p kind of.0.0 of.0.1 in
      row_has p kind others at of.0.0 of.0.1 (listed.complete at.other (wanted at.other fault (subst (IsSettled H) (sym same) of.1)
      (subst (λ f. IsTrueAt m f fault) (sym same) is)));
  in_order = row_rises p kind others listed.rising;
}

-- what is true at a place of each kind
module _ (m : TheMap) (p : ℕ) (polygon : Polygon) (is : slice_get m.polygons p ≡ Some polygon) where
  point_is : (key : PolyKey) (q : Point) → slice_get m.polygons p ≡ Some (record { key = key; point = q }) → q ≡ polygon.point
  point_is key q of = ap (λ (z : Polygon). z.point) (one_found (record { key = key; point = q }) polygon (slice_get m.polygons p) of is)

  pub held_at : (n : ℕ) (fault : Misplaced) → IsTrueAt m (place p 0 n) fault → IsHeldBy m.chains polygon.point n
  held_at n (OnChain key tlid) t = subst (λ q. IsHeldBy m.chains q n) (point_is key t.point t.of) t.held
  held_at n (Outside key) t = absurd (let k = t.kind in omega (arith, k))
  held_at n (InOther key other) t = absurd (let k = t.kind in omega (arith, k))

  pub outside_at : (n : ℕ) (fault : Misplaced) → IsTrueAt m (place p 1 n) fault → (n ≡ 0) × (¬ IsInside m.chains polygon.point p)
  outside_at n (OnChain key tlid) t = absurd (let k = t.kind in omega (arith, k))
  outside_at n (Outside key) t = (t.no_other, λ h. t.outside (subst (λ q. IsInside m.chains q p) (sym (point_is key t.point t.of)) h))
  outside_at n (InOther key other) t = absurd (let k = t.kind in omega (arith, k))

  pub in_at : (n : ℕ) (fault : Misplaced) → IsTrueAt m (place p 2 n) fault → IsIn m polygon.point p n
  in_at n (OnChain key tlid) t = absurd (let k = t.kind in omega (arith, k))
  in_at n (Outside key) t = absurd (let k = t.kind in omega (arith, k))
  in_at n (InOther key other) t = record {
    known = slice_get_within m.polygons n (record { key = other; point = t.other_point }) t.other_of;
    two = t.two;
    within = λ clear. t.within (subst (λ q. IsClear m.chains q n) (sym (point_is key t.point t.of)) clear);
  }

kinds : (m : TheMap) (at : FaultPlace) (fault : Misplaced) → IsTrueAt m at fault → (at.kind ≡ 0) ⊎ ((at.kind ≡ 1) ⊎ (at.kind ≡ 2))
kinds m at (OnChain key tlid) t = inl t.kind
kinds m at (Outside key) t = inr (inl t.kind)
kinds m at (InOther key other) t = inr (inr t.kind)

-- the point is outside, and this stands there; or it isn't, and nothing does
outside_listed : {P : Type 0} (b : Bool) → (IsTrue b ↔ P) → AreListed (λ n. (n ≡ 0) × P) (cond b (0 ∷ []) [])
outside_listed {P} true is = record {
  rising = λ k lt. absurd (let no : k + 1 < 1 = lt in omega (arith, no));
  each = All-cons (λ n. (n ≡ 0) × P) 0 [] (refl, is.0 refl) (All-nil (λ n. (n ≡ 0) × P));
  complete = λ x h. (0, omega arith, sym h.0);
}
outside_listed {P} false is = record {
  rising = λ k lt. absurd (let no : k + 1 < 0 = lt in omega (arith, no));
  each = All-nil (λ n. (n ≡ 0) × P);
  complete = λ x h. absurd (let t : IsTrue false = is.1 h.1 in cc);
}

-- all that is wrong with a polygon's point, but what hangs on hidden polygons
pub rows_joined : (H : ℕ → Type 0) (m : TheMap) (p : ℕ) (polygon : Polygon) (held : List ℕ) (out : Bool) (odd : List ℕ) (old first second new : List Misplaced) →
    slice_get m.polygons p ≡ Some polygon → AreListed (IsHeldBy m.chains polygon.point) held →
    (IsTrue out ↔ ((¬ IsInside m.chains polygon.point p) × (¬ H p))) → AreListed (λ n. IsIn m polygon.point p n × (¬ H n)) odd → HasRow m p 0 held old first →
    HasRow m p 1 (cond out (0 ∷ []) []) first second → HasRow m p 2 odd second new → HasPart m (AndSettled H (IsOfPolygon p)) old new
rows_joined H m p polygon held out odd old first second new is held_are out_is odd_are a b c = record {
  faults = a.faults ++ (b.faults ++ c.faults);
  are = c.are ∙ ap (λ fs. fs ++ c.faults) (b.are ∙ ap (λ fs. fs ++ b.faults) a.are) ∙ append_assoc (old ++ a.faults) b.faults c.faults ∙
      append_assoc old a.faults (b.faults ++ c.faults);
  part =
      joined m (AndSettled H (IsOfPolygon p)) (AndSettled H (IsOf p 0)) (AndSettled H Later) a.faults (b.faults ++ c.faults)
      (λ f g u v. inr (u.0.0 ∙ sym v.0.0, inl (let k = u.0.1 in let l = v.0.1 in omega (arith, k, l))))
      (λ f u. (u.0.0, u.1)) (λ f u. (u.0.0, u.1))
      (λ f fault u t. elim (kinds m f fault t) [
        | inl k ↦ inl ((u.0, k), u.1)
        | inr (inl k) ↦ inr ((u.0, omega (arith, k)), u.1)
        | inr (inr k) ↦ inr ((u.0, omega (arith, k)), u.1)
      ])
      (row_part H m (IsHeldBy m.chains polygon.point) p 0 held a.faults held_are (λ n fault s t. held_at m p polygon is n fault t)
      (λ n h. record { own = λ k. absurd (omega (arith, k)); other = λ k. absurd (omega (arith, k)) }) a.told)
      (joined m (AndSettled H Later) (AndSettled H (IsOf p 1)) (AndSettled H (IsOf p 2)) b.faults c.faults
      (λ f g u v. inr (u.0.0 ∙ sym v.0.0, inl (let k = u.0.1 in let l = v.0.1 in omega (arith, k, l))))
      (λ f u. ((u.0.0, let k = u.0.1 in omega (arith, k)), u.1)) (λ f u. ((u.0.0, let k = u.0.1 in omega (arith, k)), u.1))
      (λ f fault u t. elim (kinds m f fault t) [
        | inl k ↦ absurd (let l = u.0.1 in omega (arith, k, l))
        | inr (inl k) ↦ inl ((u.0.0, k), u.1)
        | inr (inr k) ↦ inr ((u.0.0, k), u.1)
      ])
      (row_part H m (λ n. (n ≡ 0) × ((¬ IsInside m.chains polygon.point p) × (¬ H p))) p 1 (cond out (0 ∷ []) []) b.faults (outside_listed out out_is)
      (λ n fault s t. let o = outside_at m p polygon is n fault t in (o.0, (o.1, s.own refl)))
      (λ n h. record { own = λ k. h.1.1; other = λ k. absurd (omega (arith, k)) }) b.told)
      (row_part H m (λ n. IsIn m polygon.point p n × (¬ H n)) p 2 odd c.faults odd_are (λ n fault s t. (in_at m p polygon is n fault t, s.other refl))
      (λ n h. record { own = λ k. absurd (omega (arith, k)); other = λ k. h.1 }) c.told));
}
  where
    Later : FaultPlace → Type 0
    Later f = (f.polygon ≡ p) × (1 ≤ f.kind)
