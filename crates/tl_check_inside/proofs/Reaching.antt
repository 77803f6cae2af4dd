-- What a ray crosses it reaches, where no point lies too far east.
use Rattle.std.proofs.Common.{◌≡◌, ℕ, zero, suc, ◌+◌, ◌<◌, ◌≤◌, All, cond, eqb, inl, inr, Result, Ok, Err, OnOk, List, [], ◌∷◌, ◌++◌, length, sym, subst, ap, ◌∙◌, refl, arith}
use Rattle.std.proofs.lemmas.Bool.{cases_lt}
use Rattle.tl_geom.specs.declared.point.Point.{Point}
use Rattle.tl_geom.proofs.Rays.{ray_meets}
use Rattle.tl_map_county.specs.TheMap.{MapChain}
use Rattle.tl_map_county.specs.Segments.{segments_before}
use Rattle.tl_tree_index.specs.Hits.{times, AreHits, Adds}
use Rattle.tl_tree_index.proofs.Times.{times-same}
use Rattle.tl_check_inside.specs.Inside.{IsCrossed, AreCrossed}
use Rattle.tl_check_inside.specs.Keeping.Probing.{IsReached, ChainsAreInReach}
use Rattle.tl_check_inside.proofs.Hitting.{meets_back}

module _ (chains : List MapChain) (q : Point) (reach : ChainsAreInReach chains) where
  pub reached : (s : ℕ) → IsCrossed chains q s → IsReached chains q s
  reached s x =
      let first = reach x.c x.joins.chain x.joins.is x.k x.segment.a x.joins.from in
      let last = reach x.c x.joins.chain x.joins.is (x.k + 1) x.segment.b x.joins.to in
      record { crossed = x; meets = meets_back chains q s x.c x.k x.segment x.number x.joins (ray_meets x.segment q first last x.crosses) }

  crossed_of : (hits : List ℕ) → AreHits (segments_before chains (length chains)) (IsReached chains q) hits → AreCrossed chains q hits
  crossed_of hits h = record {
    once = λ s lt x. h.once s lt (reached s x);
    others = λ s no. h.others s (λ r. no r.crossed);
    known = h.known;
  }

  -- what is added to nothing is what is crossed
  pub crossed_by : (own : List MapChain) (old new : List ℕ) → Adds (segments_before own (length own)) (IsReached own q) old new → own ≡ chains → old ≡ [] → AreCrossed chains q new
  crossed_by own old new adds same none =
      let hits = subst (λ cs. AreHits (segments_before cs (length cs)) (IsReached cs q) adds.found) same adds.hits in
      let is : adds.found ≡ new = sym (adds.appended ∙ ap (λ xs. xs ++ adds.found) none) in
      subst (AreCrossed chains q) is (crossed_of adds.found hits)

-- a list in which no number from n on stands holds numbers below n
pub all_below : (n : ℕ) (xs : List ℕ) → ((i : ℕ) → n ≤ i → times i xs ≡ 0) → All (λ x. x < n) xs
all_below n [] h k d lt = absurd (let no : k < 0 = lt in omega (arith, no))
all_below n (x ∷ xs) h zero d lt = elim (cases_lt x n) [
  | inl less ↦ less
  | inr past ↦ absurd (let none = h x past in let one = times-same x x xs refl in omega (arith, none, one))
]
all_below n (x ∷ xs) h (suc k) d lt =
    all_below n xs (λ i le. let none : cond (eqb i x) 1 0 + times i xs ≡ 0 = h i le in omega (arith, none)) k d (omega (arith, lt))

pub crossed_below : (chains : List MapChain) (q : Point) (hits : List ℕ) → AreCrossed chains q hits → All (λ s. s < segments_before chains (length chains)) hits
crossed_below chains q hits a = all_below (segments_before chains (length chains)) hits a.known

pub on_ok : {X E : Type 0} (r : Result X E) {A B : Type 0} → (A → B) → OnOk r A → OnOk r B
on_ok (Ok x) f a = f a
on_ok (Err e) f a = tt
