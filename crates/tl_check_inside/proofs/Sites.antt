-- The points of all polygons, each with its polygon.
use Rattle.std.proofs.Common.{◌≡◌, ℕ, ◌+◌, ◌<◌, inl, inr, List, [], ◌∷◌, ◌++◌, length, get_or, All, Contains, sym, subst, ap, ◌∙◌, refl, arith}
use Rattle.std.specs.Prelude.{slice_get}
use Rattle.std.specs.List.Sorted.{IsPermutation}
use Rattle.std.proofs.lemmas.Bool.{cases_lt}
use Rattle.std.proofs.lemmas.Option.{slice_get_within}
use Rattle.std.proofs.lemmas.List.{map-append, length-map, get_or-map}
use Rattle.std.proofs.lemmas.List.Elements.{All-push, Contains-append_left, Contains-append_right}
use Rattle.std.proofs.lemmas.List.Sorted.{All-permutation, IsPermutation-sym}
use Rattle.tl_map_county.specs.TheMap.{TheMap}
use Rattle.tl_check_inside.specs.declared.strips.Site.{Site}
use Rattle.tl_check_inside.specs.Placed.{ArePlaced, IsPlacedIn}
use Rattle.tl_check_inside.specs.Keeping.Strips.{IsPlacedSite, IsSiteOf, numbers}

contains_itself : (n : ℕ) → Contains (n ∷ []) n
contains_itself n = (0, omega arith, refl)

-- one more
number_more : (sites : List Site) (site : Site) → ((p : ℕ) → p < site.polygon → Contains (numbers sites) p) → (p : ℕ) → p < site.polygon + 1 → Contains (numbers (sites ++ site ∷ [])) p
number_more sites site before p lt =
    subst (λ ns. Contains ns p) (sym (map-append (λ (s : Site). s.polygon) sites (site ∷ [])))
    (elim (cases_lt p site.polygon) [
      | inl less ↦ Contains-append_left (numbers sites) (site.polygon ∷ []) p (before p less)
      | inr past ↦
          let same : site.polygon ≡ p = omega (arith, lt, past) in
          subst (Contains (numbers sites ++ site.polygon ∷ [])) same (Contains-append_right (numbers sites) (site.polygon ∷ []) site.polygon (contains_itself site.polygon))
    ])

pub site_more : (m : TheMap) (sites new : List Site) (site : Site) → new ≡ sites ++ site ∷ [] → All (IsSiteOf m) sites → IsSiteOf m site → All (IsSiteOf m) new
site_more m sites new site is all one = subst (All (IsSiteOf m)) (sym is) (All-push (IsSiteOf m) sites site all one)

pub whole_more : (sites new : List Site) (site : Site) → new ≡ sites ++ site ∷ [] → ((p : ℕ) → p < site.polygon → Contains (numbers sites) p) → (p : ℕ) → p < site.polygon + 1 → Contains (numbers new) p
whole_more sites new site is before p lt = subst (λ ss. Contains (numbers ss) p) (sym is) (number_more sites site before p lt)

-- sorted they are the same
pub all_moved : (m : TheMap) (old new : List Site) → IsPermutation old new → All (IsSiteOf m) old → All (IsSiteOf m) new
all_moved m old new moved all = All-permutation (IsSiteOf m) old new moved all

pub placed_moved : (m : TheMap) (old new : List Site) → IsPermutation old new → All (IsPlacedSite m) new → All (IsPlacedSite m) old
placed_moved m old new moved all = All-permutation (IsPlacedSite m) new old (IsPermutation-sym old new moved) all

-- where all are placed, so are those of all polygons
pub are_placed : (m : TheMap) (sites : List Site) → All (IsPlacedSite m) sites → ((p : ℕ) → p < length m.polygons → Contains (numbers sites) p) → ArePlaced m
are_placed m sites all whole p polygon is =
    let c = whole p (slice_get_within m.polygons p polygon is) in
    let k : ℕ = c.0 in
    let lt : k < length sites = let long = length-map sites (λ (s : Site). s.polygon) in let less = c.1 in omega (arith, long, less) in
    let d : Site = record { polygon = p; point = polygon.point } in
    let at : (get_or sites k d).polygon ≡ p = sym (get_or-map (λ (s : Site). s.polygon) sites k d p lt) ∙ c.2 in
    subst (IsPlacedIn m polygon.point) at (all k d lt polygon (ap (λ i. slice_get m.polygons i) at ∙ is))
