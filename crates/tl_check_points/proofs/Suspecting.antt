-- The points of polygons, where those of all but some are known to lie where they have to.
use Rattle.std.proofs.Common.{◌≡◌, inl, inr, ℕ, ◌+◌, ◌<◌, List, [], ◌∷◌, ◌++◌, length, get_or, take, All, Contains, sym, subst, ap, ◌∙◌, arith}
use Rattle.std.specs.Prelude.{slice_get}
use Rattle.std.proofs.lemmas.List.{length-map, map-append, get_or-map, take_more}
use Rattle.tl_map_county.specs.TheMap.{TheMap}
use Rattle.tl_check_inside.specs.declared.strips.Site.{Site}
use Rattle.tl_check_inside.specs.Placed.{IsPlacedIn, ArePlaced}
use Rattle.tl_check_inside.specs.Keeping.Strips.{IsPlacedSite, numbers}
use Rattle.tl_check_inside.specs.Suspects.{AreSuspects}

-- one site more, of the polygons so far
pub polygon_more : (polygons : List ℕ) (sites new : List Site) (k e : ℕ) (site : Site) → k < length polygons → numbers sites ≡ take k polygons → new ≡ sites ++ site ∷ [] → site.polygon ≡ get_or polygons k e
    → numbers new ≡ take (k + 1) polygons
polygon_more polygons sites new k e site lt before is same =
    ap numbers is
    ∙ map-append (λ (s : Site). s.polygon) sites (site ∷ [])
    ∙ ap (λ ns. ns ++ site.polygon ∷ []) before
    ∙ ap (λ p. take k polygons ++ p ∷ []) same
    ∙ sym (take_more polygons k e lt)

-- where those that are listed are placed, all are
pub all_placed : (m : TheMap) (suspects : List ℕ) (sites : List Site) → AreSuspects m suspects → numbers sites ≡ suspects → All (IsPlacedSite m) sites → ArePlaced m
all_placed m suspects sites known are all p polygon is = elim (known.others p polygon is) [
  | inl listed ↦
      let c = subst (λ ns. Contains ns p) (sym are) listed in
      let k : ℕ = c.0 in
      let lt : k < length sites = let long = length-map sites (λ (s : Site). s.polygon) in let less = c.1 in omega (arith, long, less) in
      let d : Site = record { polygon = p; point = polygon.point } in
      let at : (get_or sites k d).polygon ≡ p = sym (get_or-map (λ (s : Site). s.polygon) sites k d p lt) ∙ c.2 in
      subst (IsPlacedIn m polygon.point) at (all k d lt polygon (ap (λ i. slice_get m.polygons i) at ∙ is))
  | inr placed ↦ placed
]

-- where there are no suspects
none_held : (p : ℕ) → ¬ Contains [] p
none_held p has = let no : has.0 < 0 = has.1 in omega (arith, no)

pub placed_but : (m : TheMap) (suspects : List ℕ) → AreSuspects m suspects → suspects ≡ [] → ArePlaced m
placed_but m suspects so none p polygon at = elim (so.others p polygon at) [
  | inl listed ↦ absurd (none_held p (subst (λ ns. Contains ns p) none listed))
  | inr placed ↦ placed
]
