-- Counts at points of a map of two parts.
use Rattle.std.proofs.Common.{◌≡◌, ◌⊎◌, ⊎_elim, inl, inr, ℕ, ℤ, pos, ◌<◌, ◌≤◌, Option, Some, List, [], ◌∷◌, ◌+◌, length, map, set, All, Contains, refl, sym, ap, subst, ◌∙◌, arith}
use Rattle.std.specs.Prelude.{slice_get, Bool, false}
use Rattle.std.proofs.lemmas.Option.{slice_get_within}
use Rattle.std.proofs.lemmas.Bool.{cases_lt}
use Rattle.std.proofs.lemmas.List.Elements.{All-nil, All-contains, All-push, Contains-append_left, Contains-push}
use Rattle.tl_check_planar.specs.Keeping.Apart.{one_found}
use Rattle.tl_geom.specs.declared.point.Point.{Point}
use Rattle.tl_map_county.specs.Remaining.{remaining, map_without}
use Rattle.tl_map_county.specs.TheMap.{TheMap, MapChain}
use Rattle.tl_map_county.specs.declared.polygons.Polygon.{Polygon}
use Rattle.tl_map_county.specs.declared.sides.Side.{Side}
use Rattle.tl_map_county.specs.declared.sides.Side.TheVariants.{Outside}
use Rattle.tl_check_inside.specs.Inside.{flanks_at, is_polygon, IsCount, IsInside, IsClear}
use Rattle.tl_check_inside.specs.Placed.{IsPlacedIn}
use Rattle.tl_check_inside.specs.Suspects.{AreSuspects}
use Rattle.tl_check_inside.specs.declared.flanks.Flanks.{Flanks}
use Rattle.tl_check_inside.specs.declared.strips.Site.{Site}
use Rattle.tl_check_inside.specs.Places.{IsHeldBy, IsOffChains}
use Rattle.tl_check_inside.specs.Keeping.Tallies.{TellCounts}
use Rattle.tl_check_faces.specs.Crossings.Headings.{AreProper}
use Rattle.tl_check_faces.proofs.Parted.{tell_turned, off_both}
use Rattle.tl_check_sweep.specs.declared.remaining.PlanarPart.{PlanarPart}
use Rattle.tl_check_sweep.specs.Parts.{IsPlanarPart}
use Rattle.tl_check_points.specs.Counts.{AreCountsAt}
use Rattle.tl_check_points.proofs.Known.{one_known}
use Rattle.tl_check_points.specs.Listing.Keeping.Joined.{AreJoined, IsApart, IsSifted, turned}
use Rattle.tl_check_sides.specs.Listing.Keeping.Listed.{AreListed}

-- where no chain is listed that holds a point, none does
pub off_where_none : (chains : List MapChain) (q : Point) (held : List ℕ) → AreListed (IsHeldBy chains q) held → held ≡ [] → IsOffChains chains q
off_where_none chains q held listed none c is =
    All-contains (λ (x : ℕ). ⊥) [] c (All-nil (λ (x : ℕ). ⊥)) (subst (λ xs. Contains xs c) none (listed.complete c is))

-- at one point more the counts of both parts are those of the map
pub joined_more : (m : TheMap) (part : PlanarPart) (taken : TheMap) (sites : List Site) (known counts new : List (Option (List Flanks))) (place : ℕ)
    (site : Site) (flanks joined : List Flanks) → IsPlanarPart m part → taken ≡ map_without (turned part.marks.items) m → AreProper m.chains
    → AreCountsAt part.map.chains sites known → AreCountsAt m.chains sites counts → slice_get sites place ≡ Some site
    → slice_get known place ≡ Some (Some flanks) → IsOffChains taken.chains site.point → AreJoined taken.chains site.point flanks joined
    → new ≡ set counts place (Some joined) → AreCountsAt m.chains sites new
joined_more m part taken sites known counts new place site flanks joined is gone proper told before at there off both is_new =
    let marks = part.marks.items in
    let few : length m.chains ≤ length marks = let long = is.long in omega (arith, long) in
    let rest : part.map.chains ≡ remaining marks m.chains = ap (λ (x : TheMap). x.chains) is.is in
    let others : taken.chains ≡ remaining (turned marks) m.chains = ap (λ (x : TheMap). x.chains) gone in
    let here = told place site flanks at there in
    one_known m.chains sites counts new place joined site is_new before at
    (off_both marks m.chains site.point few (subst (λ cs. IsOffChains cs site.point) rest here.0) (subst (λ cs. IsOffChains cs site.point) others off))
    (subst (TellCounts m.chains site.point) (sym both.is)
    (tell_turned marks m.chains site.point flanks both.crossed proper few (subst (λ cs. TellCounts cs site.point flanks) rest here.1)
    (subst (λ cs. TellCounts cs site.point both.crossed) others both.tell)))

-- ---- suspects

-- a count in the planar part is one in the map, where no chain that was taken out crosses the ray
count_kept : (marks : List Bool) (chains : List MapChain) (q : Point) (S : Side → Bool) (n : ℤ) → AreProper chains → length chains ≤ length marks → S Outside ≡ false
    → TellCounts (remaining (turned marks) chains) q [] → IsCount (remaining marks chains) q S n → IsCount chains q S n
count_kept marks chains q S n proper few none apart count =
    let flanks = map (flanks_at (remaining marks chains)) count.crossed in
    let told : TellCounts (remaining marks chains) q flanks = λ T out. record { crossed = count.crossed; are = count.are; counted = refl } in
    subst (IsCount chains q S) (sym count.counted) (tell_turned marks chains q flanks [] proper few told apart S none)

-- so is a point that is placed there
pub placed_apart : (m : TheMap) (part : PlanarPart) (taken : TheMap) (q : Point) (p : ℕ) → IsPlanarPart m part → taken ≡ map_without (turned part.marks.items) m → AreProper m.chains
    → IsApart taken.chains q → IsPlacedIn part.map q p → IsPlacedIn m q p
placed_apart m part taken q p is gone proper apart placed =
    let marks = part.marks.items in
    let few : length m.chains ≤ length marks = let long = is.long in omega (arith, long) in
    let rest : part.map.chains ≡ remaining marks m.chains = ap (λ (x : TheMap). x.chains) is.is in
    let same : part.map.polygons ≡ m.polygons = ap (λ (x : TheMap). x.polygons) is.is in
    let others : taken.chains ≡ remaining (turned marks) m.chains = ap (λ (x : TheMap). x.chains) gone in
    let none : TellCounts (remaining (turned marks) m.chains) q [] = subst (λ cs. TellCounts cs q []) others apart.tell in
    record {
      off = off_both marks m.chains q few (subst (λ cs. IsOffChains cs q) rest placed.off) (subst (λ cs. IsOffChains cs q) others apart.off);
      inside = count_kept marks m.chains q (is_polygon p) (pos 1) proper few refl none (subst (λ cs. IsInside cs q p) rest placed.inside);
      clear = λ other within two. count_kept marks m.chains q (is_polygon other) (pos 0) proper few refl none
          (subst (λ cs. IsClear cs q other) rest (placed.clear other (subst (λ (ps : List Polygon). other < length ps) (sym same) within) two));
    }

-- of the polygons before this one each is a suspect or apart
abbrev pub AreSifted : TheMap → (taken : TheMap) → List ℕ → ℕ → Type 0
AreSifted m taken suspects n = (p : ℕ) (polygon : Polygon) → p < n → slice_get m.polygons p ≡ Some polygon → Contains suspects p ⊎ IsApart taken.chains polygon.point

-- those that are listed stay
abbrev pub AreMore : TheMap → (old new : List ℕ) → Type 0
AreMore m old new = All (λ p. p < length m.polygons) new × ((p : ℕ) → Contains old p → Contains new p)

-- at first those of the part are listed
pub copied_more : (m : TheMap) (part : PlanarPart) (suspects : List ℕ) → IsPlanarPart m part → suspects ≡ part.suspects.items → AreMore m part.suspects.items suspects
copied_more m part suspects is same =
    rw same (subst (λ (x : TheMap). All (λ p. p < length x.polygons) part.suspects.items) is.is is.suspects.known, λ p there. there)

pub none_sifted : (m : TheMap) (taken : TheMap) (suspects : List ℕ) → AreSifted m taken suspects 0
none_sifted m taken suspects = λ p polygon low is. absurd (omega (arith, low))

-- one polygon more
pub sifted_more : (m : TheMap) (taken : TheMap) (base old new : List ℕ) (n : ℕ) (polygon : Polygon) → slice_get m.polygons n ≡ Some polygon → AreMore m base old
    → IsSifted taken.chains n polygon.point old new → AreMore m base new
sifted_more m taken base old new n polygon at more sifted =
    let within : n < length m.polygons = slice_get_within m.polygons n polygon at in
    elim sifted [
      | inl same ↦ subst (AreMore m base) (sym same.0) more
      | inr grown ↦ rw grown (
        All-push (λ p. p < length m.polygons) old n more.0 within,
        λ p there. Contains-append_left old (n ∷ []) p (more.1 p there),
      )
    ]

pub sifted_next : (m : TheMap) (taken : TheMap) (old new : List ℕ) (n : ℕ) (polygon : Polygon) → slice_get m.polygons n ≡ Some polygon → AreSifted m taken old n
    → IsSifted taken.chains n polygon.point old new → AreSifted m taken new (n + 1)
sifted_next m taken old new n polygon at before sifted = λ p other low is.
    elim (cases_lt p n) [
      | inl lower ↦ elim sifted [
        | inl same ↦ subst (λ ns. Contains ns p ⊎ IsApart taken.chains other.point) (sym same.0) (before p other lower is)
        | inr grown ↦ ⊎_elim (λ there. inl (rw grown (Contains-append_left old (n ∷ []) p there))) (λ apart. inr apart) (before p other lower is)
      ]
      | inr last ↦
          let one : p ≡ n = omega (arith, low, last) in
          let same : other ≡ polygon = one_found other polygon (slice_get m.polygons n) (ap (slice_get m.polygons) (sym one) ∙ is) at in
          elim sifted [
            | inl kept ↦ inr (subst (λ (o : Polygon). IsApart taken.chains o.point) (sym same) kept.1)
            | inr grown ↦ inl (rw (grown, one) (Contains-push old n))
          ]
    ]

-- where all were looked at, these are the suspects of the map
pub sifted_all : (m : TheMap) (part : PlanarPart) (taken : TheMap) (suspects : List ℕ) (n : ℕ) → IsPlanarPart m part → taken ≡ map_without (turned part.marks.items) m
    → AreProper m.chains → AreMore m part.suspects.items suspects → AreSifted m taken suspects n → length m.polygons ≤ n → AreSuspects m suspects
sifted_all m part taken suspects n is gone proper more sifted all = record {
  known = more.0;
  others = λ p polygon at.
      let within : p < length m.polygons = slice_get_within m.polygons p polygon at in
      let same : part.map.polygons ≡ m.polygons = ap (λ (x : TheMap). x.polygons) is.is in
      ⊎_elim (λ listed. inl (more.1 p listed))
      (λ placed. ⊎_elim (λ here. inl here) (λ apart. inr (placed_apart m part taken polygon.point p is gone proper apart placed))
      (sifted p polygon (omega (arith, within, all)) at))
      (is.suspects.others p polygon (ap (λ (ps : List Polygon). slice_get ps p) same ∙ at));
}
