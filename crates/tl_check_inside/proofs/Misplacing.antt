-- What the counts at a polygon's point say of it.
use Rattle.std.proofs.Common.{◌≡◌, ◌≢◌, ℕ, ◌+◌, ◌<◌, Option, Some, None, MatchOption, List, length, sym, subst, ap, ◌∙◌, arith}
use Rattle.std.specs.Prelude.{slice_get, slice_index}
use Rattle.std.proofs.lemmas.Option.{slice_get_within}
use Rattle.tl_geom.specs.declared.point.Point.{Point}
use Rattle.tl_map_county.specs.declared.polygons.Polygon.{Polygon}
use Rattle.tl_map_county.specs.declared.sides.Side.{Side}
use Rattle.tl_map_county.specs.TheMap.{TheMap, MapChain, IsChain}
use Rattle.tl_check_planar.specs.Keeping.Apart.{one_found}
use Rattle.tl_check_inside.specs.declared.flanks.Flanks.{Flanks}
use Rattle.tl_check_inside.specs.declared.misplaced.Misplaced.{Misplaced}
use Rattle.tl_check_inside.specs.declared.strips.Site.{Site}
use Rattle.tl_check_inside.specs.Places.{IsHeldBy, IsOffChains}
use Rattle.tl_check_inside.specs.Keeping.Strips.{IsSiteOf, IsPlacedSite}
use Rattle.tl_check_inside.specs.Placed.{IsPlacedIn, IsPointOnChain, IsPointOutside, IsPointInOther}
use Rattle.tl_check_inside.specs.Keeping.Tallies.{AreTallies, TellCounts, IsEven, IsOdd}
use Rattle.tl_check_inside.proofs.Counting.{inside, not_inside, clear, not_clear}

module _ (m : TheMap) (p : ℕ) (polygon : Polygon) (crossed : List Flanks) (near far : List ℕ) (is : slice_get m.polygons p ≡ Some polygon) (nears : length near ≡ length m.polygons) (fars : length far ≡ length m.polygons) (tell : TellCounts m.chains polygon.point crossed) (t : AreTallies crossed near far) where
  within : p < length m.polygons
  within = slice_get_within m.polygons p polygon is

  pub outside : slice_index near p ≢ slice_index far p + 1 → IsPointOutside m polygon.key
  outside ne = record {
    p = p;
    point = polygon.point;
    of = is;
    outside = not_inside m.chains polygon.point crossed near far tell t p (omega (arith, within, nears)) (omega (arith, within, fars)) ne;
  }

  pub in_other : (q : ℕ) (other : Polygon) → slice_get m.polygons q ≡ Some other → IsOdd near far p q → IsPointInOther m polygon.key other.key
  in_other q other other_is odd = record {
    p = p;
    point = polygon.point;
    of = is;
    q = q;
    other_point = other.point;
    other_of = other_is;
    two = odd.other;
    within = not_clear m.chains polygon.point crossed near far tell t q odd.within (let lt = odd.within in omega (arith, lt, nears, fars)) odd.differ;
  }

  pub placed : IsOffChains m.chains polygon.point → slice_index near p ≡ slice_index far p + 1 → ((q : ℕ) → IsEven near far p q) → IsPlacedIn m polygon.point p
  placed off one even = record {
    off = off;
    inside = inside m.chains polygon.point crossed near far tell t p (omega (arith, within, nears)) (omega (arith, within, fars)) one;
    clear = λ q lt other.
        let in_near : q < length near = omega (arith, lt, nears) in
        clear m.chains polygon.point crossed near far tell t q in_near (omega (arith, lt, fars)) (even q in_near other);
  }

-- a chain that holds a polygon's point, by its TLID
pub on_chain : (m : TheMap) (p c tlid : ℕ) (found : Polygon) (points : List Point) (left right : Side) → slice_get m.polygons p ≡ Some found → IsHeldBy m.chains found.point c → IsChain (slice_get m.chains c) tlid points left right → IsPointOnChain m found.key tlid
on_chain m p c tlid found points left right is held chain = record {
  p = p;
  point = found.point;
  of = is;
  c = c;
  held = held;
  tlid_is =
      let one : held.chain ≡ chain.chain = one_found held.chain chain.chain (slice_get m.chains c) held.is chain.is in
      ap (λ (z : MapChain). z.tlid) one ∙ sym chain.tlid_is;
}

-- a polygon that is found is that of the site
pub at_its_point : (m : TheMap) (site : Site) (found : Polygon) → IsSiteOf m site → slice_get m.polygons site.polygon ≡ Some found → site.point ≡ found.point
at_its_point m site found of is = of.point ∙ ap (λ (p : Polygon). p.point) (one_found of.polygon found (slice_get m.polygons site.polygon) of.is is)

-- so where it is placed, the site is
pub placed_site : (m : TheMap) (site : Site) (found : Polygon) (B : Misplaced → Type 0) (wrong : Option Misplaced) → slice_get m.polygons site.polygon ≡ Some found → MatchOption wrong (IsPlacedIn m found.point site.polygon) B → MatchOption wrong (IsPlacedSite m site) B
placed_site m site found B (Some fault) is h = h
placed_site m site found B None is h = λ other other_is. subst (λ (p : Polygon). IsPlacedIn m p.point site.polygon) (one_found found other (slice_get m.polygons site.polygon) is other_is) h

pub told_some : {X : Type 0} (A : Type 0) (B : X → Type 0) (found : Option X) (x : X) → found ≡ Some x → MatchOption found A B → B x
told_some A B found x is told = subst (λ o. MatchOption o A B) is told

pub told_none : {X : Type 0} (A : Type 0) (B : X → Type 0) (found : Option X) → found ≡ None → MatchOption found A B → A
told_none A B found is told = subst (λ o. MatchOption o A B) is told
