-- Points whose counts are known.
use Rattle.std.proofs.Common.{◌≡◌, ℕ, pos, ◌<◌, Option, Some, None, Result, Ok, Err, IfOk, List, [], length, get_or, All, Contains, Vec, Global, sym, subst, ap, ◌∙◌, arith}
use Rattle.std.specs.Prelude.{slice_get, MatchOption, IfSome}
use Rattle.std.proofs.lemmas.List.{length-map, get_or-map, take_all}
use Rattle.std.proofs.lemmas.List.Elements.{All-nil, All-weaker, All-contains, All-contains_itself}
use Rattle.std.proofs.lemmas.Option.{slice_get-get_or}
use Rattle.tl_map_county.specs.declared.polygons.Polygon.{Polygon}
use Rattle.tl_map_county.specs.TheMap.{TheMap}
use Rattle.tl_geom.specs.declared.point.Point.{Point}
use Rattle.tl_check_planar.specs.Keeping.Apart.{one_found}
use Rattle.tl_check_inside.specs.declared.flanks.Flanks.{Flanks}
use Rattle.tl_check_inside.specs.declared.strips.Site.{Site}
use Rattle.tl_check_inside.specs.Places.{IsOffChains, IsHeldBy}
use Rattle.tl_check_inside.specs.Keeping.Strips.{IsSiteOf, numbers}
use Rattle.tl_check_inside.specs.Keeping.Tallies.{TellCounts}
use Rattle.tl_check_points.specs.Counts.{AreCountsAt}
use Rattle.tl_tree_index.specs.declared.index.Memory.{Memory}
use Rattle.tl_check_inside.specs.Suspects.{AreSuspects}
use Rattle.tl_check_inside.specs.declared.misplaced.Misplaced.{Misplaced}
use Rattle.tl_check_points.specs.Listing.AllMisplaced.{AreAllMisplaced}
use Rattle.tl_check_points.specs.Listing.Keeping.Known.{TellAt}
use Rattle.tl_check_points.specs.Listing.Keeping.Parts.{AreFaultsIn, IsOfAny, AndSettled}
use Rattle.tl_check_points.proofs.ListingLemmas.Suspected.{all_among}
use Rattle.tl_check_sides.specs.Listing.Keeping.Listed.{AreListed}

-- what is known at the place of a polygon
module _ (m : TheMap) (sites : List Site) (polygons : List ℕ) (are : All (IsSiteOf m) sites) (same : numbers sites ≡ polygons)
    (counts : List (Option (List Flanks))) (known : AreCountsAt m.chains sites counts) (k d : ℕ) (lt : k < length polygons) where
  long : k < length sites
  long = let one = length-map sites (λ (s : Site). s.polygon) in let other = ap length same in omega (arith, lt, one, other)

  nothing : Site
  nothing = record { polygon = 0; point = record { x = pos 0; y = pos 0 } }

  site : Site
  site = get_or sites k nothing

  number : site.polygon ≡ get_or polygons k d
  unfolding site
  number = sym (get_or-map (λ (s : Site). s.polygon) sites k nothing d long) ∙ ap (λ l. get_or l k d) same

  is_site : IsSiteOf m site
  unfolding site
  is_site = are k nothing long

  at_place : slice_get sites k ≡ Some site
  unfolding site
  at_place = slice_get-get_or sites k nothing long

  point_is : (polygon : Polygon) → slice_get m.polygons (get_or polygons k d) ≡ Some polygon → site.point ≡ polygon.point
  point_is polygon at =
      is_site.point ∙ ap (λ (p : Polygon). p.point) (one_found is_site.polygon polygon (slice_get m.polygons site.polygon) is_site.is (ap (slice_get m.polygons) number ∙ at))

  pub tell_at : (flanks : List Flanks) → slice_get counts k ≡ Some (Some flanks) → TellAt m (get_or polygons k d) flanks
  tell_at flanks at = record {
    off = λ polygon is. subst (IsOffChains m.chains) (point_is polygon is) (known k site flanks at_place at).0;
    tell = λ polygon is. subst (λ q. TellCounts m.chains q flanks) (point_is polygon is) (known k site flanks at_place at).1;
  }

-- a point that is on no chain is held by none of none
pub none_held : (m : TheMap) (q : Point) (held : List ℕ) → held ≡ [] → IsOffChains m.chains q → AreListed (IsHeldBy m.chains q) held
none_held m q held empty off =
    subst (AreListed (IsHeldBy m.chains q)) (sym empty)
    (record { rising = λ k lt. absurd (omega (arith, lt)); each = All-nil (IsHeldBy m.chains q); complete = λ x h. absurd (off x h) })

-- what is told where there is something
pub some_more : {X : Type 0} (found : Option X) (A : Type 0) (P Q : X → Type 0) → ((x : X) → P x → Q x) → MatchOption found A P → IfSome found Q
some_more (Some x) A P Q f told = f x told
some_more None A P Q f told = tt

-- ---- sorted polygons

pub all_sorted : (n : ℕ) (suspects sorted polygons : List ℕ) → polygons ≡ sorted → All (λ p. p < n) suspects →
    ((x : ℕ) → Contains sorted x → Contains suspects x) → All (λ p. p < n) polygons
all_sorted n suspects sorted polygons same known back =
    subst (All (λ p. p < n)) (sym same)
    (All-weaker (Contains sorted) (λ p. p < n) (λ x among. All-contains (λ p. p < n) suspects x known (back x among)) sorted (All-contains_itself sorted))

pub all_answered : (H : ℕ → Type 0) (m : TheMap) (suspects sorted polygons : List ℕ) (found : Result (Vec Misplaced Global) Memory) → polygons ≡ sorted → AreSuspects m suspects →
    ((x : ℕ) → Contains suspects x → Contains sorted x) → ((x : ℕ) → Contains sorted x → Contains suspects x) →
    IfOk found (λ faults. AreFaultsIn m (AndSettled H (IsOfAny polygons)) faults.items) → IfOk found (λ faults. AreAllMisplaced H m faults.items)
all_answered H m suspects sorted polygons (Ok faults) same are there back told =
    all_among H m suspects sorted (length sorted) faults.items (omega arith) are there back
    (subst (λ l. AreFaultsIn m (AndSettled H (IsOfAny l)) faults.items) (same ∙ sym (take_all (length sorted) sorted (omega arith))) told)
all_answered H m suspects sorted polygons (Err error) same are there back told = tt
