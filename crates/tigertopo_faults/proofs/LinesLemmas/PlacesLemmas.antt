-- The points of polygons by their keys, from the last polygon to the first.
use Rattle.std.proofs.Common.{◌≡◌, ℕ, ◌+◌, ◌≤◌, List, [], ◌∷◌, length, drop, Some, sym, ap, ◌∙◌, arith}
use Rattle.std.specs.Prelude.{slice_get, cond, if◌then◌else◌}
use Rattle.std.specs.Map.{lookup}
use Rattle.std.proofs.lemmas.List.{drop_more, at_drop_all}
use Rattle.std.proofs.lemmas.Option.{slice_get_within, get_or_from_slice_get}
use Rattle.tl_geom.specs.declared.point.Point.{Point}
use Rattle.tl_record_key.specs.declared.key.PolyKey.{PolyKey}
use Rattle.tl_map_county.specs.declared.polygons.Polygon.{Polygon}
use Rattle.tl_map_rules.specs.MapOf.{same_key}
use Rattle.tigertopo_faults.specs.Lines.Places.{point_of_key}
use Rattle.tigertopo_pictures.proofs.PieceLemmas.{from_place}

-- before the first, the index has nothing
pub keyed_none : (polygons : List Polygon) (entries : List (PolyKey × Point)) (n : ℕ) → entries ≡ [] → length polygons ≤ n
    → (key : PolyKey) → lookup (same_key key) entries ≡ point_of_key (drop n polygons) key
keyed_none polygons entries n none past key = ap (lookup (same_key key)) none ∙ sym (at_drop_all (λ ps. point_of_key ps key) polygons n past)

-- one more stands in the stead of those behind it with the same key
pub keyed_more : (polygons : List Polygon) (old new : List (PolyKey × Point)) (n m : ℕ) (polygon : Polygon) → n + 1 ≡ m → slice_get polygons n ≡ Some polygon
    → ((key : PolyKey) → lookup (same_key key) old ≡ point_of_key (drop m polygons) key)
    → ((key : PolyKey) → lookup (same_key key) new ≡ cond (same_key polygon.key key) (Some polygon.point) (lookup (same_key key) old))
    → (key : PolyKey) → lookup (same_key key) new ≡ point_of_key (drop n polygons) key
keyed_more polygons old new n m polygon next is before more key =
    more key ∙ ap (λ o. if same_key polygon.key key then Some polygon.point else o) (before key ∙ ap (λ k. point_of_key (drop k polygons) key) (sym next))
    ∙ sym (ap (λ ps. point_of_key ps key) (from_place polygons n polygon is))

-- all are there
pub keyed_all : (polygons : List Polygon) (entries : List (PolyKey × Point)) (n : ℕ) → n ≤ 0
    → ((key : PolyKey) → lookup (same_key key) entries ≡ point_of_key (drop n polygons) key) → (key : PolyKey) → lookup (same_key key) entries ≡ point_of_key polygons key
keyed_all polygons entries n first before key = before key ∙ ap (λ k. point_of_key (drop k polygons) key) (let e : n ≡ 0 = omega arith in e)
