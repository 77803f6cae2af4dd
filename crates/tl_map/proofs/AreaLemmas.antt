use Rattle.std.proofs.Common.{◌≡◌, Option, Some, None, List, [], ◌∷◌, ◌++◌, refl, sym, ap, ◌∙◌}
use Rattle.std.specs.List.{filter_map}
use Rattle.std.proofs.lemmas.List.{append-nil}
use Rattle.std.proofs.lemmas.List.Elements.{filter_map-append}
use Rattle.tl_record.specs.declared.record.Record.{Record}
use Rattle.tl_map.specs.declared.areas.AreaRecords.{AreaRecords}
use Rattle.tl_map_rules.specs.MapOf.{sides_at, polygon_at, landmark_at, link_at}
use Rattle.tl_map.specs.Keeping.Areas.{KeepsAreas}

-- a record that gives nothing
pub kept : {Y : Type 0} (h : Record → Option Y) (rs : List Record) (r : Record) (items : List Y) → h r ≡ None → items ≡ filter_map h rs → items ≡ filter_map h (rs ++ r ∷ [])
kept h rs r items none before =
    before ∙ sym (filter_map-append h rs (r ∷ []) ∙ rw none (append-nil (filter_map h rs)))

-- a record that gives an item
pub added : {Y : Type 0} (h : Record → Option Y) (rs : List Record) (r : Record) (y : Y) (items more : List Y) → h r ≡ Some y → items ≡ filter_map h rs → more ≡ items ++ y ∷ [] → more ≡ filter_map h (rs ++ r ∷ [])
added h rs r y items more some before is =
    is ∙ ap (λ ys. ys ++ y ∷ []) before ∙ sym (filter_map-append h rs (r ∷ []) ∙ rw some refl)

-- a record of another type
pub kept_all : (rs : List Record) (r : Record) (a : AreaRecords) → sides_at r ≡ None → polygon_at r ≡ None → landmark_at r ≡ None → link_at r ≡ None → KeepsAreas rs a → KeepsAreas (rs ++ r ∷ []) a
kept_all rs r a i p s e h = record {
  sides = kept sides_at rs r a.sides i h.sides;
  polygons = kept polygon_at rs r a.polygons.items p h.polygons;
  landmarks = kept landmark_at rs r a.landmarks.items s h.landmarks;
  links = kept link_at rs r a.links.items e h.links;
}
