use Rattle.std.proofs.Common.{◌≡◌, ◌∷◌, [], ◌++◌, refl, inl, inr}
use Rattle.std.proofs.lemmas.Result.{on_ok_weaker}
use Rattle.tl_record.specs.declared.record.Record.TheVariants.{Chain, Shape, Sides, PolyPoint, Landmark, AreaLink}
use Rattle.tl_map_rules.specs.MapOf.{sides_at, polygon_at, landmark_at, link_at}
use Rattle.tl_map.proofs.AreaLemmas.{kept, added, kept_all}
use Rattle.tl_map.proofs.areas.AreaRecords.add.Goals as goal

pub returns-in-Sides : goal.returns-in-Sides
returns-in-Sides c = λ rs h. rw c.in-Sides.is (on_ok_weaker c.push.result (λ (more : c.push.new.self ≡ c.args.self.now.sides ++ record { tlid = c.in-Sides.tlid; start_cell = c.in-Sides.start_cell; end_cell = c.in-Sides.end_cell; left = c.in-Sides.left; right = c.in-Sides.right } ∷ []). record {
  sides = added sides_at rs (Sides c.in-Sides.tlid c.in-Sides.start_cell c.in-Sides.end_cell c.in-Sides.left c.in-Sides.right) _ _ _ refl h.sides more;
  polygons = kept polygon_at rs (Sides c.in-Sides.tlid c.in-Sides.start_cell c.in-Sides.end_cell c.in-Sides.left c.in-Sides.right) _ refl h.polygons;
  landmarks = kept landmark_at rs (Sides c.in-Sides.tlid c.in-Sides.start_cell c.in-Sides.end_cell c.in-Sides.left c.in-Sides.right) _ refl h.landmarks;
  links = kept link_at rs (Sides c.in-Sides.tlid c.in-Sides.start_cell c.in-Sides.end_cell c.in-Sides.left c.in-Sides.right) _ refl h.links;
}) c.push.ensures)

pub returns-in-PolyPoint : goal.returns-in-PolyPoint
returns-in-PolyPoint c = λ rs h. rw c.in-PolyPoint.is (on_ok_weaker c.append.result (λ (more : c.append.new.items.items ≡ c.args.self.now.polygons.items ++ record { key = c.in-PolyPoint.key; point = c.in-PolyPoint.point } ∷ []). record {
  sides = kept sides_at rs (PolyPoint c.in-PolyPoint.key c.in-PolyPoint.point) _ refl h.sides;
  polygons = added polygon_at rs (PolyPoint c.in-PolyPoint.key c.in-PolyPoint.point) _ _ _ refl h.polygons more;
  landmarks = kept landmark_at rs (PolyPoint c.in-PolyPoint.key c.in-PolyPoint.point) _ refl h.landmarks;
  links = kept link_at rs (PolyPoint c.in-PolyPoint.key c.in-PolyPoint.point) _ refl h.links;
}) c.append.ensures)

pub returns-in-Landmark : goal.returns-in-Landmark
returns-in-Landmark c = λ rs h. rw c.in-Landmark.is (on_ok_weaker c.append-in-Landmark.result (λ (more : c.append-in-Landmark.new.items.items ≡ c.args.self.now.landmarks.items ++ record { land = c.in-Landmark.land; point = c.in-Landmark.point } ∷ []). record {
  sides = kept sides_at rs (Landmark c.in-Landmark.land c.in-Landmark.point) _ refl h.sides;
  polygons = kept polygon_at rs (Landmark c.in-Landmark.land c.in-Landmark.point) _ refl h.polygons;
  landmarks = added landmark_at rs (Landmark c.in-Landmark.land c.in-Landmark.point) _ _ _ refl h.landmarks more;
  links = kept link_at rs (Landmark c.in-Landmark.land c.in-Landmark.point) _ refl h.links;
}) c.append-in-Landmark.ensures)

pub returns-in-AreaLink : goal.returns-in-AreaLink
returns-in-AreaLink c = λ rs h. rw c.in-AreaLink.is (on_ok_weaker c.append-in-AreaLink.result (λ (more : c.append-in-AreaLink.new.items.items ≡ c.args.self.now.links.items ++ record { key = c.in-AreaLink.key; land = c.in-AreaLink.land } ∷ []). record {
  sides = kept sides_at rs (AreaLink c.in-AreaLink.key c.in-AreaLink.land) _ refl h.sides;
  polygons = kept polygon_at rs (AreaLink c.in-AreaLink.key c.in-AreaLink.land) _ refl h.polygons;
  landmarks = kept landmark_at rs (AreaLink c.in-AreaLink.key c.in-AreaLink.land) _ refl h.landmarks;
  links = added link_at rs (AreaLink c.in-AreaLink.key c.in-AreaLink.land) _ _ _ refl h.links more;
}) c.append-in-AreaLink.ensures)

pub returns-in-Chain : goal.returns-in-Chain
returns-in-Chain c = λ rs h. elim c.in-Chain.is [
  | inl w ↦ rw w.3 (kept_all rs (Chain w.0 w.1 w.2) c.args.self.now refl refl refl refl h)
  | inr w ↦ rw w.3 (kept_all rs (Shape w.0 w.1 w.2) c.args.self.now refl refl refl refl h)
]

pub returns-in-Chain-2 : goal.returns-in-Chain-2
returns-in-Chain-2 c = λ rs h. elim c.in-Chain.is [
  | inl w ↦ rw w.3 (kept_all rs (Chain w.0 w.1 w.2) c.args.self.now refl refl refl refl h)
  | inr w ↦ rw w.3 (kept_all rs (Shape w.0 w.1 w.2) c.args.self.now refl refl refl refl h)
]
