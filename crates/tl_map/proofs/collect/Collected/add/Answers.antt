use Rattle.std.proofs.Common.{◌≡◌, inl, inr, map, ◌∷◌, [], ◌++◌}
use Rattle.std.specs.List.{filter_map}
use Rattle.tl_record.specs.declared.record.Record.TheVariants.{Chain, Shape}
use Rattle.tl_map_rules.specs.Listing.Kept.{shape_at}
use Rattle.tl_map_rules.specs.Listing.Shapes.{summary_in}
use Rattle.tl_map.specs.Keeping.Entries.{AreShapeEntries}
use Rattle.tl_map.proofs.CollectLemmas.{AreShapeEntries-chain, IsOther, Collects-other, collects_more, all_inside, both_made, same}
use Rattle.tl_map.proofs.collect.Collected.add.Goals as goal

pub returns-in_ok-push-in-Chain : goal.returns-in_ok-push-in-Chain
returns-in_ok-push-in-Chain c = λ rs h.
    rw (c.in-Chain.is) (collects_more rs (Chain c.in-Chain.tlid c.in-Chain.from c.in-Chain.to) c.args.self.now _ h c.in_ok-push-in-Chain.ensures.items
    (AreShapeEntries-chain rs _ _ c.in-Chain.tlid c.in-Chain.from c.in-Chain.to h.shapes) (same _))

pub returns-in-Shape : goal.returns-in-Shape
returns-in-Shape c = λ rs h. rw (c.in-Shape.is)
    (both_made c.add_shape.result (λ (entries : AreShapeEntries (rs ++ Shape c.in-Shape.tlid c.in-Shape.rtsq c.in-Shape.pairs ∷ []) c.add_shape.new.pool.items c.add_shape.new.shapes.items)
    (summaries : map (summary_in c.add_shape.new.pool.items) c.add_shape.new.shapes.items ≡ map (summary_in c.args.self.now.pool.items) c.args.self.now.shapes.items ++ filter_map shape_at (Shape c.in-Shape.tlid c.in-Shape.rtsq c.in-Shape.pairs ∷ [])).
    collects_more rs (Shape c.in-Shape.tlid c.in-Shape.rtsq c.in-Shape.pairs) c.args.self.now _ h (same _) entries summaries)
    (c.add_shape.ensures.entries rs h.shapes) (c.add_shape.ensures.summaries (all_inside rs c.args.self.now.pool.items c.args.self.now.shapes.items h.shapes)))

pub returns-in-Sides : goal.returns-in-Sides
returns-in-Sides c = λ rs h.
    let other : IsOther c.args.next.now = elim c.in-Sides.is [
      | inl sides ↦ rw sides.5 tt
      | inr others ↦ elim others [ inl polygon ↦ rw polygon.2 tt | inr rest ↦ elim rest [ inl landmark ↦ rw landmark.2 tt | inr link ↦ rw link.2 tt ] ]
    ] in
    Collects-other rs c.args.next.now c.args.self.now other h

pub returns-in-Sides-2 : goal.returns-in-Sides-2
returns-in-Sides-2 c = λ rs h.
    let other : IsOther c.args.next.now = elim c.in-Sides.is [
      | inl sides ↦ rw sides.5 tt
      | inr others ↦ elim others [ inl polygon ↦ rw polygon.2 tt | inr rest ↦ elim rest [ inl landmark ↦ rw landmark.2 tt | inr link ↦ rw link.2 tt ] ]
    ] in
    Collects-other rs c.args.next.now c.args.self.now other h

pub returns-in-Sides-3 : goal.returns-in-Sides-3
returns-in-Sides-3 c = λ rs h.
    let other : IsOther c.args.next.now = elim c.in-Sides.is [
      | inl sides ↦ rw sides.5 tt
      | inr others ↦ elim others [ inl polygon ↦ rw polygon.2 tt | inr rest ↦ elim rest [ inl landmark ↦ rw landmark.2 tt | inr link ↦ rw link.2 tt ] ]
    ] in
    Collects-other rs c.args.next.now c.args.self.now other h

pub returns-in-Sides-4 : goal.returns-in-Sides-4
returns-in-Sides-4 c = λ rs h.
    let other : IsOther c.args.next.now = elim c.in-Sides.is [
      | inl sides ↦ rw sides.5 tt
      | inr others ↦ elim others [ inl polygon ↦ rw polygon.2 tt | inr rest ↦ elim rest [ inl landmark ↦ rw landmark.2 tt | inr link ↦ rw link.2 tt ] ]
    ] in
    Collects-other rs c.args.next.now c.args.self.now other h
