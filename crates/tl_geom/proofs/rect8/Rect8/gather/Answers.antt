use Rattle.std.proofs.Common.{◌∙◌, rules}
use Rattle.tl_geom.proofs.Masks.{again, lanes-again, gathered}
use Rattle.tl_geom.proofs.rect8.Rect8.gather.Goals as goal

pub invariant_of-result : goal.invariant_of-result
invariant_of-result c =
    record {
      west = lanes-again c.lanes_of.result c.lanes_of.ensures.lanes;
      south = lanes-again c.lanes_of-2.result c.lanes_of-2.ensures.lanes;
      east = lanes-again c.lanes_of-3.result c.lanes_of-3.ensures.lanes;
      north = lanes-again c.lanes_of-4.result c.lanes_of-4.ensures.lanes;
    }

pub returns : goal.returns
returns c =
    gathered _ _ _ _ c.rect_at-a.result c.rect_at-b.result c.rect_at-c.result c.rect_at-d.result c.rect_at-e.result c.rect_at-f.result c.rect_at-g.result c.rect_at-h.result c.args.rects.now
    (again c.lanes_of.result c.lanes_of.ensures.lanes ∙ c.lanes_of.ensures.value)
    (again c.lanes_of-2.result c.lanes_of-2.ensures.lanes ∙ c.lanes_of-2.ensures.value)
    (again c.lanes_of-3.result c.lanes_of-3.ensures.lanes ∙ c.lanes_of-3.ensures.value)
    (again c.lanes_of-4.result c.lanes_of-4.ensures.lanes ∙ c.lanes_of-4.ensures.value)
    (record { is = c.rect_at-a.ensures; sides = record { west = search rules; south = search rules; east = search rules; north = search rules } }) (record { is = c.rect_at-b.ensures; sides = record { west = search rules; south = search rules; east = search rules; north = search rules } }) (record { is = c.rect_at-c.ensures; sides = record { west = search rules; south = search rules; east = search rules; north = search rules } }) (record { is = c.rect_at-d.ensures; sides = record { west = search rules; south = search rules; east = search rules; north = search rules } }) (record { is = c.rect_at-e.ensures; sides = record { west = search rules; south = search rules; east = search rules; north = search rules } }) (record { is = c.rect_at-f.ensures; sides = record { west = search rules; south = search rules; east = search rules; north = search rules } }) (record { is = c.rect_at-g.ensures; sides = record { west = search rules; south = search rules; east = search rules; north = search rules } }) (record { is = c.rect_at-h.ensures; sides = record { west = search rules; south = search rules; east = search rules; north = search rules } })
