use Rattle.std.proofs.Common.{◌<◌, ◌≤◌, ◌∙◌, ap, sym, length, arith}
use Rattle.tl_map_county.specs.Keeping.Sides.{with_cells, without_cells}
use Rattle.tl_map_county.proofs.SidesLemmas.{length-sides_kept, kept_at, bare_at}
use Rattle.tl_map_county.proofs.kept.SidesOfChains.get.Goals as goal

pub index-pair-requires : goal.index-pair-requires
index-pair-requires c =
    omega (arith, c.self.inside.pairs.ok.0, length-sides_kept c.self.inside.cells.items c.self.inside.pairs.items, rw (← c.self.view_is) at c.requires)

pub returns-then-place-len : goal.returns-then-place-len
returns-then-place-len c =
    let lt : c.args.place < length c.self.inside.pairs.items = omega (arith, length-sides_kept c.self.inside.cells.items c.self.inside.pairs.items, rw (← c.self.view_is) at c.requires) in
    let here : c.args.place < length c.self.inside.cells.items = omega (arith, c.if-place-len.true, c.len.ensures, c.self.inside.cells.ok.0) in
    rw (← c.self.view_is) (λ d. c.sides_with.ensures ∙ (λ j. with_cells (c.index.ensures j) (c.index-pair.ensures j))
    ∙ sym (kept_at c.self.inside.cells.items c.self.inside.pairs.items c.args.place c.index.result.now c.index-pair.result.now d here lt))

pub returns-else-place-len : goal.returns-else-place-len
returns-else-place-len c =
    let lt : c.args.place < length c.self.inside.pairs.items = omega (arith, length-sides_kept c.self.inside.cells.items c.self.inside.pairs.items, rw (← c.self.view_is) at c.requires) in
    let past : length c.self.inside.cells.items ≤ c.args.place = omega (arith, c.if-place-len.false, c.len.ensures, c.self.inside.cells.ok.0) in
    rw (← c.self.view_is) (λ d. c.sides_without.ensures ∙ ap without_cells c.index-pair.ensures
    ∙ sym (bare_at c.self.inside.cells.items c.self.inside.pairs.items c.args.place c.index-pair.result.now d past lt))
