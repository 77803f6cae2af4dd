use Rattle.std.proofs.Common.{◌+◌, ◌∙◌, sym, arith}
use Rattle.std.proofs.lemmas.List.{get_or_default}
use Rattle.tl_map_county.proofs.RowLemmas.{number_among, joins_among, differ_among}
use Rattle.tl_map_county.proofs.chains.Chains.segment.Goals as goal

pub index-requires : goal.index-requires
index-requires c =
    let given = rw (← c.self.view_is) at c.requires.number in
    omega (arith, number_among c.self.inside.points.items c.self.inside.rows.items c.args.s c.args.c given.0 c.self.invariant.1 given.1, c.self.inside.points.ok.0)

pub index-requires-2 : goal.index-requires-2
index-requires-2 c =
    let given = rw (← c.self.view_is) at c.requires.number in
    omega (arith, number_among c.self.inside.points.items c.self.inside.rows.items c.args.s c.args.c given.0 c.self.invariant.1 given.1, c.self.inside.points.ok.0)

pub between-requires : goal.between-requires
between-requires c = λ same.
    let points = c.self.inside.points.items in
    let given = rw (← c.self.view_is) at c.requires.number in
    let inside = number_among points c.self.inside.rows.items c.args.s c.args.c given.0 c.self.invariant.1 given.1 in
    differ_among points c.self.inside.rows.items c.args.s c.args.c given.0 c.index.result.now c.self.invariant.1 given.1 (rw (← c.self.view_is) at c.requires.proper)
    (sym c.index.ensures ∙ same ∙ c.index-2.ensures ∙ get_or_default points (c.args.s + c.args.c + 1) c.index-2.result.now c.index.result.now (omega (arith, inside)))

pub returns : goal.returns
returns c = λ k number.
    let points = c.self.inside.points.items in
    let given = rw (← c.self.view_is) at number in
    let inside = number_among points c.self.inside.rows.items c.args.s c.args.c k c.self.invariant.1 given in
    rw (← c.self.view_is) (joins_among points c.self.inside.rows.items c.args.s c.args.c k c.index.result.now c.between.result c.self.invariant.1 given
    (c.between.ensures.from ∙ c.index.ensures)
    (c.between.ensures.to ∙ c.index-2.ensures ∙ get_or_default points (c.args.s + c.args.c + 1) c.index-2.result.now c.index.result.now inside))
