use Rattle.tl_tree_index.specs.Pairs.{AreToldApart}
use Rattle.tl_tree.proofs.CellRows.{cells-of-lanes}
use Rattle.tl_tree.proofs.Leaving.{leaves_same}
use Rattle.tl_tree.proofs.PairLemmas.{cross-swap, all_cross-swap}
use Rattle.tl_tree.proofs.PairTests.{free-turned}
use Rattle.tl_tree.proofs.leaf.test_rows.Goals as goal

pub test_cells-requires-clause-cells : goal.test_cells-requires-clause-cells
test_cells-requires-clause-cells g c =
    cells-of-lanes (g.I.Items.bounds_of c.args.items.now) c.args.others.now c.args.some.now c.args.bounds.now c.cells_of.result c.cells_of.ensures c.requires.bounds

pub returns : goal.returns
returns g c =
    let tells = g.I.Items.tells c.args.items.now in
    leaves_same (g.I.Items.count c.args.items.now) (g.I.Items.bounds_of c.args.items.now) tells _ _ _ _ _ _ c.test_cells.result
    (λ f s. cross-swap f s c.args.others.now c.args.some.now)
    (λ h. all_cross-swap (AreToldApart tells) (free-turned tells) c.args.others.now c.args.some.now h)
    c.test_cells.ensures

pub cells_of-requires-clause-some : goal.cells_of-requires-clause-some
cells_of-requires-clause-some g c = c.requires.others

pub cells_of-requires-clause-few : goal.cells_of-requires-clause-few
cells_of-requires-clause-few g c = c.requires.few_others

pub test_cells-requires-clause-some : goal.test_cells-requires-clause-some
test_cells-requires-clause-some g c = c.requires.others

pub test_cells-requires-clause-others : goal.test_cells-requires-clause-others
test_cells-requires-clause-others g c = c.requires.some

pub test_cells-requires-clause-few : goal.test_cells-requires-clause-few
test_cells-requires-clause-few g c = c.requires.few_others

pub test_cells-requires-clause-few_others : goal.test_cells-requires-clause-few_others
test_cells-requires-clause-few_others g c = c.requires.few

pub test_cells-requires-clause-nothing_found : goal.test_cells-requires-clause-nothing_found
test_cells-requires-clause-nothing_found g c = c.requires.nothing_found
