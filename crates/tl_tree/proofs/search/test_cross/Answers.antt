use Rattle.tl_tree.proofs.CellRows.{cells-of-lanes}
use Rattle.tl_tree.proofs.search.test_cross.Goals as goal

pub test_cells-requires-clause-cells : goal.test_cells-requires-clause-cells
test_cells-requires-clause-cells g c =
    cells-of-lanes (g.I.Items.bounds_of c.args.items.now) c.args.some.now c.args.others.now c.bounds_of_eight-bounds.result c.cells_of.result c.cells_of.ensures c.bounds_of_eight-bounds.ensures

pub test_all-requires-clause-some : goal.test_all-requires-clause-some
test_all-requires-clause-some g c = c.requires.some

pub test_all-requires-clause-others : goal.test_all-requires-clause-others
test_all-requires-clause-others g c = c.requires.others

pub test_all-requires-clause-nothing_found : goal.test_all-requires-clause-nothing_found
test_all-requires-clause-nothing_found g c = c.requires.nothing_found

pub bounds_of_eight-bounds-requires : goal.bounds_of_eight-bounds-requires
bounds_of_eight-bounds-requires g c = c.requires.others

pub cells_of-requires-clause-some : goal.cells_of-requires-clause-some
cells_of-requires-clause-some g c = c.requires.some

pub test_cells-requires-clause-some : goal.test_cells-requires-clause-some
test_cells-requires-clause-some g c = c.requires.some

pub test_cells-requires-clause-others : goal.test_cells-requires-clause-others
test_cells-requires-clause-others g c = c.requires.others

pub test_cells-requires-clause-nothing_found : goal.test_cells-requires-clause-nothing_found
test_cells-requires-clause-nothing_found g c = c.requires.nothing_found

pub returns : goal.returns
returns g c = c.test_cells.ensures
