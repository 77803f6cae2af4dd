use Rattle.tl_tree.proofs.Leaving.{goes, leaves_both}
use Rattle.tl_tree.proofs.leaf.test_leaf.Goals as goal

pub returns : goal.returns
returns g c =
    leaves_both (g.I.Items.count c.args.items.now) (g.I.Items.bounds_of c.args.items.now) (g.I.Items.tells c.args.items.now) _ _ _ _ _ _ _ c.test_listed.result
    (goes _ _ _ _ _ _ _ _ c.test_pairs.ensures c.if-not-test_pairs.false) c.test_listed.ensures

pub test_pairs-requires-clause-some : goal.test_pairs-requires-clause-some
test_pairs-requires-clause-some g c = c.requires.some

pub test_listed-requires-clause-some : goal.test_listed-requires-clause-some
test_listed-requires-clause-some g c = c.requires.some

pub test_listed-requires-clause-around : goal.test_listed-requires-clause-around
test_listed-requires-clause-around g c = c.requires.around

pub test_listed-requires-clause-near : goal.test_listed-requires-clause-near
test_listed-requires-clause-near g c = c.requires.near

pub bounds_of_eight-bounds-requires : goal.bounds_of_eight-bounds-requires
bounds_of_eight-bounds-requires g c = c.requires.some

pub test_pairs-requires-clause-bounds : goal.test_pairs-requires-clause-bounds
test_pairs-requires-clause-bounds g c = c.bounds_of_eight-bounds.ensures

pub test_pairs-requires-clause-nothing_found : goal.test_pairs-requires-clause-nothing_found
test_pairs-requires-clause-nothing_found g c = c.requires.nothing_found

pub test_listed-requires-clause-bounds : goal.test_listed-requires-clause-bounds
test_listed-requires-clause-bounds g c = c.bounds_of_eight-bounds.ensures

pub test_listed-requires-clause-nothing_found : goal.test_listed-requires-clause-nothing_found
test_listed-requires-clause-nothing_found g c = (goes _ _ _ _ _ _ _ _ c.test_pairs.ensures c.if-not-test_pairs.false).nothing_found
