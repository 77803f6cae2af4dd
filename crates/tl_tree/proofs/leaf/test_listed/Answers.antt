use Rattle.std.proofs.Common.{arith}
use Rattle.tl_tree_index.specs.Pairs.{meeting}
use Rattle.tl_tree.proofs.Leaving.{leaves_more}
use Rattle.tl_tree.proofs.PairLemmas.{cross-nil}
use Rattle.tl_tree.proofs.leaf.test_listed.Goals as goal

pub returns-in-Some : goal.returns-in-Some
returns-in-Some g c =
    let xs = c.args.some.now in
    let s = c.in-Some.ensures.listed in
    let z = cross-nil (meeting (g.I.Items.bounds_of c.args.items.now)) xs in
    leaves_more (g.I.Items.count c.args.items.now) (g.I.Items.bounds_of c.args.items.now) (g.I.Items.tells c.args.items.now) _ _ _ _ _ _ c.test_blocks.result
    (omega (arith, s.sum, z))
    (λ f u. omega (arith, s.most f, cross-nil f xs))
    (λ h. (s.free h).1)
    c.test_blocks.ensures

pub test_unlisted-requires-clause-some : goal.test_unlisted-requires-clause-some
test_unlisted-requires-clause-some g c = c.requires.some

pub test_unlisted-requires-clause-around : goal.test_unlisted-requires-clause-around
test_unlisted-requires-clause-around g c = c.requires.around

pub test_unlisted-requires-clause-near : goal.test_unlisted-requires-clause-near
test_unlisted-requires-clause-near g c = c.requires.near

pub list_near_items-requires-clause-some : goal.list_near_items-requires-clause-some
list_near_items-requires-clause-some g c = c.requires.some

pub list_near_items-requires-clause-around : goal.list_near_items-requires-clause-around
list_near_items-requires-clause-around g c = c.requires.around

pub list_near_items-requires-clause-trees : goal.list_near_items-requires-clause-trees
list_near_items-requires-clause-trees g c = c.requires.near

pub test_blocks-requires-clause-some : goal.test_blocks-requires-clause-some
test_blocks-requires-clause-some g c = c.requires.some

pub test_blocks-requires-clause-bounds : goal.test_blocks-requires-clause-bounds
test_blocks-requires-clause-bounds g c = c.requires.bounds

pub test_unlisted-requires-in-None-clause-some : goal.test_unlisted-requires-in-None-clause-some
test_unlisted-requires-in-None-clause-some g c = c.requires.some

pub test_unlisted-requires-in-None-clause-around : goal.test_unlisted-requires-in-None-clause-around
test_unlisted-requires-in-None-clause-around g c = c.requires.around

pub test_unlisted-requires-in-None-clause-near : goal.test_unlisted-requires-in-None-clause-near
test_unlisted-requires-in-None-clause-near g c = c.requires.near

pub returns-then-some-gt8 : goal.returns-then-some-gt8
returns-then-some-gt8 g c = c.test_unlisted.ensures

pub returns-in-None : goal.returns-in-None
returns-in-None g c = c.test_unlisted-in-None.ensures

pub test_unlisted-requires-clause-nothing_found : goal.test_unlisted-requires-clause-nothing_found
test_unlisted-requires-clause-nothing_found g c = c.requires.nothing_found

pub test_unlisted-requires-in-None-clause-nothing_found : goal.test_unlisted-requires-in-None-clause-nothing_found
test_unlisted-requires-in-None-clause-nothing_found g c = c.requires.nothing_found

pub test_blocks-requires-clause-nothing_found : goal.test_blocks-requires-clause-nothing_found
test_blocks-requires-clause-nothing_found g c = c.requires.nothing_found

pub test_blocks-requires-clause-few : goal.test_blocks-requires-clause-few
test_blocks-requires-clause-few g c = c.if-some-gt8.false

pub test_blocks-requires-clause-others : goal.test_blocks-requires-clause-others
test_blocks-requires-clause-others g c = c.in-Some.ensures.listed.known tt
