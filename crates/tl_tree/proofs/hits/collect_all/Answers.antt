use Rattle.std.proofs.Common.{arith}
use Rattle.tl_tree.proofs.Hitting.{adds-collected, on-ok, on-err, no-ok, no-err, cut-back}
use Rattle.tl_tree_index.specs.Trees.{leaf_items}
use Rattle.tl_tree.proofs.hits.collect_all.Goals as goal

pub returns-else-is_err-clause-hits : goal.returns-else-is_err-clause-hits
returns-else-is_err-clause-hits g c =
    let f = g.W.Trees.forest c.args.trees.now in
    on-ok c.collect_trees-collected.result
    (adds-collected (g.P.Probe.hit c.args.probe.now c.args.items.now) (g.I.Items.count c.args.items.now) (leaf_items f) c.args.out.now.items c.collect_trees-collected.new.out.items c.requires.known c.requires.once)
    c.collect_trees-collected.ensures.hits

pub collect_trees-collected-requires-clause-trees : goal.collect_trees-collected-requires-clause-trees
collect_trees-collected-requires-clause-trees g c = record { known = c.requires.known; covers = c.requires.covers }

pub collect_trees-collected-requires-clause-region : goal.collect_trees-collected-requires-clause-region
collect_trees-collected-requires-clause-region g c = c.region.ensures

pub returns-then-is_err-clause-hits : goal.returns-then-is_err-clause-hits
returns-then-is_err-clause-hits g c = no-ok _ c.collect_trees-collected.result c.if-is_err.ensures.negation

pub returns-then-is_err-clause-refused : goal.returns-then-is_err-clause-refused
returns-then-is_err-clause-refused g c =
    on-err c.collect_trees-collected.result
    (cut-back c.args.out.now.items c.collect_trees-collected.new.out.items c.truncate.new.self.items c.collect_trees-collected.ensures.grows.added c.len-before.result c.truncate.ensures.items c.collect_trees-collected.ensures.grows.appended (omega (arith, c.len-before.ensures, c.args.out.now.ok.0)))

pub returns-else-is_err-clause-refused : goal.returns-else-is_err-clause-refused
returns-else-is_err-clause-refused g c = no-err _ c.collect_trees-collected.result c.if-is_err.ensures.negation
