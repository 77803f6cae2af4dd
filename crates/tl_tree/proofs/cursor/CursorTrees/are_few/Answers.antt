use Rattle.std.proofs.Common.{drop, arith}
use Rattle.std.proofs.lemmas.Bool.Decides.{nat_tests}
use Rattle.tl_tree_index.specs.Trees.{trees_of}
use Rattle.tl_tree.proofs.Roots.{roots-first}
use Rattle.tl_tree.proofs.cursor.CursorTrees.are_few.Goals as goal

pub returns : goal.returns
returns c = let self = c.args.self.now in let h = roots-first self.count (trees_of (drop self.at self.lists.now.nodes.now)) in λ yes. grind (arith, nat_tests, h, yes)
