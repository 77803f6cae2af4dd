use Rattle.std.proofs.Common.{◌≤◌, sym, subst}
use Rattle.tl_tree_index.specs.Trees.{depth, tree_of}
use Rattle.tl_check_verdict.specs.Valid.{AreCounts, IsTree}
use Rattle.tl_check.specs.Keeping.Parts.{LeadsBehindTree}
use Rattle.tl_check.proofs.Treed.{too_deep_stays}
use Rattle.tl_check.proofs.tree.take_tree.Goals as goal

pub from_nodes-requires-clause-whole : goal.from_nodes-requires-clause-whole
from_nodes-requires-clause-whole c = c.requires.whole

pub from_nodes-requires-clause-numbered : goal.from_nodes-requires-clause-numbered
from_nodes-requires-clause-numbered c = c.requires.numbered

pub search_by-requires : goal.search_by-requires
search_by-requires c = record { shallow = subst (λ t. depth (tree_of t) ≤ 64) (sym c.in-Ok.ensures.tree) c.in-Ok.ensures.shallow }

pub returns-in-Ok : goal.returns-in-Ok
returns-in-Ok c = subst (λ t. LeadsBehindTree c.args.map.now c.args.budget (IsTree c.args.map.now t) (λ cert. AreCounts c.args.map.now cert.counts) t c.search_by.result) c.in-Ok.ensures.tree c.search_by.ensures

pub returns-in-Err-TooDeep : goal.returns-in-Err-TooDeep
returns-in-Err-TooDeep c = record {
  holds = λ cert counts tree rounds walks d on. too_deep_stays cert d c.args.nodes.now (c.in-Err-TooDeep.ensures.deep c.in-Err-TooDeep.field-0-is) tree on;
  rounds = tt;
  searched = tt;
  behind = λ of_darts. absurd of_darts;
}

pub returns-in-Err-Memory : goal.returns-in-Err-Memory
returns-in-Err-Memory c = record { halts = tt; tree = tt; meets = tt }
