use Rattle.std.proofs.Common.{sym, ◌∙◌}
use Rattle.std.proofs.lemmas.Bool.{false≢true}
use Rattle.tl_check.proofs.Streaming.{wrong_counts}
use Rattle.tl_check.proofs.Halting.{counted_so}
use Rattle.tl_check.proofs.as_read.take_counted.Goals as goal

pub take_tree-requires-clause-whole : goal.take_tree-requires-clause-whole
take_tree-requires-clause-whole c = c.requires.whole

pub take_tree-requires-clause-numbered : goal.take_tree-requires-clause-numbered
take_tree-requires-clause-numbered c = c.requires.numbered

pub returns-then-are_counts : goal.returns-then-are_counts
returns-then-are_counts c = counted_so c.args.map.now c.args.budget c.args.counts c.args.nodes.now c.take_tree.result (c.are_counts.ensures.0 c.if-are_counts.true) c.take_tree.ensures

pub returns-else-are_counts : goal.returns-else-are_counts
returns-else-are_counts c = record {
  holds = λ cert counts tree rounds walks.
      wrong_counts c.args.map.now cert c.args.counts counts (λ are. false≢true (sym c.if-are_counts.false ∙ c.are_counts.ensures.1 are));
  rounds = tt;
  searched = tt;
  behind = λ of_darts. absurd of_darts;
}
