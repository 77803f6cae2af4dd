use Rattle.std.proofs.Common.{sym, ◌∙◌}
use Rattle.std.proofs.lemmas.Bool.{false≢true}
use Rattle.tl_check_sides.proofs.ListLemmas.{none_below, under}
use Rattle.tl_check_sides.proofs.NodeFacts.{starts_first, two_nodes, one_node_more}
use Rattle.tl_check_sides.proofs.rounds.has_one_node.Goals as goal

pub returns-then-dart_node-node-clause-two : goal.returns-then-dart_node-node-clause-two
returns-then-dart_node-node-clause-two c = λ no.
    let nodes = c.requires.nodes in
    two_nodes c.args.map.now.chains nodes.0 c.args.round.now c.loop-place.place c.dart_node-node.result c.dart_node.result nodes.1 c.loop-place-test.true
    (c.dart_node-node.ensures.within nodes.0 nodes.1) (c.dart_node.ensures.within nodes.0 nodes.1)
    (c.dart_node-node.ensures.start nodes.0 nodes.1) (c.dart_node.ensures.start nodes.0 nodes.1) c.if-dart_node-node.true

pub loop-place-preserved : goal.loop-place-preserved
loop-place-preserved c =
    let nodes = c.requires.nodes in
    one_node_more c.args.map.now.chains nodes.0 c.args.round.now c.loop-place.place c.dart_node-node.result c.dart_node.result
    (c.dart_node-node.ensures.start nodes.0 nodes.1) (c.dart_node.ensures.start nodes.0 nodes.1) c.if-dart_node-node.false c.loop-place.invariant

pub loop-place-init : goal.loop-place-init
loop-place-init c = λ k h. none_below k h

pub returns-then-dart_node-node-clause-one : goal.returns-then-dart_node-node-clause-one
returns-then-dart_node-node-clause-one c = λ is. absurd (false≢true is)

pub returns-clause-two : goal.returns-clause-two
returns-clause-two c = λ no. absurd (false≢true (sym no))

pub returns-clause-one : goal.returns-clause-one
returns-clause-one c = λ is k h. c.loop-place.invariant k (under k _ c.loop-place.place h c.loop-place-test.false) ∙ sym (starts_first c.args.map.now.chains c.args.round.now c.requires.some)

pub dart_node-node-requires : goal.dart_node-node-requires
dart_node-node-requires c = c.requires.darts 0 c.requires.some

pub dart_node-requires : goal.dart_node-requires
dart_node-requires c = c.requires.darts c.loop-place.place c.loop-place-test.true
