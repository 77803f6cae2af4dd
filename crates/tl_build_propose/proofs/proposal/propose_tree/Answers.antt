use Rattle.std.proofs.Common.{length, subst, arith}
use Rattle.std.proofs.lemmas.Result.{err_from_is_err_and}
use Rattle.tl_map_county.specs.Segments.{segments_before}
use Rattle.tl_check_planar.specs.Rectangles.{segment_rect}
use Rattle.tl_tree_index.specs.Fits.{Fits}
use Rattle.tl_tree_index.specs.Packed.{IsShallow}
use Rattle.tl_tree_index.specs.Trees.{tree_of}
use Rattle.tl_build_propose.proofs.Packed.{is_tree, eight_levels, new_nodes}
use Rattle.tl_build_propose.proofs.proposal.propose_tree.Goals as goal

pub returns-clause-tree : goal.returns-clause-tree
returns-clause-tree c =
    let nodes = c.in_ok-nodes.nodes.items in
    is_tree c.args.map.now nodes
    (subst (λ chains. Fits (tree_of nodes) (segments_before chains (length chains)) (segment_rect chains)) c.new.ensures c.in_ok-nodes.ensures.fits)
    c.in_ok-nodes.ensures.levels

pub returns-clause-each : goal.returns-clause-each
returns-clause-each c = new_nodes _ c.in_ok-nodes.ensures.filled

pub returns-clause-shallow : goal.returns-clause-shallow
returns-clause-shallow c =
    let nodes = c.in_ok-nodes.nodes.items in
    let shallow = subst (λ chains. IsShallow (segments_before chains (length chains)) (tree_of nodes)) c.new.ensures c.in_ok-nodes.ensures.shallow in
    eight_levels _ nodes shallow (omega (arith, c.segments-segments.ensures.count, c.segments-segments.ensures.few))

pub returns-in_err-nodes-clause-tree : goal.returns-in_err-nodes-clause-tree
returns-in_err-nodes-clause-tree c = let p = err_from_is_err_and c.from_residual.result c.from_residual.ensures.1 in rw p.1 tt

pub returns-in_err-nodes-clause-shallow : goal.returns-in_err-nodes-clause-shallow
returns-in_err-nodes-clause-shallow c = let p = err_from_is_err_and c.from_residual.result c.from_residual.ensures.1 in rw p.1 tt

pub returns-in_err-nodes-clause-split : goal.returns-in_err-nodes-clause-split
returns-in_err-nodes-clause-split c = let p = err_from_is_err_and c.from_residual.result c.from_residual.ensures.1 in rw p.1 tt

pub returns-in_err-nodes-clause-whole : goal.returns-in_err-nodes-clause-whole
returns-in_err-nodes-clause-whole c = let p = err_from_is_err_and c.from_residual.result c.from_residual.ensures.1 in rw p.1 tt

pub returns-in_err-nodes-clause-counted : goal.returns-in_err-nodes-clause-counted
returns-in_err-nodes-clause-counted c = let p = err_from_is_err_and c.from_residual.result c.from_residual.ensures.1 in rw p.1 tt

pub returns-in_err-nodes-clause-each : goal.returns-in_err-nodes-clause-each
returns-in_err-nodes-clause-each c = let p = err_from_is_err_and c.from_residual.result c.from_residual.ensures.1 in rw p.1 tt
