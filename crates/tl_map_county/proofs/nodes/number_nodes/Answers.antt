use Rattle.std.proofs.Common.{◌*◌, length}
use Rattle.std.proofs.lemmas.List.Sorted.{length_permutation}
use Rattle.tl_map_county.specs.Keeping.Noded.{start_in}
use Rattle.tl_map_county.proofs.NodeLemmas.{starts_moved, darts_told}
use Rattle.tl_map_county.proofs.NumberingLemmas.{numbered_nodes}
use Rattle.tl_map_county.proofs.nodes.number_nodes.Goals as goal

pub number_starts-requires-clause-darts : goal.number_starts-requires-clause-darts
number_starts-requires-clause-darts c =
    let cs = c.args.chains.now.chains in
    let tell = starts_moved (start_in cs) (2 * length cs) _ _ c.sort_starts.ensures.moved c.in_ok-starts.ensures.starts in
    rw c.deref.ensures.value (darts_told (start_in cs) _ _ tell)

pub number_starts-requires-clause-room : goal.number_starts-requires-clause-room
number_starts-requires-clause-room c =
    let same = length_permutation _ _ c.sort_starts.ensures.moved in
    rw (c.deref.ensures.value, same) c.in_ok-starts.ensures.room

pub returns : goal.returns
returns c =
    let cs = c.args.chains.now.chains in
    let tell = starts_moved (start_in cs) (2 * length cs) _ _ c.sort_starts.ensures.moved c.in_ok-starts.ensures.starts in
    numbered_nodes cs _ c.in_ok-nodes.nodes tell (rw c.deref.ensures.value at c.in_ok-nodes.ensures.numbered) (rw c.deref.ensures.value at c.in_ok-nodes.ensures.long)
