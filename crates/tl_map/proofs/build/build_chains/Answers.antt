use Rattle.std.proofs.Common.{◌≤◌, ap, length, refl, arith}
use Rattle.std.proofs.lemmas.List.Sorted.{length_permutation}
use Rattle.tl_map_county.specs.declared.limits.TheConstants.{CHAIN_LIMIT}
use Rattle.tl_map_rules.proofs.ListingLemmas.PartLemmas.{chains_long}
use Rattle.tl_map.specs.Keeping.Built.{AreSound}
use Rattle.tl_map.proofs.CollectLemmas.{sorted_entries, AreShapeEntries-permutation, all_inside, leaves_moved, leaves_all}
use Rattle.tl_map.proofs.ChainLemmas.{built}
use Rattle.tl_map.proofs.UnbuiltLemmas.{where_faulty}
use Rattle.tl_map.proofs.build.build_chains.Goals as goal

pub returns-then-len-clause-built : goal.returns-then-len-clause-built
returns-then-len-clause-built c = λ rs h. omega (arith, c.len.ensures, c.if-len.true, c.args.collected.now.chains.ok.0, ap length h.chains, chains_long rs)

pub returns-then-len-clause-left : goal.returns-then-len-clause-left
returns-then-len-clause-left c = λ rs h. leaves_all rs c.args.collected.now h

pub are_sound-requires-clause-chains : goal.are_sound-requires-clause-chains
are_sound-requires-clause-chains c = rw c.deref.ensures.value c.in_ok-sort_chains.ensures.ordered

pub are_sound-requires-clause-shapes : goal.are_sound-requires-clause-shapes
are_sound-requires-clause-shapes c = rw c.deref-2.ensures.value c.in_ok-sort_shapes.ensures.ordered

pub returns-then-not-are_sound-clause-built : goal.returns-then-not-are_sound-clause-built
returns-then-not-are_sound-clause-built c = λ rs h.
    let old = c.args.collected.now in
    let chains = sorted_entries rs old.chains.items c.sort_chains.new.chains.items h.chains c.in_ok-sort_chains.ensures.moved in
    let shapes = AreShapeEntries-permutation rs old.pool.items old.shapes.items c.sort_shapes.new.shapes.items c.in_ok-sort_shapes.ensures.moved h.shapes in
    c.if-not-are_sound.ensures rs old.pool.items (rw c.deref.ensures.value chains) (rw c.deref-2.ensures.value shapes)

pub returns-then-not-are_sound-clause-left : goal.returns-then-not-are_sound-clause-left
returns-then-not-are_sound-clause-left c = λ rs h. leaves_moved rs c.args.collected.now _ h c.in_ok-sort_chains.ensures.moved c.in_ok-sort_shapes.ensures.moved refl

pub join-requires-clause-room : goal.join-requires-clause-room
join-requires-clause-room c =
    rw c.deref-3.ensures.value (omega (arith, c.len.ensures, c.if-len.false, c.args.collected.now.chains.ok.0, length_permutation c.args.collected.now.chains.items c.sort_chains.new.chains.items c.in_ok-sort_chains.ensures.moved))

pub join-requires-clause-rising : goal.join-requires-clause-rising
join-requires-clause-rising c =
    let rs = c.requires.0 in
    let h = c.requires.1 in
    let old = c.args.collected.now in
    let chains = sorted_entries rs old.chains.items c.sort_chains.new.chains.items h.chains c.in_ok-sort_chains.ensures.moved in
    let shapes = AreShapeEntries-permutation rs old.pool.items old.shapes.items c.sort_shapes.new.shapes.items c.in_ok-sort_shapes.ensures.moved h.shapes in
    let sound : AreSound rs c.sort_chains.new.chains.items c.sort_shapes.new.shapes.items = rw (c.deref.ensures.value, c.deref-2.ensures.value) at (c.if-not-are_sound.ensures rs old.pool.items (rw c.deref.ensures.value chains) (rw c.deref-2.ensures.value shapes)) in
    rw c.deref-3.ensures.value sound.rising

pub join-requires-clause-ordered : goal.join-requires-clause-ordered
join-requires-clause-ordered c = rw c.deref-4.ensures.value c.in_ok-sort_shapes.ensures.ordered

pub join-requires-clause-inside : goal.join-requires-clause-inside
join-requires-clause-inside c =
    let rs = c.requires.0 in
    let h = c.requires.1 in
    let old = c.args.collected.now in
    let shapes = AreShapeEntries-permutation rs old.pool.items old.shapes.items c.sort_shapes.new.shapes.items c.in_ok-sort_shapes.ensures.moved h.shapes in
    rw (c.deref-4.ensures.value, c.deref-5.ensures.value) (all_inside rs old.pool.items c.sort_shapes.new.shapes.items shapes)

pub join-requires-clause-known : goal.join-requires-clause-known
join-requires-clause-known c =
    let rs = c.requires.0 in
    let h = c.requires.1 in
    let old = c.args.collected.now in
    let chains = sorted_entries rs old.chains.items c.sort_chains.new.chains.items h.chains c.in_ok-sort_chains.ensures.moved in
    let shapes = AreShapeEntries-permutation rs old.pool.items old.shapes.items c.sort_shapes.new.shapes.items c.in_ok-sort_shapes.ensures.moved h.shapes in
    let sound : AreSound rs c.sort_chains.new.chains.items c.sort_shapes.new.shapes.items = rw (c.deref.ensures.value, c.deref-2.ensures.value) at (c.if-not-are_sound.ensures rs old.pool.items (rw c.deref.ensures.value chains) (rw c.deref-2.ensures.value shapes)) in
    rw (c.deref-3.ensures.value, c.deref-4.ensures.value) sound.known

pub returns-clause-built : goal.returns-clause-built
returns-clause-built c = λ rs h.
    let old = c.args.collected.now in
    let chains = sorted_entries rs old.chains.items c.sort_chains.new.chains.items h.chains c.in_ok-sort_chains.ensures.moved in
    let shapes = AreShapeEntries-permutation rs old.pool.items old.shapes.items c.sort_shapes.new.shapes.items c.in_ok-sort_shapes.ensures.moved h.shapes in
    let sound : AreSound rs c.sort_chains.new.chains.items c.sort_shapes.new.shapes.items = rw (c.deref.ensures.value, c.deref-2.ensures.value) at (c.if-not-are_sound.ensures rs old.pool.items (rw c.deref.ensures.value chains) (rw c.deref-2.ensures.value shapes)) in
    let room : length c.sort_chains.new.chains.items ≤ CHAIN_LIMIT = omega (arith, c.len.ensures, c.if-len.false, old.chains.ok.0, length_permutation old.chains.items c.sort_chains.new.chains.items c.in_ok-sort_chains.ensures.moved) in
    built rs c.deref-5.result.now c.deref-3.result.now c.deref-4.result.now c.args.skipped c.join.result
    (rw c.deref-3.ensures.value chains) (rw (c.deref-4.ensures.value, c.deref-5.ensures.value) shapes)
    (rw (c.deref-3.ensures.value, c.deref-4.ensures.value) sound) (rw c.deref-3.ensures.value room)
    c.join.ensures

pub returns-clause-left : goal.returns-clause-left
returns-clause-left c = λ rs h.
    where_faulty c.join.result (leaves_moved rs c.args.collected.now _ h c.in_ok-sort_chains.ensures.moved c.in_ok-sort_shapes.ensures.moved refl)
