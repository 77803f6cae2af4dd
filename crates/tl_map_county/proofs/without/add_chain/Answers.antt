use Rattle.std.proofs.Common.{◌+◌, ◌≤◌, get_or, length, refl, arith}
use Rattle.std.proofs.lemmas.Option.{slice_get-get_or}
use Rattle.tl_map_county.specs.declared.limits.TheConstants.{SEGMENT_LIMIT}
use Rattle.tl_map_county.specs.Chains.{CompleteChain, IsProperChain}
use Rattle.tl_map_county.proofs.MapLemmas.{proper_read}
use Rattle.tl_map_county.proofs.RemainingLemmas.{no_chain, read_of, one_more_row}
use Rattle.tl_map_county.proofs.without.add_chain.Goals as goal

pub overflow_cast-first : goal.overflow_cast-first
overflow_cast-first c =
    let chain : CompleteChain = get_or c.args.chains.now.chains c.args.c no_chain in
    let few = c.requires.few chain (slice_get-get_or c.args.chains.now.chains c.args.c no_chain c.requires.known) in
    let room = c.requires.room in
    let total = c.requires.table.total in
    omega (arith, few, room, total, c.len-first.ensures, c.args.points.now.ok.0)

pub overflow_cast-more : goal.overflow_cast-more
overflow_cast-more c =
    let chain : CompleteChain = get_or c.args.chains.now.chains c.args.c no_chain in
    let is = slice_get-get_or c.args.chains.now.chains c.args.c no_chain c.requires.known in
    let few = c.requires.few chain is in
    let points = read_of (λ k. k.points) c.args.chains.now.chains c.args.c chain c.points-more.result.now is c.points-more.ensures in
    let long : length c.points-more.result.now ≤ 1 + SEGMENT_LIMIT = rw (← points) (omega (arith, few)) in
    omega (arith, long)

pub returns : goal.returns
returns c = λ chain is.
    let points = read_of (λ k. k.points) c.args.chains.now.chains c.args.c chain c.points-more.result.now is c.points-more.ensures in
    let tlid = read_of (λ k. k.tlid) c.args.chains.now.chains c.args.c chain c.tlid.result is c.tlid.ensures in
    let proper : IsProperChain c.points-more.result.now = proper_read c.args.chains.now.chains c.args.c c.points-more.result.now c.requires.known c.points-more.ensures c.requires.proper in
    let several = proper.several in
    one_more_row chain c.args.points.now.items c.points-more.result.now c.extend_from_slice.new.self.items c.args.rows.now.items c.push.new.self.items
    c.tlid.result c.len-first.result _ c.requires.table tlid points (omega (arith, several)) (omega (arith, c.len-first.ensures, c.args.points.now.ok.0))
    refl c.in_ok-extend_from_slice.ensures.items c.in_ok-push.ensures.items
