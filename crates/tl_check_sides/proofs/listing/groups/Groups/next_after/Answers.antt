use Rattle.std.proofs.Common.{arith}
use Rattle.tl_check_sides.proofs.ListingLemmas.Parts.{before_of, end_of, next_to}
use Rattle.tl_check_sides.proofs.listing.groups.Groups.next_after.Goals as goal

pub index-requires-2 : goal.index-requires-2
index-requires-2 c =
    let b = before_of c.args.map.now.chains c.args.self.now c.args.dart c.index.result.now c.requires.grouped c.requires.known c.index.ensures in
    let within = b.next.within in
    let long = c.requires.grouped.ends.long in
    let room = c.args.self.now.ends.ok in
    omega (arith, within, long, room)

pub part_of-requires : goal.part_of-requires
part_of-requires c =
    let b = before_of c.args.map.now.chains c.args.self.now c.args.dart c.index.result.now c.requires.grouped c.requires.known c.index.ensures in
    let e = end_of c.args.map.now.chains c.args.self.now c.index.result.now c.index-2.result.now c.requires.grouped b.next.within c.index-2.ensures in
    let far = e.behind b.next.within in
    let within = e.within in
    record { ordered = omega (arith, far); within = rw c.deref.ensures.value within }

pub returns : goal.returns
returns c =
    let b = before_of c.args.map.now.chains c.args.self.now c.args.dart c.index.result.now c.requires.grouped c.requires.known c.index.ensures in
    let e = end_of c.args.map.now.chains c.args.self.now c.index.result.now c.index-2.result.now c.requires.grouped b.next.within c.index-2.ensures in
    rw (c.part_of.ensures, c.deref.ensures.value) (next_to c.args.map.now.chains c.args.self.now.darts.items c.requires.grouped.around b.place c.index.result.now c.index-2.result.now b.within b.next e c.args.dart b.is)
