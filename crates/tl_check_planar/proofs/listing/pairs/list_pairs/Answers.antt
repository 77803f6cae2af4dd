use Rattle.std.proofs.Common.{◌+◌, subst, sym, ◌∙◌, arith}
use Rattle.tl_check_planar.specs.Listing.Keeping.Pairing.{ArePairsBefore}
use Rattle.tl_check_planar.proofs.ListingLemmas.Pairing.{none_before, passed_over, found_more, all_found}
use Rattle.tl_check_planar.proofs.listing.pairs.list_pairs.Goals as goal

pub loop-i-init : goal.loop-i-init
loop-i-init g c = rw c.new-pairs.ensures.items (none_before _ _ _)

pub loop-i-preserved-then-not-is_marked : goal.loop-i-preserved-then-not-is_marked
loop-i-preserved-then-not-is_marked g c =
    passed_over (g.I.Items.count c.args.items.now) (g.I.Items.tells c.args.items.now) c.args.marks.now c.loop-i.i c.loop-i.pairs.items
    (sym c.is_marked.ensures ∙ c.if-not-is_marked.true) c.loop-i.invariant

pub loop-i-preserved : goal.loop-i-preserved
loop-i-preserved g c =
    let n = g.I.Items.count c.args.items.now in
    let tells = g.I.Items.tells c.args.items.now in
    let known = c.loop-i-test.true in
    let end = c.loop-i.auto.i-end in
    let count = c.len-i-end.ensures in
    subst (ArePairsBefore n tells c.args.marks.now (c.loop-i.i + 1)) (sym c.in_ok-push_pairs.ensures)
    (rw c.deref.ensures.value
    (found_more n tells c.args.marks.now (g.I.Items.bounds_of c.args.items.now) (g.met.I.Items.apart c.args.items.now) c.loop-i.i
    (omega (arith, known, end, count)) c.list_beside.new.hits.items c.in_ok-list_beside.ensures c.loop-i.pairs.items c.loop-i.invariant))

pub returns : goal.returns
returns g c =
    let past = c.loop-i-test.false in
    let count = c.len-i-end.ensures in
    all_found (g.I.Items.count c.args.items.now) (g.I.Items.tells c.args.items.now) c.args.marks.now c.loop-i.i c.loop-i.pairs.items
    (omega (arith, past, count)) c.requires.marked c.loop-i.invariant
