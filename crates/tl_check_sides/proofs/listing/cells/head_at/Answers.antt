use Rattle.std.proofs.Common.{◌≡◌, ◌+◌, ◌-◌, arith}
use Rattle.tl_check_sides.proofs.ListingLemmas.OddLemmas.{head_kept}
use Rattle.tl_check_sides.proofs.listing.cells.head_at.Goals as goal

pub returns-then-starts-place : goal.returns-then-starts-place
returns-then-starts-place c =
    let low = c.if-place-eq0.false in
    let e : c.args.place - 1 + 1 ≡ c.args.place = omega (arith, low) in
    head_kept c.args.starts.now (c.args.place - 1) c.args.place c.args.head e c.if-starts-place.true (c.requires.before (c.args.place - 1) e)
