use Rattle.std.proofs.Common.{◌≡◌, inl, inr, ◌<◌, pos, ◌<ℤ◌, ◌≤ℤ◌, get_or, length, subst, ◌∙◌, arith}
use Rattle.std.proofs.lemmas.Int.{ints}
use Rattle.std.proofs.lemmas.Option.{slice_get-get_or}
use Rattle.tl_geom.specs.declared.point.Point.{Point}
use Rattle.tl_check_planar.proofs.Numbering.{below_total}
use Rattle.tl_check_planar.proofs.ByHeight.Numbered.{one_segment}
use Rattle.tl_check_planar.specs.ByHeight.Heights.{widest, high_end, turn_to}
use Rattle.tl_check_active.proofs.Listing.{own}
use Rattle.tl_check_active.proofs.Tests.{same_high}
use Rattle.tl_check_sweep.specs.Keeping.Exact.{IsWestOfOther}
use Rattle.tl_check_sweep.proofs.Exactly.{west_by}
use Rattle.tl_check_sweep.proofs.Putting.{put_before, put_first, step_on}
use Rattle.tl_check_sweep.proofs.exact.place_among.Goals as goal

pub returns-then-s-segments-clause-west : goal.returns-then-s-segments-clause-west
returns-then-s-segments-clause-west c =
    put_first (IsWestOfOther c.args.map.now.chains) c.args.list.now c.args.s
    (λ t u w is is'.
    let lt = below_total c.args.map.now.chains c.args.s is.c is.k is.number in
    let ge = c.if-s-segments.true in
    let count = c.segments.ensures.count in
    absurd (omega (arith, lt, ge, count)))
    c.requires.west

pub returns-then-not-lies_east-clause-west : goal.returns-then-not-lies_east-clause-west
returns-then-not-lies_east-clause-west c =
    let chains = c.args.map.now.chains in
    let list = c.args.list.now in
    let k = c.loop-k.k in
    let lt : k < length list = c.loop-k-test.true in
    let s_is = own chains c.args.s c.segment.result c.segment.ensures in
    put_before (IsWestOfOther chains) list k (get_or list k 0) c.args.s (slice_get-get_or list k 0 lt) c.requires.west c.loop-k.invariant
    (west_by chains c.args.p c.args.s (get_or list k 0) c.requires.begins (c.requires.begin k 0 lt)
    (λ u w is is'.
    let high : c.ends.result.1 ≡ high_end widest u = c.ends.ensures.high ∙ same_high widest c.segment.result u (one_segment chains c.args.s c.segment.result u s_is is) in
    inl (subst (λ (q : Point). pos 0 ≤ℤ turn_to widest w q) high (c.lies_east.ensures.other c.if-not-lies_east.true w is'))))

pub loop-k-preserved : goal.loop-k-preserved
loop-k-preserved c =
    let chains = c.args.map.now.chains in
    let list = c.args.list.now in
    let k = c.loop-k.k in
    let lt : k < length list = c.loop-k-test.true in
    let s_is = own chains c.args.s c.segment.result c.segment.ensures in
    step_on (IsWestOfOther chains) list k (get_or list k 0) c.args.s (slice_get-get_or list k 0 lt) c.requires.west
    (west_by chains c.args.p (get_or list k 0) c.args.s (c.requires.begin k 0 lt) c.requires.begins
    (λ u w is is'.
    let high : c.ends.result.1 ≡ high_end widest w = c.ends.ensures.high ∙ same_high widest c.segment.result w (one_segment chains c.args.s c.segment.result w s_is is') in
    let less : turn_to widest u (high_end widest w) <ℤ pos 0 = subst (λ (q : Point). turn_to widest u q <ℤ pos 0) high (c.lies_east.ensures.east c.if-not-lies_east.false u is) in
    inr (omega (arith, ints, less))))
