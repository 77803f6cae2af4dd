use Rattle.std.proofs.Common.{◌≡◌, ◌+◌, ◌-◌, length, subst, slice_set, arith}
use Rattle.std.proofs.lemmas.Result.{err_from_is_err_and}
use Rattle.tl_check_sides.specs.Listing.Keeping.Grouped.{IsEndOf, AreEnds}
use Rattle.tl_check_sides.proofs.ListingLemmas.Ends.{one_end}
use Rattle.tl_check_sides.proofs.listing.groups.group_ends.Goals as goal

pub end_at-end-requires-clause-behind : goal.end_at-end-requires-clause-behind
end_at-end-requires-clause-behind c =
    let n = length c.args.darts.now in
    let within = c.loop-behind-test.true in
    let e : n - c.loop-behind.behind ≡ n - 1 - c.loop-behind.behind + 1 = omega (arith, within) in
    subst (λ p. IsEndOf c.args.darts.now p c.loop-behind.end) e c.loop-behind.invariant.last

pub loop-behind-preserved : goal.loop-behind-preserved
loop-behind-preserved c =
    let darts = c.args.darts.now in
    let n = length darts in
    let within = c.loop-behind-test.true in
    let place = n - 1 - c.loop-behind.behind in
    let e : n - 1 - c.loop-behind.behind ≡ n - (c.loop-behind.behind + 1) = omega (arith, within) in
    let last = subst (λ p. IsEndOf darts p c.end_at-end.result) e c.end_at-end.ensures in
    record {
      last = last;
      ends = subst (λ p. AreEnds darts p (slice_set c.loop-behind.ends.items (n - 1 - c.loop-behind.behind) c.end_at-end.result)) e
          (one_end darts (n - 1 - c.loop-behind.behind) (n - c.loop-behind.behind) c.end_at-end.result c.loop-behind.ends.items (omega (arith, within)) (omega (arith, within)) c.end_at-end.ensures c.loop-behind.invariant.ends);
    }

pub returns : goal.returns
returns c =
    let done = c.loop-behind-test.false in
    let end : length c.args.darts.now - c.loop-behind.behind ≡ 0 = omega (arith, done) in
    subst (λ p. AreEnds c.args.darts.now p c.loop-behind.ends.items) end c.loop-behind.invariant.ends

pub returns-in_err-ends : goal.returns-in_err-ends
returns-in_err-ends c = let p = err_from_is_err_and c.from_residual.result c.from_residual.ensures.1 in rw p.1 tt
