use Rattle.std.proofs.Common.{◌+◌, arith, sym, ◌∙◌}
use Rattle.std.proofs.lemmas.Bool.{false≢true}
use Rattle.tl_check_sides.proofs.ListingLemmas.Places.{at_place}
use Rattle.tl_check_sides.proofs.ListingLemmas.Ends.{end_on, end_here}
use Rattle.tl_check_sides.proofs.listing.groups.end_at.Goals as goal
use Rattle.tl_check_sides.proofs.listing.groups.end_at.Goals.{else-place-darts-via-then-place-darts+else-head_together, else-place-darts-via-else-place-darts}

pub returns-then-head_together : goal.returns-then-head_together
returns-then-head_together c =
    let darts = c.args.darts.now in
    let one = at_place darts c.args.place _ c.requires.within c.index-darts-place.is in
    let other = at_place darts (c.args.place + 1) _ c.if-place-darts.true c.index-darts-place-then-place-darts.is in
    end_on darts c.args.place c.args.end c.if-place-darts.true (rw (← one, ← other) (c.head_together.ensures.0 c.if-head_together.true)) c.requires.behind

pub returns-else-place-darts : goal.returns-else-place-darts
returns-else-place-darts c =
    let darts = c.args.darts.now in
    end_here darts c.args.place c.requires.within (elim c.else-place-darts.branch [
      | else-place-darts-via-then-place-darts+else-head_together w ↦ λ lt same.
          let one = at_place darts c.args.place _ c.requires.within w.index-darts-place.is in
          let other = at_place darts (c.args.place + 1) _ w.if-place-darts.true w.index-darts-place-then-place-darts.is in
          false≢true (sym w.if-head_together.false ∙ w.head_together.ensures.1 (rw (one, other) same))
      | else-place-darts-via-else-place-darts w ↦ λ lt. let no = w.if-place-darts.false in absurd (omega (arith, no, lt))
    ])
