use Rattle.std.proofs.Common.{ap, ◌∙◌, arith}
use Rattle.std.proofs.lemmas.List.{get_or_default}
use Rattle.tl_check_sides.specs.declared.headed.HeadedDart.{HeadedDart}
use Rattle.tl_check_sides.specs.Listing.Keeping.Around.{nowhere}
use Rattle.tl_check_sides.proofs.ListingLemmas.Ends.{next_behind, next_around}
use Rattle.tl_check_sides.proofs.listing.groups.next_place.Goals as goal
use Rattle.tl_check_sides.proofs.listing.groups.next_place.Goals.{else-end-darts-via-then-end-darts+else-darts-end, else-end-darts-via-else-end-darts}

pub returns-then-darts-end : goal.returns-then-darts-end
returns-then-darts-end c =
    let darts = c.args.darts.now in
    let node = λ (s : HeadedDart). s.node in
    next_behind darts c.args.place c.args.end c.requires.within c.requires.end c.if-end-darts.true
    (ap node (get_or_default darts c.args.end nowhere _ c.if-end-darts.true) ∙ c.if-darts-end.true ∙ ap node (get_or_default darts c.args.place _ nowhere c.requires.within))

pub returns-else-end-darts : goal.returns-else-end-darts
returns-else-end-darts c =
    let darts = c.args.darts.now in
    let node = λ (s : HeadedDart). s.node in
    next_around darts c.args.place c.args.end c.args.first c.requires.sorted c.requires.within c.requires.end
    (elim c.else-end-darts.branch [
      | else-end-darts-via-then-end-darts+else-darts-end w ↦ λ lt same.
          w.if-darts-end.false (ap node (get_or_default darts c.args.end _ nowhere lt) ∙ same ∙ ap node (get_or_default darts c.args.place nowhere _ c.requires.within))
      | else-end-darts-via-else-end-darts w ↦ λ lt. let no = w.if-end-darts.false in absurd (omega (arith, no, lt))
    ])
    c.requires.first
