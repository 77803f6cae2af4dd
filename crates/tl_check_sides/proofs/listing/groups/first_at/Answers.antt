use Rattle.std.proofs.Common.{◌-◌, ap, ◌∙◌, arith}
use Rattle.std.proofs.lemmas.List.{get_or_default}
use Rattle.tl_check_sides.specs.declared.headed.HeadedDart.{HeadedDart}
use Rattle.tl_check_sides.specs.Listing.Keeping.Around.{nowhere}
use Rattle.tl_check_sides.proofs.ListingLemmas.Ends.{first_of_all, first_kept, first_here}
use Rattle.tl_check_sides.proofs.listing.groups.first_at.Goals as goal

pub returns-then-place-eq0 : goal.returns-then-place-eq0
returns-then-place-eq0 c = first_of_all c.args.darts.now c.args.place c.args.first c.if-place-eq0.true c.requires.before

pub returns-then-darts-place : goal.returns-then-darts-place
returns-then-darts-place c =
    let darts = c.args.darts.now in
    let node = λ (s : HeadedDart). s.node in
    let within = c.requires.within in
    let low = c.if-place-eq0.false in
    first_kept darts (c.args.place - 1) c.args.place c.args.first (omega (arith, low))
    (ap node (get_or_default darts (c.args.place - 1) nowhere _ (omega (arith, within, low))) ∙ c.if-darts-place.true ∙ ap node (get_or_default darts c.args.place _ nowhere within)) c.requires.before

pub returns-else-darts-place : goal.returns-else-darts-place
returns-else-darts-place c =
    let darts = c.args.darts.now in
    let node = λ (s : HeadedDart). s.node in
    let within = c.requires.within in
    let low = c.if-place-eq0.false in
    first_here darts (c.args.place - 1) c.args.place c.requires.sorted within (omega (arith, low))
    (λ same. c.if-darts-place.false (ap node (get_or_default darts (c.args.place - 1) _ nowhere (omega (arith, within, low))) ∙ same ∙ ap node (get_or_default darts c.args.place nowhere _ within)))
