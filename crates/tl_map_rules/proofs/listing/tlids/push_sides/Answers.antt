use Rattle.std.proofs.Common.{◌∷◌, length}
use Rattle.std.proofs.lemmas.Result.{err_from_is_err_and, on_ok_weaker}
use Rattle.tl_map_rules.specs.declared.listing.numbers.Numbered.TheVariants.{DuplicateSides}
use Rattle.tl_map_rules.specs.Listing.Keeping.Told.{Tells}
use Rattle.tl_map_rules.specs.Listing.Keeping.Numbers.{fault_of, StandsNext}
use Rattle.tl_map_rules.proofs.ListingLemmas.TlidLemmas.{told_chains_without_sides, told_sides_without_chain, told_duplicate_sides}
use Rattle.tl_map_rules.proofs.listing.tlids.push_sides.Goals as goal

pub returns : goal.returns
returns c = λ rs codes of_chains of_sides before.
    let chains = c.args.chains.now in
    let sides = c.args.sides.now in
    let five = told_chains_without_sides rs codes chains sides _ _ of_chains of_sides c.in_ok-push_missing.ensures before in
    let six = told_sides_without_chain rs (5 ∷ codes) sides chains _ _ of_sides of_chains c.in_ok-push_missing-2.ensures five in
    on_ok_weaker c.push_repeats.result (λ (tells : Tells (StandsNext (fault_of DuplicateSides) sides (length sides)) c.push_missing-2.new.faults.items c.push_repeats.new.faults.items).
    told_duplicate_sides rs (6 ∷ 5 ∷ codes) sides _ _ c.requires.sides of_sides tells six) c.push_repeats.ensures

pub returns-in_err-push_missing : goal.returns-in_err-push_missing
returns-in_err-push_missing c = λ rs codes of_chains of_sides before. let p = err_from_is_err_and c.from_residual.result c.from_residual.ensures.1 in rw p.1 tt

pub returns-in_err-push_missing-2 : goal.returns-in_err-push_missing-2
returns-in_err-push_missing-2 c = λ rs codes of_chains of_sides before. let p = err_from_is_err_and c.from_residual-in_err-push_missing-2.result c.from_residual-in_err-push_missing-2.ensures.1 in rw p.1 tt
