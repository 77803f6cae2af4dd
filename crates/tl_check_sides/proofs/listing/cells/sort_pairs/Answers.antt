use Rattle.std.proofs.Common.{◌≡◌, rules}
use Rattle.std.proofs.lemmas.Fn.{always_returns_same}
use Rattle.tl_check_sides.specs.declared.cells.at_odds.CellsAtOdds.{CellsAtOdds}
use Rattle.tl_check_sides.proofs.listing.cells.sort_pairs.Goals as goal

pub returns-clause-ordered : goal.returns-clause-ordered
returns-clause-ordered c =
    c.sort_unstable_by_key.ensures.sorted (λ (x : CellsAtOdds). (x.first, x.second)) (always_returns_same _ (λ a r. r ≡ (a.0.now.first, a.0.now.second)) _ (λ a r q k. search rules))
