use Rattle.std.proofs.Common.{◌≡◌, rules}
use Rattle.std.proofs.lemmas.Fn.{always_returns_same}
use Rattle.tl_check_sides.specs.declared.listing.starts.CellStart.{CellStart}
use Rattle.tl_check_sides.proofs.listing.starts.sort_by_id.Goals as goal

pub returns-clause-ordered : goal.returns-clause-ordered
returns-clause-ordered c =
    c.sort_unstable_by_key.ensures.sorted (λ (x : CellStart). (x.id, x.dart)) (always_returns_same _ (λ a r. r ≡ (a.0.now.id, a.0.now.dart)) _ (λ a r q k. search rules))
