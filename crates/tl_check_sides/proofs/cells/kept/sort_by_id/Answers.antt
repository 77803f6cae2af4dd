use Rattle.std.proofs.Common.{◌≡◌, rules}
use Rattle.std.proofs.lemmas.Fn.{always_returns_same}
use Rattle.tl_check_sides.specs.Cells.Keeping.Kept.{kept_id}
use Rattle.tl_check_sides.proofs.cells.kept.sort_by_id.Goals as goal

pub returns-clause-ordered : goal.returns-clause-ordered
returns-clause-ordered c =
    c.sort_unstable_by_key.ensures.sorted kept_id (always_returns_same _ (λ a r. r ≡ kept_id a.0.now) _ (λ a r q k. search rules))
