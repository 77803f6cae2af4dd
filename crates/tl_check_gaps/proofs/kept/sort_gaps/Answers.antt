use Rattle.std.proofs.Common.{◌≡◌, pos, ◌+ℤ◌, rules}
use Rattle.std.proofs.lemmas.Fn.{always_returns_same}
use Rattle.tl_check_planar.specs.ByHeight.Heights.{height, widest}
use Rattle.tl_check_faces.specs.declared.odd.OddGap.{OddGap}
use Rattle.tl_check_faces.specs.AllFaults.{order_of}
use Rattle.tl_check_gaps.proofs.kept.sort_gaps.Goals as goal

pub returns-clause-ordered : goal.returns-clause-ordered
returns-clause-ordered c =
    c.in_ok-sort_by_key.ensures.sorted (λ (x : OddGap). ((order_of x.west, order_of x.east), height widest x.at +ℤ pos 2147483647))
    (always_returns_same _
    (λ a r. r ≡ ((order_of a.0.now.west, order_of a.0.now.east), height widest a.0.now.at +ℤ pos 2147483647)) _ (λ a r q k. search rules))
