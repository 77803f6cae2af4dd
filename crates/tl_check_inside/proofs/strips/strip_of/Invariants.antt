use Rattle.std.proofs.Common.{ℕ, ◌<◌, get_or}
use Rattle.tl_check_inside.specs.declared.strips.Site.{Site}
use Rattle.tl_check_inside.specs.Keeping.Strips.{IsInStrip}
use Rattle.tl_check_inside.proofs.strips.strip_of.Given as goal

-- it holds the points so far
abbrev pub invariant-loop-site : goal.invariant-loop-site
invariant-loop-site l = (k : ℕ) (d : Site) → k < l.site-index → IsInStrip l.strip (get_or l.sites k d).point
