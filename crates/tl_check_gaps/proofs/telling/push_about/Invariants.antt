use Rattle.std.proofs.Common.{◌≡◌, List, ℕ}
use Rattle.std.specs.Prelude.{slice_get}
use Rattle.tl_check_active.specs.Blocks.Lined.{last_of}
use Rattle.tl_check_gaps.specs.Telling.{AreToldAbout}
use Rattle.tl_check_gaps.proofs.telling.push_about.Given as goal

-- the gaps so far are told
abbrev pub invariant-loop-k : goal.invariant-loop-k
invariant-loop-k l =
    (west east : List ℕ) → l.fn.front ≡ last_of west → l.fn.back ≡ slice_get east 0 →
    AreToldAbout l.map.chains l.p (record { west = west; ins = l.ins; east = east }) l.k l.fn.gaps.items l.gaps.items
