-- Which gaps a sweep is asked for.
use Rattle.std.specs.Prelude.{Bool, true, false}
use Rattle.tl_check_gaps.specs.declared.watch.Gaps.{Gaps}
use Rattle.tl_check_gaps.specs.declared.watch.Gaps.TheVariants as choice
use Rattle.tl_decide.specs.declared.asked.Depth.{Depth}
use Rattle.tl_decide.specs.declared.asked.Depth.TheVariants.{First, All}

-- all, where all faces that disagree are to be told
abbrev pub gaps_for : Depth → (faces : Bool) → Gaps
gaps_for First faces = choice.First
gaps_for All true = choice.All
gaps_for All false = choice.First
