-- What a sweep tells on its way.
use Rattle.tl_map_county.specs.TheMap.{TheMap}
use Rattle.tl_check_planar.specs.Planar.{IsPlanar}
use Rattle.tl_check_sweep.specs.Searched.{IsTrueAnswer}
use Rattle.tl_check_sweep.specs.declared.answer.Told.{Told}
use Rattle.tl_check_gaps.specs.declared.watch.Gaps.{Gaps}
use Rattle.tl_check_gaps.specs.Keeping.Spotted.{AreTrueMarks}
use Rattle.tl_check_gaps.specs.Keeping.Watched.{AreTrueGaps}

-- all that a sweep tells is so; of gaps it tells where the chains are planar
pub record IsTrueSweep (map : TheMap) (asked : Gaps) (told : Told) : Type 0 where
  pub answer : IsTrueAnswer map told.swept
  pub marks : AreTrueMarks map told.marks.items
  pub gaps : IsPlanar map.chains → AreTrueGaps map.chains asked told.gaps.items
