-- What a sweep that finds chains planar leaves left.
use Rattle.std.proofs.Common.{ℕ, ◌≤◌}
use Rattle.tl_map_county.specs.TheMap.{TheMap}
use Rattle.tl_check_planar.specs.Planar.{IsPlanar}
use Rattle.tl_check_planar.specs.Searching.{meeting_segments}
use Rattle.tl_check_gaps.specs.declared.watch.Gaps.TheVariants.{First}
use Rattle.tl_check_sweep.specs.declared.answer.SweepReport.{SweepReport}
use Rattle.tl_check_sweep.specs.Searched.{IsSearched}
use Rattle.tl_check.specs.Keeping.Searching.{IsFoundPlanar}

pub swept_planar : (m : TheMap) (report : SweepReport) → IsSearched m First report → IsPlanar m.chains
    → (budget : ℕ) → meeting_segments m.chains ≤ budget → IsFoundPlanar m budget (record { suspects = report.suspects; gaps = report.gaps })
swept_planar m report is planar budget within = record {
  planar = planar;
  within = within;
  no_more = record { suspects = is.suspects; gaps = is.gaps planar };
}
