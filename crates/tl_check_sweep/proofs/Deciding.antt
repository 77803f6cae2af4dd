-- What an answer says is so, and so it says that chains are planar exactly where they are.
use Rattle.std.proofs.Common.{◌≡◌, ◌⊎◌, ◌↔◌, subst, inl, inr}
use Rattle.tl_map_county.specs.TheMap.{TheMap}
use Rattle.tl_check_planar.specs.Planar.{IsPlanar}
use Rattle.tl_check_planar.specs.declared.meet.Meet.{Meet as TheMeet}
use Rattle.tl_check_planar.specs.Searching.{IsTrueMeet}
use Rattle.tl_check_planar.proofs.Planes.{meet_not_planar}
use Rattle.tl_check_gaps.specs.declared.watch.Gaps.{Gaps}
use Rattle.tl_check_sweep.specs.declared.answer.Swept.{Swept}
use Rattle.tl_check_sweep.specs.declared.answer.Swept.TheVariants.{Placed, Planar, Meet}
use Rattle.tl_check_sweep.specs.declared.answer.SweepReport.{SweepReport}
use Rattle.tl_check_sweep.specs.Searched.{SaysPlanar, IsTrueAnswer, IsSearched}

pub exactly : (m : TheMap) (swept : Swept) → IsTrueAnswer m swept → SaysPlanar swept ↔ IsPlanar m.chains
exactly m Placed is = ((λ says. is.0), (λ planar. tt))
exactly m Planar is = ((λ says. is), (λ planar. tt))
exactly m (Meet meet) is = ((λ says. absurd says), (λ planar. meet_not_planar m.chains meet.s meet.t meet.at is.ordered is.told.meet planar))

-- where it is found that chains are planar, they are, and where a meet is found, that is one
module _ (m : TheMap) (asked : Gaps) (report : SweepReport) (is : IsSearched m asked report) where
  pub found_planar : (report.swept ≡ Placed) ⊎ (report.swept ≡ Planar) → IsPlanar m.chains
  found_planar said = elim said [
    | inl placed ↦ (subst (IsTrueAnswer m) placed is.answer).0
    | inr planar ↦ subst (IsTrueAnswer m) planar is.answer
  ]

  pub found_meet : (meet : TheMeet) → report.swept ≡ Meet meet → IsTrueMeet m.chains meet
  found_meet meet said = subst (IsTrueAnswer m) said is.answer
