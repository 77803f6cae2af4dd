-- What is decided of a map, by what is told of it.
use Rattle.std.proofs.Common.{◌≡◌, ℕ, Bool, false, List}
use Rattle.tl_map_county.specs.TheMap.{TheMap}
use Rattle.tl_check_planar.specs.Planar.{IsPlanar}
use Rattle.tl_check_sides.specs.Sides.{SidesAgree}
use Rattle.tl_check_verdict.specs.declared.fault.MapFault.{MapFault}
use Rattle.tl_decide.specs.declared.asked.Asked.{Asked}
use Rattle.tl_decide.specs.declared.asked.Decided.{Decided}
use Rattle.tl_decide.specs.declared.asked.Depth.{Depth}
use Rattle.tl_decide.specs.declared.asked.Told.{Told}
use Rattle.tl_decide.specs.Deciding.{AreDecided, IsDecided}
use Rattle.tl_decide.specs.Keeping.Tracing.{IsTraced}
use Rattle.tl_decide.specs.declared.traced.Traced.{Traced}
use Rattle.tl_build_propose.specs.Keeping.Counted.{HaveWalksInAgreement}

-- what is told at one depth
pub told_at : (m : TheMap) (faces : Bool) (faults : List MapFault) (touched : ℕ) (depth other : Depth) → other ≡ depth → AreDecided depth faces m faults touched
    → AreDecided other faces m faults touched
told_at m faces faults touched depth other same told = rw same told

-- where chains aren't planar or sides differ, no rings are told
pub without_rings : (asked : Asked) (m : TheMap) (told : Told) (decided : Decided) → decided.faults ≡ told.faults → decided.touched ≡ told.touched
    → (¬ (IsPlanar m.chains × SidesAgree m.chains)) → AreDecided asked.depth asked.faces m told.faults.items told.touched → IsDecided asked m decided
without_rings asked m told decided same_faults same_touched not are = record {
  faults = rw (same_faults, same_touched) are;
  rings = λ planar agree. absurd (not (planar, agree));
  walks = λ w planar agree. absurd (not (planar, agree));
}

-- walks that are counted and not kept
pub counted_alone : (m : TheMap) (traced : Traced) → HaveWalksInAgreement m.chains traced.rings → IsTraced false m traced
counted_alone m traced has = record {
  rings = record { agree = has.agree; walks = has.walks; are = has.are; counted = has.many };
  kept = λ asked. absurd (cc);
}
