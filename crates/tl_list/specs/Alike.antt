-- Listings that say the same but for the points at which segments meet.
use Rattle.std.specs.Prelude.{◌≡◌, ⊤, List, [], ◌∷◌}
use Rattle.tl_check_verdict.specs.declared.fault.MapFault.{MapFault}
use Rattle.tl_check_verdict.specs.declared.fault.MapFault.TheVariants.{Meet}
use Rattle.tl_check_verdict.specs.declared.verdict.Report.{Report}
use Rattle.tl_list_text.specs.declared.listing.Listing.{Listing}
use Rattle.tl_list_text.specs.declared.listing.Listing.TheVariants.{Sound, Refused, Faults}
use Rattle.tl_list.specs.Telling.{IsMeetOf}

-- both are meets of the same segments, or they are one fault
abbrev pub IsSameFault : MapFault → MapFault → Type 0
IsSameFault (Meet meet) other = IsMeetOf meet.s meet.t other
IsSameFault fault other = fault ≡ other

-- so are the faults of two lists, each with that at its place
abbrev pub AreSameFaults : List MapFault → List MapFault → Type 0
AreSameFaults [] [] = ⊤
AreSameFaults [] (other ∷ others) = ⊥
AreSameFaults (fault ∷ faults) [] = ⊥
AreSameFaults (fault ∷ faults) (other ∷ others) = IsSameFault fault other × AreSameFaults faults others

-- the numbers of two reports are the same; of nodes and rings nothing is said
pub record HaveSameNumbers (report other : Report) : Type 0 where
  pub chains : report.chains ≡ other.chains
  pub segments : report.segments ≡ other.segments
  pub polygons : report.polygons ≡ other.polygons
  pub landmarks : report.landmarks ≡ other.landmarks

-- both say that the map is sound; or they have the same refused lines; or the same faults, and as many polygons are touched
abbrev pub AreAlike : Listing → Listing → Type 0
AreAlike (Sound report) (Sound other) = HaveSameNumbers report other
AreAlike (Sound report) (Refused others) = ⊥
AreAlike (Sound report) (Faults others touched) = ⊥
AreAlike (Refused list) (Sound other) = ⊥
AreAlike (Refused list) (Refused others) = list.items ≡ others.items
AreAlike (Refused list) (Faults others touched) = ⊥
AreAlike (Faults faults named) (Sound other) = ⊥
AreAlike (Faults faults named) (Refused others) = ⊥
AreAlike (Faults faults named) (Faults others touched) = AreSameFaults faults.items others.items × (named ≡ touched)
