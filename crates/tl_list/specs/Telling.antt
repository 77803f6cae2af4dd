-- How a list of faults tells one that is true.
use Rattle.std.specs.Prelude.{◌≡◌, ◌⊎◌, ◌<◌, ℕ, zero, ⊤, Bool, true, List}
use Rattle.std.specs.List.{All, Any, Contains}
use Rattle.tl_check_inside.specs.declared.misplaced.Misplaced.{Misplaced}
use Rattle.tl_check_inside.specs.declared.misplaced.Misplaced.TheVariants.{OnChain, Outside, InOther}
use Rattle.tl_record.specs.Records.{Records as AllRecords}
use Rattle.tl_map_rules.specs.declared.fault.RecordFault.{RecordFault}
use Rattle.tl_map_rules.specs.Lacking.{explains}
use Rattle.tl_check_verdict.specs.Records.{HaveMap, IsTrueOfRecords}
use Rattle.tl_check_verdict.specs.declared.fault.MapFault.{MapFault}
use Rattle.tl_check_verdict.specs.declared.fault.MapFault.TheVariants.{Records, NoRecords, Meet, Side, PolygonPoint, Cell, Face}
use Rattle.tl_decide.specs.MapFaults.{IsTrueAmong}
use Rattle.tl_list_text.specs.declared.listing.Listing.{Listing}
use Rattle.tl_list_text.specs.declared.listing.Listing.TheVariants as listing

-- the fault is that segments s and t meet
abbrev pub IsMeetOf : ℕ → ℕ → MapFault → Type 0
IsMeetOf s t (Records fault) = ⊥
IsMeetOf s t (NoRecords lacking) = ⊥
IsMeetOf s t (Meet meet) = (meet.s ≡ s) × (meet.t ≡ t)
IsMeetOf s t (Side node first next) = ⊥
IsMeetOf s t (PolygonPoint fault) = ⊥
IsMeetOf s t (Cell odds) = ⊥
IsMeetOf s t (Face fault) = ⊥

-- the fault is of sides
abbrev pub IsOfSides : MapFault → Type 0
IsOfSides (Records fault) = ⊥
IsOfSides (NoRecords lacking) = ⊥
IsOfSides (Meet meet) = ⊥
IsOfSides (Side node first next) = ⊤
IsOfSides (PolygonPoint fault) = ⊥
IsOfSides (Cell odds) = ⊥
IsOfSides (Face fault) = ⊥

-- the fault is of zero-cell ids
abbrev pub IsOfCells : MapFault → Type 0
IsOfCells (Records fault) = ⊥
IsOfCells (NoRecords lacking) = ⊥
IsOfCells (Meet meet) = ⊥
IsOfCells (Side node first next) = ⊥
IsOfCells (PolygonPoint fault) = ⊥
IsOfCells (Cell odds) = ⊤
IsOfCells (Face fault) = ⊥

-- the fault is that there are no records of the type of that which the other misses
abbrev pub IsCauseOf : RecordFault → MapFault → Type 0
IsCauseOf missing (Records fault) = ⊥
IsCauseOf missing (NoRecords lacking) = explains lacking missing ≡ true
IsCauseOf missing (Meet meet) = ⊥
IsCauseOf missing (Side node first next) = ⊥
IsCauseOf missing (PolygonPoint fault) = ⊥
IsCauseOf missing (Cell odds) = ⊥
IsCauseOf missing (Face fault) = ⊥

-- what is wrong with a polygon's point hangs on what sides tell
abbrev pub HangsOnSides : Misplaced → Type 0
HangsOnSides (OnChain polygon tlid) = ⊥
HangsOnSides (Outside polygon) = ⊤
HangsOnSides (InOther polygon other) = ⊤

-- The fault stands in the list. One that misses a record of a type of which there is none may be told by that; of two segments that meet, it stands there with some point; of zero-cell ids at odds some
-- pair stands there; and what is wrong with a polygon's point stands there unless it hangs on sides, some polygon is touched, and so sides
-- are at odds.
abbrev pub StandsInList : List MapFault → ℕ → MapFault → Type 0
StandsInList faults touched (Records fault) = Contains faults (Records fault) ⊎ Any (IsCauseOf fault) faults
StandsInList faults touched (NoRecords lacking) = Contains faults (NoRecords lacking)
StandsInList faults touched (Meet meet) = Any (IsMeetOf meet.s meet.t) faults
StandsInList faults touched (Side node first next) = Contains faults (Side node first next)
StandsInList faults touched (PolygonPoint fault) = Contains faults (PolygonPoint fault) ⊎ (HangsOnSides fault × ((zero < touched) × Any IsOfSides faults))
StandsInList faults touched (Cell odds) = Any IsOfCells faults
StandsInList faults touched (Face fault) = Contains faults (Face fault)

-- faults are listed, and the fault is told by them
abbrev pub Tells : Listing → MapFault → Type 0
Tells (listing.Sound report) fault = ⊥
Tells (listing.Refused list) fault = ⊥
Tells (listing.Faults faults touched) fault = StandsInList faults.items touched fault

-- the listing is that the map is sound
abbrev pub SaysSound : Listing → Type 0
SaysSound (listing.Sound report) = ⊤
SaysSound (listing.Refused list) = ⊥
SaysSound (listing.Faults faults touched) = ⊥

-- so is each fault that is listed, if faults are
abbrev pub EachFault : Listing → (MapFault → Type 0) → Type 0
EachFault (listing.Sound report) P = ⊤
EachFault (listing.Refused list) P = ⊤
EachFault (listing.Faults faults touched) P = All P faults.items

-- what a fault among others says of records
abbrev pub IsTrueAmongFaults : (faces : Bool) → AllRecords → MapFault → Type 0
IsTrueAmongFaults faces all (Face fault) = HaveMap all (λ m. IsTrueAmong faces m (Face fault))
IsTrueAmongFaults faces all other = IsTrueOfRecords all other
