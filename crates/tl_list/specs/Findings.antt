-- All that is wrong with a county, beside the map of its records, and with what is left of it without its refused lines.
use Rattle.std.specs.Prelude.{◌≡◌, ◌≢◌, ◌⊎◌, ◌<◌, ℕ, Bool, true, List, [], length, slice_get, Contains, Option, Some, None, IfSome, Vec, ⊤}
use Rattle.std.specs.Global.{Global}
use Rattle.tl_record.specs.declared.options.Options.{Options}
use Rattle.tl_record.specs.declared.refusal.Refusal.{Refusal}
use Rattle.tl_record.specs.Layout.{layout_with}
use Rattle.tl_record.specs.Left.{left_of}
use Rattle.tl_record.specs.Limits.{most_lines}
use Rattle.tl_record.specs.Records.{Records as AllRecords, records_of}
use Rattle.tl_map_rules.specs.Reading.{IsReadFrom}
use Rattle.tl_map_county.specs.TheMap.{TheMap}
use Rattle.tl_check_verdict.specs.declared.fault.MapFault.{MapFault}
use Rattle.tl_check_verdict.specs.declared.fault.MapFault.TheVariants.{Records, NoRecords, Meet, Side, PolygonPoint, Cell, Face}
use Rattle.tl_check_verdict.specs.declared.verdict.Report.{Report}
use Rattle.tl_check_verdict.specs.Records.{HaveMap}
use Rattle.tl_list_text.specs.declared.listing.Listing.{Listing}
use Rattle.tl_list_text.specs.declared.listing.Listing.TheVariants.{Sound, Refused, Faults}
use Rattle.tl_list.specs.MapListings.{IsListingFor}
use Rattle.tl_list.specs.Listings.{IsListingOf}
use Rattle.tl_list.specs.declared.of_records.Findings.{Findings}
use Rattle.tl_list.specs.declared.left.Found.{Found}
use Rattle.tl_list.specs.declared.left.LeftFaults.{LeftFaults}

-- the map is the one that the records have, and there is none where they have none
abbrev pub IsMapIfAny : AllRecords → Option TheMap → Type 0
IsMapIfAny all (Some m) = IsReadFrom all m
IsMapIfAny all None = ¬ HaveMap all (λ m. ⊤)

-- what is listed of a text, and the map of its records
pub record AreFindingsOf (options : Options) (text : List ℕ) (listed : Findings) : Type 0 where
  pub told : IsListingOf options text listed.listing
  pub drawn : IsMapIfAny (records_of (layout_with options) text) listed.map

-- what is listed beside a map is listed of that map, whatever text it is of
abbrev pub AreOfMap : (faces : Bool) → Findings → Type 0
AreOfMap faces listed = IfSome listed.map (λ m. IsListingFor faces m listed.listing)

-- these faults are listed of a text, with its map, or that there are none
abbrev pub AreFaultsOf : Options → List ℕ → Option TheMap → Vec MapFault Global → ℕ → Type 0
AreFaultsOf options text map faults touched =
    AreFindingsOf options text (record { listing = Faults faults touched; map = map })
    ⊎ ((faults.items ≡ []) × (touched ≡ 0) × ((report : Report) × AreFindingsOf options text (record { listing = Sound report; map = map })))

-- one of these lines is beyond the greatest number of a line: it would be refused if it were empty
abbrev pub HasBeyond : List Refusal → Type 0
HasBeyond refused = (refusal : Refusal) × Contains refused refusal × (most_lines < refusal.line)

-- Beside refused lines, where these are skipped, the faults of what is left of the text; or nothing, where one is beyond the greatest number.
-- Beside anything else, nothing.
abbrev pub IsLeft : Options → (skips : Bool) → (known : Option (List ℕ)) → Listing → Option LeftFaults → Type 0
IsLeft options skips known (Sound report) left = left ≡ None
IsLeft options skips known (Refused list) (Some left) =
    (skips ≡ true) × IfSome known (λ text. AreFaultsOf options (left_of (layout_with options) text) left.map left.faults left.touched)
IsLeft options skips known (Refused list) None = skips ≡ true → HasBeyond list.items
IsLeft options skips known (Faults faults touched) left = left ≡ None

-- the fault is one of the records, or that there are none of some type: so they have no map
abbrev pub IsOfNoMap : MapFault → Type 0
IsOfNoMap (Records fault) = ⊤
IsOfNoMap (NoRecords lacking) = ⊤
IsOfNoMap (Meet meet) = ⊥
IsOfNoMap (Side node first next) = ⊥
IsOfNoMap (PolygonPoint misplaced) = ⊥
IsOfNoMap (Cell odds) = ⊥
IsOfNoMap (Face fault) = ⊥

-- the first of these faults is such a fault
abbrev pub BeginWithRecords : List MapFault → Type 0
BeginWithRecords faults = (first : MapFault) × ((slice_get faults 0 ≡ Some first) × IsOfNoMap first)

-- what is listed says why there is no map, where there is none: some lines are refused, or the first fault is one of the
-- records, or that there are none of some type
abbrev pub SaysWhy : Option TheMap → Listing → Type 0
SaysWhy map (Sound report) = map ≢ None
SaysWhy map (Refused list) = 0 < length list.items
SaysWhy map (Faults faults touched) = map ≡ None → BeginWithRecords faults.items

-- what is found in a text, whose refused lines may be skipped; that it says why there is no map holds whatever is known of the text
pub record IsFoundIn (options : Options) (skips : Bool) (known : Option (List ℕ)) (found : Found) : Type 0 where
  pub whole : IfSome known (λ text. AreFindingsOf options text found.whole)
  pub why : SaysWhy found.whole.map found.whole.listing
  pub left : IsLeft options skips known found.whole.listing found.left
