-- Several lists of records, and the maps that they draw, as the parts of a joined map.
use Rattle.std.specs.Prelude.{◌≡◌, ◌≢◌, ℕ, zero, suc, ◌-◌, ◌==◌, nat_lt, Bool, true, false, if◌then◌else◌, Some, List, [], ◌∷◌, length, filter, slice_get}
use Rattle.std.specs.List.{flat_map, list_any}
use Rattle.tl_record.specs.declared.record.Record.{Record}
use Rattle.tl_record.specs.declared.record.Record.TheVariants.{Landmark, AreaLink}
use Rattle.tl_map.specs.Joined.Told.{joined_records}
use Rattle.tl_map_county.specs.TheMap.{TheMap}
use Rattle.tl_map_rules.specs.MapOf.{IsMapOf}
use Rattle.tl_map_rules.specs.declared.fault.Limited.{Limited}
use Rattle.tl_map_rules.specs.declared.fault.RecordFault.{RecordFault}
use Rattle.tl_map_rules.specs.declared.fault.RecordFault.TheVariants.{TooMany}
use Rattle.tl_map_rules.specs.Faults.{IsTrueOf}
use Rattle.tigertopo_border.specs.Whole.Homes.{Homes}

-- is this a record of another type than 7 and 8
abbrev pub is_of_no_landmark : Record → Bool
is_of_no_landmark (Landmark land point) = false
is_of_no_landmark (AreaLink key land) = false
is_of_no_landmark other = true

-- the records of other types than 7 and 8, which aren't read where counties are joined
abbrev pub without_landmarks : List Record → List Record
without_landmarks rs = filter is_of_no_landmark rs

-- the records of all lists, one list after the other
abbrev pub all_records : List (List Record) → List Record
all_records lists = flat_map without_landmarks lists

-- does a chain of the part have TLID t
abbrev pub has_chain : ℕ → TheMap → Bool
has_chain t part = list_any (λ c. c.tlid == t) part.chains

-- the part of polygon p, where the polygons of all parts stand one part after the other: behind them all it is of none
abbrev pub part_at : List TheMap → ℕ → ℕ
part_at [] p = zero
part_at (part ∷ parts) p = if nat_lt p (length part.polygons) then zero else suc (part_at parts (p - length part.polygons))

-- its number in that part
abbrev pub number_at : List TheMap → ℕ → ℕ
number_at [] p = p
number_at (part ∷ parts) p = if nat_lt p (length part.polygons) then p else number_at parts (p - length part.polygons)

-- the first part that has a chain with TLID t
abbrev pub teller_at : List TheMap → ℕ → ℕ
teller_at [] t = zero
teller_at (part ∷ parts) t = if has_chain t part then zero else suc (teller_at parts t)

-- the homes of what is joined from the parts
abbrev pub homes_of : List TheMap → Homes
homes_of parts = record { part = part_at parts; number = number_at parts; teller = teller_at parts }

-- the records, with each chain that is told twice once where chains are joined
abbrev pub joined_if : Bool → List Record → List Record
joined_if join rs = if join then joined_records rs else rs

-- no fault is true of the records but that they are too many
abbrev pub HaveNoFaultButMany : List Record → Type 0
HaveNoFaultButMany rs = (fault : RecordFault) → ((what : Limited) → fault ≢ TooMany what) → ¬ IsTrueOf rs fault

-- each list of records, joined or as it stands, has no such fault and draws the map at its place
pub record DrawParts (join : Bool) (lists : List (List Record)) (parts : List TheMap) : Type 0 where
  pub many : length lists ≡ length parts
  pub no_fault : (k : ℕ) (rs : List Record) → slice_get lists k ≡ Some rs → HaveNoFaultButMany (joined_if join rs)
  pub drawn : (k : ℕ) (rs : List Record) (part : TheMap) → slice_get lists k ≡ Some rs → slice_get parts k ≡ Some part → IsMapOf (joined_if join rs) part
