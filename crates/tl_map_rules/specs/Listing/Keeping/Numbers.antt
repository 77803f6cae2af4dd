-- Kept on the way: the faults that lists of numbers tell.
use Rattle.std.specs.Prelude.{◌≡◌, ℕ, ◌+◌, ◌<◌, ◌==◌, List, ◌∷◌, length, Contains, count_by, slice_index_or}
use Rattle.tl_record.specs.declared.record.Record.{Record}
use Rattle.tl_map_rules.specs.ChainsOf.{is_chain}
use Rattle.tl_map_rules.specs.MapOf.{sides_in}
use Rattle.tl_map_rules.specs.declared.fault.RecordFault.{RecordFault}
use Rattle.tl_map_rules.specs.declared.fault.RecordFault.TheVariants as fault
use Rattle.tl_map_rules.specs.declared.listing.numbers.Numbered.{Numbered}
use Rattle.tl_map_rules.specs.declared.listing.numbers.Numbered.TheVariants.{DuplicateChain, ShapeWithoutChain, ChainWithoutSides, SidesWithoutChain, DuplicateSides, LinkWithoutLandmark}

-- the fault with this number
abbrev pub fault_of : Numbered → ℕ → RecordFault
fault_of DuplicateChain n = fault.DuplicateChain n
fault_of ShapeWithoutChain n = fault.ShapeWithoutChain n
fault_of ChainWithoutSides n = fault.ChainWithoutSides n
fault_of SidesWithoutChain n = fault.SidesWithoutChain n
fault_of DuplicateSides n = fault.DuplicateSides n
fault_of LinkWithoutLandmark n = fault.LinkWithoutLandmark n

-- an item of the fault stands at two neighbouring places below an end
pub record StandsNext {X : Type 0} (g : X → RecordFault) (items : List X) (end : ℕ) (f : RecordFault) : Type 0 where
  pub item : X
  pub is : f ≡ g item
  pub place : ℕ
  pub below : place + 1 < end
  pub within : place + 1 < length items
  pub first : (d : X) → slice_index_or items place d ≡ item
  pub second : (d : X) → slice_index_or items (place + 1) d ≡ item

-- an item of the fault is one of these, and what it names is not known
pub record IsMissing {X K : Type 0} (g : X → RecordFault) (name : X → K) (items : List X) (known : List K) (f : RecordFault) : Type 0 where
  pub item : X
  pub is : f ≡ g item
  pub among : Contains items item
  pub unknown : ¬ Contains known (name item)

-- each number stands as often as it is counted
abbrev pub StandAsOften : (ℕ → ℕ) → List ℕ → Type 0
StandAsOften count numbers = (n : ℕ) → count_by (λ x. x == n) numbers ≡ count n

-- how many type 1 and type I records have a TLID
abbrev pub chains_with : List Record → ℕ → ℕ
chains_with rs t = count_by (is_chain t) rs

abbrev pub sides_with : List Record → ℕ → ℕ
sides_with rs t = count_by (λ s. s.tlid == t) (sides_in rs)

-- the codes with those of the faults that TLIDs of chains and sides tell
abbrev pub with_sides : List ℕ → List ℕ
with_sides codes = 7 ∷ 6 ∷ 5 ∷ codes
