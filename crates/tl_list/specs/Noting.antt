-- What is noted of the lines of a text.
use Rattle.std.specs.Prelude.{◌≡◌, ℕ, List, map, Option, Some, None, Vec, ⊤}
use Rattle.std.specs.Global.{Global}
use Rattle.tl_record.specs.declared.layout.Layout.{Layout}
use Rattle.tl_record.specs.declared.refusal.Refusal.{Refusal}
use Rattle.tl_record.specs.Fronts.{front_in}
use Rattle.tl_record.specs.Left.{left_of}
use Rattle.tl_record.specs.Records.{lines_read}
use Rattle.tl_list_text.specs.declared.listing.Listing.{Listing}
use Rattle.tl_list_text.specs.declared.listing.Listing.TheVariants.{Sound, Refused, Faults}
use Rattle.tl_list.specs.declared.left.Found.{Found}
use Rattle.tl_list.specs.declared.left.LeftFaults.{LeftFaults}

-- what holds of refused lines, where these are listed
abbrev pub IfRefused : Listing → (Vec Refusal Global → Type 0) → Type 0
IfRefused (Sound report) holds = ⊤
IfRefused (Refused list) holds = holds list
IfRefused (Faults faults touched) holds = ⊤

-- what holds where something is told of records: no line is refused, or of what is left without refused lines
abbrev pub WhereTold : Listing → Option LeftFaults → Type 0 → Type 0
WhereTold (Sound report) left holds = holds
WhereTold (Refused list) (Some left) holds = holds
WhereTold (Refused list) None holds = ⊤
WhereTold (Faults faults touched) left holds = holds

-- the first bytes of refused lines are noted; and where something is told of records, these are noted, with the numbers of their lines
pub record NotesLines (layout : Layout) (text : List ℕ) (found : Found) : Type 0 where
  pub fronts : IfRefused found.whole.listing (λ list. map (λ front. front.items) found.noted.fronts.items ≡ map (front_in text) list.items)
  pub records : WhereTold found.whole.listing found.left (found.noted.records ≡ (lines_read layout (left_of layout text)).entries)
