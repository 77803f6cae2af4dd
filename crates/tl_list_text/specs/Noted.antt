-- Kept on the way: records with the numbers of their lines, in rows, and what some have beside them.
use Rattle.std.specs.Prelude.{◌≡◌, ℕ, ◌+◌, ◌-◌, ◌<◌, ◌≤◌, ⊤, List, [], ◌++◌, length, drop, take, replicate, slice_index_or, Option, Some, None, false, if◌then◌else◌}
use Rattle.tl_geom.specs.declared.point.Point.{Point}
use Rattle.tl_record.specs.declared.record.Record.{Record}
use Rattle.tl_record.specs.declared.record.Record.TheVariants as full
use Rattle.tl_record.specs.declared.record.TheConstants.{PAIRS}
use Rattle.tl_record_key.specs.declared.key.PolyKey.{PolyKey}
use Rattle.tl_list_text.specs.declared.noted.KeptKey.{KeptKey}
use Rattle.tl_list_text.specs.declared.noted.SideKeys.{SideKeys}
use Rattle.tl_list_text.specs.declared.noted.CellIds.{CellIds}
use Rattle.tl_list_text.specs.declared.noted.Beside.{Beside}
use Rattle.tl_list_text.specs.declared.noted.Row.{Row}
use Rattle.tl_list_text.specs.declared.noted.ShortRecord.{ShortRecord}
use Rattle.tl_list_text.specs.declared.noted.ShortRecord.TheVariants as short

-- the key that is kept, if one is
abbrev pub key_in : KeptKey → Option PolyKey
key_in key = if key.is_there then Some (record { cenid = key.cenid; polyid = key.polyid }) else None

-- none
abbrev pub no_key : KeptKey
no_key = record { polyid = 0; cenid = []; is_there = false }

-- no polygon on either side
abbrev pub without_keys : SideKeys
without_keys = record { left = no_key; right = no_key }

-- no zero-cell id
abbrev pub without_cells : CellIds
without_cells = record { start = None; end = None }

-- the pairs of a record, of which so many from a place on are all up to the last used one
abbrev pub pairs_in : List (Option Point) → (first used : ℕ) → List (Option Point)
pairs_in pairs first used = take used (drop first pairs) ++ replicate (PAIRS - used) None

-- a type I record of its parts
abbrev pub sides_with : ℕ → SideKeys → CellIds → Record
sides_with tlid keys cells = full.Sides tlid cells.start cells.end (key_in keys.left) (key_in keys.right)

-- the record of a short form, by what stands beside the rows
abbrev pub record_in : Beside → ShortRecord → Record
record_in beside (short.Chain tlid from to) = full.Chain tlid from to
record_in beside (short.Shape tlid first rtsq used) = full.Shape tlid rtsq (pairs_in beside.pairs.items first used)
record_in beside (short.Sides tlid keys) = sides_with tlid (slice_index_or beside.keys.items keys without_keys) without_cells
record_in beside (short.CellSides tlid keys cells) =
    sides_with tlid (slice_index_or beside.keys.items keys without_keys) (slice_index_or beside.cells.items cells without_cells)
record_in beside (short.PolyPoint key point) = full.PolyPoint key point
record_in beside (short.Landmark land point) = full.Landmark land point
record_in beside (short.AreaLink key land) = full.AreaLink key land

-- what a short form has beside the rows is there
abbrev pub IsHeld : Beside → ShortRecord → Type 0
IsHeld beside (short.Chain tlid from to) = ⊤
IsHeld beside (short.Shape tlid first rtsq used) = (first + used ≤ length beside.pairs.items) × (used ≤ PAIRS)
IsHeld beside (short.Sides tlid keys) = keys < length beside.keys.items
IsHeld beside (short.CellSides tlid keys cells) = (keys < length beside.keys.items) × (cells < length beside.cells.items)
IsHeld beside (short.PolyPoint key point) = ⊤
IsHeld beside (short.Landmark land point) = ⊤
IsHeld beside (short.AreaLink key land) = ⊤

-- a list goes on behind what it was
abbrev pub Extends : {A : Type 0} → (old new : List A) → Type 0
Extends {A} old new = (more : List A) × (new ≡ old ++ more)

-- more may stand beside the rows, behind what stood there
pub record Grows (old new : Beside) : Type 0 where
  pub pairs : Extends old.pairs.items new.pairs.items
  pub keys : Extends old.keys.items new.keys.items
  pub cells : Extends old.cells.items new.cells.items

-- the record of a row, with its line's number
abbrev pub entry_in : Beside → Row → ℕ × Record
entry_in beside row = (row.line, record_in beside row.holds)

-- what a row has beside it is there
abbrev pub IsRow : Beside → Row → Type 0
IsRow beside row = IsHeld beside row.holds
