-- Records in rows, and what stands beside these.
use Rattle.std.proofs.Common.{◌≡◌, ℕ, ◌+◌, ◌-◌, ◌<◌, ◌≤◌, List, [], ◌∷◌, ◌++◌, length, map, drop, take, get_or, replicate, All, None, refl, ap, ◌∙◌, arith, length-append, length-drop}
use Rattle.std.proofs.lemmas.List.{get_or_append_left, map-append, take-append-le, drop-append-le}
use Rattle.std.proofs.lemmas.List.Elements.{All-append, All-cons, All-nil, All-head, All-tail}
use Rattle.tl_record.specs.declared.record.Record.{Record}
use Rattle.tl_record.specs.declared.record.Record.TheVariants as full
use Rattle.tl_record.specs.declared.record.TheConstants.{PAIRS}
use Rattle.tl_list_text.specs.declared.noted.Beside.{Beside}
use Rattle.tl_list_text.specs.declared.noted.Row.{Row}
use Rattle.tl_list_text.specs.declared.noted.ShortRecord.{ShortRecord}
use Rattle.tl_list_text.specs.declared.noted.ShortRecord.TheVariants as short
use Rattle.tl_list_text.specs.Noted.{record_in, sides_with, IsHeld, Extends, Grows, entry_in, IsRow, without_keys, without_cells}

-- ---- what stood there stays

at_still : {A : Type 0} (old new : List A) (i : ℕ) (d : A) → Extends old new → i < length old → get_or new i d ≡ get_or old i d
at_still old new i d more within = ap (λ l. get_or l i d) more.1 ∙ get_or_append_left old more.0 d i within

within_still : {A : Type 0} (old new : List A) (i : ℕ) → Extends old new → i ≤ length old → i ≤ length new
within_still old new i more within = omega (arith, within, ap length more.1, length-append old more.0)

part_still : {A : Type 0} (old new : List A) (first used : ℕ) → Extends old new → first + used ≤ length old → take used (drop first new) ≡ take used (drop first old)
part_still old new first used more within =
    ap (λ l. take used (drop first l)) more.1 ∙ ap (take used) (drop-append-le first old more.0 (omega (arith, within)))
    ∙ take-append-le used (drop first old) more.0 (omega (arith, within, length-drop first old))

-- a short form has its record still
still : (old new : Beside) (s : ShortRecord) → Grows old new → IsHeld old s → record_in new s ≡ record_in old s
still old new (short.Chain tlid from to) grows held = refl
still old new (short.Shape tlid first rtsq used) grows held =
    ap (λ l. full.Shape tlid rtsq (l ++ replicate (PAIRS - used) None)) (part_still old.pairs.items new.pairs.items first used grows.pairs held.0)
still old new (short.Sides tlid keys) grows held =
    ap (λ k. sides_with tlid k without_cells) (at_still old.keys.items new.keys.items keys without_keys grows.keys held)
still old new (short.CellSides tlid keys cells) grows held =
    ap (λ k. sides_with tlid k (get_or new.cells.items cells without_cells)) (at_still old.keys.items new.keys.items keys without_keys grows.keys held.0)
    ∙ ap (sides_with tlid (get_or old.keys.items keys without_keys)) (at_still old.cells.items new.cells.items cells without_cells grows.cells held.1)
still old new (short.PolyPoint key point) grows held = refl
still old new (short.Landmark land point) grows held = refl
still old new (short.AreaLink key land) grows held = refl

-- and what it has beside the rows is there still
held_still : (old new : Beside) (s : ShortRecord) → Grows old new → IsHeld old s → IsHeld new s
held_still old new (short.Chain tlid from to) grows held = tt
held_still old new (short.Shape tlid first rtsq used) grows held = (within_still old.pairs.items new.pairs.items (first + used) grows.pairs held.0, held.1)
held_still old new (short.Sides tlid keys) grows held = let within = within_still old.keys.items new.keys.items (keys + 1) grows.keys (omega (arith, held)) in omega (arith, within)
held_still old new (short.CellSides tlid keys cells) grows held =
    let one = within_still old.keys.items new.keys.items (keys + 1) grows.keys (omega (arith, held.0)) in
    let other = within_still old.cells.items new.cells.items (cells + 1) grows.cells (omega (arith, held.1)) in
    (omega (arith, one), omega (arith, other))
held_still old new (short.PolyPoint key point) grows held = tt
held_still old new (short.Landmark land point) grows held = tt
held_still old new (short.AreaLink key land) grows held = tt

-- ---- rows

pub rows_still : (old new : Beside) (rows : List Row) → Grows old new → All (IsRow old) rows → All (IsRow new) rows
rows_still old new rows grows are k d within = held_still old new (get_or rows k d).holds grows (are k d within)

all_still : (old new : Beside) (rows : List Row) → Grows old new → All (IsRow old) rows → map (entry_in new) rows ≡ map (entry_in old) rows
all_still old new [] grows are = refl
all_still old new (row ∷ rows) grows are =
    let first = still old new row.holds grows (All-head (IsRow old) row rows are) in
    let rest = all_still old new rows grows (All-tail (IsRow old) row rows are) in
    λ i. (row.line, first i) ∷ rest i

-- one row more has one record more
pub one_more : (old new : Beside) (rows next : List Row) (row : Row) (r : Record) → Grows old new → All (IsRow old) rows → record_in new row.holds ≡ r → next ≡ rows ++ row ∷ []
    → map (entry_in new) next ≡ map (entry_in old) rows ++ (row.line, r) ∷ []
one_more old new rows next row r grows are is added =
    ap (map (entry_in new)) added ∙ map-append (entry_in new) rows (row ∷ []) ∙ ap (λ l. l ++ entry_in new row ∷ []) (all_still old new rows grows are)
    ∙ ap (λ x. map (entry_in old) rows ++ (row.line, x) ∷ []) is

pub rows_more : (old new : Beside) (rows next : List Row) (row : Row) → Grows old new → All (IsRow old) rows → IsRow new row → next ≡ rows ++ row ∷ [] → All (IsRow new) next
rows_more old new rows next row grows are is added =
    rw added (All-append (IsRow new) rows (row ∷ []) (rows_still old new rows grows are) (All-cons (IsRow new) row [] is (All-nil (IsRow new))))
