use Rattle.std.proofs.Common.{◌≡◌, ℕ, ◌+◌, ◌-◌, ◌<◌, ◌≤◌, Bool, true, false, not, cond, List, [], ◌∷◌, ◌++◌, length, take, drop, get_or, refl, sym, ap, ◌∙◌, arith}
use Rattle.std.specs.List.{dedup_from, flat_map}
use Rattle.std.proofs.lemmas.List.{append-nil, append_assoc, at_drop_more, at_drop_all, length-append}
use Rattle.std.proofs.lemmas.List.Sums.{sum_by_push}
use Rattle.tl_map_rules.specs.declared.entry.ChainEntry.{ChainEntry}
use Rattle.tl_map_rules.specs.declared.entry.ShapeEntry.{ShapeEntry}
use Rattle.tl_map_rules.specs.Listing.Shapes.{entry_points}
use Rattle.tl_geom.specs.declared.point.Point.{Point}
use Rattle.tl_map_county.specs.declared.chains.ChainRow.{ChainRow}
use Rattle.tl_map_county.specs.declared.limits.TheConstants.{SEGMENT_LIMIT}
use Rattle.tl_map_county.specs.Chains.{segment_count}
use Rattle.tl_record.specs.Joining.{same_point}
use Rattle.tl_map_county.specs.Rows.{chains_in, IsTable}
use Rattle.tl_map.specs.Keeping.Rows.{drawn_through}
use Rattle.tl_map_rules.specs.Keeping.Pairs.{dedup_after}
use Rattle.tl_map_rules.proofs.PairLemmas.{dedup_from-is}

-- a choice by a test whose denial is known
otherwise : (b : Bool) (p q : List Point) → true ≡ not b → cond b p q ≡ q
otherwise true p q h = cc
otherwise false p q h = refl

chosen : (b : Bool) (p q : List Point) → false ≡ not b → cond b p q ≡ p
chosen true p q h = refl
chosen false p q h = cc

-- a point that differs from the one before is kept
pub point_kept : (more rest points added whole : List Point) (i : ℕ) (d last : Point) → i < length more → true ≡ not (same_point (get_or more i d) last) → added ≡ points ++ get_or more i d ∷ [] → points ++ dedup_after last (drop i more ++ rest) ≡ whole → added ++ dedup_after (get_or more i d) (drop (i + 1) more ++ rest) ≡ whole
point_kept more rest points added whole i d last h differs grown before =
    let x : Point = get_or more i d in
    let after : List Point = drop (i + 1) more ++ rest in
    ap (λ ps. ps ++ dedup_after x after) grown
    ∙ append_assoc points (x ∷ []) (dedup_after x after)
    ∙ ap (λ ps. points ++ ps) (sym (otherwise (same_point x last) (dedup_after last after) (x ∷ dedup_after x after) differs))
    ∙ ap (λ ps. points ++ dedup_after last (ps ++ rest)) (sym (at_drop_more (λ (ps : List Point). ps) more i d h))
    ∙ before

-- one that doesn't is passed over
pub point_passed : (more rest points whole : List Point) (i : ℕ) (d last : Point) → i < length more → false ≡ not (same_point (get_or more i d) last) → points ++ dedup_after last (drop i more ++ rest) ≡ whole → points ++ dedup_after last (drop (i + 1) more ++ rest) ≡ whole
point_passed more rest points whole i d last h same before =
    let x : Point = get_or more i d in
    let after : List Point = drop (i + 1) more ++ rest in
    ap (λ ps. points ++ ps) (sym (chosen (same_point x last) (dedup_after last after) (x ∷ dedup_after x after) same))
    ∙ ap (λ ps. points ++ dedup_after last (ps ++ rest)) (sym (at_drop_more (λ (ps : List Point). ps) more i d h))
    ∙ before

-- the points of the runs from the i-th on, before more
pub run_more : (pool : List Point) (run : List ShapeEntry) (i : ℕ) (d : ShapeEntry) (rest : List Point) → i < length run → flat_map (entry_points pool) (drop i run) ++ rest ≡ entry_points pool (get_or run i d) ++ (flat_map (entry_points pool) (drop (i + 1) run) ++ rest)
run_more pool run i d rest h =
    ap (λ ps. ps ++ rest) (at_drop_more (flat_map (entry_points pool)) run i d h)
    ∙ append_assoc (entry_points pool (get_or run i d)) (flat_map (entry_points pool) (drop (i + 1) run)) rest

-- one more run is appended
pub appended_run : (pool : List Point) (run : List ShapeEntry) (i : ℕ) (d : ShapeEntry) (rest points added whole slice : List Point) (last end : Point) → i < length run → slice ≡ entry_points pool (get_or run i d) → ((more : List Point) → added ++ dedup_after end more ≡ points ++ dedup_after last (slice ++ more)) → points ++ dedup_after last (flat_map (entry_points pool) (drop i run) ++ rest) ≡ whole → added ++ dedup_after end (flat_map (entry_points pool) (drop (i + 1) run) ++ rest) ≡ whole
appended_run pool run i d rest points added whole slice last end h cut appended before =
    appended (flat_map (entry_points pool) (drop (i + 1) run) ++ rest)
    ∙ ap (λ ps. points ++ dedup_after last ps) (ap (λ s. s ++ (flat_map (entry_points pool) (drop (i + 1) run) ++ rest)) cut ∙ sym (run_more pool run i d rest h))
    ∙ before

-- the end is appended
pub appended_end : (pool : List Point) (run : List ShapeEntry) (i : ℕ) (points added old : List Point) (from to last end : Point) → length run ≤ i → ((more : List Point) → added ++ dedup_after end more ≡ points ++ dedup_after last ((to ∷ []) ++ more)) → ((rest : List Point) → points ++ dedup_after last (flat_map (entry_points pool) (drop i run) ++ rest) ≡ old ++ from ∷ dedup_after from (flat_map (entry_points pool) run ++ rest)) → added ≡ old ++ dedup_from same_point from (flat_map (entry_points pool) run ++ to ∷ [])
appended_end pool run i points added old from to last end h appended before =
    sym (append-nil added) ∙ appended []
    ∙ ap (λ ps. points ++ dedup_after last (ps ++ to ∷ [])) (sym (at_drop_all (flat_map (entry_points pool)) run i h))
    ∙ before (to ∷ [])
    ∙ ap (λ ps. old ++ ps) (sym (dedup_from-is from (flat_map (entry_points pool) run ++ to ∷ [])))

-- with one chain more there are too many segments, where there are too many points
pub too_many_with : (points more new : List Point) (rows : List ChainRow) (t : ℕ) → IsTable points rows → new ≡ points ++ more → 1 ≤ length more → SEGMENT_LIMIT + length rows + 1 < length new → SEGMENT_LIMIT < segment_count (chains_in points rows ++ record { tlid = t; points = more } ∷ [])
too_many_with points more new rows t table is some many =
    let pushed : segment_count (chains_in points rows ++ record { tlid = t; points = more } ∷ []) ≡ segment_count (chains_in points rows) + (length more - 1) = sum_by_push (λ c. length c.points - 1) (chains_in points rows) (record { tlid = t; points = more }) in
    omega (arith, pushed, table.total, ap length is, length-append points more, some, many)

-- a range of the shared points, as a slice reads it
pub cut_points : (first n count : ℕ) (pool : List Point) → n ≡ count → take (first + n - first) (drop first pool) ≡ take count (drop first pool)
cut_points first n count pool same = ap (λ m. take m (drop first pool)) (omega arith)

-- a chain has a point
pub one_drawn : (c : ChainEntry) (between : List Point) → 1 ≤ length (drawn_through c between)
one_drawn c between =
    let is = dedup_from-is c.from (between ++ c.to ∷ []) in
    omega (arith, ap length is)

-- how many points were appended
pub length_appended : (old more new : List Point) (first count m n : ℕ) → new ≡ old ++ more → first ≡ m → count ≡ n → m ≡ length old → n ≡ length new → (first ≡ length old) × (count - first ≡ length more)
length_appended old more new first count m n is p q a b = (omega arith, omega (arith, ap length is, length-append old more))
