use Rattle.std.proofs.Common.{◌≡◌, ◌+◌, ◌-◌, ◌<◌, ◌≤◌, ℕ, zero, suc, Bool, eqb, true, false, cond, Option, Some, None, List, [], ◌∷◌, ◌++◌, length, map, get_or, All, refl, sym, ap, ◌∙◌, arith}
use Rattle.std.specs.Prelude.{is_some}
use Rattle.std.specs.List.Sorted.{IsNonDecreasingBy}
use Rattle.std.specs.Option.{unwrap_or}
use Rattle.std.proofs.lemmas.Bool.{ne_eqb}
use Rattle.std.proofs.lemmas.List.{get_or_append_left, get_or-map, map-append, length-map, length-append}
use Rattle.std.proofs.lemmas.List.Elements.{All-append, All-cons, All-nil, All-head, All-tail}
use Rattle.tl_map_county.specs.Kept.{given}
use Rattle.tl_record_key.specs.declared.key.PolyKey.{PolyKey}
use Rattle.tl_map_rules.specs.declared.entry.SidesEntry.{SidesEntry}
use Rattle.tl_map.specs.declared.kept.SidesRow.{SidesRow}
use Rattle.tl_map.specs.declared.kept.SidesMore.{SidesMore}
use Rattle.tl_map.specs.Keeping.Kept.{short_of, long_of, no_more, kept_in, IsRow}
use Rattle.tl_map.specs.Keeping.Sided.{sides_tlids}

-- a number above 0 isn't 0
some_more : (k : ℕ) → eqb (suc k) 0 ≡ false
some_more k = ne_eqb (suc k) 0 (λ e. absurd (omega (arith, e)))

one_less : (k : ℕ) → suc k - 1 ≡ k
one_less k = omega arith

-- what is kept by its number stays where more follows
still_at : (n : ℕ) (more xs : List SidesMore) (s : SidesRow) → n ≤ length more → cond (eqb n 0) (short_of s) (long_of s (get_or (more ++ xs) (n - 1) no_more)) ≡ cond (eqb n 0) (short_of s) (long_of s (get_or more (n - 1) no_more))
still_at zero more xs s within = refl
still_at (suc k) more xs s within = rw (some_more k, one_less k) (ap (long_of s) (get_or_append_left more xs no_more k (omega (arith, within))))

-- a row's record stays where more is kept
pub still : (more xs : List SidesMore) (s : SidesRow) → IsRow more s → kept_in (more ++ xs) s ≡ kept_in more s
still more xs s is = still_at s.more more xs s is

-- all are rows still
pub rows_still : (more xs : List SidesMore) (rows : List SidesRow) → All (IsRow more) rows → All (IsRow (more ++ xs)) rows
rows_still more xs rows are k d lt = omega (arith, are k d lt, length-append more xs)

-- the records of all rows stay
pub all_still : (more xs : List SidesMore) (rows : List SidesRow) → All (IsRow more) rows → map (kept_in (more ++ xs)) rows ≡ map (kept_in more) rows
all_still more xs [] are = refl
all_still more xs (s ∷ rows) are =
    let first = still more xs s (All-head (IsRow more) s rows are) in
    let rest = all_still more xs rows (All-tail (IsRow more) s rows are) in
    λ i. first i ∷ rest i

-- one row more has one record more
pub one_more : (more new xs : List SidesMore) (rows next : List SidesRow) (s : SidesRow) (e : SidesEntry) → new ≡ more ++ xs → All (IsRow more) rows → kept_in new s ≡ e → next ≡ rows ++ s ∷ [] → map (kept_in new) next ≡ map (kept_in more) rows ++ e ∷ []
one_more more new xs rows next s e grows are is added =
    ap (map (kept_in new)) added
    ∙ map-append (kept_in new) rows (s ∷ [])
    ∙ ap (λ ys. ys ++ kept_in new s ∷ []) (rw grows (all_still more xs rows are))
    ∙ ap (λ x. map (kept_in more) rows ++ x ∷ []) is

-- and all are rows
pub rows_more : (more new xs : List SidesMore) (rows next : List SidesRow) (s : SidesRow) → new ≡ more ++ xs → All (IsRow more) rows → IsRow new s → next ≡ rows ++ s ∷ [] → All (IsRow new) next
rows_more more new xs rows next s grows are is added =
    rw added (All-append (IsRow new) rows (s ∷ []) (rw grows (rows_still more xs rows are)) (All-cons (IsRow new) s [] is (All-nil (IsRow new))))

-- the record of a row whose number is that of the last
last_at : (more : List SidesMore) (m : SidesMore) → get_or (more ++ m ∷ []) (length more) no_more ≡ m
last_at [] m = refl
last_at (x ∷ more) m = last_at more m

pub kept_last : (more : List SidesMore) (m : SidesMore) (s : SidesRow) → s.more ≡ length more + 1 → kept_in (more ++ m ∷ []) s ≡ long_of s m
kept_last more m s is =
    let number : length more + 1 ≡ suc (length more) = omega arith in
    ap (λ n. cond (eqb n 0) (short_of s) (long_of s (get_or (more ++ m ∷ []) (n - 1) no_more))) (is ∙ number)
    ∙ rw (some_more (length more), one_less (length more)) (ap (long_of s) (last_at more m))

-- what is there, taken apart and put together
given_or_zero : (o : Option ℕ) → given (is_some o) (unwrap_or o 0) ≡ o
given_or_zero None = refl
given_or_zero (Some n) = refl

-- the record of its parts
pub long_same : (e : SidesEntry) (l r : PolyKey) (n : ℕ) → given (is_some e.left) l ≡ e.left → given (is_some e.right) r ≡ e.right → long_of (record { tlid = e.tlid; left_polyid = 0; right_polyid = 0; more = n; left_cenid = l.cenid; right_cenid = r.cenid; has_left = is_some e.left; has_right = is_some e.right }) (record { start_cell = unwrap_or e.start_cell 0; end_cell = unwrap_or e.end_cell 0; left_polyid = l.polyid; right_polyid = r.polyid; has_start = is_some e.start_cell; has_end = is_some e.end_cell }) ≡ e
long_same e l r n left right = λ j. record { tlid = e.tlid; start_cell = given_or_zero e.start_cell j; end_cell = given_or_zero e.end_cell j; left = left j; right = right j }

-- and of parts that were told one by one
pub row_same : (more new : List SidesMore) (e : SidesEntry) (l r : PolyKey) (n start_cell end_cell : ℕ) (has_start has_end has_left has_right : Bool) → n ≡ length more + 1 →
    has_start ≡ is_some e.start_cell → has_end ≡ is_some e.end_cell → has_left ≡ is_some e.left → has_right ≡ is_some e.right →
    start_cell ≡ unwrap_or e.start_cell 0 → end_cell ≡ unwrap_or e.end_cell 0 → given (is_some e.left) l ≡ e.left → given (is_some e.right) r ≡ e.right →
    new ≡ more ++ record { start_cell = start_cell; end_cell = end_cell; left_polyid = l.polyid; right_polyid = r.polyid; has_start = has_start; has_end = has_end } ∷ [] →
    kept_in new (record { tlid = e.tlid; left_polyid = 0; right_polyid = 0; more = n; left_cenid = l.cenid; right_cenid = r.cenid; has_left = has_left; has_right = has_right }) ≡ e
row_same more new e l r n start_cell end_cell has_start has_end has_left has_right last a b x y c d left right is =
    let s : SidesRow = record { tlid = e.tlid; left_polyid = 0; right_polyid = 0; more = n; left_cenid = l.cenid; right_cenid = r.cenid; has_left = has_left; has_right = has_right } in
    ap (λ list. kept_in list s) is ∙ kept_last more _ s last ∙ rw (a, b, x, y, c, d) (long_same e l r n left right)

-- a row's TLID is its record's
pub own_tlid : (more : List SidesMore) (s : SidesRow) → (kept_in more s).tlid ≡ s.tlid
own_tlid more s = go (eqb s.more 0)
  where
    go : (b : Bool) → (cond b (short_of s) (long_of s (get_or more (s.more - 1) no_more))).tlid ≡ s.tlid
    go true = refl
    go false = refl

-- the TLID of a place is that of its row
pub tlid_of : (more : List SidesMore) (rows : List SidesRow) (i : ℕ) (s : SidesRow) → i < length (map (kept_in more) rows) → s ≡ get_or rows i s → get_or (sides_tlids (map (kept_in more) rows)) i 0 ≡ s.tlid
tlid_of more rows i s lt at =
    let low : i < length rows = omega (arith, lt, length-map rows (kept_in more)) in
    get_or-map (λ (e : SidesEntry). e.tlid) (map (kept_in more) rows) i (kept_in more s) 0 lt
    ∙ ap (λ (e : SidesEntry). e.tlid) (get_or-map (kept_in more) rows i s (kept_in more s) low)
    ∙ own_tlid more (get_or rows i s)
    ∙ ap (λ (r : SidesRow). r.tlid) (sym at)

-- rows by TLID have their records by TLID
pub by_tlid : (more : List SidesMore) (rows : List SidesRow) → IsNonDecreasingBy (λ (s : SidesRow). s.tlid) rows → IsNonDecreasingBy (λ (e : SidesEntry). e.tlid) (map (kept_in more) rows)
by_tlid more [] rise i j d le lt = absurd (omega arith)
by_tlid more (s ∷ rows) rise i j d le lt =
    let low : j < length (s ∷ rows) = omega (arith, lt, length-map (s ∷ rows) (kept_in more)) in
    let first = ap (λ (e : SidesEntry). e.tlid) (get_or-map (kept_in more) (s ∷ rows) i s d (omega (arith, le, low))) ∙ own_tlid more (get_or (s ∷ rows) i s) in
    let second = ap (λ (e : SidesEntry). e.tlid) (get_or-map (kept_in more) (s ∷ rows) j s d low) ∙ own_tlid more (get_or (s ∷ rows) j s) in
    omega (arith, first, second, rise i j s le low)
