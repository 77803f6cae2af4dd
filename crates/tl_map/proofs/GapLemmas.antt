use Rattle.std.proofs.Common.{◌≡◌, ◌≢◌, ℕ, zero, suc, ◌+◌, ◌-◌, ◌<◌, ◌≤◌, Bool, true, false, cond, eqb, ltb, ◌&&◌, ◌||◌, ◌⊎◌, inl, inr, Option, Some, None, List, [], ◌∷◌, ◌++◌, length, take, drop, get_or, count_by, Contains, refl, sym, ap, ◌∙◌, subst, arith, add-one}
use Rattle.std.proofs.lemmas.Bool.{cases_lt, eq-eqb, ne_eqb, cases_eq}
use Rattle.std.proofs.lemmas.Bool.Decides.{nat_tests}
use Rattle.std.proofs.lemmas.List.{length-take-le, length-drop, take_all}
use Rattle.std.proofs.lemmas.List.Sums.{sum_by-take-le, count_by_more_no}
use Rattle.tl_geom.specs.declared.point.Point.{Point}
use Rattle.tl_record.specs.declared.record.Record.{Record}
use Rattle.tl_record.specs.declared.record.Record.TheVariants.{Chain, Shape}
use Rattle.tl_map_rules.specs.declared.entry.ShapeEntry.{ShapeEntry}
use Rattle.tl_map_rules.specs.declared.entry.Fill.TheVariants.{Full, Ended, Gap}
use Rattle.tl_map_rules.specs.ChainsOf.{is_shape, is_shape_at, shape_count, pairs_at, pairs_up_to, pairs_of, used, some_used, has_gap}
use Rattle.tl_map_rules.specs.Faults.{AreShapesNumbered}
use Rattle.tl_map_rules.specs.Listing.Shapes.{fill_of, entry_points, IsInside}
use Rattle.tl_map.specs.Keeping.Entries.{by_shape, IsShapeEntry, AreShapeEntries, has_tlid, shapes_with, shapes_at, AreInOrder, ArePlaced, AreNumbered, late_by, late_after, ended_by, ended_after}
use Rattle.tl_map_rules.proofs.CountLemmas.{sum_by-same, one_counted}
use Rattle.tl_map.proofs.SequenceLemmas.{numbered_from_placed, count_more, none_before}
use Rattle.tl_map_rules.specs.Keeping.Pairs.{some_unused}
use Rattle.tl_map_rules.proofs.PairLemmas.{has_gap-append, pairs_at_is, some_unused-append, unused_from_gap}

-- the counts of the entries are those of the records
pub shapes_with_is : (rs : List Record) (pool : List Point) (entries : List ShapeEntry) → AreShapeEntries rs pool entries → (t : ℕ) → shapes_with t entries ≡ shape_count rs t
shapes_with_is rs pool entries h t = h.sums (λ u k. cond (eqb u t) 1 0) ∙ sum_by-same _ _ same rs
  where
    same : (r : Record) → by_shape (λ u k. cond (eqb u t) 1 0) r ≡ cond (is_shape t r) 1 0
    same (Chain u from to) = refl
    same (Shape u k pairs) = refl
    same other = refl

pub shapes_at_is : (rs : List Record) (pool : List Point) (entries : List ShapeEntry) → AreShapeEntries rs pool entries → (t n : ℕ) → shapes_at t n entries ≡ count_by (is_shape_at t n) rs
shapes_at_is rs pool entries h t n = h.sums (λ u k. cond (eqb u t && eqb k n) 1 0) ∙ sum_by-same _ _ same rs
  where
    same : (r : Record) → by_shape (λ u k. cond (eqb u t && eqb k n) 1 0) r ≡ cond (is_shape_at t n r) 1 0
    same (Chain u from to) = refl
    same (Shape u k pairs) = refl
    same other = refl

-- numbered entries are numbered records, and the other way round
pub AreShapesNumbered-from_entries : (rs : List Record) (pool : List Point) (entries : List ShapeEntry) → AreShapeEntries rs pool entries → (t : ℕ) → AreNumbered entries t → AreShapesNumbered rs t
AreShapesNumbered-from_entries rs pool entries h t numbered n low high =
    sym (shapes_at_is rs pool entries h t n) ∙ numbered n low (rw (shapes_with_is rs pool entries h t) high)

pub AreNumbered-from_records : (rs : List Record) (pool : List Point) (entries : List ShapeEntry) → AreShapeEntries rs pool entries → (t : ℕ) → AreShapesNumbered rs t → AreNumbered entries t
AreNumbered-from_records rs pool entries h t numbered n low high =
    shapes_at_is rs pool entries h t n ∙ numbered n low (rw (← shapes_with_is rs pool entries h t) high)

-- the pairs up to one entry more
pub pairs_more : (rs : List Record) (pool : List Point) (entries : List ShapeEntry) (d : ShapeEntry) (i v : ℕ) → AreShapeEntries rs pool entries → ArePlaced entries → i < length entries → v ≡ (get_or entries i d).tlid → (entry : IsShapeEntry rs pool (get_or entries i d)) → pairs_up_to rs v (shapes_with v (take (i + 1) entries)) ≡ pairs_up_to rs v (shapes_with v (take i entries)) ++ entry.pairs
pairs_more rs pool entries d i v h placed lt at entry =
    let x : ShapeEntry = get_or entries i d in
    let m : ℕ = shapes_with v (take i entries) in
    let rtsq : x.rtsq ≡ m + 1 = placed i lt d ∙ ap (λ t. shapes_with t (take i entries) + 1) (sym at) in
    let counted : m + 1 ≤ shapes_with v entries = one_counted (has_tlid v) entries i d lt (eq-eqb _ _ (sym at)) in
    let once : count_by (is_shape_at v (m + 1)) rs ≡ 1 = sym (shapes_at_is rs pool entries h v (m + 1)) ∙ numbered_from_placed entries placed v (m + 1) (omega arith) counted in
    let found : Contains rs (Shape v (m + 1) entry.pairs) = subst (λ (k : ℕ). Contains rs (Shape v k entry.pairs)) rtsq (subst (λ (t : ℕ). Contains rs (Shape t x.rtsq entry.pairs)) (sym at) entry.record_of_it) in
    let there : pairs_at rs v (m + 1) ≡ entry.pairs = pairs_at_is rs v (m + 1) entry.pairs found once in
    let more = count_more entries d i v m lt at refl in
    rw (← more, add-one m) (ap (λ ps. pairs_up_to rs v m ++ ps) (rw add-one at there))

-- a gap stays one
pub gap_stays : (rs : List Record) (t n m : ℕ) → has_gap (pairs_up_to rs t n) ≡ true → n ≤ m → has_gap (pairs_up_to rs t m) ≡ true
gap_stays rs t n zero h le = let same : n ≡ zero = omega arith in rw same at h
gap_stays rs t n (suc m) h le =
    elim (cases_lt n (suc m)) [
      | inl earlier ↦ rw (has_gap-append (pairs_up_to rs t m) (pairs_at rs t (suc m)), gap_stays rs t n m h (omega arith)) refl
      | inr last ↦ let same : n ≡ suc m = omega arith in rw same at h
    ]

-- a pair is used exactly where there are used points
late_by_is : (pairs : List (Option Point)) (ended : Bool) (n : ℕ) → n ≡ length (used pairs) → late_by (fill_of pairs) ended n ≡ (has_gap pairs || (ended && some_used pairs))
late_by_is pairs ended n count = go (has_gap pairs) refl
  where
    positive : (pairs : List (Option Point)) → ltb 0 (length (used pairs)) ≡ some_used pairs
    positive [] = refl
    positive (None ∷ pairs) = positive pairs
    positive (Some p ∷ pairs) = grind (arith, nat_tests)

    both : (b : Bool) → late_by (cond b Ended Full) ended n ≡ (ended && some_used pairs)
    both true = ap (λ b. ended && b) (ap (ltb 0) count ∙ positive pairs)
    both false = ap (λ b. ended && b) (ap (ltb 0) count ∙ positive pairs)

    go : (b : Bool) → has_gap pairs ≡ b → late_by (cond b Gap (cond (some_unused pairs) Ended Full)) ended n ≡ (b || (ended && some_used pairs))
    go true e = refl
    go false e = both (some_unused pairs)

ended_by_is : (pairs : List (Option Point)) (ended : Bool) → ended_by (fill_of pairs) ended ≡ (ended || some_unused pairs)
ended_by_is pairs ended = go (has_gap pairs) (some_unused pairs) refl refl
  where
    or_true : (b : Bool) → true ≡ (b || true)
    or_true true = refl
    or_true false = refl

    or_false : (b : Bool) → b ≡ (b || false)
    or_false true = refl
    or_false false = refl

    go : (g u : Bool) → has_gap pairs ≡ g → some_unused pairs ≡ u → ended_by (cond g Gap (cond u Ended Full)) ended ≡ (ended || u)
    go true u gap unused = or_true ended ∙ ap (λ b. ended || b) (sym (unused_from_gap pairs gap) ∙ unused)
    go false true gap unused = or_true ended
    go false false gap unused = or_false ended

-- the entry has as many points as it says
pub length_entry : (pool : List Point) (s : ShapeEntry) → IsInside pool s → length (entry_points pool s) ≡ s.used
length_entry pool s inside = length-take-le s.used (drop s.first pool) (omega (arith, length-drop s.first pool))

-- how a used pair of the entry comes late
late_is : (rs : List Record) (pool : List Point) (s : ShapeEntry) (ended : Bool) (entry : IsShapeEntry rs pool s) → late_after ended s ≡ (has_gap entry.pairs || (ended && some_used entry.pairs))
late_is rs pool s ended entry =
    ap (λ f. late_by f ended s.used) entry.fill ∙ late_by_is entry.pairs ended s.used (sym (length_entry pool s entry.inside) ∙ ap length entry.points)

ended_is : (rs : List Record) (pool : List Point) (s : ShapeEntry) (ended : Bool) (entry : IsShapeEntry rs pool s) → ended_after ended s ≡ (ended || some_unused entry.pairs)
ended_is rs pool s ended entry = ap (λ f. ended_by f ended) entry.fill ∙ ended_by_is entry.pairs ended

-- the TLID at the i-th entry, and whether a pair of its earlier entries is unused
pub ended_at_entry : (rs : List Record) (entries : List ShapeEntry) (d : ShapeEntry) (i u v : ℕ) (was ended : Bool) → i < length entries → AreInOrder entries → (0 < i → (e : ShapeEntry) → (get_or entries (i - 1) e).tlid ≡ u) → was ≡ some_unused (pairs_up_to rs u (shapes_with u (take i entries))) → (((get_or entries i d).tlid ≢ u) × (v ≡ (get_or entries i d).tlid) × (ended ≡ false)) ⊎ (((get_or entries i d).tlid ≡ u) × (v ≡ u) × (ended ≡ was)) → ended ≡ some_unused (pairs_up_to rs v (shapes_with v (take i entries)))
ended_at_entry rs entries d i u v was ended h order last before branch =
    elim branch [
      | inl w ↦
          let none : shapes_with v (take i entries) ≡ 0 = ap (λ t. shapes_with t (take i entries)) w.1 ∙ none_before entries d i h order (λ p same. w.0 (sym same ∙ last p d)) in
          w.2 ∙ ap (λ n. some_unused (pairs_up_to rs v n)) (sym none)
      | inr w ↦ w.2 ∙ before ∙ ap (λ t. some_unused (pairs_up_to rs t (shapes_with t (take i entries)))) (sym w.1)
    ]

pub tlid_at_entry : (u v x : ℕ) (was ended : Bool) → ((x ≢ u) × (v ≡ x) × (ended ≡ false)) ⊎ ((x ≡ u) × (v ≡ u) × (ended ≡ was)) → v ≡ x
tlid_at_entry u v x was ended branch = elim branch [ inl w ↦ w.1 | inr w ↦ w.1 ∙ sym w.0 ]

-- the gap of the pairs up to the i-th entry, where those before have none
gap_is : (rs : List Record) (pool : List Point) (entries : List ShapeEntry) (d : ShapeEntry) (i v : ℕ) (ended : Bool) → AreShapeEntries rs pool entries → ArePlaced entries → i < length entries → v ≡ (get_or entries i d).tlid → has_gap (pairs_up_to rs v (shapes_with v (take i entries))) ≡ false → ended ≡ some_unused (pairs_up_to rs v (shapes_with v (take i entries))) → has_gap (pairs_up_to rs v (shapes_with v (take (i + 1) entries))) ≡ late_after ended (get_or entries i d)
gap_is rs pool entries d i v ended h placed lt at free before =
    let entry = h.each i d lt in
    let earlier : List (Option Point) = pairs_up_to rs v (shapes_with v (take i entries)) in
    ap has_gap (pairs_more rs pool entries d i v h placed lt at entry) ∙ has_gap-append earlier entry.pairs
    ∙ ap (λ b. (b || (some_unused earlier && some_used entry.pairs)) || has_gap entry.pairs) free
    ∙ ap (λ b. (false || (b && some_used entry.pairs)) || has_gap entry.pairs) (sym before)
    ∙ swapped (ended && some_used entry.pairs) (has_gap entry.pairs)
    ∙ sym (late_is rs pool (get_or entries i d) ended entry)
  where
    swapped : (a b : Bool) → ((false || a) || b) ≡ (b || a)
    swapped true true = refl
    swapped true false = refl
    swapped false true = refl
    swapped false false = refl

-- a late pair is a gap
pub late_found : (rs : List Record) (pool : List Point) (entries : List ShapeEntry) (d : ShapeEntry) (i v : ℕ) (ended : Bool) → AreShapeEntries rs pool entries → ArePlaced entries → i < length entries → v ≡ (get_or entries i d).tlid → has_gap (pairs_up_to rs v (shapes_with v (take i entries))) ≡ false → ended ≡ some_unused (pairs_up_to rs v (shapes_with v (take i entries))) → late_after ended (get_or entries i d) ≡ true → has_gap (pairs_of rs v) ≡ true
late_found rs pool entries d i v ended h placed lt at free before late =
    let here = gap_is rs pool entries d i v ended h placed lt at free before ∙ late in
    gap_stays rs v (shapes_with v (take (i + 1) entries)) (shape_count rs v) here
    (omega (arith, shapes_with_is rs pool entries h v, sum_by-take-le (λ s. cond (has_tlid v s) 1 0) entries (i + 1)))

-- no gap up to the i-th entry, where it has no late pair
pub free_more : (rs : List Record) (pool : List Point) (entries : List ShapeEntry) (d : ShapeEntry) (i v : ℕ) (ended : Bool) → AreShapeEntries rs pool entries → ArePlaced entries → i < length entries → v ≡ (get_or entries i d).tlid → ((t : ℕ) → has_gap (pairs_up_to rs t (shapes_with t (take i entries))) ≡ false) → ended ≡ some_unused (pairs_up_to rs v (shapes_with v (take i entries))) → late_after ended (get_or entries i d) ≡ false → (t : ℕ) → has_gap (pairs_up_to rs t (shapes_with t (take (i + 1) entries))) ≡ false
free_more rs pool entries d i v ended h placed lt at free before on_time t =
    elim (cases_eq t v) [
      | inl same ↦ rw same (gap_is rs pool entries d i v ended h placed lt at (free v) before ∙ on_time)
      | inr other ↦
          let more = count_by_more_no (has_tlid t) entries i d lt (ne_eqb _ _ (λ e. other (sym (at ∙ e)))) in
          ap (λ n. has_gap (pairs_up_to rs t n)) more ∙ free t
    ]

-- whether a pair up to the i-th entry is unused
pub ended_more : (rs : List Record) (pool : List Point) (entries : List ShapeEntry) (d : ShapeEntry) (i v : ℕ) (ended : Bool) → AreShapeEntries rs pool entries → ArePlaced entries → i < length entries → v ≡ (get_or entries i d).tlid → ended ≡ some_unused (pairs_up_to rs v (shapes_with v (take i entries))) → ended_after ended (get_or entries i d) ≡ some_unused (pairs_up_to rs v (shapes_with v (take (i + 1) entries)))
ended_more rs pool entries d i v ended h placed lt at before =
    let entry = h.each i d lt in
    let earlier : List (Option Point) = pairs_up_to rs v (shapes_with v (take i entries)) in
    ended_is rs pool (get_or entries i d) ended entry
    ∙ ap (λ b. b || some_unused entry.pairs) before
    ∙ sym (ap some_unused (pairs_more rs pool entries d i v h placed lt at entry) ∙ some_unused-append earlier entry.pairs)

-- no TLID has a gap in the end
pub free_whole : (rs : List Record) (pool : List Point) (entries : List ShapeEntry) (n : ℕ) → AreShapeEntries rs pool entries → length entries ≤ n → ((t : ℕ) → has_gap (pairs_up_to rs t (shapes_with t (take n entries))) ≡ false) → (t : ℕ) → has_gap (pairs_of rs t) ≡ false
free_whole rs pool entries n h all free t =
    ap (λ m. has_gap (pairs_up_to rs t m)) (sym (ap (shapes_with t) (take_all n entries all) ∙ shapes_with_is rs pool entries h t)) ∙ free t
