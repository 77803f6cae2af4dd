use Rattle.std.proofs.Common.{◌≡◌, ℕ, zero, suc, ◌+◌, ◌<◌, ◌≤◌, Bool, true, false, cond, eqb, ◌&&◌, ◌⊎◌, inl, inr, Option, Some, None, List, [], ◌∷◌, length, take, map, filter, get_or, count_by, Contains, refl, sym, ap, ◌∙◌, subst, arith, add-one}
use Rattle.std.specs.List.{filter_map, AllPairs}
use Rattle.std.specs.List.Sorted.{IsNonDecreasing}
use Rattle.std.proofs.lemmas.Bool.{eqb-true, cases_Bool, cases_lt, and_parts as both_true}
use Rattle.std.proofs.lemmas.List.{get_or_default, get_or-map, length-map, take_all}
use Rattle.std.proofs.lemmas.List.Sums.{sum_by-cons, length-filter, fold_more}
use Rattle.std.proofs.lemmas.List.Elements.{All-filter, All-contains, All-contains_itself, Contains-get_or, filter_passes}
use Rattle.std.proofs.lemmas.List.Kept.{AllPairs-filter}
use Rattle.std.proofs.lemmas.List.Sorted.{sum_by-IsPermutation, Contains-permutation, IsPermutation-sym}
use Rattle.tl_geom.specs.declared.point.Point.{Point}
use Rattle.tl_record.specs.declared.record.Record.{Record}
use Rattle.tl_record.specs.declared.record.Record.TheVariants.{Chain, Shape, Sides, PolyPoint, Landmark, AreaLink}
use Rattle.tl_map_rules.specs.ChainsOf.{is_shape, is_shape_at, shape_count, pairs_at, pairs_up_to, pairs_of, has_gap}
use Rattle.tl_map_rules.specs.Faults.{IsTrueOf, AreShapesNumbered, IsBroken}
use Rattle.tl_map_rules.specs.declared.fault.RecordFault.{RecordFault}
use Rattle.tl_map_rules.specs.declared.fault.RecordFault.TheVariants.{ShapeSequence, ShapeGap}
use Rattle.tl_map_rules.specs.declared.listing.shape.ShapeSummary.{ShapeSummary}
use Rattle.tl_map_rules.specs.declared.listing.shape.Seen.{Seen}
use Rattle.tl_map_rules.specs.Listing.Kept.{shape_at}
use Rattle.tl_map_rules.specs.Listing.Shapes.{start, seen_in}
use Rattle.tl_map_rules.specs.Listing.Keeping.Told.{Tells, AreTold}
use Rattle.tl_map_rules.specs.Listing.Keeping.Runs.{AreShapes, run_fault, IsRunFault, Precedes, AreInOrder, run_of, join, seen_in_run, count_up, in_sequence}
use Rattle.tl_map_rules.proofs.ListingLemmas.CountedLemmas.{count_yes, count_no, count-map, items_counted}
use Rattle.tl_map_rules.proofs.ListingLemmas.SequenceLemmas.{times, once_each, count_up_from_once}
use Rattle.tl_map_rules.proofs.ListingLemmas.TraceLemmas.{join_seen}
use Rattle.tl_map_rules.specs.Listing.AllFaults.{fault_place}
use Rattle.tl_map_rules.proofs.ListingLemmas.ToldLemmas.{told_also, told_more}
use Rattle.tl_map_rules.proofs.ListingLemmas.OrderLemmas.{sequence_there, gap_there as gap_there_at}
use Rattle.tl_map_rules.proofs.ListingLemmas.RunLemmas.{nothing}
use Rattle.tl_map_rules.proofs.PairLemmas.{pairs_at_is}

-- what passes two tests is counted among what passes the first
count-filter : {X : Type 0} (p q : X → Bool) (xs : List X) → count_by q (filter p xs) ≡ count_by (λ x. p x && q x) xs
count-filter p q [] = refl
count-filter {X} p q (x ∷ xs) = elim (cases_Bool (p x)) [
  | inl met ↦
      let kept : filter p (x ∷ xs) ≡ x ∷ filter p xs = rw met refl in
      ap (count_by q) kept ∙ elim (cases_Bool (q x)) [
        | inl both ↦ omega (arith, count_yes q x (filter p xs) both, count_yes (λ y. p y && q y) x xs (rw (met, both) refl), count-filter p q xs)
        | inr one ↦ omega (arith, count_no q x (filter p xs) one, count_no (λ y. p y && q y) x xs (rw (met, one) refl), count-filter p q xs)
      ]
  | inr other ↦
      let left : filter p (x ∷ xs) ≡ filter p xs = rw other refl in
      ap (count_by q) left ∙ omega (arith, count_no (λ y. p y && q y) x xs (rw other refl), count-filter p q xs)
]

-- how many shapes a TLID has
pub run_long : (rs : List Record) (shapes : List ShapeSummary) (t : ℕ) → AreShapes rs shapes → length (run_of shapes t) ≡ shape_count rs t
run_long rs shapes t are =
    length-filter (λ (s : ShapeSummary). eqb s.tlid t) shapes
    ∙ sum_by-IsPermutation (λ (s : ShapeSummary). cond (eqb s.tlid t) 1 0) (filter_map shape_at rs) shapes are.moved
    ∙ items_counted shape_at (λ s. eqb s.tlid t) (is_shape t) each rs
  where
    each : (r : Record) → count_by (λ (s : ShapeSummary). eqb s.tlid t) (filter_map shape_at (r ∷ [])) ≡ cond (is_shape t r) 1 0
    each (Chain u from to) = refl
    each (Shape u k pairs) = sum_by-cons (λ (s : ShapeSummary). cond (eqb s.tlid t) 1 0) (record { tlid = u; seen = seen_in pairs; rtsq = k }) [] ∙ omega arith
    each (Sides u s e l r) = refl
    each (PolyPoint k p) = refl
    each (Landmark k p) = refl
    each (AreaLink k m) = refl

-- how often a TLID's shapes have an RTSQ
pub run_times : (rs : List Record) (shapes : List ShapeSummary) (t n : ℕ) → AreShapes rs shapes → times n (map (λ s. s.rtsq) (run_of shapes t)) ≡ count_by (is_shape_at t n) rs
run_times rs shapes t n are =
    count-map (λ x. eqb x n) (λ (s : ShapeSummary). s.rtsq) (run_of shapes t)
    ∙ count-filter (λ (s : ShapeSummary). eqb s.tlid t) (λ s. eqb s.rtsq n) shapes
    ∙ sum_by-IsPermutation (λ (s : ShapeSummary). cond (eqb s.tlid t && eqb s.rtsq n) 1 0) (filter_map shape_at rs) shapes are.moved
    ∙ items_counted shape_at (λ s. eqb s.tlid t && eqb s.rtsq n) (is_shape_at t n) each rs
  where
    each : (r : Record) → count_by (λ (s : ShapeSummary). eqb s.tlid t && eqb s.rtsq n) (filter_map shape_at (r ∷ [])) ≡ cond (is_shape_at t n r) 1 0
    each (Chain u from to) = refl
    each (Shape u k pairs) = sum_by-cons (λ (s : ShapeSummary). cond (eqb s.tlid t && eqb s.rtsq n) 1 0) (record { tlid = u; seen = seen_in pairs; rtsq = k }) [] ∙ omega arith
    each (Sides u s e l r) = refl
    each (PolyPoint k p) = refl
    each (Landmark k p) = refl
    each (AreaLink k m) = refl

-- all shapes of a run have its TLID
run_tlid : (shapes : List ShapeSummary) (t i : ℕ) (d : ShapeSummary) → i < length (run_of shapes t) → (get_or (run_of shapes t) i d).tlid ≡ t
run_tlid shapes t i d lt = eqb-true _ _ (filter_passes (λ (s : ShapeSummary). eqb s.tlid t) shapes i d lt)

-- the RTSQ of a run don't fall
run_order : (shapes : List ShapeSummary) (t : ℕ) → AreInOrder shapes → IsNonDecreasing (map (λ s. s.rtsq) (run_of shapes t))
run_order shapes t order i j d le lt =
    let run = run_of shapes t in
    let long = length-map run (λ (s : ShapeSummary). s.rtsq) in
    let pairs : AllPairs Precedes run = AllPairs-filter Precedes (λ (s : ShapeSummary). eqb s.tlid t) shapes (λ k l x before within. order k l x (omega arith) within) in
    go run lt long pairs (λ k x within. run_tlid shapes t k x within)
  where
    go : (run : List ShapeSummary) → j < length (map (λ (s : ShapeSummary). s.rtsq) run) → length (map (λ (s : ShapeSummary). s.rtsq) run) ≡ length run → AllPairs Precedes run → ((k : ℕ) (x : ShapeSummary) → k < length run → (get_or run k x).tlid ≡ t) → get_or (map (λ (s : ShapeSummary). s.rtsq) run) i d ≤ get_or (map (λ (s : ShapeSummary). s.rtsq) run) j d
    go [] lt long pairs same = absurd (omega arith)
    go (x ∷ xs) lt long pairs same =
        let rtsq = λ (s : ShapeSummary). s.rtsq in
        rw (get_or-map rtsq (x ∷ xs) i x d (omega (arith, long)), get_or-map rtsq (x ∷ xs) j x d (omega (arith, long)))
        (elim (cases_lt i j) [
          | inl before ↦ (pairs i j x before (omega (arith, long))).by_rtsq (same i x (omega (arith, long)) ∙ sym (same j x (omega (arith, long))))
          | inr at ↦ let one : i ≡ j = omega arith in rw one (omega arith)
        ])

-- the RTSQ of a run count up where the records' do
pub numbered_run : (rs : List Record) (shapes : List ShapeSummary) (t : ℕ) → AreShapes rs shapes → AreShapesNumbered rs t → in_sequence (run_of shapes t) ≡ true
numbered_run rs shapes t are numbered =
    count_up_from_once 1 (map (λ (s : ShapeSummary). s.rtsq) (run_of shapes t)) (run_order shapes t are.order)
    (λ m low high. run_times rs shapes t m are ∙ numbered m low (omega (arith, high, length-map (run_of shapes t) (λ (s : ShapeSummary). s.rtsq), run_long rs shapes t are)))

pub run_numbered : (rs : List Record) (shapes : List ShapeSummary) (t : ℕ) → AreShapes rs shapes → in_sequence (run_of shapes t) ≡ true → AreShapesNumbered rs t
run_numbered rs shapes t are up n low high =
    sym (run_times rs shapes t n are)
    ∙ once_each 1 n (map (λ (s : ShapeSummary). s.rtsq) (run_of shapes t)) up low (omega (arith, high, length-map (run_of shapes t) (λ (s : ShapeSummary). s.rtsq), run_long rs shapes t are))

-- a number that counts up from another
count_at : (n : ℕ) (qs : List ℕ) (i d : ℕ) → count_up n qs ≡ true → i < length qs → get_or qs i d ≡ n + i
count_at n [] i d h lt = absurd (omega arith)
count_at n (q ∷ qs) zero d h lt = eqb-true q n (both_true (eqb q n) (count_up (n + 1) qs) h).0 ∙ omega arith
count_at n (q ∷ qs) (suc i) d h lt = count_at (n + 1) qs i d (both_true (eqb q n) (count_up (n + 1) qs) h).1 (omega arith) ∙ omega arith

-- what a shape is kept of
kept_of : (rs : List Record) (s : ShapeSummary) → Contains (filter_map shape_at rs) s → (pairs : List (Option Point)) × Contains rs (Shape s.tlid s.rtsq pairs) × (s.seen ≡ seen_in pairs)
kept_of [] s has = absurd (omega (arith, has.1))
kept_of (r ∷ rs) s has = go r has (kept_of rs s)
  where
    Kept : List Record → Type 0
    Kept xs = (pairs : List (Option Point)) × Contains xs (Shape s.tlid s.rtsq pairs) × (s.seen ≡ seen_in pairs)

    later : (r : Record) → Kept rs → Kept (r ∷ rs)
    later r (pairs, (k, lt, at), is) = (pairs, (suc k, omega arith, at), is)

    go : (r : Record) → Contains (filter_map shape_at (r ∷ rs)) s → (Contains (filter_map shape_at rs) s → Kept rs) → Kept (r ∷ rs)
    go (Chain u from to) has rest = later (Chain u from to) (rest has)
    go (Shape u n pairs) (zero, lt, at) rest = (pairs, (0, omega arith, (λ i. Shape (at i).tlid (at i).rtsq pairs)), ap (λ (x : ShapeSummary). x.seen) (sym at))
    go (Shape u n pairs) (suc k, lt, at) rest = later (Shape u n pairs) (rest (k, omega arith, at))
    go (Sides u a e l r) has rest = later (Sides u a e l r) (rest has)
    go (PolyPoint k p) has rest = later (PolyPoint k p) (rest has)
    go (Landmark k p) has rest = later (Landmark k p) (rest has)
    go (AreaLink k m) has rest = later (AreaLink k m) (rest has)

-- what is seen of a run whose RTSQ count up is what is seen of the records' pairs
pub seen_run : (rs : List Record) (shapes : List ShapeSummary) (t : ℕ) → AreShapes rs shapes → in_sequence (run_of shapes t) ≡ true → seen_in_run (run_of shapes t) ≡ seen_in (pairs_of rs t)
seen_run rs shapes t are up =
    let run = run_of shapes t in
    let all : seen_in_run (take (length run) run) ≡ seen_in (pairs_up_to rs t (length run)) = so_far (length run) (omega arith) in
    sym (ap seen_in_run (take_all (length run) run (omega arith))) ∙ all ∙ ap (λ n. seen_in (pairs_up_to rs t n)) (run_long rs shapes t are)
  where
    one : (i : ℕ) (d : ShapeSummary) → i < length (run_of shapes t) → (get_or (run_of shapes t) i d).seen ≡ seen_in (pairs_at rs t (suc i))
    one i d lt =
        let run = run_of shapes t in
        let s : ShapeSummary = get_or run i d in
        let kept = filter_map shape_at rs in
        let among : Contains shapes s = All-contains (Contains shapes) run s (All-filter (λ (x : ShapeSummary). eqb x.tlid t) (Contains shapes) shapes (All-contains_itself shapes)) (Contains-get_or run i d lt) in
        let of = kept_of rs s (Contains-permutation shapes kept s (IsPermutation-sym kept shapes are.moved) among) in
        let long = length-map run (λ (x : ShapeSummary). x.rtsq) in
        let rtsq_is : s.rtsq ≡ suc i = sym (get_or-map (λ (x : ShapeSummary). x.rtsq) run i d 0 lt) ∙ count_at 1 (map (λ (x : ShapeSummary). x.rtsq) run) i 0 up (omega (arith, long)) ∙ omega arith in
        let there : Contains rs (Shape t (suc i) of.0) = subst (λ n. Contains rs (Shape t n of.0)) rtsq_is (subst (λ u. Contains rs (Shape u s.rtsq of.0)) (run_tlid shapes t i d lt) of.1) in
        let once = run_numbered rs shapes t are up (suc i) (omega arith) (omega (arith, run_long rs shapes t are)) in
        of.2 ∙ ap seen_in (sym (pairs_at_is rs t (suc i) of.0 there once))

    so_far : (i : ℕ) → i ≤ length (run_of shapes t) → seen_in_run (take i (run_of shapes t)) ≡ seen_in (pairs_up_to rs t i)
    so_far zero le = refl
    so_far (suc i) le =
        let more : seen_in_run (take (suc i) (run_of shapes t)) ≡ join (seen_in_run (take i (run_of shapes t))) (get_or (run_of shapes t) i nothing).seen =
        rw (add-one i) at (fold_more (λ (s : Seen) (x : ShapeSummary). join s x.seen) start (run_of shapes t) i nothing (omega arith)) in
        more ∙ (λ j. join (so_far i (omega arith) j) (one i nothing (omega arith) j)) ∙ join_seen (pairs_up_to rs t i) (pairs_at rs t (suc i))

-- a TLID's shapes have the fault that its records have
pub gap_run : (rs : List Record) (shapes : List ShapeSummary) (t : ℕ) → AreShapes rs shapes → in_sequence (run_of shapes t) ≡ true → (seen_in_run (run_of shapes t)).gap ≡ has_gap (pairs_of rs t)
gap_run rs shapes t are up = ap (λ (s : Seen). s.gap) (seen_run rs shapes t are up)

-- a TLID that isn't numbered has shapes
shapes_there : (rs : List Record) (t : ℕ) → ¬ AreShapesNumbered rs t → 1 ≤ shape_count rs t
shapes_there rs t wrong = elim (cases_lt 0 (shape_count rs t)) [
  | inl some ↦ some
  | inr none ↦ absurd (wrong (λ n low high. absurd (omega arith)))
]

-- pairs with a gap are those of shapes
gap_there : (rs : List Record) (t : ℕ) → has_gap (pairs_of rs t) ≡ true → 1 ≤ shape_count rs t
gap_there rs t gap = go (shape_count rs t) gap
  where
    go : (n : ℕ) → has_gap (pairs_up_to rs t n) ≡ true → 1 ≤ n
    go zero e = absurd (let f : false ≡ true = e in cc)
    go (suc n) e = omega arith

-- one of the shapes has a TLID
shape_there : (rs : List Record) (shapes : List ShapeSummary) (t : ℕ) → AreShapes rs shapes → 1 ≤ shape_count rs t → (k : ℕ) × (k < length shapes) × ((d : ShapeSummary) → (get_or shapes k d).tlid ≡ t)
shape_there rs shapes t are some =
    let p = λ (s : ShapeSummary). eqb s.tlid t in
    let first = get_or (run_of shapes t) 0 nothing in
    let long : 0 < length (run_of shapes t) = omega (arith, run_long rs shapes t are) in
    let among : Contains shapes first = All-contains (Contains shapes) (run_of shapes t) first (All-filter p (Contains shapes) shapes (All-contains_itself shapes)) (Contains-get_or (run_of shapes t) 0 nothing long) in
    (among.0, among.1, λ d. ap (λ (s : ShapeSummary). s.tlid) (get_or_default shapes among.0 d first among.1 ∙ among.2) ∙ run_tlid shapes t 0 nothing long)

-- what a fault of a run says
pub run_true : (rs : List Record) (shapes : List ShapeSummary) (t : ℕ) (f : RecordFault) → AreShapes rs shapes → run_fault t (run_of shapes t) ≡ Some f → ((f ≡ ShapeSequence t) × ¬ AreShapesNumbered rs t) ⊎ ((f ≡ ShapeGap t) × IsBroken rs t)
run_true rs shapes t f are is = go (in_sequence (run_of shapes t)) refl (seen_in_run (run_of shapes t)).gap refl is
  where
    go : (b : Bool) → in_sequence (run_of shapes t) ≡ b → (g : Bool) → (seen_in_run (run_of shapes t)).gap ≡ g → cond b (cond g (Some (ShapeGap t)) None) (Some (ShapeSequence t)) ≡ Some f → ((f ≡ ShapeSequence t) × ¬ AreShapesNumbered rs t) ⊎ ((f ≡ ShapeGap t) × IsBroken rs t)
    go true up true gap is = inr ((let e : Some (ShapeGap t) ≡ Some f = is in cc), record { numbered = run_numbered rs shapes t are up; gap = sym (gap_run rs shapes t are up) ∙ gap })
    go true up false gap is = absurd (let e : None ≡ Some f = is in cc)
    go false off g gap is = inl ((let e : Some (ShapeSequence t) ≡ Some f = is in cc), λ numbered. absurd (let e : false ≡ true = sym off ∙ numbered_run rs shapes t are numbered in cc))

-- faults of runs are found
sequence_found : (rs : List Record) (shapes : List ShapeSummary) (t : ℕ) → AreShapes rs shapes → ¬ AreShapesNumbered rs t → run_fault t (run_of shapes t) ≡ Some (ShapeSequence t)
sequence_found rs shapes t are wrong = elim (cases_Bool (in_sequence (run_of shapes t))) [
  | inl up ↦ absurd (wrong (run_numbered rs shapes t are up))
  | inr off ↦ rw off refl
]

gap_found : (rs : List Record) (shapes : List ShapeSummary) (t : ℕ) → AreShapes rs shapes → IsBroken rs t → run_fault t (run_of shapes t) ≡ Some (ShapeGap t)
gap_found rs shapes t are broken =
    let up = numbered_run rs shapes t are broken.numbered in
    rw (up, gap_run rs shapes t are up, broken.gap) refl

found_at : (shapes : List ShapeSummary) (t : ℕ) (f : RecordFault) → (k : ℕ) × (k < length shapes) × ((d : ShapeSummary) → (get_or shapes k d).tlid ≡ t) → run_fault t (run_of shapes t) ≡ Some f → IsRunFault shapes (length shapes) f
found_at shapes t f there is = record { place = there.0; below = there.1; within = there.1; is = λ d. subst (λ u. run_fault u (run_of shapes u) ≡ Some f) (sym (there.2 d)) is }

-- M3 and M4 are told
pub told_shapes : (rs : List Record) (codes : List ℕ) (shapes : List ShapeSummary) (old new : List RecordFault) → AreShapes rs shapes → Tells (IsRunFault shapes (length shapes)) old new → AreTold rs codes old → AreTold rs (4 ∷ 3 ∷ codes) new
told_shapes rs codes shapes old new are tells before =
    let there = λ (t : ℕ) (some : 1 ≤ shape_count rs t). shape_there rs shapes t are some in
    told_also rs (3 ∷ codes) 4 new
    (λ f holds code.
    let t = (fault_place f).1 in
    let is = gap_there_at f code in
    let broken : IsBroken rs t = subst (IsTrueOf rs) is holds in
    tells.every f (rw is (found_at shapes t (ShapeGap t) (there t (gap_there rs t broken.gap)) (gap_found rs shapes t are broken))))
    (told_more rs codes 3 (IsRunFault shapes (length shapes)) old new
    (λ f r.
    let s = get_or shapes r.place nothing in
    elim (run_true rs shapes s.tlid f are (r.is nothing)) [ inl w ↦ subst (IsTrueOf rs) (sym w.0) w.1 | inr w ↦ subst (IsTrueOf rs) (sym w.0) w.1 ])
    (λ f holds code.
    let t = (fault_place f).1 in
    let is = sequence_there f code in
    let wrong : ¬ AreShapesNumbered rs t = subst (IsTrueOf rs) is holds in
    rw is (found_at shapes t (ShapeSequence t) (there t (shapes_there rs t wrong)) (sequence_found rs shapes t are wrong)))
    tells before)
