use Rattle.std.proofs.Common.{◌≡◌, ◌≢◌, ℕ, ◌+◌, ◌-◌, ◌<◌, ◌≤◌, false, eqb, ◌⊎◌, inl, inr, Option, Some, None, List, [], ◌∷◌, ◌++◌, length, take, drop, get_or, sym, ap, ◌∙◌, subst, arith}
use Rattle.std.specs.List.Sorted.{IsSortedByKey}
use Rattle.std.specs.Ordering.{nat_cmp, ordering_then, is_lt}
use Rattle.std.specs.declared.cmp.Ordering.{Ordering}
use Rattle.std.specs.Cmp.{IsTotalOrder}
use Rattle.std.proofs.lemmas.Bool.{eq-eqb, ne_eqb, cases_lt}
use Rattle.std.proofs.lemmas.Bool.Decides.{nat_tests}
use Rattle.std.proofs.lemmas.Cmp.{on_total, then_total, nat_cmp_total}
use Rattle.std.proofs.lemmas.List.{get_or_default}
use Rattle.std.proofs.lemmas.List.Sorted.{ranks_by, sorted_far}
use Rattle.tl_map_rules.specs.declared.fault.RecordFault.{RecordFault}
use Rattle.tl_map_rules.specs.declared.listing.shape.ShapeSummary.{ShapeSummary}
use Rattle.tl_map_rules.specs.Listing.Shapes.{start}
use Rattle.tl_map_rules.specs.Listing.Keeping.Told.{Tells}
use Rattle.tl_map_rules.specs.Listing.Keeping.Runs.{Precedes, AreInOrder, run_of, run_fault, IsRunFault}
use Rattle.tl_map_rules.proofs.ListingLemmas.ToldLemmas.{tells_none, tells_same, tells_more}
use Rattle.tl_map_rules.proofs.PartLemmas.{filter_part}

-- both numbers by which shapes are sorted
abbrev pub numbers : ShapeSummary → ℕ × ℕ
numbers s = (s.tlid, s.rtsq)

abbrev pub numbers_cmp : ℕ × ℕ → ℕ × ℕ → Ordering
numbers_cmp p q = ordering_then (nat_cmp p.0 q.0) (nat_cmp p.1 q.1)

numbers_total : IsTotalOrder numbers_cmp
numbers_total = then_total (on_total (λ (p : ℕ × ℕ). p.0) nat_cmp_total) (on_total (λ (p : ℕ × ℕ). p.1) nat_cmp_total)

precedes : (x y : ShapeSummary) → is_lt (numbers_cmp (numbers y) (numbers x)) ≡ false → Precedes x y
precedes x y h = record { by_tlid = first x.tlid y.tlid x.rtsq y.rtsq h; by_rtsq = second x.tlid y.tlid x.rtsq y.rtsq h }
  where
    first : (t u m n : ℕ) → is_lt (ordering_then (nat_cmp u t) (nat_cmp n m)) ≡ false → t ≤ u
    first t u m n h = grind (arith, nat_tests)

    second : (t u m n : ℕ) → is_lt (ordering_then (nat_cmp u t) (nat_cmp n m)) ≡ false → t ≡ u → m ≤ n
    second t u m n h e = grind (arith, nat_tests)

-- a sort by TLID and RTSQ puts shapes in order
pub in_order : (shapes : List ShapeSummary) → IsSortedByKey numbers numbers_cmp shapes → AreInOrder shapes
in_order shapes sorted i j d le lt = precedes _ _ (sorted_far (λ (x y : ShapeSummary). is_lt (numbers_cmp (numbers x) (numbers y))) (ranks_by numbers_total numbers) shapes sorted i j d le lt)

-- the shapes of a TLID stand side by side
pub run_is : (shapes : List ShapeSummary) (s e t : ℕ) → s ≤ e → e ≤ length shapes → AreInOrder shapes → ((k : ℕ) (d : ShapeSummary) → k < s → (get_or shapes k d).tlid < t) → ((k : ℕ) (d : ShapeSummary) → s ≤ k → k < e → (get_or shapes k d).tlid ≡ t) → ((d : ShapeSummary) → s < length shapes → t ≤ (get_or shapes s d).tlid) → ((d : ShapeSummary) → e < length shapes → (get_or shapes e d).tlid ≢ t) → take (e - s) (drop s shapes) ≡ run_of shapes t
run_is shapes s e t le within order before same from other =
    sym (filter_part (λ (x : ShapeSummary). eqb x.tlid t) shapes s e le within
    (λ k d lt. ne_eqb _ _ (λ is. omega (arith, before k d lt, is)))
    (λ k d from lt. eq-eqb _ _ (same k d from lt))
    (λ k d past lt. ne_eqb _ _ (λ is. other d (omega arith) (omega (arith, is, (order e k d past lt).by_tlid, (order s e d le (omega arith)).by_tlid, from d (omega arith))))))

-- the fault of the shapes of a TLID, of which one stands at a place
abbrev pub fault_at_place : List ShapeSummary → ShapeSummary → Option RecordFault
fault_at_place shapes s = run_fault s.tlid (run_of shapes s.tlid)

-- what an index past the end would give
abbrev pub nothing : ShapeSummary
nothing = record { tlid = 0; seen = start; rtsq = 0 }

pub runs_none : (shapes : List ShapeSummary) (faults : List RecordFault) → Tells (IsRunFault shapes 0) faults faults
runs_none shapes faults = tells_none (IsRunFault shapes 0) faults (λ f r. omega (arith, r.below))

longer : (shapes : List ShapeSummary) (i : ℕ) (f : RecordFault) → IsRunFault shapes i f → IsRunFault shapes (i + 1) f
longer shapes i f r = record { place = r.place; below = omega (arith, r.below); within = r.within; is = r.is }

split : (shapes : List ShapeSummary) (i : ℕ) (f : RecordFault) (d : ShapeSummary) → IsRunFault shapes (i + 1) f → IsRunFault shapes i f ⊎ (fault_at_place shapes (get_or shapes i d) ≡ Some f)
split shapes i f d r = elim (cases_lt r.place i) [
  | inl earlier ↦ inl (record { place = r.place; below = earlier; within = r.within; is = r.is })
  | inr later ↦ let at : r.place ≡ i = omega (arith, later, r.below) in inr (rw at at (r.is d))
]

-- the TLID of the i-th shape has a fault
pub runs_more : (shapes : List ShapeSummary) (i : ℕ) (d : ShapeSummary) (x : RecordFault) (old new : List RecordFault) → i < length shapes → fault_at_place shapes (get_or shapes i d) ≡ Some x → Tells (IsRunFault shapes i) old new → Tells (IsRunFault shapes (i + 1)) old (new ++ x ∷ [])
runs_more shapes i d x old new lt is h =
    tells_more (IsRunFault shapes i) (IsRunFault shapes (i + 1)) old new x (longer shapes i)
    (record { place = i; below = omega arith; within = lt; is = λ e. rw (get_or_default shapes i e d lt) is })
    (λ f r. elim (split shapes i f d r) [
      | inl earlier ↦ inl earlier
      | inr here ↦ inr (let same : Some f ≡ Some x = sym here ∙ is in cc)
    ]) h

-- the TLID of the i-th shape has none
pub runs_quiet : (shapes : List ShapeSummary) (i : ℕ) (d : ShapeSummary) (old new : List RecordFault) → i < length shapes → fault_at_place shapes (get_or shapes i d) ≡ None → Tells (IsRunFault shapes i) old new → Tells (IsRunFault shapes (i + 1)) old new
runs_quiet shapes i d old new lt is h =
    tells_same (IsRunFault shapes i) (IsRunFault shapes (i + 1)) old new (longer shapes i)
    (λ f r. elim (split shapes i f d r) [
      | inl earlier ↦ earlier
      | inr here ↦ absurd (let same : Some f ≡ None = sym here ∙ is in cc)
    ]) h

-- the TLID of the i-th shape is that of the one before
pub runs_again : (shapes : List ShapeSummary) (i : ℕ) (d e : ShapeSummary) (old new : List RecordFault) → 1 ≤ i → i < length shapes → (get_or shapes (i - 1) e).tlid ≡ (get_or shapes i d).tlid → Tells (IsRunFault shapes i) old new → Tells (IsRunFault shapes (i + 1)) old new
runs_again shapes i d e old new low lt same h =
    tells_same (IsRunFault shapes i) (IsRunFault shapes (i + 1)) old new (longer shapes i)
    (λ f r. elim (split shapes i f d r) [
      | inl earlier ↦ earlier
      | inr here ↦ record { place = i - 1; below = omega arith; within = omega arith; is = λ x. rw (get_or_default shapes (i - 1) x e (omega arith)) (subst (λ t. run_fault t (run_of shapes t) ≡ Some f) (sym same) here) }
    ]) h

-- the shapes before the first of a TLID are below it
pub below_first : (shapes : List ShapeSummary) (i : ℕ) (d e : ShapeSummary) → AreInOrder shapes → i < length shapes → (i ≡ 0) ⊎ ((get_or shapes (i - 1) e).tlid ≢ (get_or shapes i d).tlid) → (k : ℕ) (x : ShapeSummary) → k < i → (get_or shapes k x).tlid < (get_or shapes i d).tlid
below_first shapes i d e order lt first k x less = elim first [
  | inl none ↦ absurd (omega arith)
  | inr other ↦
      let up : (get_or shapes k e).tlid ≤ (get_or shapes (i - 1) e).tlid = (order k (i - 1) e (omega arith) (omega arith)).by_tlid in
      let next : (get_or shapes (i - 1) e).tlid ≤ (get_or shapes i e).tlid = (order (i - 1) i e (omega arith) lt).by_tlid in
      rw (get_or_default shapes k x e (omega arith)) (let here : (get_or shapes i e).tlid ≡ (get_or shapes i d).tlid = ap (λ (s : ShapeSummary). s.tlid) (get_or_default shapes i e d lt) in omega (arith, up, next, other, here))
]
