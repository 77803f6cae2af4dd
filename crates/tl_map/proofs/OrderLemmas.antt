use Rattle.std.proofs.Common.{◌≡◌, ℕ, zero, suc, ◌+◌, ◌<◌, ◌≤◌, false, inl, inr, List, length, get_or, arith, add-one}
use Rattle.std.specs.Ordering.{nat_cmp, ordering_then, is_lt}
use Rattle.std.proofs.lemmas.Bool.{cases_lt}
use Rattle.std.proofs.lemmas.Bool.Decides.{nat_tests}
use Rattle.tl_map_rules.specs.declared.entry.ShapeEntry.{ShapeEntry}
use Rattle.tl_map.specs.Keeping.Entries.{Precedes, AreInOrder}

-- neighbours that a sort by TLID and RTSQ leaves
precedes_from_sort : (x y : ShapeEntry) → is_lt (ordering_then (nat_cmp y.tlid x.tlid) (nat_cmp y.rtsq x.rtsq)) ≡ false → Precedes x y
precedes_from_sort x y h = record { by_tlid = first x.tlid y.tlid x.rtsq y.rtsq h; by_rtsq = second x.tlid y.tlid x.rtsq y.rtsq h }
  where
    first : (t u m n : ℕ) → is_lt (ordering_then (nat_cmp u t) (nat_cmp n m)) ≡ false → t ≤ u
    first t u m n h = grind (arith, nat_tests)

    second : (t u m n : ℕ) → is_lt (ordering_then (nat_cmp u t) (nat_cmp n m)) ≡ false → t ≡ u → m ≤ n
    second t u m n h e = grind (arith, nat_tests)

Precedes-trans : (x y z : ShapeEntry) → Precedes x y → Precedes y z → Precedes x z
Precedes-trans x y z first second = record {
  by_tlid = omega (arith, first.by_tlid, second.by_tlid);
  by_rtsq = λ same. let one : x.tlid ≡ y.tlid = omega (arith, first.by_tlid, second.by_tlid) in let two : y.tlid ≡ z.tlid = omega (arith, first.by_tlid, second.by_tlid) in omega (arith, first.by_rtsq one, second.by_rtsq two);
}

-- a sort by TLID and RTSQ puts the shapes in order
pub AreInOrder-from_sort : (entries : List ShapeEntry) → ((k : ℕ) (d : ShapeEntry) → 0 ≤ k → k + 1 < length entries → is_lt (ordering_then (nat_cmp (get_or entries (k + 1) d).tlid (get_or entries k d).tlid) (nat_cmp (get_or entries (k + 1) d).rtsq (get_or entries k d).rtsq)) ≡ false) → AreInOrder entries
AreInOrder-from_sort entries sorted i zero d before within = absurd (omega arith)
AreInOrder-from_sort entries sorted i (suc j) d before within =
    let next : Precedes (get_or entries j d) (get_or entries (suc j) d) = rw (add-one j) at (precedes_from_sort (get_or entries j d) (get_or entries (j + 1) d) (sorted j d (omega arith) (omega arith))) in
    elim (cases_lt i j) [
      | inl earlier ↦ Precedes-trans _ _ _ (AreInOrder-from_sort entries sorted i j d earlier (omega arith)) next
      | inr last ↦ let at : i ≡ j = omega arith in rw at next
    ]
