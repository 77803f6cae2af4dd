use Rattle.std.proofs.Common.{◌≡◌, ◌≢◌, ℕ, zero, suc, ◌+◌, ◌-◌, ◌<◌, ◌≤◌, Bool, true, false, cond, eqb, leb, eq-eqb, ◌&&◌, ◌⊎◌, inl, inr, List, [], ◌∷◌, length, take, drop, get_or, count_by, refl, sym, ap, ◌∙◌, subst, arith, add-one, add-zero}
use Rattle.std.proofs.lemmas.Bool.{cases_lt, ne_eqb}
use Rattle.std.proofs.lemmas.Bool.Decides.{eqb_tells, nat_tests}
use Rattle.std.proofs.lemmas.List.{get_or-drop, length-drop, take_all, get_or-take, get_or_default, length-take-le}
use Rattle.std.proofs.lemmas.List.Sums.{sum_by_more, sum_by-take-drop, sum_by-le-sum_by, count_by_more_yes, count_by-le-length}
use Rattle.tl_map_rules.specs.declared.entry.ShapeEntry.{ShapeEntry}
use Rattle.tl_map.specs.Keeping.Entries.{has_tlid, shapes_with, shapes_at, AreInOrder, IsPlaced, ArePlaced, AreNumbered}
use Rattle.tl_map_rules.proofs.CountLemmas.{none_counted, one_counted, sum_by-both, sum_by-same}

-- of m entries of a TLID that count up from 1, a have RTSQ n
pub record AtIs (m n a : ℕ) : Type 0 where
  pub within : 1 ≤ n → n ≤ m → a ≡ 1
  pub none : n ≡ 0 → a ≡ 0
  pub beyond : m < n → a ≡ 0

at_step : (u k t n m a : ℕ) → (u ≡ t → k ≡ m + 1) → AtIs m n a → AtIs (m + cond (eqb u t) 1 0) n (a + cond (eqb u t && eqb k n) 1 0)
at_step u k t n m a placed h =
    elim (eqb_tells u t) [
      | inl w ↦ rw w.0 (elim (eqb_tells k n) [
        | inl v ↦ let here = placed w.1 in rw v.0 (record { within = λ p q. omega (arith, h.beyond); none = λ e. absurd (omega arith); beyond = λ q. absurd (omega arith) })
        | inr v ↦ let here = placed w.1 in rw v.0 (record { within = λ p q. omega (arith, h.within); none = λ e. omega (arith, h.none); beyond = λ q. omega (arith, h.beyond) })
      ])
      | inr w ↦ rw w.0 (record { within = λ p q. omega (arith, h.within); none = λ e. omega (arith, h.none); beyond = λ q. omega (arith, h.beyond) })
    ]

-- how many of the first i entries have TLID t and RTSQ n
pub at_is : (entries : List ShapeEntry) (d : ShapeEntry) (t n i : ℕ) → i ≤ length entries → ((k : ℕ) → k < i → IsPlaced entries k) → AtIs (shapes_with t (take i entries)) n (shapes_at t n (take i entries))
at_is entries d t n zero h placed = record { within = λ p q. absurd (omega arith); none = λ e. refl; beyond = λ q. refl }
at_is entries d t n (suc i) h placed =
    let x : ShapeEntry = get_or entries i d in
    let before = at_is entries d t n i (omega arith) (λ k lt. placed k (omega arith)) in
    let step = at_step x.tlid x.rtsq t n _ _ (λ (e : x.tlid ≡ t). subst (λ (u : ℕ). x.rtsq ≡ shapes_with u (take i entries) + 1) e (placed i (omega arith) d)) before in
    let with_more : shapes_with t (take (suc i) entries) ≡ shapes_with t (take i entries) + cond (eqb x.tlid t) 1 0 = rw (add-one i) at (sum_by_more (λ s. cond (has_tlid t s) 1 0) entries i d (omega arith)) in
    let at_more : shapes_at t n (take (suc i) entries) ≡ shapes_at t n (take i entries) + cond (eqb x.tlid t && eqb x.rtsq n) 1 0 = rw (add-one i) at (sum_by_more (λ s. cond (eqb s.tlid t && eqb s.rtsq n) 1 0) entries i d (omega arith)) in
    rw (with_more, at_more) step

-- entries that count up from 1 are numbered
pub numbered_from_placed : (entries : List ShapeEntry) → ArePlaced entries → (t : ℕ) → AreNumbered entries t
numbered_from_placed [] placed t n low high = absurd (omega arith)
numbered_from_placed (x ∷ entries) placed t n low high =
    let whole = take_all (length (x ∷ entries)) (x ∷ entries) (omega arith) in
    let at = at_is (x ∷ entries) x t n (length (x ∷ entries)) (omega arith) placed in
    (rw whole at at).within low high

-- how many entries have TLID t and RTSQ at most n
abbrev upto : ℕ → ℕ → List ShapeEntry → ℕ
upto t n entries = count_by (λ s. eqb s.tlid t && leb s.rtsq n) entries

upto_more : (entries : List ShapeEntry) (t n : ℕ) → upto t (n + 1) entries ≡ upto t n entries + shapes_at t (n + 1) entries
upto_more entries t n =
    sum_by-both (λ (s : ShapeEntry). cond (eqb s.tlid t && leb s.rtsq n) 1 0) (λ s. cond (eqb s.tlid t && eqb s.rtsq (n + 1)) 1 0) _
    (λ s. split (eqb s.tlid t) s.rtsq n) entries
  where
    split : (b : Bool) (k n : ℕ) → cond {A = ℕ} (b && leb k (n + 1)) 1 0 ≡ cond (b && leb k n) 1 0 + cond (b && eqb k (n + 1)) 1 0
    split true k n = grind (arith, nat_tests)
    split false k n = refl

upto_none : (entries : List ShapeEntry) (t : ℕ) → upto t 0 entries ≡ shapes_at t 0 entries
upto_none entries t = sum_by-same _ _ (λ (s : ShapeEntry). same (eqb s.tlid t) s.rtsq) entries
  where
    same : (b : Bool) (k : ℕ) → cond {A = ℕ} (b && leb k 0) 1 0 ≡ cond (b && eqb k 0) 1 0
    same true k = grind (arith, nat_tests)
    same false k = refl

upto_le : (entries : List ShapeEntry) (t n : ℕ) → upto t n entries ≤ shapes_with t entries
upto_le entries t n = sum_by-le-sum_by _ _ entries (λ (s : ShapeEntry). fewer (eqb s.tlid t) (leb s.rtsq n))
  where
    fewer : (a b : Bool) → cond {A = ℕ} (a && b) 1 0 ≤ cond a 1 0
    fewer true true = omega arith
    fewer true false = omega arith
    fewer false b = omega arith

upto_is : (entries : List ShapeEntry) (t : ℕ) → AreNumbered entries t → (n : ℕ) → n ≤ shapes_with t entries → upto t n entries ≡ shapes_at t 0 entries + n
upto_is entries t numbered zero h = omega (arith, upto_none entries t)
upto_is entries t numbered (suc n) h =
    let more = rw (add-one n) at (upto_more entries t n) in
    omega (arith, more, upto_is entries t numbered n (omega arith), numbered (suc n) (omega arith) h)

-- numbered entries have no RTSQ 0
no_zero : (entries : List ShapeEntry) (t : ℕ) → AreNumbered entries t → shapes_at t 0 entries ≡ 0
no_zero entries t numbered =
    omega (arith, upto_is entries t numbered (shapes_with t entries) (omega arith), upto_le entries t (shapes_with t entries))

-- none of the entries from i on has the TLID of the i-th and a smaller RTSQ
none_later : (entries : List ShapeEntry) (d : ShapeEntry) (i n : ℕ) → i < length entries → AreInOrder entries → n < (get_or entries i d).rtsq → shapes_at (get_or entries i d).tlid n (drop i entries) ≡ 0
none_later entries d i n h order less = none_counted _ (drop i entries) (λ k e lt. later k e (simp length-drop at lt))
  where
    not_less : (k : ℕ) (e : ShapeEntry) → k < length entries - i → (get_or entries (i + k) e).tlid ≡ (get_or entries i e).tlid → n < (get_or entries i e).rtsq → (get_or entries (i + k) e).rtsq ≢ n
    not_less zero e lt same lower at = let k_none = add-zero i in omega (arith, rw k_none at at)
    not_less (suc k) e lt same lower at =
        let before = order i (i + suc k) e (omega arith) (omega arith) in
        omega (arith, before.by_rtsq (sym same))

    later : (k : ℕ) (e : ShapeEntry) → k < length entries - i → (eqb (get_or (drop i entries) k e).tlid (get_or entries i d).tlid && eqb (get_or (drop i entries) k e).rtsq n) ≡ false
    later k e lt =
        let x : ShapeEntry = get_or entries (i + k) e in
        let here = get_or-drop i entries k e in
        let same = get_or_default entries i d e h in
        rw (here, same) (elim (eqb_tells x.tlid (get_or entries i e).tlid) [
          | inl w ↦ elim (eqb_tells x.rtsq n) [ inl v ↦ absurd (not_less k e lt w.1 (rw same at less) v.1) | inr v ↦ rw (w.0, v.0) refl ]
          | inr w ↦ rw w.0 refl
        ])

-- an entry whose RTSQ is not the number of entries of its TLID up to it
pub not_numbered : (entries : List ShapeEntry) (d : ShapeEntry) (i : ℕ) → i < length entries → AreInOrder entries → ((k : ℕ) → k < i → IsPlaced entries k) → (get_or entries i d).rtsq ≢ shapes_with (get_or entries i d).tlid (take i entries) + 1 → ¬ AreNumbered entries (get_or entries i d).tlid
not_numbered entries d i h order placed wrong numbered =
    let x : ShapeEntry = get_or entries i d in
    let m : ℕ = shapes_with x.tlid (take i entries) in
    let n : ℕ = x.rtsq in
    let at = at_is entries d x.tlid in
    let counted : m + 1 ≤ shapes_with x.tlid entries = one_counted (has_tlid x.tlid) entries i d h (eq-eqb x.tlid x.tlid refl) in
    let found : shapes_at x.tlid n (take i entries) + 1 ≤ shapes_at x.tlid n entries = one_counted _ entries i d h (rw (eq-eqb x.tlid x.tlid refl) (eq-eqb n n refl)) in
    elim (cases_lt (m + 1) n) [
      | inl above ↦
          let none = none_later entries d i (m + 1) h order (omega arith) in
          let parts : shapes_at x.tlid (m + 1) (take i entries) + shapes_at x.tlid (m + 1) (drop i entries) ≡ shapes_at x.tlid (m + 1) entries = sum_by-take-drop _ entries i in
          omega (arith, none, parts, (at (m + 1) i (omega arith) placed).beyond, numbered (m + 1))
      | inr below ↦ elim (cases_lt 0 n) [
        | inl positive ↦ omega (arith, found, (at n i (omega arith) placed).within, numbered n, wrong)
        | inr small ↦
            let is_zero : n ≡ 0 = omega arith in
            omega (arith, no_zero entries x.tlid numbered, rw is_zero at found)
      ]
    ]

-- the entries of another TLID than the last come after all before
pub none_before : (entries : List ShapeEntry) (d : ShapeEntry) (i : ℕ) → i < length entries → AreInOrder entries → (0 < i → (get_or entries (i - 1) d).tlid ≢ (get_or entries i d).tlid) → shapes_with (get_or entries i d).tlid (take i entries) ≡ 0
none_before entries d i h order other = none_counted _ (take i entries) (λ k e lt. before k e (omega (arith, length-take-le i entries (omega arith))))
  where
    apart : (k : ℕ) (e : ShapeEntry) → k < i → (get_or entries k e).tlid ≢ (get_or entries i e).tlid
    apart k e lt same =
        let last = order (i - 1) i e (omega arith) h in
        let differs = other (omega arith) in
        let one = get_or_default entries (i - 1) d e (omega arith) in
        let two = get_or_default entries i d e (omega arith) in
        elim (cases_lt k (i - 1)) [
          | inl earlier ↦ let first = order k (i - 1) e (omega arith) (omega arith) in differs (rw (one, two) (omega (arith, first.by_tlid, last.by_tlid)))
          | inr at_last ↦ let at : i - 1 ≡ k = omega arith in differs (rw (one, two, at) same)
        ]

    before : (k : ℕ) (e : ShapeEntry) → k < i → eqb (get_or (take i entries) k e).tlid (get_or entries i d).tlid ≡ false
    before k e lt = rw (get_or-take i entries k e lt, get_or_default entries i d e (omega arith)) (ne_eqb _ _ (apart k e lt))

-- what a count of the entries of one TLID is at the i-th entry, where it starts again at each new TLID
pub count_at_entry : (entries : List ShapeEntry) (d : ShapeEntry) (i u n v m : ℕ) → i < length entries → AreInOrder entries → n ≡ shapes_with u (take i entries) → (0 < i → (e : ShapeEntry) → (get_or entries (i - 1) e).tlid ≡ u) → (((get_or entries i d).tlid ≢ u) × (v ≡ (get_or entries i d).tlid) × (m ≡ 0)) ⊎ (((get_or entries i d).tlid ≡ u) × (v ≡ u) × (m ≡ n)) → (v ≡ (get_or entries i d).tlid) × (m ≡ shapes_with v (take i entries))
count_at_entry entries d i u n v m h order count last branch =
    elim branch [
      | inl w ↦ (w.1, rw w.1 (w.2 ∙ sym (none_before entries d i h order (λ p same. w.0 (sym same ∙ last p d)))))
      | inr w ↦ (w.1 ∙ sym w.0, w.2 ∙ rw w.1 count)
    ]

-- one more entry of the TLID that is counted
pub count_more : (entries : List ShapeEntry) (d : ShapeEntry) (i v m : ℕ) → i < length entries → v ≡ (get_or entries i d).tlid → m ≡ shapes_with v (take i entries) → m + 1 ≡ shapes_with v (take (i + 1) entries)
count_more entries d i v m h at count =
    omega (arith, count_by_more_yes (has_tlid v) entries i d h (eq-eqb _ _ (sym at)))

-- the entry has its place
pub placed_entry : (entries : List ShapeEntry) (d : ShapeEntry) (i v m : ℕ) → i < length entries → v ≡ (get_or entries i d).tlid → m ≡ shapes_with v (take i entries) → (get_or entries i d).rtsq ≡ m + 1 → IsPlaced entries i
placed_entry entries d i v m h at count number e =
    rw (get_or_default entries i e d h) (number ∙ ap (λ n. n + 1) (count ∙ ap (λ t. shapes_with t (take i entries)) at))

-- the entry has not its place
pub misplaced_entry : (entries : List ShapeEntry) (d : ShapeEntry) (i v m r : ℕ) → v ≡ (get_or entries i d).tlid → m ≡ shapes_with v (take i entries) → r ≡ (get_or entries i d).rtsq → r ≢ m + 1 → (get_or entries i d).rtsq ≢ shapes_with (get_or entries i d).tlid (take i entries) + 1
misplaced_entry entries d i v m r at count number wrong right =
    wrong (number ∙ right ∙ ap (λ n. n + 1) (sym (count ∙ ap (λ t. shapes_with t (take i entries)) at)))

-- the last of the first i + 1 entries
pub last_entry : (entries : List ShapeEntry) (d : ShapeEntry) (i v : ℕ) → i < length entries → v ≡ (get_or entries i d).tlid → (e : ShapeEntry) → (get_or entries (i + 1 - 1) e).tlid ≡ v
last_entry entries d i v h at e =
    let place : i + 1 - 1 ≡ i = omega arith in
    rw (place, get_or_default entries i e d h) (sym at)

-- the count of one TLID is no more than the entries
pub count_small : (entries : List ShapeEntry) (i v m : ℕ) → i < length entries → m ≡ shapes_with v (take i entries) → m + 1 ≤ i + 1
count_small entries i v m h count =
    omega (arith, count, count_by-le-length (has_tlid v) (take i entries), length-take-le i entries (omega arith))
