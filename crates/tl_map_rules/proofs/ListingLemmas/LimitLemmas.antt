use Rattle.std.proofs.Common.{◌≡◌, ℕ, ◌+◌, ◌<◌, ◌≤◌, Bool, true, false, cond, eqb, ltb, ◌⊎◌, inl, inr, List, [], ◌∷◌, ◌++◌, length, map, get_or, count_by, Contains, refl, sym, ap, ◌∙◌, subst, arith}
use Rattle.std.specs.Prelude.{min}
use Rattle.std.specs.List.{dedup, list_any}
use Rattle.std.specs.List.Sorted.{IsPermutation, IsNonDecreasing, IsStrictlyIncreasing, IsSorted}
use Rattle.std.specs.Ordering.{nat_cmp, is_lt}
use Rattle.std.proofs.lemmas.Bool.Decides.{nat_tests}
use Rattle.std.proofs.lemmas.List.Folds.{Any-from_list_any}
use Rattle.tl_map_rules.proofs.CountLemmas.{one_counted}
use Rattle.std.proofs.lemmas.Bool.{eq-eqb, eqb-true, cases_Bool, cases_lt, true≢false, lt-ltb}
use borrow.Author.Tests.{ltb-true}
use Rattle.std.proofs.lemmas.List.{length-map}
use Rattle.std.proofs.lemmas.List.Sums.{sum_by-cons, sum_by_push}
use Rattle.std.proofs.lemmas.List.Kept.{Contains-dedup_nat, Contains-from_dedup, AllPairs-from_increasing}
use Rattle.std.proofs.lemmas.Map.Keys.{IsStrictlyIncreasing-dedup}
use Rattle.std.proofs.lemmas.List.Sorted.{sum_by-IsPermutation}
use Rattle.tl_record.specs.declared.record.Record.{Record}
use Rattle.tl_map_rules.specs.MapOf.{landmarks_in, firsts_after, first_landmarks}
use Rattle.tl_map_rules.specs.declared.entry.LandmarkEntry.{LandmarkEntry}
use Rattle.std.specs.Bool.{Decides}
use Rattle.std.proofs.lemmas.List.Elements.{All-weaker, All-contains}
use Rattle.tl_map_rules.specs.declared.fault.Limited.{Limited}
use Rattle.tl_map_rules.specs.declared.fault.Limited.TheVariants.{Chains, Segments, Polygons, Landmarks}
use Rattle.tl_map_rules.specs.declared.fault.RecordFault.{RecordFault}
use Rattle.tl_map_rules.specs.declared.fault.RecordFault.TheVariants.{TooMany}
use Rattle.tl_map_rules.specs.Faults.{IsTrueOf, IsTooMany}
use Rattle.tl_map_rules.specs.Listing.AllFaults.{fault_place}
use Rattle.tl_map_rules.specs.Listing.Keeping.Told.{Tells, AreTold}
use Rattle.tl_map_rules.specs.Listing.Keeping.Limits.{IsMore}
use Rattle.tl_map_rules.proofs.ListingLemmas.ToldLemmas.{tells_none, tells_more, told_more}
use Rattle.tl_map_rules.proofs.ListingLemmas.OrderLemmas.{limited_at, many_there}
use Rattle.tl_map_rules.proofs.ListingLemmas.CountedLemmas.{count_no, count-map, counted_stands, stands_counted, next_from_twice}
use Rattle.tl_map_rules.proofs.ListingLemmas.SequenceLemmas.{times, no_longer}

not_less : (a b : ℕ) → b ≤ a → is_lt (nat_cmp a b) ≡ false
not_less a b le = grind (arith, nat_tests)

sorted_from : (xs : List ℕ) → IsNonDecreasing xs → IsSorted nat_cmp xs
sorted_from xs order k d low lt = not_less (get_or xs (k + 1) d) (get_or xs k d) (order k (k + 1) d (omega arith) lt)

pub rises : (xs : List ℕ) → IsStrictlyIncreasing xs → IsNonDecreasing xs
rises xs up i j d le lt = elim (cases_lt i j) [
  | inl before ↦ omega (arith, AllPairs-from_increasing xs up i j d before lt)
  | inr at ↦ let same : i ≡ j = omega arith in rw same (omega arith)
]

-- a sorted list without repeats has each of its numbers once
dedup_times : (xs : List ℕ) (n : ℕ) → IsNonDecreasing xs → times n (dedup eqb xs) ≡ min 1 (times n xs)
dedup_times xs n order =
    let kept = dedup eqb xs in
    let up = IsStrictlyIncreasing-dedup xs (sorted_from xs order) in
    let itself = λ (x : ℕ). eq-eqb x x refl in
    let to : 1 ≤ times n kept → 1 ≤ times n xs = λ some. stands_counted eqb itself xs n (Contains-from_dedup eqb xs n (counted_stands eqb eqb-true kept n some)) in
    let back : 1 ≤ times n xs → 1 ≤ times n kept = λ some. stands_counted eqb itself kept n (Contains-dedup_nat xs n (counted_stands eqb eqb-true xs n some)) in
    let once : times n kept ≤ 1 = elim (cases_lt 1 (times n kept)) [
      | inl many ↦ let two = next_from_twice kept n (rises kept up) many in absurd (omega (arith, up two.0 two.1, two.2 0, two.3 0))
      | inr few ↦ few
    ] in
    elim (cases_lt 0 (times n xs)) [
      | inl some ↦ omega (arith, back some, once)
      | inr none ↦ elim (cases_lt 0 (times n kept)) [ inl some ↦ omega (arith, to some, none) | inr no_more ↦ omega (arith, no_more, none) ]
    ]

none_any : {X : Type 0} (p : X → Bool) (xs : List X) → list_any p xs ≡ false → count_by p xs ≡ 0
none_any p [] h = refl
none_any p (x ∷ xs) h = elim (cases_Bool (p x)) [
  | inl met ↦ absurd (true≢false (rw met at h))
  | inr other ↦ omega (arith, count_no p x xs other, none_any p xs (rw other at h))
]

-- the first of each number, behind those that are kept
firsts_times : {X : Type 0} (g : X → ℕ) (kept xs : List X) (n : ℕ) → ((m : ℕ) → count_by (λ y. eqb (g y) m) kept ≤ 1) → count_by (λ y. eqb (g y) n) (firsts_after g kept xs) ≡ min 1 (count_by (λ y. eqb (g y) n) kept + count_by (λ y. eqb (g y) n) xs)
firsts_times g kept [] n once = omega (arith, once n)
firsts_times {X} g kept (x ∷ xs) n once =
    let count = λ (m : ℕ) (ys : List X). count_by (λ (y : X). eqb (g y) m) ys in
    let more : count n (x ∷ xs) ≡ cond (eqb (g x) n) 1 0 + count n xs = sum_by-cons (λ (y : X). cond (eqb (g y) n) 1 0) x xs in
    elim (cases_Bool (list_any (λ y. eqb (g y) (g x)) kept)) [
      | inl met ↦
          let step : firsts_after g kept (x ∷ xs) ≡ firsts_after g kept xs = rw met refl in
          let any = Any-from_list_any (λ (y : X). eqb (g y) (g x)) kept met in
          let some : 1 ≤ count (g x) kept = omega (arith, one_counted (λ (y : X). eqb (g y) (g x)) kept any.0 any.1 any.2 (rw any.3 any.4)) in
          ap (count n) step ∙ firsts_times g kept xs n once ∙ elim (cases_Bool (eqb (g x) n)) [
            | inl same ↦ let here : 1 ≤ count n kept = subst (λ m. 1 ≤ count m kept) (eqb-true (g x) n same) some in omega (arith, here)
            | inr other ↦ ap (λ k. min 1 (count n kept + k)) (sym (count_no (λ (y : X). eqb (g y) n) x xs other))
          ]
      | inr other ↦
          let step : firsts_after g kept (x ∷ xs) ≡ firsts_after g (kept ++ x ∷ []) xs = rw other refl in
          let pushed = λ (m : ℕ). sum_by_push (λ (y : X). cond (eqb (g y) m) 1 0) kept x in
          let none : count (g x) kept ≡ 0 = none_any (λ (y : X). eqb (g y) (g x)) kept other in
          let once_more : (m : ℕ) → count m (kept ++ x ∷ []) ≤ 1 = λ m. elim (cases_Bool (eqb (g x) m)) [
            | inl same ↦ let no_more : count m kept ≡ 0 = subst (λ k. count k kept ≡ 0) (eqb-true (g x) m same) none in let one = ap (λ (b : Bool). cond {A = ℕ} b 1 0) same in omega (arith, pushed m, no_more, one)
            | inr apart ↦ let zero_more = ap (λ (b : Bool). cond {A = ℕ} b 1 0) apart in omega (arith, pushed m, once m, zero_more)
          ] in
          ap (count n) step ∙ firsts_times g (kept ++ x ∷ []) xs n once_more ∙ omega (arith, pushed n, more)
    ]

-- how many landmarks there are
pub landmarks_counted : (rs : List Record) (sorted : List ℕ) → IsNonDecreasing sorted → IsPermutation (map (λ e. e.land) (landmarks_in rs)) sorted → length (dedup eqb sorted) ≡ length (first_landmarks rs)
landmarks_counted rs sorted order moved =
    let land = λ (e : LandmarkEntry). e.land in
    let firsts_of = map land (first_landmarks rs) in
    let same : (n : ℕ) → times n (dedup eqb sorted) ≡ times n firsts_of = λ n.
    dedup_times sorted n order
    ∙ ap (min 1) (sum_by-IsPermutation (λ x. cond (eqb x n) 1 0) (map land (landmarks_in rs)) sorted moved ∙ count-map (λ x. eqb x n) land (landmarks_in rs))
    ∙ omega arith ∙ sym (firsts_times land [] (landmarks_in rs) n (λ m. omega arith)) ∙ sym (count-map (λ x. eqb x n) land (first_landmarks rs)) in
    let less = no_longer (dedup eqb sorted) firsts_of (λ n. omega (arith, same n)) in
    let more = no_longer firsts_of (dedup eqb sorted) (λ n. omega (arith, same n)) in
    omega (arith, less, more, length-map (first_landmarks rs) land)

-- one fault is told if there is too much
pub told_if : (is_more : Bool) (what : Limited) (faults : List RecordFault) → is_more ≡ true → Tells (IsMore is_more what) faults (faults ++ TooMany what ∷ [])
told_if is_more what faults more =
    tells_more (λ f. ⊥) (IsMore is_more what) faults faults (TooMany what) (λ f e. absurd e) (record { is = refl; more = more }) (λ f m. inr m.is) (tells_none (λ f. ⊥) faults (λ f e. e))

pub told_not : (is_more : Bool) (what : Limited) (faults : List RecordFault) → is_more ≡ false → Tells (IsMore is_more what) faults faults
told_not is_more what faults few = tells_none (IsMore is_more what) faults (λ f m. true≢false (sym m.more ∙ few))

-- the faults of two properties are told
pub both_told : (P Q : RecordFault → Type 0) (a b c : List RecordFault) → Tells P a b → Tells Q b c → Tells (λ f. P f ⊎ Q f) a c
both_told P Q a b c first second = record {
  each = All-weaker (λ f. Contains b f ⊎ Q f) (λ f. Contains a f ⊎ (P f ⊎ Q f)) (λ f h. elim h [
    | inl there ↦ elim (All-contains (λ f. Contains a f ⊎ P f) b f first.each there) [ inl before ↦ inl before | inr p ↦ inr (inl p) ]
    | inr q ↦ inr (inr q)
  ]) c second.each;
  stay = All-weaker (Contains b) (Contains c) (λ f h. All-contains (Contains c) b f second.stay h) a first.stay;
  every = λ f h. elim h [ inl p ↦ All-contains (Contains c) b f second.stay (first.every f p) | inr q ↦ second.every f q ];
}

-- a test that tells whether there is too much
abbrev pub Tests : List Record → Bool → Limited → Type 0
Tests rs b what = Decides b (IsTooMany rs what)

pub tests_more : (rs : List Record) (n m k : ℕ) (what : Limited) → n ≡ m → (k < m → IsTooMany rs what) → (IsTooMany rs what → k < m) → Tests rs (ltb k n) what
tests_more rs n m k what is to back = (λ e. to (omega (arith, is, ltb-true k n e)), λ h. lt-ltb k n (omega (arith, is, back h)))

-- M13 is told
pub told_limits : (rs : List Record) (codes : List ℕ) (a b c d : Bool) (old two three new : List RecordFault) → Tests rs a Chains → Tests rs b Segments → Tests rs c Polygons → Tests rs d Landmarks → Tells (λ f. IsMore a Chains f ⊎ IsMore b Segments f) old two → Tells (IsMore c Polygons) two three → Tells (IsMore d Landmarks) three new → AreTold rs codes old → AreTold rs (13 ∷ codes) new
told_limits rs codes a b c d old two three new chains segments polygons landmarks first third fourth before =
    let P = λ (f : RecordFault). IsMore a Chains f ⊎ IsMore b Segments f in
    let Q = λ (f : RecordFault). P f ⊎ IsMore c Polygons f in
    let all = both_told Q (IsMore d Landmarks) old three new (both_told P (IsMore c Polygons) old two three first third) fourth in
    told_more rs codes 13 (λ f. Q f ⊎ IsMore d Landmarks f) old new
    (λ f h. elim h [
      | inl q ↦ elim q [
        | inl p ↦ elim p [ inl m ↦ said f a Chains chains m | inr m ↦ said f b Segments segments m ]
        | inr m ↦ said f c Polygons polygons m
      ]
      | inr m ↦ said f d Landmarks landmarks m
    ])
    (λ f holds code.
    let what = limited_at (fault_place f).1 in
    let is = many_there f code in
    found f what is (subst (IsTrueOf rs) is holds))
    all before
  where
    said : (f : RecordFault) (b : Bool) (what : Limited) → Tests rs b what → IsMore b what f → IsTrueOf rs f
    said f b what tests m = subst (IsTrueOf rs) (sym m.is) (tests.0 m.more)

    found : (f : RecordFault) (what : Limited) → f ≡ TooMany what → IsTooMany rs what → ((IsMore a Chains f ⊎ IsMore b Segments f) ⊎ IsMore c Polygons f) ⊎ IsMore d Landmarks f
    found f Chains is many = inl (inl (inl (record { is = is; more = chains.1 many })))
    found f Segments is many = inl (inl (inr (record { is = is; more = segments.1 many })))
    found f Polygons is many = inl (inr (record { is = is; more = polygons.1 many }))
    found f Landmarks is many = inr (record { is = is; more = landmarks.1 many })
