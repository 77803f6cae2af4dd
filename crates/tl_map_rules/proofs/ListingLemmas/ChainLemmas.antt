use Rattle.std.proofs.Common.{◌≡◌, ◌≢◌, ℕ, ◌+◌, ◌-◌, ◌<◌, ◌≤◌, true, false, eqb, ◌⊎◌, inl, inr, pos, List, [], ◌∷◌, ◌++◌, length, take, map, get_or, count_by, sum_by, refl, sym, ap, ◌∙◌, subst, arith}
use Rattle.std.specs.Prelude.{min}
use Rattle.std.specs.List.Sorted.{IsNonDecreasing, IsNonDecreasingBy}
use Rattle.std.proofs.lemmas.Bool.{eq-eqb, cases_lt, true≢false, lt-ltb, le-ltb}
use Rattle.std.proofs.lemmas.List.{get_or_default, get_or-map, length-map}
use Rattle.std.proofs.lemmas.List.Sums.{sum_by_more}
use Rattle.tl_map_rules.specs.declared.entry.ChainEntry.{ChainEntry}
use Rattle.tl_map_rules.specs.declared.fault.RecordFault.{RecordFault}
use Rattle.tl_map_rules.specs.declared.fault.RecordFault.TheVariants.{DegenerateChain}
use Rattle.tl_map_rules.proofs.CountLemmas.{two_counted}
use Rattle.tl_map_rules.specs.declared.listing.shape.ShapeSummary.{ShapeSummary}
use Rattle.tl_map_rules.specs.Listing.Keeping.Told.{Tells}
use Rattle.tl_map_rules.specs.Listing.Keeping.Runs.{run_of, is_one_point}
use Rattle.tl_map_rules.specs.Listing.Keeping.Chains.{is_alone, IsOnePointFault, steps_with}
use Rattle.tl_map_rules.proofs.ListingLemmas.ToldLemmas.{tells_none, tells_same, tells_more}
use Rattle.tl_map_rules.proofs.ListingLemmas.CountedLemmas.{count-map, next_from_twice}

-- what an index past the end would give
abbrev pub no_chain : ChainEntry
no_chain = record { tlid = 0; from = record { x = pos 0; y = pos 0 }; to = record { x = pos 0; y = pos 0 } }

pub tlid_order : (chains : List ChainEntry) → IsNonDecreasingBy (λ (c : ChainEntry). c.tlid) chains → IsNonDecreasing (map (λ c. c.tlid) chains)
tlid_order chains order i j d le lt =
    let tlid = λ (c : ChainEntry). c.tlid in
    let within : j < length chains = omega (arith, lt, length-map chains tlid) in
    omega (arith, order i j no_chain le within, get_or-map tlid chains i no_chain d (omega arith), get_or-map tlid chains j no_chain d within)

-- no more than one chain has the TLID
pub few_alone : (chains : List ChainEntry) (t : ℕ) → count_by (λ (c : ChainEntry). eqb c.tlid t) chains < 2 → is_alone chains t ≡ true
few_alone chains t few = lt-ltb _ _ few

pub alone_few : (chains : List ChainEntry) (t : ℕ) → is_alone chains t ≡ true → count_by (λ (c : ChainEntry). eqb c.tlid t) chains < 2
alone_few chains t alone = elim (cases_lt (count_by (λ (c : ChainEntry). eqb c.tlid t) chains) 2) [ inl few ↦ few | inr many ↦ absurd (true≢false (sym alone ∙ le-ltb _ _ many)) ]

many_not_alone : (chains : List ChainEntry) (t : ℕ) → 2 ≤ count_by (λ (c : ChainEntry). eqb c.tlid t) chains → is_alone chains t ≡ false
many_not_alone chains t many = le-ltb _ _ many

-- the chain before or behind has the same TLID
pub not_alone : (chains : List ChainEntry) (i : ℕ) (d e x : ChainEntry) → i + 1 < length chains → (get_or chains i d).tlid ≡ (get_or chains (i + 1) e).tlid → (k : ℕ) → (k ≡ i) ⊎ (k ≡ i + 1) → false ≡ is_alone chains (get_or chains k x).tlid
not_alone chains i d e x lt same k at =
    let tlid = λ (c : ChainEntry). c.tlid in
    let first : (get_or chains i x).tlid ≡ (get_or chains (i + 1) x).tlid = ap tlid (get_or_default chains i x d (omega arith)) ∙ same ∙ ap tlid (get_or_default chains (i + 1) e x lt) in
    let both : (t : ℕ) → (get_or chains i x).tlid ≡ t → (get_or chains (i + 1) x).tlid ≡ t → false ≡ is_alone chains t = λ t a b. sym (many_not_alone chains t (two_counted (λ (c : ChainEntry). eqb c.tlid t) chains i x lt (eq-eqb _ _ a) (eq-eqb _ _ b))) in
    elim at [
      | inl here ↦ rw here (both _ refl (sym first))
      | inr next ↦ rw next (both _ first refl)
    ]

-- neither has
pub alone : (chains : List ChainEntry) (i : ℕ) (d e g x : ChainEntry) → IsNonDecreasingBy (λ (c : ChainEntry). c.tlid) chains → i < length chains → (0 < i → (get_or chains (i - 1) d).tlid ≢ (get_or chains i e).tlid) → (i + 1 < length chains → (get_or chains (i + 1) g).tlid ≢ (get_or chains i e).tlid) → true ≡ is_alone chains (get_or chains i x).tlid
alone chains i d e g x order lt before behind = elim (cases_lt (count_by (λ (c : ChainEntry). eqb c.tlid (get_or chains i x).tlid) chains) 2) [
  | inl few ↦ sym (few_alone chains _ few)
  | inr many ↦
      let tlid = λ (c : ChainEntry). c.tlid in
      let t = (get_or chains i x).tlid in
      let two = next_from_twice (map tlid chains) t (tlid_order chains order) (omega (arith, many, count-map (λ n. eqb n t) tlid chains)) in
      let k = two.0 in
      let within : k + 1 < length chains = omega (arith, two.1, length-map chains tlid) in
      let first : (get_or chains k x).tlid ≡ t = sym (get_or-map tlid chains k x 0 (omega arith)) ∙ two.2 0 in
      let second : (get_or chains (k + 1) x).tlid ≡ t = sym (get_or-map tlid chains (k + 1) x 0 within) ∙ two.3 0 in
      let here : (get_or chains i x).tlid ≡ (get_or chains i e).tlid = ap tlid (get_or_default chains i x e lt) in
      elim (cases_lt k i) [
        | inl earlier ↦
            let low = order k (i - 1) x (omega arith) (omega arith) in
            let high = order (i - 1) i x (omega arith) lt in
            let there : (get_or chains (i - 1) x).tlid ≡ (get_or chains (i - 1) d).tlid = ap tlid (get_or_default chains (i - 1) x d (omega arith)) in
            absurd (before (omega arith) (omega (arith, low, high, first, here, there)))
        | inr later ↦
            let low = order i (i + 1) x (omega arith) (omega arith) in
            let high = order (i + 1) (k + 1) x (omega arith) within in
            let there : (get_or chains (i + 1) x).tlid ≡ (get_or chains (i + 1) g).tlid = ap tlid (get_or_default chains (i + 1) x g (omega arith)) in
            absurd (behind (omega arith) (omega (arith, low, high, second, here, there)))
      ]
]

-- what was passed before and is passed now is below the chain
pub passed_shapes : (chains : List ChainEntry) (shapes : List ShapeSummary) (i start place : ℕ) (e : ChainEntry) → i < length chains → ((k : ℕ) (d : ShapeSummary) (x : ChainEntry) → k < start → i < length chains → (get_or shapes k d).tlid < (get_or chains i x).tlid) → ((k : ℕ) (d : ShapeSummary) → start ≤ k → k < place → (get_or shapes k d).tlid < (get_or chains i e).tlid) → (k : ℕ) (d : ShapeSummary) → k < place → (get_or shapes k d).tlid < (get_or chains i e).tlid
passed_shapes chains shapes i start place e lt before now k d less = elim (cases_lt k start) [
  | inl earlier ↦ before k d e earlier lt
  | inr later ↦ now k d later less
]

-- and below the next
pub passed_next : (chains : List ChainEntry) (shapes : List ShapeSummary) (i place : ℕ) (e : ChainEntry) → IsNonDecreasingBy (λ (c : ChainEntry). c.tlid) chains → i < length chains → ((k : ℕ) (d : ShapeSummary) → k < place → (get_or shapes k d).tlid < (get_or chains i e).tlid) → (k : ℕ) (d : ShapeSummary) (x : ChainEntry) → k < place → i + 1 < length chains → (get_or shapes k d).tlid < (get_or chains (i + 1) x).tlid
passed_next chains shapes i place e order lt below k d x less next =
    let same : (get_or chains i x).tlid ≡ (get_or chains i e).tlid = ap (λ (c : ChainEntry). c.tlid) (get_or_default chains i x e lt) in
    omega (arith, below k d less, order i (i + 1) x (omega arith) next, same)

pub points_none : (chains : List ChainEntry) (shapes : List ShapeSummary) (faults : List RecordFault) → Tells (IsOnePointFault chains shapes 0) faults faults
points_none chains shapes faults = tells_none (IsOnePointFault chains shapes 0) faults (λ f p. omega (arith, p.below))

longer : (chains : List ChainEntry) (shapes : List ShapeSummary) (i : ℕ) (f : RecordFault) → IsOnePointFault chains shapes i f → IsOnePointFault chains shapes (i + 1) f
longer chains shapes i f p = record { chain = p.chain; place = p.place; below = omega (arith, p.below); within = p.within; there = p.there; is = p.is; alone = p.alone; one_point = p.one_point }

split : (chains : List ChainEntry) (shapes : List ShapeSummary) (i : ℕ) (f : RecordFault) (d : ChainEntry) → IsOnePointFault chains shapes (i + 1) f → IsOnePointFault chains shapes i f ⊎ ((p : IsOnePointFault chains shapes (i + 1) f) × (get_or chains i d ≡ p.chain))
split chains shapes i f d p = elim (cases_lt p.place i) [
  | inl earlier ↦ inl (record { chain = p.chain; place = p.place; below = earlier; within = p.within; there = p.there; is = p.is; alone = p.alone; one_point = p.one_point })
  | inr later ↦ let at : p.place ≡ i = omega (arith, later, p.below) in inr (p, rw at at (p.there d))
]

-- the i-th chain is one point and alone
pub points_more : (chains : List ChainEntry) (shapes : List ShapeSummary) (i : ℕ) (c : ChainEntry) (old new : List RecordFault) → i < length chains → ((d : ChainEntry) → get_or chains i d ≡ c) → is_alone chains c.tlid ≡ true → is_one_point c (run_of shapes c.tlid) ≡ true → Tells (IsOnePointFault chains shapes i) old new → Tells (IsOnePointFault chains shapes (i + 1)) old (new ++ DegenerateChain c.tlid ∷ [])
points_more chains shapes i c old new lt at alone one h =
    tells_more (IsOnePointFault chains shapes i) (IsOnePointFault chains shapes (i + 1)) old new (DegenerateChain c.tlid) (longer chains shapes i)
    (record { chain = c; place = i; below = omega arith; within = lt; there = at; is = refl; alone = alone; one_point = one })
    (λ f p. elim (split chains shapes i f c p) [
      | inl earlier ↦ inl earlier
      | inr w ↦ inr (w.0.is ∙ ap (λ (x : ChainEntry). DegenerateChain x.tlid) (sym w.1 ∙ at c))
    ]) h

-- the i-th chain is not
pub points_other : (chains : List ChainEntry) (shapes : List ShapeSummary) (i : ℕ) (c : ChainEntry) (old new : List RecordFault) → i < length chains → ((d : ChainEntry) → get_or chains i d ≡ c) → (is_alone chains c.tlid ≡ false) ⊎ (is_one_point c (run_of shapes c.tlid) ≡ false) → Tells (IsOnePointFault chains shapes i) old new → Tells (IsOnePointFault chains shapes (i + 1)) old new
points_other chains shapes i c old new lt at none h =
    tells_same (IsOnePointFault chains shapes i) (IsOnePointFault chains shapes (i + 1)) old new (longer chains shapes i)
    (λ f p. elim (split chains shapes i f c p) [
      | inl earlier ↦ earlier
      | inr w ↦
          let same : w.0.chain ≡ c = sym w.1 ∙ at c in
          absurd (elim none [
            | inl crowd ↦ true≢false (sym (subst (λ (x : ChainEntry). is_alone chains x.tlid ≡ true) same w.0.alone) ∙ crowd)
            | inr several ↦ true≢false (sym (subst (λ (x : ChainEntry). is_one_point x (run_of shapes x.tlid) ≡ true) same w.0.one_point) ∙ several)
          ])
    ]) h

-- a sum that is capped, with one more
pub capped_sum : (shapes : List ShapeSummary) (chains : List ChainEntry) (i n m sum : ℕ) (d : ChainEntry) → i < length chains → n ≡ steps_with shapes (get_or chains i d) → m ≡ min (sum_by (steps_with shapes) (take i chains)) 18446744073709551615 → sum ≡ min (m + n) 18446744073709551615 → sum ≡ min (sum_by (steps_with shapes) (take (i + 1) chains)) 18446744073709551615
capped_sum shapes chains i n m sum d lt n_is m_is sum_is =
    omega (arith, n_is, m_is, sum_is, sum_by_more (steps_with shapes) chains i d lt)
