use Rattle.std.proofs.Common.{◌≡◌, ℕ, zero, suc, ◌<◌, ◌≤◌, Bool, true, cond, eqb, inl, inr, List, [], ◌∷◌, length, drop, map, get_or, count_by, All, Contains, refl, sym, ap, ◌∙◌, arith}
use Rattle.std.proofs.lemmas.Bool.{cases_lt, eq-eqb}
use Rattle.std.proofs.lemmas.List.{get_or_default}
use Rattle.std.proofs.lemmas.List.Sums.{sum_by-cons}
use Rattle.tl_record.specs.declared.record.Record.{Record}
use Rattle.tl_record.specs.declared.record.Record.TheVariants.{Chain}
use Rattle.tl_map_rules.specs.declared.entry.SidesEntry.{SidesEntry}
use Rattle.tl_map_rules.specs.declared.fault.RecordFault.TheVariants.{DuplicateChain, DuplicateSides}
use Rattle.tl_map_rules.specs.ChainsOf.{is_chain, IsDrawn, AreChainsOf}
use Rattle.tl_map_county.specs.Chains.{CompleteChain, tlids}
use Rattle.tl_map_rules.specs.MapOf.{sides_in, without_sides, IsSided, IsMapOf}
use Rattle.tl_map_county.specs.TheMap.{MapChain, TheMap}
use Rattle.tl_map_rules.specs.Faults.{HaveNoFault}
use Rattle.tl_map_rules.proofs.CountLemmas.{one_counted}
use Rattle.tl_map_rules.proofs.KnownLemmas.{far, chain_known}

-- numbers that rise and are the same numbers are one list
pub same_rising : (xs ys : List ℕ) → ((i j : ℕ) → i < j → j < length xs → get_or xs i 0 < get_or xs j 0) → ((i j : ℕ) → i < j → j < length ys → get_or ys i 0 < get_or ys j 0) → ((t : ℕ) → Contains xs t → Contains ys t) → ((t : ℕ) → Contains ys t → Contains xs t) → xs ≡ ys
same_rising [] [] up_x up_y there back = refl
same_rising [] (y ∷ ys) up_x up_y there back = absurd (let h = back y (0, omega arith, refl) in omega (arith, h.1))
same_rising (x ∷ xs) [] up_x up_y there back = absurd (let h = there x (0, omega arith, refl) in omega (arith, h.1))
same_rising (x ∷ xs) (y ∷ ys) up_x up_y there back =
    let low = lowest (y ∷ ys) y x up_y refl (there x (0, omega arith, refl)) in
    let high = lowest (x ∷ xs) x y up_x refl (back y (0, omega arith, refl)) in
    let first : x ≡ y = omega (arith, low, high) in
    let rest = same_rising xs ys (λ i j before within. up_x (suc i) (suc j) (omega arith) (omega arith)) (λ i j before within. up_y (suc i) (suc j) (omega arith) (omega arith))
    (λ t has. tail x xs y ys t up_x first (there t (suc has.0, omega (arith, has.1), has.2)) has)
    (λ t has. tail y ys x xs t up_y (sym first) (back t (suc has.0, omega (arith, has.1), has.2)) has) in
    λ i. first i ∷ rest i
  where
    lowest : (zs : List ℕ) (z t : ℕ) → ((i j : ℕ) → i < j → j < length zs → get_or zs i 0 < get_or zs j 0) → get_or zs 0 0 ≡ z → Contains zs t → z ≤ t
    lowest zs z t up at has =
        let here : get_or zs has.0 0 ≡ t = get_or_default zs has.0 0 t has.1 ∙ has.2 in
        elim (cases_lt 0 has.0) [
          | inl later ↦ omega (arith, here, at, up 0 has.0 later has.1)
          | inr first ↦ let e : has.0 ≡ 0 = omega arith in let h : get_or zs 0 0 ≡ t = rw e at here in omega (arith, h, at)
        ]

    tail : (z : ℕ) (zs : List ℕ) (w : ℕ) (ws : List ℕ) (t : ℕ) → ((i j : ℕ) → i < j → j < length (z ∷ zs) → get_or (z ∷ zs) i 0 < get_or (z ∷ zs) j 0) → z ≡ w → Contains (w ∷ ws) t → Contains zs t → Contains ws t
    tail z zs w ws t up same (zero, lt, at) has = absurd (let above = up 0 (suc has.0) (omega arith) (omega (arith, has.1)) in let here = get_or_default zs has.0 0 t has.1 ∙ has.2 in let e : w ≡ t = at in omega (arith, above, here, e, same))
    tail z zs w ws t up same (suc k, lt, at) has = (k, omega arith, at)

-- two that pass are counted
two_at : {X : Type 0} (p : X → Bool) (xs : List X) (i j : ℕ) (d : X) → i < j → j < length xs → p (get_or xs i d) ≡ true → p (get_or xs j d) ≡ true → 2 ≤ count_by p xs
two_at p [] i j d lt within a b = absurd (omega arith)
two_at p (x ∷ xs) i zero d lt within a b = absurd (omega arith)
two_at p (x ∷ xs) zero (suc j) d lt within a b =
    let more = sum_by-cons (λ y. cond (p y) 1 0) x xs in
    let here : cond {A = ℕ} (p x) 1 0 ≡ 1 = rw a refl in
    omega (arith, one_counted p xs j d (omega arith) b, more, here)
two_at p (x ∷ xs) (suc i) (suc j) d lt within a b =
    omega (arith, two_at p xs i j d (omega arith) (omega arith) a b, sum_by-cons (λ y. cond (p y) 1 0) x xs)

-- one that passes, where no two do
one_alone : {X : Type 0} (p : X → Bool) (xs : List X) (x y : X) → ¬ (2 ≤ count_by p xs) → p x ≡ true → p y ≡ true → Contains xs x → Contains xs y → x ≡ y
one_alone p xs x y few px py a b =
    let at_b : get_or xs b.0 x ≡ y = get_or_default xs b.0 x y b.1 ∙ b.2 in
    elim (cases_lt a.0 b.0) [
      | inl before ↦ absurd (few (two_at p xs a.0 b.0 x before b.1 (rw a.2 px) (rw at_b py)))
      | inr not_before ↦ elim (cases_lt b.0 a.0) [
        | inl after ↦ absurd (few (two_at p xs b.0 a.0 x after a.1 (rw at_b py) (rw a.2 px)))
        | inr not_after ↦ let same : a.0 ≡ b.0 = omega arith in sym a.2 ∙ rw same at_b
      ]
    ]

-- one TLID has one chain
one_chain : (rs : List Record) (c d : MapChain) → HaveNoFault rs → c.tlid ≡ d.tlid → IsDrawn rs (without_sides c) → IsDrawn rs (without_sides d) → IsSided rs c → IsSided rs d → c ≡ d
one_chain rs c d none same drawn_c drawn_d sided_c sided_d =
    let record_c : Contains rs (Chain d.tlid drawn_c.from drawn_c.to) = rw same at drawn_c.record_of_it in
    let one : Chain d.tlid drawn_c.from drawn_c.to ≡ Chain d.tlid drawn_d.from drawn_d.to =
    one_alone (is_chain d.tlid) rs _ _ (none (DuplicateChain d.tlid)) (eq-eqb d.tlid d.tlid refl) (eq-eqb d.tlid d.tlid refl) record_c drawn_d.record_of_it in
    let from : drawn_c.from ≡ drawn_d.from = cc in
    let to : drawn_c.to ≡ drawn_d.to = cc in
    let points : c.points ≡ d.points = drawn_c.points ∙ rw (same, from, to) refl ∙ sym drawn_d.points in
    let sides : sided_c.sides ≡ sided_d.sides =
    one_alone (λ (s : SidesEntry). eqb s.tlid d.tlid) (sides_in rs) _ _ (none (DuplicateSides d.tlid)) (eq-eqb _ _ (sided_c.tlid ∙ same)) (eq-eqb _ _ sided_d.tlid) sided_c.record_of_it sided_d.record_of_it in
    let left : c.left ≡ d.left = sided_c.left ∙ rw sides refl ∙ sym sided_d.left in
    let right : c.right ≡ d.right = sided_c.right ∙ rw sides refl ∙ sym sided_d.right in
    let start : c.start_cell ≡ d.start_cell = sided_c.start_cell ∙ rw sides refl ∙ sym sided_d.start_cell in
    let end : c.end_cell ≡ d.end_cell = sided_c.end_cell ∙ rw sides refl ∙ sym sided_d.end_cell in
    λ i. record { tlid = same i; points = points i; left = left i; right = right i; start_cell = start i; end_cell = end i }

-- the same TLIDs have the same chains
same_chains : (rs : List Record) (cs ds : List MapChain) → HaveNoFault rs → tlids (map without_sides cs) ≡ tlids (map without_sides ds) → All (IsDrawn rs) (map without_sides cs) → All (IsDrawn rs) (map without_sides ds) → All (IsSided rs) cs → All (IsSided rs) ds → cs ≡ ds
same_chains rs [] [] none same drawn_c drawn_d sided_c sided_d = refl
same_chains rs [] (d ∷ ds) none same drawn_c drawn_d sided_c sided_d = absurd (let h = ap length same in omega (arith, h))
same_chains rs (c ∷ cs) [] none same drawn_c drawn_d sided_c sided_d = absurd (let h = ap length same in omega (arith, h))
same_chains rs (c ∷ cs) (d ∷ ds) none same drawn_c drawn_d sided_c sided_d =
    let head : c.tlid ≡ d.tlid = ap (λ (ts : List ℕ). get_or ts 0 0) same in
    let tail = ap (λ (ts : List ℕ). drop 1 ts) same in
    let first = one_chain rs c d none head (drawn_c 0 (without_sides c) (omega arith)) (drawn_d 0 (without_sides d) (omega arith)) (sided_c 0 c (omega arith)) (sided_d 0 d (omega arith)) in
    let rest = same_chains rs cs ds none tail (λ k e lt. drawn_c (suc k) e (omega arith)) (λ k e lt. drawn_d (suc k) e (omega arith)) (λ k e lt. sided_c (suc k) e (omega arith)) (λ k e lt. sided_d (suc k) e (omega arith)) in
    λ i. first i ∷ rest i

-- each TLID of one map's chains is one of the other's
known_there : (rs : List Record) (cs ds : List CompleteChain) (t : ℕ) → AreChainsOf rs cs → AreChainsOf rs ds → Contains (tlids cs) t → Contains (tlids ds) t
known_there rs cs ds t are_c are_d has = let known = chain_known rs cs t are_c has in are_d.complete t known.0 known.1 known.2

-- the records draw one map
pub one_map : (rs : List Record) (m n : TheMap) → HaveNoFault rs → IsMapOf rs m → IsMapOf rs n → (m.chains ≡ n.chains) × (m.polygons ≡ n.polygons) × (m.landmarks ≡ n.landmarks)
one_map rs m n none is_m is_n =
    let same = same_rising (tlids (map without_sides m.chains)) (tlids (map without_sides n.chains)) (far _ is_m.chains.rising) (far _ is_n.chains.rising)
    (λ t has. known_there rs _ _ t is_m.chains is_n.chains has) (λ t has. known_there rs _ _ t is_n.chains is_m.chains has) in
    (same_chains rs m.chains n.chains none same is_m.chains.drawn is_n.chains.drawn is_m.sides is_n.sides, is_m.polygons ∙ sym is_n.polygons, is_m.landmarks ∙ sym is_n.landmarks)
