-- Cells of pairs, eight to a row: which pairs they are, and what the marked ones add up to.
use Rattle.std.proofs.Common.{◌≡◌, ℕ, zero, suc, ◌+◌, ◌-◌, ◌*◌, ◌/◌, ◌%◌, ◌^◌, ◌<◌, ◌≤◌, ◌⊎◌, inl, inr, ◌↔◌, List, [], ◌∷◌, length, get_or, take, drop, Option, sym, ap, subst, ◌∙◌, arith}
use Rattle.std.specs.Int.{bit_at}
use Rattle.std.proofs.Math.Nat.{div-div-eq-div-mul}
use Rattle.std.proofs.lemmas.List.{at_drop_more, at_drop_all}
use Rattle.std.proofs.lemmas.Nat.{pow-add}
use Rattle.std.proofs.lemmas.Nat.Bits.{bit_at_cat_low, bit_at_cat_high}
use Rattle.tl_geom.specs.declared.rect.Rect.{Rect}
use Rattle.tl_geom.specs.declared.rect8.Rect8.{Rect8}
use Rattle.tl_geom.specs.EightRectangles.{lane}
use Rattle.tl_geom.specs.Rectangle.{AreMeeting}
use Rattle.tl_tree.specs.Keeping.Cells.{AreLaneCells, AreCellsOf}
use Rattle.tl_tree.specs.Keeping.Marking.{AreBoundsOf}
use Rattle.tl_tree_index.specs.Fits.{AreBelow}
use Rattle.tl_tree_index.specs.Pairs.{meeting, row_sum, cross_sum, AllRow, AllCross, AreToldApart}
use Rattle.tl_tree.proofs.Apart.{one-none, one-none_free}
use Rattle.tl_tree.proofs.PairTests.{KeepsLaw}
use Rattle.tl_tree.proofs.Steps.{row-step, row-end, cross-step, cross-end, all_row-step, all_row-end, all_cross-step, all_cross-end, below-at}
use Rattle.tl_geom.proofs.Turns.{below-or as by_test}

-- bits behind some others
pub bit-behind : (m t k : ℕ) → bit_at (m / 2 ^ t) k ≡ bit_at m (k + t)
bit-behind m t k =
    let e : 2 ^ t * 2 ^ k ≡ 2 ^ (k + t) = sym (pow-add 2 t k) ∙ ap (λ n. 2 ^ n) (omega arith) in
    ap (λ n. n % 2) (div-div-eq-div-mul m (2 ^ t) (2 ^ k) ∙ ap (λ n. m / n) e)

-- how large the cells of some rows are, at most
pub room : (k : ℕ) → 2 ^ (8 * suc k) ≡ 256 * 2 ^ (8 * k)
room k = let e : 8 * suc k ≡ 8 + 8 * k = omega arith in ap (λ n. 2 ^ n) e ∙ pow-add 2 8 (8 * k)

-- there is room for one more row
pub room-fits : (k cells : ℕ) → k < 8 → cells < 2 ^ (8 * k) → cells < 2 ^ 56
room-fits zero cells h l = omega (arith, l)
room-fits (suc zero) cells h l = omega (arith, l)
room-fits (suc (suc zero)) cells h l = omega (arith, l)
room-fits (suc (suc (suc zero))) cells h l = omega (arith, l)
room-fits (suc (suc (suc (suc zero)))) cells h l = omega (arith, l)
room-fits (suc (suc (suc (suc (suc zero))))) cells h l = omega (arith, l)
room-fits (suc (suc (suc (suc (suc (suc zero)))))) cells h l = omega (arith, l)
room-fits (suc (suc (suc (suc (suc (suc (suc zero))))))) cells h l = omega (arith, l)
room-fits (suc (suc (suc (suc (suc (suc (suc (suc k)))))))) cells h l = absurd (omega (arith, h))

-- a row before others
pub row-before : (b : ℕ → Rect) (xs : List ℕ) (eight : Rect8) (k cells row : ℕ) → row < 256 →
    ((j : ℕ) → j < 8 → (bit_at row j ≡ 1) ↔ AreMeeting (lane eight j) (b (get_or xs k 0))) →
    AreLaneCells b xs eight (suc k) cells → AreLaneCells b xs eight k (cells * 256 + row)
row-before b xs eight k cells row small first others zero j l m =
    let z : 8 * 0 + j ≡ j = omega arith in
    let o : 0 + k ≡ k = omega arith in
    let e : bit_at (cells * 256 + row) (8 * 0 + j) ≡ bit_at row j = ap (bit_at (cells * 256 + row)) z ∙ bit_at_cat_low cells 8 row j m in
    let R : ℕ → Type 0 = λ r. (bit_at row j ≡ 1) ↔ AreMeeting (lane eight j) (b (get_or xs r 0)) in
    let S : ℕ → Type 0 = λ v. (v ≡ 1) ↔ AreMeeting (lane eight j) (b (get_or xs (0 + k) 0)) in
    subst S (sym e) (subst R (sym o) (first j m))
row-before b xs eight k cells row small first others (suc i) j l m =
    let e : suc i + k ≡ i + suc k = omega arith in
    let h : 8 * suc i + j - 8 ≡ 8 * i + j = omega arith in
    let s : bit_at (cells * 256 + row) (8 * suc i + j) ≡ bit_at cells (8 * i + j) = bit_at_cat_high cells 8 row (8 * suc i + j) small (omega arith) ∙ ap (bit_at cells) h in
    let P : ℕ → Type 0 = λ r. r < length xs in
    let R : ℕ → Type 0 = λ r. (bit_at cells (8 * i + j) ≡ 1) ↔ AreMeeting (lane eight j) (b (get_or xs r 0)) in
    let S : ℕ → Type 0 = λ v. (v ≡ 1) ↔ AreMeeting (lane eight j) (b (get_or xs (suc i + k) 0)) in
    subst S (sym s) (subst R (sym e) (others i j (subst P e l) m))

-- ---- what is left of the rows behind some cells

abbrev pub head_sum : (ℕ → ℕ → ℕ) → List ℕ → List ℕ → ℕ
head_sum f [] zs = 0
head_sum f (x ∷ xs) zs = row_sum f x zs

abbrev pub HeadAll : (ℕ → ℕ → Type 0) → List ℕ → List ℕ → Type 0
HeadAll P [] zs = Unit {0}
HeadAll P (x ∷ xs) zs = AllRow P x zs

-- the pairs from cell j of row i on
abbrev pub row_rest : (ℕ → ℕ → ℕ) → List ℕ → List ℕ → ℕ → ℕ → ℕ
row_rest f xs ys i j = head_sum f (drop i xs) (drop (j) ys) + cross_sum f (drop (i + 1) xs) ys

abbrev pub RowRest : (ℕ → ℕ → Type 0) → List ℕ → List ℕ → ℕ → ℕ → Type 0
RowRest P xs ys i j = HeadAll P (drop i xs) (drop (j) ys) × AllCross P (drop (i + 1) xs) ys

-- the pairs from a cell on
abbrev pub rest : (ℕ → ℕ → ℕ) → List ℕ → List ℕ → ℕ → ℕ
rest f xs ys p = row_rest f xs ys (p / 8) (p % 8)

abbrev pub RestAll : (ℕ → ℕ → Type 0) → List ℕ → List ℕ → ℕ → Type 0
RestAll P xs ys p = RowRest P xs ys (p / 8) (p % 8)

-- one cell of a row
abbrev pub cell : List ℕ → ℕ → List ℕ
cell ys p = take 1 (drop (p % 8) ys)

module _ (f : ℕ → ℕ → ℕ) where
  pub cell-in : (x : ℕ) (ys : List ℕ) (a : ℕ) → a < length ys → row_sum f x (take 1 (drop a ys)) ≡ f x (get_or ys a 0)
  cell-in x ys a h = let e = at_drop_more (λ (zs : List ℕ). row_sum f x (take 1 zs)) ys a 0 h in omega (arith, e)

  pub cell-out : (x : ℕ) (ys : List ℕ) (a : ℕ) → length ys ≤ a → row_sum f x (take 1 (drop a ys)) ≡ 0
  cell-out x ys a h = at_drop_all (λ (zs : List ℕ). row_sum f x (take 1 zs)) ys a h

  row-one : (x : ℕ) (ys : List ℕ) (a : ℕ) → row_sum f x (drop a ys) ≡ row_sum f x (take 1 (drop a ys)) + row_sum f x (drop (a + 1) ys)
  row-one x ys a = by_place (by_test a (length ys))
    where
      by_place : (a < length ys) ⊎ (length ys ≤ a) → row_sum f x (drop a ys) ≡ row_sum f x (take 1 (drop a ys)) + row_sum f x (drop (a + 1) ys)
      by_place (inl h) = omega (arith, row-step f x ys a h, cell-in x ys a h)
      by_place (inr h) = omega (arith, row-end f x ys a h, cell-out x ys a h, row-end f x ys (a + 1) (omega (arith, h)))

  head-at : (xs zs : List ℕ) (i : ℕ) → i < length xs → head_sum f (drop i xs) zs ≡ row_sum f (get_or xs i 0) zs
  head-at xs zs i h = at_drop_more (λ (ws : List ℕ). head_sum f ws zs) xs i 0 h

  head-end : (xs zs : List ℕ) (i : ℕ) → length xs ≤ i → head_sum f (drop i xs) zs ≡ 0
  head-end xs zs i h = at_drop_all (λ (ws : List ℕ). head_sum f ws zs) xs i h

  row-start : (xs ys : List ℕ) (i : ℕ) → row_rest f xs ys i 0 ≡ cross_sum f (drop i xs) ys
  row-start xs ys i = by_place (by_test i (length xs))
    where
      by_place : (i < length xs) ⊎ (length xs ≤ i) → row_rest f xs ys i 0 ≡ cross_sum f (drop i xs) ys
      by_place (inl h) = omega (arith, head-at xs ys i h, cross-step f xs ys i h)
      by_place (inr h) = omega (arith, head-end xs ys i h, cross-end f xs ys i h, cross-end f xs ys (i + 1) (omega (arith, h)))

  module _ (xs ys : List ℕ) where
    rest-at : (q u v : ℕ) → q / 8 ≡ u → q % 8 ≡ v → rest f xs ys q ≡ row_rest f xs ys u v
    rest-at q u v p r = ap (λ i. row_rest f xs ys i (q % 8)) p ∙ ap (row_rest f xs ys u) r

    pub rest-start : rest f xs ys 0 ≡ cross_sum f xs ys
    rest-start = row-start xs ys 0

    pub rest-end : (p : ℕ) → length xs ≤ p / 8 → rest f xs ys p ≡ 0
    rest-end p h = omega (arith, head-end xs (drop (p % 8) ys) (p / 8) h, cross-end f xs ys (p / 8 + 1) (omega (arith, h)))

    pub cell-step : (p : ℕ) → p / 8 < length xs → length ys ≤ 8 → rest f xs ys p ≡ row_sum f (get_or xs (p / 8) 0) (cell ys p) + rest f xs ys (p + 1)
    cell-step p h few = by_column (by_test (p % 8) 7)
      where
        by_column : (p % 8 < 7) ⊎ (7 ≤ p % 8) → rest f xs ys p ≡ row_sum f (get_or xs (p / 8) 0) (cell ys p) + rest f xs ys (p + 1)
        by_column (inl l) =
            let a = p % 8 in
            let k : a + 1 ≡ p % 8 + 1 = omega arith in
            let e = rest-at (p + 1) (p / 8) (p % 8 + 1) (omega (arith, l)) (omega (arith, l)) in
            omega (arith, head-at xs (drop a ys) (p / 8) h, row-one (get_or xs (p / 8) 0) ys a, e, ap (λ n. row_sum f (get_or xs (p / 8) 0) (drop n ys)) k, head-at xs (drop (p % 8 + 1) ys) (p / 8) h)
        by_column (inr l) =
            let a = p % 8 in
            let e = rest-at (p + 1) (p / 8 + 1) 0 (omega (arith, l)) (omega (arith, l)) in
            omega (arith, head-at xs (drop a ys) (p / 8) h, row-one (get_or xs (p / 8) 0) ys a, e, row-start xs ys (p / 8 + 1), row-end f (get_or xs (p / 8) 0) ys (a + 1) (omega (arith, l, few)))

    step-least : length ys ≤ 8 → (p : ℕ) → rest f xs ys (p + 1) ≤ rest f xs ys p
    step-least few p = by_row (by_test (p / 8) (length xs))
      where
        by_row : (p / 8 < length xs) ⊎ (length xs ≤ p / 8) → rest f xs ys (p + 1) ≤ rest f xs ys p
        by_row (inl h) =
            let s : rest f xs ys p ≡ row_sum f (get_or xs (p / 8) 0) (cell ys p) + rest f xs ys (p + 1) = cell-step p h few in
            omega (arith, s)
        by_row (inr h) = let e = rest-end (p + 1) (omega (arith, h)) in omega (arith, e)

    -- fewer pairs are left further on
    pub skip-least : length ys ≤ 8 → (t p : ℕ) → rest f xs ys (p + t) ≤ rest f xs ys p
    skip-least few zero p = let e : p + 0 ≡ p = omega arith in omega (arith, ap (rest f xs ys) e)
    skip-least few (suc t) p =
        let e : p + suc t ≡ p + 1 + t = omega arith in
        omega (arith, ap (rest f xs ys) e, skip-least few t (p + 1), step-least few p)

-- ---- the same of what is true of each pair

module _ (P : ℕ → ℕ → Type 0) where
  pub all-cell-in : (x : ℕ) (ys : List ℕ) (a : ℕ) → a < length ys → P x (get_or ys a 0) → AllRow P x (take 1 (drop a ys))
  all-cell-in x ys a h p =
      let e = at_drop_more (λ (zs : List ℕ). zs) ys a 0 h in
      let Q : List ℕ → Type 0 = λ zs. AllRow P x (take 1 zs) in
      subst Q (sym e) (p, tt)

  pub all-cell-out : (x : ℕ) (ys : List ℕ) (a : ℕ) → length ys ≤ a → AllRow P x (take 1 (drop a ys))
  all-cell-out x ys a h =
      let e = at_drop_all (λ (zs : List ℕ). zs) ys a h in
      let Q : List ℕ → Type 0 = λ zs. AllRow P x (take 1 zs) in
      subst Q (sym e) tt

  all-row-one : (x : ℕ) (ys : List ℕ) (a : ℕ) → AllRow P x (take 1 (drop a ys)) → AllRow P x (drop (a + 1) ys) → AllRow P x (drop a ys)
  all-row-one x ys a one others = by_place (by_test a (length ys))
    where
      by_place : (a < length ys) ⊎ (length ys ≤ a) → AllRow P x (drop a ys)
      by_place (inl h) =
          let e = at_drop_more (λ (zs : List ℕ). zs) ys a 0 h in
          let Q : List ℕ → Type 0 = λ zs. AllRow P x (take 1 zs) in
          all_row-step P x ys a h (subst Q e one).0 others
      by_place (inr h) = all_row-end P x ys a h

  all-head-at : (xs zs : List ℕ) (i : ℕ) → i < length xs → AllRow P (get_or xs i 0) zs → HeadAll P (drop i xs) zs
  all-head-at xs zs i h p =
      let e = at_drop_more (λ (ws : List ℕ). ws) xs i 0 h in
      let Q : List ℕ → Type 0 = λ ws. HeadAll P ws zs in
      subst Q (sym e) p

  all-head-of : (xs zs : List ℕ) (i : ℕ) → i < length xs → HeadAll P (drop i xs) zs → AllRow P (get_or xs i 0) zs
  all-head-of xs zs i h p =
      let e = at_drop_more (λ (ws : List ℕ). ws) xs i 0 h in
      let Q : List ℕ → Type 0 = λ ws. HeadAll P ws zs in
      subst Q e p

  all-head-end : (xs zs : List ℕ) (i : ℕ) → length xs ≤ i → HeadAll P (drop i xs) zs
  all-head-end xs zs i h =
      let e = at_drop_all (λ (ws : List ℕ). ws) xs i h in
      let Q : List ℕ → Type 0 = λ ws. HeadAll P ws zs in
      subst Q (sym e) tt

  all-row-start : (xs ys : List ℕ) (i : ℕ) → RowRest P xs ys i 0 → AllCross P (drop i xs) ys
  all-row-start xs ys i r = by_place (by_test i (length xs))
    where
      by_place : (i < length xs) ⊎ (length xs ≤ i) → AllCross P (drop i xs) ys
      by_place (inl h) = all_cross-step P xs ys i h (all-head-of xs ys i h r.0) r.1
      by_place (inr h) = all_cross-end P xs ys i h

  module _ (xs ys : List ℕ) where
    all-rest-at : (q u v : ℕ) → q / 8 ≡ u → q % 8 ≡ v → RestAll P xs ys q → RowRest P xs ys u v
    all-rest-at q u v p r h =
        let Q : ℕ → Type 0 = λ i. RowRest P xs ys i (q % 8) in
        let R : ℕ → Type 0 = RowRest P xs ys u in
        subst R r (subst Q p h)

    pub all-rest-start : RestAll P xs ys 0 → AllCross P xs ys
    all-rest-start h = all-row-start xs ys 0 h

    pub all-rest-end : (p : ℕ) → length xs ≤ p / 8 → RestAll P xs ys p
    all-rest-end p h = (all-head-end xs (drop (p % 8) ys) (p / 8) h, all_cross-end P xs ys (p / 8 + 1) (omega (arith, h)))

    pub all-cell-step : (p : ℕ) → p / 8 < length xs → length ys ≤ 8 → AllRow P (get_or xs (p / 8) 0) (cell ys p) → RestAll P xs ys (p + 1) → RestAll P xs ys p
    all-cell-step p h few one others = by_column (by_test (p % 8) 7)
      where
        by_column : (p % 8 < 7) ⊎ (7 ≤ p % 8) → RestAll P xs ys p
        by_column (inl l) =
            let x = get_or xs (p / 8) 0 in
            let a = p % 8 in
            let k : p % 8 + 1 ≡ a + 1 = omega arith in
            let r = all-rest-at (p + 1) (p / 8) (p % 8 + 1) (omega (arith, l)) (omega (arith, l)) others in
            let Q : ℕ → Type 0 = λ n. AllRow P x (drop n ys) in
            let o = subst Q k (all-head-of xs (drop (p % 8 + 1) ys) (p / 8) h r.0) in
            (all-head-at xs (drop a ys) (p / 8) h (all-row-one x ys a one o), r.1)
        by_column (inr l) =
            let x = get_or xs (p / 8) 0 in
            let a = p % 8 in
            let r = all-rest-at (p + 1) (p / 8 + 1) 0 (omega (arith, l)) (omega (arith, l)) others in
            let o = all_row-end P x ys (a + 1) (omega (arith, l, few)) in
            (all-head-at xs (drop a ys) (p / 8) h (all-row-one x ys a one o), all-row-start xs ys (p / 8 + 1) r)

-- ---- cells that aren't marked

module _ (b : ℕ → Rect) (xs ys : List ℕ) (cells : ℕ) (marked : AreCellsOf b xs ys cells) where
  -- an item and another whose cell is marked have bounds that meet
  pub marked-meets : (p : ℕ) → p / 8 < length xs → bit_at cells p ≡ 1 → p % 8 < length ys → AreMeeting (b (get_or ys (p % 8) 0)) (b (get_or xs (p / 8) 0))
  marked-meets p h one l =
      let e : 8 * (p / 8) + p % 8 ≡ p = omega arith in
      (marked (p / 8) (p % 8) h (omega arith) l).0 (ap (bit_at cells) e ∙ one)

  unmarked-apart : (p : ℕ) → p / 8 < length xs → bit_at cells p ≡ 0 → p % 8 < length ys → AreMeeting (b (get_or ys (p % 8) 0)) (b (get_or xs (p / 8) 0)) → ⊥
  unmarked-apart p h none l m =
      let e : 8 * (p / 8) + p % 8 ≡ p = omega arith in
      let i : bit_at cells (8 * (p / 8) + p % 8) ≡ 1 = (marked (p / 8) (p % 8) h (omega arith) l).1 m in
      absurd (omega (arith, none, ap (bit_at cells) e, i))

  cell-unmarked : (p : ℕ) → p / 8 < length xs → bit_at cells p ≡ 0 → row_sum (meeting b) (get_or xs (p / 8) 0) (cell ys p) ≡ 0
  cell-unmarked p h none = by_place (by_test (p % 8) (length ys))
    where
      by_place : (p % 8 < length ys) ⊎ (length ys ≤ p % 8) → row_sum (meeting b) (get_or xs (p / 8) 0) (cell ys p) ≡ 0
      by_place (inl l) =
          let a = p % 8 in
          cell-in (meeting b) (get_or xs (p / 8) 0) ys a l ∙ one-none b (get_or xs (p / 8) 0) (get_or ys a 0) (unmarked-apart p h none l)
      by_place (inr l) = cell-out (meeting b) (get_or xs (p / 8) 0) ys (p % 8) l

  module _ (few : length ys ≤ 8) where
    step-unmarked : (p : ℕ) → bit_at cells p ≡ 0 → rest (meeting b) xs ys p ≡ rest (meeting b) xs ys (p + 1)
    step-unmarked p none = by_row (by_test (p / 8) (length xs))
      where
        by_row : (p / 8 < length xs) ⊎ (length xs ≤ p / 8) → rest (meeting b) xs ys p ≡ rest (meeting b) xs ys (p + 1)
        by_row (inl h) =
            let s : rest (meeting b) xs ys p ≡ row_sum (meeting b) (get_or xs (p / 8) 0) (cell ys p) + rest (meeting b) xs ys (p + 1) = cell-step (meeting b) xs ys p h few in
            omega (arith, s, cell-unmarked p h none)
        by_row (inr h) = rest-end (meeting b) xs ys p h ∙ sym (rest-end (meeting b) xs ys (p + 1) (omega (arith, h)))

    pub skip-unmarked : (t p : ℕ) → ((k : ℕ) → k < t → bit_at cells (p + k) ≡ 0) → rest (meeting b) xs ys p ≡ rest (meeting b) xs ys (p + t)
    skip-unmarked zero p none = let e : p ≡ p + 0 = omega arith in ap (rest (meeting b) xs ys) e
    skip-unmarked (suc t) p none =
        let e : p + 1 + t ≡ p + suc t = omega arith in
        let z : p ≡ p + 0 = omega arith in
        step-unmarked p (ap (bit_at cells) z ∙ none 0 (omega arith)) ∙ skip-unmarked t (p + 1) (λ k l. let n : p + 1 + k ≡ p + suc k = omega arith in ap (bit_at cells) n ∙ none (suc k) (omega (arith, l))) ∙ ap (rest (meeting b) xs ys) e

    module _ {C : Type 0} (n : ℕ) (tells : ℕ → ℕ → Option C → Type 0) (law : KeepsLaw tells n b) (below : AreBelow n xs) (others : AreBelow n ys) where
      free-unmarked : (p : ℕ) → bit_at cells p ≡ 0 → RestAll (AreToldApart tells) xs ys (p + 1) → RestAll (AreToldApart tells) xs ys p
      free-unmarked p none r = by_row (by_test (p / 8) (length xs))
        where
          by_place : p / 8 < length xs → (p % 8 < length ys) ⊎ (length ys ≤ p % 8) → AllRow (AreToldApart tells) (get_or xs (p / 8) 0) (cell ys p)
          by_place h (inl l) =
              let a = p % 8 in
              all-cell-in (AreToldApart tells) (get_or xs (p / 8) 0) ys a l (one-none_free n tells b law (get_or xs (p / 8) 0) (get_or ys a 0) (below-at n xs (p / 8) h below) (below-at n ys a l others) (unmarked-apart p h none l))
          by_place h (inr l) = all-cell-out (AreToldApart tells) (get_or xs (p / 8) 0) ys (p % 8) l

          by_row : (p / 8 < length xs) ⊎ (length xs ≤ p / 8) → RestAll (AreToldApart tells) xs ys p
          by_row (inl h) = all-cell-step (AreToldApart tells) xs ys p h few (by_place h (by_test (p % 8) (length ys))) r
          by_row (inr h) = all-rest-end (AreToldApart tells) xs ys p h

      pub free-skip : (t p : ℕ) → ((k : ℕ) → k < t → bit_at cells (p + k) ≡ 0) → RestAll (AreToldApart tells) xs ys (p + t) → RestAll (AreToldApart tells) xs ys p
      free-skip zero p none r =
          let e : p + 0 ≡ p = omega arith in
          let Q : ℕ → Type 0 = RestAll (AreToldApart tells) xs ys in
          subst Q e r
      free-skip (suc t) p none r =
          let e : p + suc t ≡ p + 1 + t = omega arith in
          let z : p ≡ p + 0 = omega arith in
          let Q : ℕ → Type 0 = RestAll (AreToldApart tells) xs ys in
          free-unmarked p (ap (bit_at cells) z ∙ none 0 (omega arith)) (free-skip t (p + 1) (λ k l. let m : p + 1 + k ≡ p + suc k = omega arith in ap (bit_at cells) m ∙ none (suc k) (omega (arith, l))) (subst Q e r))

-- ---- cells of lanes that are the bounds of items

pub cells-of-lanes : (b : ℕ → Rect) (xs ys : List ℕ) (eight : Rect8) (cells : ℕ) → AreLaneCells b xs eight 0 cells → AreBoundsOf b ys eight → AreCellsOf b xs ys cells
cells-of-lanes b xs ys eight cells marked lanes i j l k h =
    let same : i + 0 ≡ i = omega arith in
    let P : Rect → Type 0 = λ r. (bit_at cells (8 * i + j) ≡ 1) ↔ AreMeeting r (b (get_or xs i 0)) in
    let Q : ℕ → Type 0 = λ v. (bit_at cells (8 * i + j) ≡ 1) ↔ AreMeeting (lane eight j) (b (get_or xs v 0)) in
    subst P (lanes j k h) (subst Q same (marked i j (omega (arith, l)) k))
