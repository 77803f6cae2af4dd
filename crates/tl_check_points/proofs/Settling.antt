-- Polygons whose counts are taken back, one after the other.
use Rattle.std.proofs.Common.{◌≡◌, ◌≢◌, inl, inr, ℕ, ◌+◌, ◌<◌, ◌≤◌, Bool, true, false, if◌then◌else◌, count_by, List, [], ◌∷◌, length, get_or, set, drop, All, refl, sym, ap, subst, ◌∙◌, arith}
use Rattle.std.specs.Prelude.{slice_index}
use Rattle.std.proofs.lemmas.Bool.{cases_lt}
use Rattle.std.proofs.lemmas.List.{drop_more, drop_all, get_or-set_other, get_or-set_same}
use Rattle.tl_map_county.specs.declared.sides.Side.TheVariants.{Outside, Polygon}
use Rattle.tl_map_county.specs.Sides.{IsSideAmong}
use Rattle.tl_tree_index.proofs.Times.{same_or}
use Rattle.tl_check_active.proofs.Bits.{bit}
use Rattle.tl_check_inside.specs.declared.flanks.Flanks.{Flanks}
use Rattle.tl_check_inside.specs.Inside.{is_polygon}
use Rattle.tl_check_inside.specs.Keeping.Tallies.{near_count, far_count, AreTallies, AreClear}
use Rattle.tl_check_points.specs.Keeping.Balances.{AreAmong, HaveOneBalance}
use Rattle.tl_check_points.specs.Keeping.Short.{AreSettled, IsSettled}
use Rattle.tl_check_points.proofs.Balances.{near_more, far_more}
use Rattle.tl_check_points.proofs.Weighed.{own_test, other_test, test_own, told_by_polygons}

-- ---- a side

pub settled_outside : (short : List Flanks) (near far : List ℕ) → IsSettled Outside short short near near far far
settled_outside short near far = record { same = λ p. omega arith; none = λ p e. absurd (cc); less = λ p. omega arith }

module _ (q : ℕ) (old new : List Flanks) (near near' far far' : List ℕ) (lt : q < length near) (lt' : q < length far) (is_near : near' ≡ set near q 0)
    (is_far : far' ≡ set far q 0) where
  own_near : slice_index near' q ≡ 0
  own_near = ap (λ l. slice_index l q) is_near ∙ get_or-set_same near q 0 0 lt

  own_far : slice_index far' q ≡ 0
  own_far = ap (λ l. slice_index l q) is_far ∙ get_or-set_same far q 0 0 lt'

  other_near : (p : ℕ) → p ≢ q → slice_index near' p ≡ slice_index near p
  other_near p ne = ap (λ l. slice_index l p) is_near ∙ get_or-set_other near q p 0 0 ne

  other_far : (p : ℕ) → p ≢ q → slice_index far' p ≡ slice_index far p
  other_far p ne = ap (λ l. slice_index l p) is_far ∙ get_or-set_other far q p 0 0 ne

  none_left : (p : ℕ) → is_polygon p (Polygon q) ≡ true → slice_index near' p + slice_index far' p ≡ 0
  none_left p e =
      let is = test_own p q e in
      let a = ap (slice_index near') is in let b = ap (slice_index far') is in
      let c = own_near in let d = own_far in
      omega (arith, a, b, c, d)

  no_more : (p : ℕ) → slice_index near' p + slice_index far' p ≤ slice_index near p + slice_index far p
  no_more p =
      same_or p q (λ e. let none = none_left p (own_test p q e) in omega (arith, none))
      (λ ne. let a = other_near p ne in let b = other_far p ne in omega (arith, a, b))

  if_true : (b : Bool) (n : ℕ) → b ≡ true → (if b then n else 0) ≡ n
  if_true b n e = ap (λ (x : Bool). if x then n else 0) e

  if_false : (b : Bool) (n : ℕ) → b ≡ false → (if b then n else 0) ≡ 0
  if_false b n e = ap (λ (x : Bool). if x then n else 0) e

  pub settled_near : (times : ℕ) → times + slice_index far q ≡ slice_index near q →
      ((P : Flanks → Bool) → count_by P new ≡ count_by P old + (if P (record { near = Polygon q; far = Outside }) then times else 0)) →
      IsSettled (Polygon q) old new near near' far far'
  settled_near times sum counted = record {
    same = λ p.
        let n = counted (λ f. is_polygon p f.near) in
        let f = counted (λ f. is_polygon p f.far) in
        same_or p q
        (λ e.
        let here = if_true (is_polygon p (Polygon q)) times (own_test p q e) in
        let none = none_left p (own_test p q e) in
        let a = ap (slice_index near) e in let b = ap (slice_index far) e in
        omega (arith, n, f, here, none, a, b, sum))
        (λ ne.
        let here = if_false (is_polygon p (Polygon q)) times (other_test p q ne) in
        let a = other_near p ne in let b = other_far p ne in
        omega (arith, n, f, here, a, b));
    none = none_left;
    less = no_more;
  }

  pub settled_far : (times : ℕ) → times + slice_index near q ≡ slice_index far q →
      ((P : Flanks → Bool) → count_by P new ≡ count_by P old + (if P (record { near = Outside; far = Polygon q }) then times else 0)) →
      IsSettled (Polygon q) old new near near' far far'
  settled_far times sum counted = record {
    same = λ p.
        let n = counted (λ f. is_polygon p f.near) in
        let f = counted (λ f. is_polygon p f.far) in
        same_or p q
        (λ e.
        let here = if_true (is_polygon p (Polygon q)) times (own_test p q e) in
        let none = none_left p (own_test p q e) in
        let a = ap (slice_index near) e in let b = ap (slice_index far) e in
        omega (arith, n, f, here, none, a, b, sum))
        (λ ne.
        let here = if_false (is_polygon p (Polygon q)) times (other_test p q ne) in
        let a = other_near p ne in let b = other_far p ne in
        omega (arith, n, f, here, a, b));
    none = none_left;
    less = no_more;
  }

-- ---- all flanks

pub near_among : (n m : ℕ) (flanks : List Flanks) (k : ℕ) (d : Flanks) → m ≡ n → k < length flanks → All (AreAmong n) flanks → IsSideAmong m (get_or flanks k d).near
near_among n m flanks k d same lt all = subst (λ x. IsSideAmong x (get_or flanks k d).near) (sym same) (all k d lt).near

pub far_among : (n m : ℕ) (flanks : List Flanks) (k : ℕ) (d : Flanks) → m ≡ n → k < length flanks → All (AreAmong n) flanks → IsSideAmong m (get_or flanks k d).far
far_among n m flanks k d same lt all = subst (λ x. IsSideAmong x (get_or flanks k d).far) (sym same) (all k d lt).far

pub none_settled : (flanks short : List Flanks) (near far : List ℕ) → short ≡ [] → length far ≡ length near → AreTallies flanks near far →
    AreSettled flanks short near far 0
none_settled flanks short near far none alike tallies = record {
  left = λ p lt.
      let n = tallies.nears p lt in let f = tallies.fars p (omega (arith, lt, alike)) in
      let a : near_count short (is_polygon p) ≡ 0 = ap (λ l. near_count l (is_polygon p)) none in
      let b : far_count short (is_polygon p) ≡ 0 = ap (λ l. far_count l (is_polygon p)) none in
      omega (arith, n, f, a, b);
  rest = λ p lt some. (let n = tallies.nears p lt in let f = tallies.fars p (omega (arith, lt, alike)) in omega (arith, n, f, some));
}

bit_none : (b : Bool) → ¬ (b ≡ true) → bit b ≡ 0
bit_none true not_so = absurd (not_so refl)
bit_none false not_so = refl

pub one_settled : (flanks : List Flanks) (k : ℕ) (d : Flanks) (short mid new : List Flanks) (near near1 near2 far far1 far2 : List ℕ) → k < length flanks →
    length near2 ≡ length near → AreSettled flanks short near far k → IsSettled (get_or flanks k d).near short mid near near1 far far1 →
    IsSettled (get_or flanks k d).far mid new near1 near2 far1 far2 → AreSettled flanks new near2 far2 (k + 1)
one_settled flanks k d short mid new near near1 near2 far far1 far2 lt long before one other = record {
  left = λ p less.
      let was = before.left p (omega (arith, less, long)) in let a = one.same p in let b = other.same p in omega (arith, was, a, b);
  rest = λ p less some.
      let a = one.less p in let b = other.less p in
      let was = before.rest p (omega (arith, less, long)) (omega (arith, some, a, b)) in
      let first : get_or flanks k d ∷ drop (k + 1) flanks ≡ drop k flanks = sym (drop_more flanks k d lt) in
      let n = near_more (is_polygon p) (get_or flanks k d) (drop (k + 1) flanks) in
      let f = far_more (is_polygon p) (get_or flanks k d) (drop (k + 1) flanks) in
      let n' : near_count (get_or flanks k d ∷ drop (k + 1) flanks) (is_polygon p) ≡ near_count (drop k flanks) (is_polygon p) =
      ap (λ l. near_count l (is_polygon p)) first in
      let f' : far_count (get_or flanks k d ∷ drop (k + 1) flanks) (is_polygon p) ≡ far_count (drop k flanks) (is_polygon p) =
      ap (λ l. far_count l (is_polygon p)) first in
      let x = bit_none (is_polygon p (get_or flanks k d).near) (λ e. let none = one.none p e in omega (arith, none, b, some)) in
      let y = bit_none (is_polygon p (get_or flanks k d).far) (λ e. let none = other.none p e in omega (arith, none, some)) in
      omega (arith, was, n, f, n', f', x, y);
}

module _ (flanks short : List Flanks) (near far : List ℕ) (k : ℕ) (past : length flanks ≤ k) (alike : length far ≡ length near)
    (settled : AreSettled flanks short near far k) where
  none_counted : (p : ℕ) → p < length near → slice_index near p + slice_index far p ≡ 0
  none_counted p lt = elim (cases_lt 0 (slice_index near p + slice_index far p)) [
    | inl some ↦
        let more = settled.rest p lt some in
        let none : drop k flanks ≡ [] = drop_all k flanks past in
        let n : near_count (drop k flanks) (is_polygon p) ≡ 0 = ap (λ l. near_count l (is_polygon p)) none in
        let f : far_count (drop k flanks) (is_polygon p) ≡ 0 = ap (λ l. far_count l (is_polygon p)) none in
        absurd (omega (arith, more, n, f))
    | inr none ↦ omega (arith, none)
  ]

  pub all_clear : (n : ℕ) → length near ≡ n → AreClear n near far
  all_clear n long = record {
    nears = long;
    fars = alike ∙ long;
    no_near = λ p lt. (let none = none_counted p lt in omega (arith, none));
    no_far = λ p lt. (let none = none_counted p (omega (arith, lt, alike)) in omega (arith, none));
  }

  pub one_balance : (n : ℕ) → length near ≡ n → All (AreAmong n) short → All (AreAmong n) flanks → HaveOneBalance short flanks
  one_balance n long among among' =
      told_by_polygons n short flanks among among'
      (λ p lt.
      let less : p < length near = omega (arith, lt, long) in
      let left = settled.left p less in let none = none_counted p less in omega (arith, left, none))
