-- Items whose segments are tested neighbours stand along their line from west to east.
use Rattle.std.proofs.Common.{◌≡◌, inl, inr, ⊎_elim, ℕ, ◌≤◌, ℤ, pos, List, [], ◌∷◌, refl, sym, subst, ap₂, arith}
use Rattle.std.specs.Prelude.{All}
use Rattle.std.proofs.lemmas.Bool.{cases_lt}
use Rattle.std.proofs.lemmas.Int.{ints}
use Rattle.tl_geom.specs.declared.rational.Rational.{Rational}
use Rattle.tl_map_county.specs.TheMap.{MapChain}
use Rattle.tl_tree_index.specs.Hits.{times}
use Rattle.tl_tree_index.proofs.Times.{times-same, same_or, times-other}
use Rattle.tl_check_planar.specs.Planar.{IsPlanar}
use Rattle.tl_check_planar.specs.ByHeight.Heights.{height, height_of, low_end, high_end, turn_at, Spans, IsNotEast}
use Rattle.tl_check_planar.specs.ByHeight.Neighbours.{IsWestOf, AreTested, EachTwo}
use Rattle.tl_check_planar.specs.ByHeight.Slabs.{IsActive, IsListOf}
use Rattle.tl_check_planar.proofs.ByHeight.Lying.{heights_of}
use Rattle.tl_check_planar.proofs.ByHeight.Transport.{not_east}
use Rattle.tl_check_planar.proofs.ByHeight.Walking.{IsIn, in_by_times, all_head, all_tail}
use Rattle.tl_check_faces.proofs.Numbers.{le_lt}
use Rattle.tl_check_faces.proofs.Lines.{IsWestward, level_with, turn_of_east}
use Rattle.tl_check_faces.proofs.Items.{Item, numbered, ends_of_item, one_west, scaled, scaled_above, IsLine}
use Rattle.tl_check_faces.proofs.Sorting.{IsSorted, numbers}

-- ---- the list of a slab holds no number twice

pub active_in : (P : ℕ → Type 0) (s : ℕ) (xs : List ℕ) → All P xs → IsIn s xs → P s
active_in P s [] all i = absurd i
active_in P s (x ∷ xs) all i = ⊎_elim (λ e. subst P (sym e) (all_head P x xs all)) (λ later. active_in P s xs (all_tail P x xs all) later) i

pub at_most_once : (K n : ℤ) (chains : List MapChain) (list : List ℕ) → IsListOf K n chains list → (s : ℕ) → times s list ≤ 1
at_most_once K n chains list of s = elim (cases_lt 0 (times s list)) [
  | inl some ↦ let one = of.once s (active_in (IsActive K n chains) s list of.active (in_by_times s list some)) in omega (arith, one)
  | inr none ↦ omega (arith, none)
]

-- ---- the items of a list of numbers

module _ (L : ℤ) (chains : List MapChain) (r : Rational) (P : ℕ → Type 0) (item : (s : ℕ) → P s → Item L chains r) where
  abbrev pub items_of : (list : List ℕ) → All P list → List (Item L chains r)
  items_of [] all = []
  items_of (s ∷ list) all = item s (all_head P s list all) ∷ items_of list (all_tail P s list all)

  pub numbers_of : ((s : ℕ) (a : P s) → (item s a).s ≡ s) → (list : List ℕ) (all : All P list) → numbers L chains r (items_of list all) ≡ list
  numbers_of same [] all = refl
  numbers_of same (s ∷ list) all = ap₂ (λ i l. i ∷ l) (same s (all_head P s list all)) (numbers_of same list (all_tail P s list all))

-- ---- their order

module _ (L : ℤ) (chains : List MapChain) (planar : IsPlanar chains) (r : Rational) (line : IsLine L chains r) where
  spans : (x y : Item L chains r) → Spans L x.segment y.at.place
  spans x y =
      let from = x.spanned.from in
      let to = x.spanned.to in
      record {
        from = scaled (height L (low_end L x.segment)) (height_of L r) (height_of L y.at.place) r.d y.at.place.d r.above_zero y.at.place.above_zero
            (sym y.at.level.is) (omega (arith, ints, from));
        to = scaled_above (height L (high_end L x.segment)) (height_of L r) (height_of L y.at.place) r.d y.at.place.d r.above_zero y.at.place.above_zero
            (sym y.at.level.is) (omega (arith, ints, to));
      }

  adjacent : (x y : Item L chains r) → ¬ (x.s ≡ y.s) → IsWestOf L x.segment y.segment → IsWestward x.at.place y.at.place
  adjacent x y ne west =
      let p : Rational = x.at.place in
      let m = numbered L chains r x in let m' = numbered L chains r y in
      let ends_x = ends_of_item L chains r line x in
      let ends_y = ends_of_item L chains r line y in
      let zero : turn_at (low_end L x.segment) (high_end L x.segment) p ≡ pos 0 =
      (heights_of L x.segment (low_end L x.segment) (high_end L x.segment) ends_x p x.at.on).0 in
      let own : IsNotEast L x.segment p = omega (arith, ints, zero) in
      let there : IsNotEast L y.segment p =
      not_east L x.segment y.segment (line.ends x.s x.segment m) (line.ends y.s y.segment m') west p (spans x x) (spans y x) own in
      ⊎_elim (λ lt. lt)
      (λ back.
      let turn = turn_of_east L line.above (low_end L y.segment) (high_end L y.segment) ends_y.rising y.at.place p
      (heights_of L y.segment (low_end L y.segment) (high_end L y.segment) ends_y y.at.place y.at.on).0
      (level_with L y.at.place p r y.at.level x.at.level) back in
      absurd (omega (arith, ints, turn, there)))
      (one_west L chains r line planar x y ne)

  sorted_by : (x : Item L chains r) (y : Item L chains r) (ys : List (Item L chains r)) → IsWestward x.at.place y.at.place →
      IsSorted L chains r (y ∷ ys) → IsSorted L chains r (x ∷ (y ∷ ys))
  sorted_by x y ys west sorted = (
    (λ z h. ⊎_elim (λ e. subst (λ (w : Item L chains r). IsWestward x.at.place w.at.place) (sym e) west)
        (λ later.
        let p : Rational = x.at.place in let q : Rational = y.at.place in let t : Rational = z.at.place in
        le_lt p.x p.d q.x q.d t.x t.d p.above_zero q.above_zero t.above_zero (omega (arith, ints, west)) (sorted.0 z later)) h),
    sorted,
  )

  -- where tests by the one number K are tests by L
  pub sorted_items : (K : ℤ) → ((x y : Item L chains r) → IsWestOf K x.segment y.segment → IsWestOf L x.segment y.segment) →
      (xs : List (Item L chains r)) → EachTwo (AreTested K chains) (numbers L chains r xs) →
      ((s : ℕ) → times s (numbers L chains r xs) ≤ 1) → IsSorted L chains r xs
  sorted_items K by [] tested once = tt
  sorted_items K by (x ∷ []) tested once = ((λ y h. absurd h), tt)
  sorted_items K by (x ∷ (y ∷ xs)) tested once =
      sorted_by x y xs
      (adjacent x y (λ e. twice x.s y.s (numbers L chains r xs) e (once x.s))
      (by x y (tested.0.west x.segment y.segment (numbered L chains r x) (numbered L chains r y))))
      (sorted_items K by (y ∷ xs) tested.1 (λ i. fewer_behind i x.s (numbers L chains r (y ∷ xs)) (once i)))
    where
      fewer_behind : (i s : ℕ) (xs : List ℕ) → times i (s ∷ xs) ≤ 1 → times i xs ≤ 1
      fewer_behind i s xs h =
          same_or i s (λ e. let one = times-same i s xs e in omega (arith, h, one)) (λ ne. let same = times-other i s xs ne in omega (arith, h, same))

      twice : (s t : ℕ) (xs : List ℕ) → s ≡ t → times s (s ∷ (t ∷ xs)) ≤ 1 → ⊥
      twice s t xs e h =
          let one = times-same s s (t ∷ xs) refl in
          let two = times-same s t xs e in
          omega (arith, h, one, two)
