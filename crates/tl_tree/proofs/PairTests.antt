-- Two items that are tested: whether their bounds meet, and whether they conflict.
use Rattle.std.proofs.Common.{◌≡◌, ℕ, zero, suc, ◌<◌, min, max, ◌≤ℤ◌, ℤ, Bool, true, false, T, ◌&&◌, int_le, ◌↔◌, Option, None, IsTrue, refl, sym, ap, ◌∙◌, arith, subst}
use Rattle.std.specs.Int.Signed.{le_z_yes}
use Rattle.std.specs.Int.{int_max, int_min}
use Rattle.std.proofs.lemmas.Bool.{false≢true}
use Rattle.std.proofs.lemmas.Bool.Decides.{nat_tests}
use Rattle.std.proofs.lemmas.Int.{ints, clamps}
use Rattle.tl_geom.specs.declared.rect.Rect.{Rect}
use Rattle.tl_geom.specs.Rectangle.{AreMeeting}
use Rattle.tl_tree_index.specs.Pairs.{overlaps, meeting, AreToldApart}

T-true : (b : Bool) → T b → b ≡ true
T-true true h = refl
T-true false h = absurd h

true-T : (b : Bool) → b ≡ true → T b
true-T true e = tt
true-T false e = absurd (false≢true e)

le-true : (a b : ℤ) → a ≤ℤ b → int_le a b ≡ true
le-true a b h = T-true (int_le a b) h.le

true-le : (a b : ℤ) → int_le a b ≡ true → a ≤ℤ b
true-le a b e = le_z_yes (true-T (int_le a b) e)

both-true : (a b : Bool) → a ≡ true → b ≡ true → (a && b) ≡ true
both-true a b p q = grind arith

first-true : (a b : Bool) → (a && b) ≡ true → a ≡ true
first-true true b e = refl
first-true false b e = absurd (false≢true e)

second-true : (a b : Bool) → (a && b) ≡ true → b ≡ true
second-true true b e = e
second-true false b e = absurd (false≢true e)

-- the test on two rectangles says that they meet
pub overlaps-meeting : (r q : Rect) → AreMeeting r q → overlaps r q ≡ true
overlaps-meeting r q m =
    both-true (int_le (int_max r.xmin q.xmin) (int_min r.xmax q.xmax)) (int_le (int_max r.ymin q.ymin) (int_min r.ymax q.ymax))
    (le-true _ _ (least_most r.xmin q.xmin r.xmax q.xmax m.point.x m.in_first.west m.in_second.west m.in_first.east m.in_second.east))
    (le-true _ _ (least_most r.ymin q.ymin r.ymax q.ymax m.point.y m.in_first.south m.in_second.south m.in_first.north m.in_second.north))
  where
    least_most : (a b c d x : ℤ) → a ≤ℤ x → b ≤ℤ x → x ≤ℤ c → x ≤ℤ d → int_max a b ≤ℤ int_min c d
    least_most a b c d x h k l m = omega (arith, ints, clamps, h, k, l, m)

pub meeting-overlaps : (r q : Rect) → overlaps r q ≡ true → AreMeeting r q
meeting-overlaps r q e =
    let h = true-le (int_max r.xmin q.xmin) (int_min r.xmax q.xmax) (first-true (int_le (int_max r.xmin q.xmin) (int_min r.xmax q.xmax)) (int_le (int_max r.ymin q.ymin) (int_min r.ymax q.ymax)) e) in
    let k = true-le (int_max r.ymin q.ymin) (int_min r.ymax q.ymax) (second-true (int_le (int_max r.xmin q.xmin) (int_min r.xmax q.xmax)) (int_le (int_max r.ymin q.ymin) (int_min r.ymax q.ymax)) e) in
    record {
      point = record { x = int_max r.xmin q.xmin; y = int_max r.ymin q.ymin };
      in_first = record { west = omega (arith, ints, clamps); east = omega (arith, ints, clamps, h); south = omega (arith, ints, clamps); north = omega (arith, ints, clamps, k) };
      in_second = record { west = omega (arith, ints, clamps); east = omega (arith, ints, clamps, h); south = omega (arith, ints, clamps); north = omega (arith, ints, clamps, k) };
    }

-- ---- meeting

pub meeting-equal : (b : ℕ → Rect) (i j : ℕ) → i ≡ j → meeting b i j ≡ 0
unfolding meeting
meeting-equal b i j e = grind (arith, nat_tests)

pub meeting-0 : (b : ℕ → Rect) (i j : ℕ) (r : Bool) → (IsTrue r ↔ AreMeeting (b i) (b j)) → r ≡ false → meeting b i j ≡ 0
unfolding meeting
meeting-0 b i j r h e = by_test (overlaps (b i) (b j)) refl
  where
    by_test : (t : Bool) → overlaps (b i) (b j) ≡ t → meeting b i j ≡ 0
    by_test true p = absurd (false≢true (sym e ∙ h.1 (meeting-overlaps (b i) (b j) p)))
    by_test false p = rw p (grind (arith, nat_tests))

pub meeting-apart : (b : ℕ → Rect) (i j : ℕ) → (AreMeeting (b i) (b j) → ⊥) → meeting b i j ≡ 0
meeting-apart b i j h = meeting-0 b i j false (λ e. absurd (false≢true e), λ m. absurd (h m)) refl

pub meeting-1 : (b : ℕ → Rect) (i j : ℕ) → (i ≡ j → ⊥) → AreMeeting (b i) (b j) → meeting b i j ≡ 1
unfolding meeting
meeting-1 b i j ne h = rw (overlaps-meeting (b i) (b j) h) (grind (arith, nat_tests))

same-tests : (a b : Bool) → (a ≡ true → b ≡ true) → (b ≡ true → a ≡ true) → a ≡ b
same-tests true b h k = sym (h refl)
same-tests false true h k = k refl
same-tests false false h k = refl

pub overlaps-swap : (r q : Rect) → overlaps r q ≡ overlaps q r
overlaps-swap r q = same-tests (overlaps r q) (overlaps q r) (turned r q) (turned q r)
  where
    turned : (r q : Rect) → overlaps r q ≡ true → overlaps q r ≡ true
    turned r q e = let m = meeting-overlaps r q e in overlaps-meeting q r (record { point = m.point; in_first = m.in_second; in_second = m.in_first })

pub meeting-swap : (b : ℕ → Rect) (i j : ℕ) → meeting b i j ≡ meeting b j i
unfolding meeting
meeting-swap b i j = rw overlaps-swap (grind (arith, nat_tests))

-- ---- conflicts

pub below_or : {P : Type 0} (i j : ℕ) → (i < j → P) → (i ≡ j → P) → (j < i → P) → P
below_or zero zero f g h = g refl
below_or zero (suc j) f g h = f (omega arith)
below_or (suc i) zero f g h = h (omega arith)
below_or (suc i) (suc j) f g h = below_or i j (λ k. f (omega arith)) (λ e. g (ap suc e)) (λ k. h (omega arith))

module _ {C : Type 0} (tells : ℕ → ℕ → Option C → Type 0) where
  pub free-turned : (i j : ℕ) → AreToldApart tells i j → AreToldApart tells j i
  free-turned i j h = record { up = h.down; down = h.up }

  -- an item and itself are no pair
  pub free-equal : (i j : ℕ) → i ≡ j → AreToldApart tells i j
  free-equal i j e = record { up = λ h. absurd (omega (arith, e, h)); down = λ h. absurd (omega (arith, e, h)) }

  -- what is told of the lesser and the greater one
  pub free-told : (i j : ℕ) → tells (min i j) (max i j) None → AreToldApart tells i j
  free-told i j t =
      record {
        up = λ h. let P : ℕ → Type 0 = λ k. tells k (max i j) None in let Q : ℕ → Type 0 = λ k. tells i k None in subst Q (max-up h) (subst P (min-up h) t);
        down = λ h. let P : ℕ → Type 0 = λ k. tells k (max i j) None in let Q : ℕ → Type 0 = λ k. tells j k None in subst Q (max-down h) (subst P (min-down h) t);
      }
    where
      min-up : i < j → min i j ≡ i
      min-up h = omega arith

      max-up : i < j → max i j ≡ j
      max-up h = omega arith

      min-down : j < i → min i j ≡ j
      min-down h = omega arith

      max-down : j < i → max i j ≡ i
      max-down h = omega arith

  -- the law of the items: of those whose bounds don't meet it is told that they don't conflict
  abbrev pub KeepsLaw : ℕ → (ℕ → Rect) → Type 0
  KeepsLaw n b = (i j : ℕ) → i < j → j < n → (AreMeeting (b i) (b j) → ⊥) → tells i j None

  pub free-apart : (n : ℕ) (b : ℕ → Rect) → KeepsLaw n b → (i j : ℕ) → i < n → j < n → (AreMeeting (b i) (b j) → ⊥) → AreToldApart tells i j
  free-apart n b law i j h k ne =
      record {
        up = λ l. law i j l k ne;
        down = λ l. law j i l h (λ m. ne (record { point = m.point; in_first = m.in_second; in_second = m.in_first }));
      }
