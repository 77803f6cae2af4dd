-- Items below two rectangles that don't meet: no pair of them has bounds that meet, and none conflicts.
use Rattle.std.proofs.Common.{◌≡◌, ℕ, suc, ◌<◌, List, [], ◌∷◌, length, get_or, Option, refl, arith}
use Rattle.tl_geom.specs.declared.rect.Rect.{Rect}
use Rattle.tl_geom.specs.Rectangle.{AreMeeting, Covers}
use Rattle.tl_tree_index.specs.Pairs.{row_sum, cross_sum, meeting, AllRow, AllCross, AreToldApart}
use Rattle.tl_tree_index.specs.Fits.{AreBelow, CoversAll}
use Rattle.tl_tree.proofs.PairTests.{meeting-apart, KeepsLaw, free-apart}

-- rectangles that hold what two others hold meet where those do
wider-meet : (r q s t : Rect) → Covers r s → Covers q t → AreMeeting s t → AreMeeting r q
wider-meet r q s t h k m = record { point = m.point; in_first = h m.point m.in_first; in_second = k m.point m.in_second }

module _ (b : ℕ → Rect) where
  pub row-apart : (r q : Rect) (x : ℕ) (ys : List ℕ) → (AreMeeting r q → ⊥) → Covers r (b x) → CoversAll b q ys → row_sum (meeting b) x ys ≡ 0
  row-apart r q x [] ne h k = refl
  row-apart r q x (y ∷ ys) ne h k =
      omega (arith, meeting-apart b x y (λ m. ne (wider-meet r q (b x) (b y) h k.0 m)), row-apart r q x ys ne h k.1)

  pub cross-apart : (r q : Rect) (xs ys : List ℕ) → (AreMeeting r q → ⊥) → CoversAll b r xs → CoversAll b q ys → cross_sum (meeting b) xs ys ≡ 0
  cross-apart r q [] ys ne h k = refl
  cross-apart r q (x ∷ xs) ys ne h k = omega (arith, row-apart r q x ys ne h.0 k, cross-apart r q xs ys ne h.1 k)

  module _ {C : Type 0} (n : ℕ) (tells : ℕ → ℕ → Option C → Type 0) where
    pub row-free : KeepsLaw tells n b → (r q : Rect) (x : ℕ) (ys : List ℕ) → (AreMeeting r q → ⊥) → x < n → AreBelow n ys → Covers r (b x) → CoversAll b q ys → AllRow (AreToldApart tells) x ys
    row-free law r q x [] ne k l c d = tt
    row-free law r q x (y ∷ ys) ne k l c d =
        (free-apart tells n b law x y k l.0 (λ m. ne (wider-meet r q (b x) (b y) c d.0 m)), row-free law r q x ys ne k l.1 c d.1)

    pub cross-free : KeepsLaw tells n b → (r q : Rect) (xs ys : List ℕ) → (AreMeeting r q → ⊥) → AreBelow n xs → AreBelow n ys → CoversAll b r xs → CoversAll b q ys → AllCross (AreToldApart tells) xs ys
    cross-free law r q [] ys ne k l c d = tt
    cross-free law r q (x ∷ xs) ys ne k l c d = (row-free law r q x ys ne k.0 l c.0 d, cross-free law r q xs ys ne k.1 l c.1 d)

-- ---- items that are known not to meet an item

-- item k of the list has bounds that meet those of x
abbrev pub Meets : (ℕ → Rect) → ℕ → List ℕ → ℕ → Type 0
Meets b x ys k = AreMeeting (b (get_or ys k 0)) (b x)

pub turned : (r q : Rect) → AreMeeting r q → AreMeeting q r
turned r q m = record { point = m.point; in_first = m.in_second; in_second = m.in_first }

-- none of the items does
pub row-none : (b : ℕ → Rect) (x : ℕ) (ys : List ℕ) → ((k : ℕ) → k < length ys → Meets b x ys k → ⊥) → row_sum (meeting b) x ys ≡ 0
row-none b x [] ne = refl
row-none b x (y ∷ ys) ne =
    omega (arith, meeting-apart b x y (λ m. ne 0 (omega arith) (turned (b x) (b y) m)), row-none b x ys (λ k l m. ne (suc k) (omega (arith, l)) m))

pub row-none_free : {C : Type 0} (n : ℕ) (tells : ℕ → ℕ → Option C → Type 0) (b : ℕ → Rect) → KeepsLaw tells n b → (x : ℕ) (ys : List ℕ) → x < n → AreBelow n ys → ((k : ℕ) → k < length ys → Meets b x ys k → ⊥) → AllRow (AreToldApart tells) x ys
row-none_free n tells b law x [] k l ne = tt
row-none_free n tells b law x (y ∷ ys) k l ne =
    (free-apart tells n b law x y k l.0 (λ m. ne 0 (omega arith) (turned (b x) (b y) m)), row-none_free n tells b law x ys k l.1 (λ i h m. ne (suc i) (omega (arith, h)) m))

-- one doesn't
pub one-none : (b : ℕ → Rect) (x y : ℕ) → (AreMeeting (b y) (b x) → ⊥) → meeting b x y ≡ 0
one-none b x y ne = meeting-apart b x y (λ m. ne (turned (b x) (b y) m))

pub one-none_free : {C : Type 0} (n : ℕ) (tells : ℕ → ℕ → Option C → Type 0) (b : ℕ → Rect) → KeepsLaw tells n b → (x y : ℕ) → x < n → y < n → (AreMeeting (b y) (b x) → ⊥) → AreToldApart tells x y
one-none_free n tells b law x y k l ne = free-apart tells n b law x y k l (λ m. ne (turned (b x) (b y) m))
