-- Vectors of eight numbers that are compared.
use Rattle.std.proofs.Common.{◌≡◌, ℕ, zero, suc, ◌<◌, ◌^◌, ◌%◌, ◌-◌, Bool, true, false, T, cond, ◌↔◌, ℤ, pos, ◌≤ℤ◌, List, [], ◌∷◌, map, length, get_or, FitsSigned, of_z, to_z, w32, refl, sym, ap, ap₂, ◌∙◌, subst, arith, bit_and, replicate}
use Rattle.std.specs.Int.{bit_at}
use Rattle.std.specs.Int.Signed.{le_z, le_z_yes}
use Rattle.std.proofs.lemmas.Int.{to_z-of_z}
use Rattle.std.proofs.lemmas.Nat.Bits.{bit_at_and, bit_at-lt}
use Rattle.std.proofs.lemmas.List.{get_or-map, length-map}
use Rattle.std.proofs.lemmas.Simd.{tops_compared, length-zip2, mask_l-mod, mask_l-lt, bit_mask_l, get_or-zip2, Each1-from_get_or, get_or-replicate}
use lib.Lanes.{Each1, zip2, mask_l, top}
use Rattle.tl_geom.specs.declared.rect.Rect.{Rect}
use Rattle.tl_geom.specs.Rectangle.{nothing}
use Rattle.tl_geom.specs.Keeping.Lanes.{AreLanes, HasSides}

-- whether the first of two numbers of 32 bits, read with their signs, is at most the second one
abbrev at_most : ℕ → ℕ → Bool
at_most a b = le_z (to_z w32 a) (to_z w32 b)

-- what the comparison of two vectors gives
abbrev compared : List ℤ → List ℤ → List Bool
compared v w = zip2 at_most (map (of_z w32) v) (map (of_z w32) w)

abbrev pub bits_of : List ℤ → List ℤ → ℕ
bits_of v w = mask_l (map (top 31) (zip2 (λ a b. cond (at_most a b) (2 ^ 32 - 1) 0) (map (of_z w32) v) (map (of_z w32) w))) % 2 ^ 64

long : (v w : List ℤ) → AreLanes v → AreLanes w → length (compared v w) ≡ 8
long v w h k =
    let e : length (map (of_z w32) v) ≡ 8 = length-map v (of_z w32) ∙ h.eight in
    let f : length (map (of_z w32) w) ≡ 8 = length-map w (of_z w32) ∙ k.eight in
    length-zip2 at_most (map (of_z w32) v) (map (of_z w32) w) (e ∙ sym f) ∙ e

bits-mask : (v w : List ℤ) → AreLanes v → AreLanes w → bits_of v w ≡ mask_l (compared v w)
bits-mask v w h k =
    let l = long v w h k in
    ap (λ ms. mask_l ms % 2 ^ 64) (tops_compared w32 at_most (map (of_z w32) v) (map (of_z w32) w)) ∙ mask_l-mod (compared v w) 64 (omega (arith, l))

pub bits-lt : (v w : List ℤ) → AreLanes v → AreLanes w → bits_of v w < 2 ^ 8
bits-lt v w h k =
    let l = long v w h k in
    let P : ℕ → Type 0 = λ n. mask_l (compared v w) < 2 ^ n in
    let Q : ℕ → Type 0 = λ m. m < 2 ^ 8 in
    subst Q (sym (bits-mask v w h k)) (subst P l (mask_l-lt (compared v w)))

pub lane-raw : (v : List ℤ) (k : ℕ) → AreLanes v → k < 8 → to_z w32 (get_or (map (of_z w32) v) k 0) ≡ get_or v k (pos 0)
lane-raw v k h lt =
    let l : k < length v = omega (arith, h.eight, lt) in
    ap (to_z w32) (get_or-map (of_z w32) v k (pos 0) 0 l) ∙ to_z-of_z w32 (get_or v k (pos 0)) (h.fit k lt)

bit-cond : (v w : List ℤ) (k : ℕ) → AreLanes v → AreLanes w → k < 8 → bit_at (bits_of v w) k ≡ cond (le_z (get_or v k (pos 0)) (get_or w k (pos 0))) 1 0
bit-cond v w k h j lt =
    let e : length (map (of_z w32) v) ≡ 8 = length-map v (of_z w32) ∙ h.eight in
    let f : length (map (of_z w32) w) ≡ 8 = length-map w (of_z w32) ∙ j.eight in
    ap (λ n. bit_at n k) (bits-mask v w h j) ∙ bit_mask_l (compared v w) k
    ∙ ap (λ b. cond b 1 0) (get_or-zip2 at_most (map (of_z w32) v) (map (of_z w32) w) k 0 0 false (omega (arith, e, lt)) (omega (arith, f, lt)))
    ∙ ap (λ z. cond (le_z z (to_z w32 (get_or (map (of_z w32) w) k 0))) 1 0) (lane-raw v k h lt)
    ∙ ap (λ z. cond (le_z (get_or v k (pos 0)) z) 1 0) (lane-raw w k j lt)

set-true : (b : Bool) → ◌≡◌ {A = ℕ} (cond b 1 0) 1 → T b
set-true true e = tt
set-true false e = absurd (omega (arith, e))

true-set : (b : Bool) → T b → ◌≡◌ {A = ℕ} (cond b 1 0) 1
true-set true h = refl
true-set false h = absurd h

-- bit k is set exactly where the first number of lane k is at most the second one
pub bits-le : (v w : List ℤ) (k : ℕ) → AreLanes v → AreLanes w → k < 8 → (bit_at (bits_of v w) k ≡ 1) ↔ (get_or v k (pos 0) ≤ℤ get_or w k (pos 0))
bits-le v w k h j lt = (
  λ e. le_z_yes (set-true (le_z (get_or v k (pos 0)) (get_or w k (pos 0))) (sym (bit-cond v w k h j lt) ∙ e)),
  λ l. bit-cond v w k h j lt ∙ true-set (le_z (get_or v k (pos 0)) (get_or w k (pos 0))) l.le,
)

-- a vector is written as its bits and read again
each-again : (v : List ℤ) → Each1 (FitsSigned w32) v → map (to_z w32) (map (of_z w32) v) ≡ v
each-again [] h = refl
each-again (x ∷ xs) h = ap₂ (λ z zs. z ∷ zs) (to_z-of_z w32 x h.0) (each-again xs h.1)

pub again : (v : List ℤ) → AreLanes v → map (to_z w32) (map (of_z w32) v) ≡ v
again v h = each-again v (Each1-from_get_or (FitsSigned w32) v (pos 0) (λ k lt. h.fit k (omega (arith, h.eight, lt))))

pub lanes-again : (v : List ℤ) → AreLanes v → AreLanes (map (to_z w32) (map (of_z w32) v))
lanes-again v h = subst AreLanes (sym (again v h)) h

pub two_bits : (k a b : ℕ) (A B D : Type 0) → (bit_at a k ≡ 1) ↔ A → (bit_at b k ≡ 1) ↔ B → (A → B → D) → (D → A × B) → (bit_at (bit_and a b) k ≡ 1) ↔ D
two_bits k a b A B D f g both parts =
    let e = bit_at_and a b k in
    let p = bit_at-lt a k in
    let q = bit_at-lt b k in (
      λ s. both (f.0 (omega (arith, e, s, p, q))) (g.0 (omega (arith, e, s, p, q))),
      λ d. let t = parts d in omega (arith, e, f.1 t.0, g.1 t.1),
    )

-- a number in eight lanes
pub splat-lane : (z : ℤ) (k : ℕ) → k < 8 → FitsSigned w32 z → get_or (map (to_z w32) (replicate 8 (of_z w32 z))) k (pos 0) ≡ z
splat-lane z k lt h = get_or-replicate 8 k (to_z w32 (of_z w32 z)) (pos 0) lt ∙ to_z-of_z w32 z h

-- ---- eight rectangles

pub by_eight : (P : ℕ → Type 0) → P 0 → P 1 → P 2 → P 3 → P 4 → P 5 → P 6 → P 7 → (k : ℕ) → k < 8 → P k
by_eight P a b c d e f g h zero lt = a
by_eight P a b c d e f g h (suc zero) lt = b
by_eight P a b c d e f g h (suc (suc zero)) lt = c
by_eight P a b c d e f g h (suc (suc (suc zero))) lt = d
by_eight P a b c d e f g h (suc (suc (suc (suc zero)))) lt = e
by_eight P a b c d e f g h (suc (suc (suc (suc (suc zero))))) lt = f
by_eight P a b c d e f g h (suc (suc (suc (suc (suc (suc zero)))))) lt = g
by_eight P a b c d e f g h (suc (suc (suc (suc (suc (suc (suc zero))))))) lt = h
by_eight P a b c d e f g h (suc (suc (suc (suc (suc (suc (suc (suc k)))))))) lt = absurd (omega (arith, lt))

read-again : (z : ℤ) → FitsSigned w32 z → FitsSigned w32 (to_z w32 (of_z w32 z))
read-again z h = subst (FitsSigned w32) (sym (to_z-of_z w32 z h)) h

module _ (a b c d e f g h : ℤ)
    (p : FitsSigned w32 a) (q : FitsSigned w32 b) (r : FitsSigned w32 c) (s : FitsSigned w32 d)
    (t : FitsSigned w32 e) (u : FitsSigned w32 f) (v : FitsSigned w32 g) (w : FitsSigned w32 h) where
  pub eight-same : map (to_z w32) (map (of_z w32) (a ∷ b ∷ c ∷ d ∷ e ∷ f ∷ g ∷ h ∷ [])) ≡ a ∷ b ∷ c ∷ d ∷ e ∷ f ∷ g ∷ h ∷ []
  eight-same = each-again (a ∷ b ∷ c ∷ d ∷ e ∷ f ∷ g ∷ h ∷ []) (p, (q, (r, (s, (t, (u, (v, (w, tt))))))))

  pub eight-lanes : AreLanes (map (to_z w32) (map (of_z w32) (a ∷ b ∷ c ∷ d ∷ e ∷ f ∷ g ∷ h ∷ [])))
  eight-lanes =
      let xs : List ℤ = map (to_z w32) (map (of_z w32) (a ∷ b ∷ c ∷ d ∷ e ∷ f ∷ g ∷ h ∷ [])) in
      record {
        eight = refl;
        fit = by_eight (λ k. FitsSigned w32 (get_or xs k (pos 0))) (read-again a p) (read-again b q) (read-again c r) (read-again d s) (read-again e t) (read-again f u) (read-again g v) (read-again h w);
      }

-- what a side is, written as its bits and read again
abbrev pub stored : ℤ → ℤ
stored z = to_z w32 (of_z w32 z)

rect-again : (r q : Rect) → HasSides r → r ≡ q
    → ◌≡◌ {A = Rect} (record { xmin = stored r.xmin; ymin = stored r.ymin; xmax = stored r.xmax; ymax = stored r.ymax }) q
rect-again r q h e = rw (to_z-of_z w32 r.xmin h.west, to_z-of_z w32 r.ymin h.south, to_z-of_z w32 r.xmax h.east, to_z-of_z w32 r.ymax h.north) e

-- the rectangle whose sides stand in lane k of four vectors
abbrev pub rect_in : (x y x' y' : List ℤ) → ℕ → Rect
rect_in x y x' y' k = record { xmin = get_or x k (pos 1); ymin = get_or y k (pos 1); xmax = get_or x' k (pos 0); ymax = get_or y' k (pos 0) }

abbrev pub side : (Rect → ℤ) → (a b c d e f g h : Rect) → List ℤ
side s a b c d e f g h = stored (s a) ∷ stored (s b) ∷ stored (s c) ∷ stored (s d) ∷ stored (s e) ∷ stored (s f) ∷ stored (s g) ∷ stored (s h) ∷ []

-- rectangle k of a list, and its sides
pub record IsAt (rects : List Rect) (k : ℕ) (r : Rect) : Type 0 where
  pub is : r ≡ get_or rects k nothing
  pub sides : HasSides r

-- eight rectangles, the sides of which are in four vectors, are those of a list
pub gathered : (x y x' y' : List ℤ) (a b c d e f g h : Rect) (rects : List Rect)
    → x ≡ side (λ r. r.xmin) a b c d e f g h → y ≡ side (λ r. r.ymin) a b c d e f g h
    → x' ≡ side (λ r. r.xmax) a b c d e f g h → y' ≡ side (λ r. r.ymax) a b c d e f g h
    → IsAt rects 0 a → IsAt rects 1 b → IsAt rects 2 c → IsAt rects 3 d → IsAt rects 4 e → IsAt rects 5 f → IsAt rects 6 g → IsAt rects 7 h
    → (k : ℕ) → k < 8 → rect_in x y x' y' k ≡ get_or rects k nothing
gathered x y x' y' a b c d e f g h rects i j i' j' p q r s t u v w k lt =
    rw (i, j, i', j') (by_eight (λ k. rect_in (side (λ r. r.xmin) a b c d e f g h) (side (λ r. r.ymin) a b c d e f g h) (side (λ r. r.xmax) a b c d e f g h) (side (λ r. r.ymax) a b c d e f g h) k ≡ get_or rects k nothing)
    (rect-again a _ p.sides p.is) (rect-again b _ q.sides q.is) (rect-again c _ r.sides r.is) (rect-again d _ s.sides s.is)
    (rect-again e _ t.sides t.is) (rect-again f _ u.sides u.is) (rect-again g _ v.sides v.is) (rect-again h _ w.sides w.is) k lt)
