-- Vectors of eight numbers that are turned by a lane, and the greater and lesser numbers of two.
use Rattle.std.proofs.Common.{◌≡◌, ℕ, zero, suc, ◌<◌, ◌≤◌, ◌+◌, ◌-◌, ◌*◌, ◌/◌, ◌%◌, ◌^◌, ◌⊎◌, inl, inr, ⊎_elim, ◌↔◌, Bool, true, false, T, not, cond, ℤ, ◌<ℤ◌, ◌≤ℤ◌, pos, List, [], ◌∷◌, ◌++◌, map, length, get_or, int_lt, FitsSigned, of_z, to_z, w32, replicate, bit_and, refl, sym, ap, ap₂, ◌∙◌, subst, arith}
use Rattle.std.specs.Int.{bit_at, int_max, int_min}
use Rattle.std.specs.Int.Signed.{lt_z, lt_z_yes, lt_z_no}
use Rattle.std.proofs.lemmas.Int.{ints, clamps}
use Rattle.std.proofs.lemmas.List.{get_or-map, length-map, get_or_append_left, get_or_default}
use Rattle.std.proofs.lemmas.Nat.Bits.{bit_at_cat_low, bit_at_cat_high}
use Rattle.std.proofs.lemmas.Simd.{tops_compared, length-zip2, get_or-zip2, length-sel_l, get_or-sel_l}
use lib.Lanes.{zip2, top, sel_l}
use Rattle.tl_geom.specs.Keeping.Lanes.{AreLanes}
use Rattle.tl_geom.specs.declared.rect.Rect.{Rect}
use Rattle.tl_geom.specs.declared.rect8.Rect8.{Rect8}
use Rattle.tl_geom.specs.EightRectangles.{lane}
use Rattle.tl_geom.specs.Rectangle.{AreMeeting}
use Rattle.tl_geom.proofs.Masks.{again, lane-raw, by_eight, splat-lane, two_bits}
use Rattle.tl_geom.proofs.Rectangles.{meeting_by, by_meeting}

-- ---- turned by a lane

-- number k of a vector that is joined to itself
abbrev joined : List ℤ → ℕ → ℤ
joined v k = to_z w32 (get_or (map (of_z w32) v ++ map (of_z w32) v) k 0)

abbrev pub turned : List ℤ → List ℤ
turned v = joined v 1 ∷ joined v 2 ∷ joined v 3 ∷ joined v 4 ∷ joined v 5 ∷ joined v 6 ∷ joined v 7 ∷ joined v 0 ∷ []

module _ (v : List ℤ) (h : AreLanes v) where
  joined-at : (k : ℕ) → k < 8 → joined v k ≡ get_or v k (pos 0)
  joined-at k lt =
      let e : length (map (of_z w32) v) ≡ 8 = length-map v (of_z w32) ∙ h.eight in
      ap (to_z w32) (get_or_append_left (map (of_z w32) v) (map (of_z w32) v) 0 k (omega (arith, e, lt))) ∙ lane-raw v k h lt

  pub turned-at : (k : ℕ) → k < 8 → get_or (turned v) k (pos 0) ≡ get_or v ((k + 1) % 8) (pos 0)
  turned-at = by_eight (λ k. get_or (turned v) k (pos 0) ≡ get_or v ((k + 1) % 8) (pos 0))
      (joined-at 1 (omega arith)) (joined-at 2 (omega arith)) (joined-at 3 (omega arith)) (joined-at 4 (omega arith))
      (joined-at 5 (omega arith)) (joined-at 6 (omega arith)) (joined-at 7 (omega arith)) (joined-at 0 (omega arith))

  pub turned-lanes : AreLanes (turned v)
  turned-lanes =
      record {
        eight = refl;
        fit = λ k lt. subst (FitsSigned w32) (sym (turned-at k lt)) (h.fit ((k + 1) % 8) (omega arith));
      }

-- a side of rectangles that are turned by a lane
pub turned-side : (v w : List ℤ) (d : ℤ) (k : ℕ) → AreLanes v → AreLanes w → get_or w k (pos 0) ≡ get_or (map (to_z w32) (map (of_z w32) v)) ((k + 1) % 8) (pos 0) → k < 8 → get_or (map (to_z w32) (map (of_z w32) w)) k d ≡ get_or v ((k + 1) % 8) d
turned-side v w d k h i e lt =
    ap (λ u. get_or u k d) (again w i)
    ∙ get_or_default w k d (pos 0) (omega (arith, i.eight, lt))
    ∙ e ∙ ap (λ u. get_or u ((k + 1) % 8) (pos 0)) (again v h)
    ∙ get_or_default v ((k + 1) % 8) (pos 0) d (omega (arith, h.eight))

-- ---- the greater and the lesser ones

abbrev less : ℕ → ℕ → Bool
less a b = lt_z (to_z w32 a) (to_z w32 b)

greater-of : (t : Bool) (a b : ℕ) → (T t → to_z w32 a <ℤ to_z w32 b) → (T (not t) → to_z w32 b ≤ℤ to_z w32 a) → to_z w32 (cond t b a) ≡ int_max (to_z w32 a) (to_z w32 b)
greater-of true a b h i = let l = h tt in omega (arith, ints, clamps, l)
greater-of false a b h i = let l = i tt in omega (arith, ints, clamps, l)

lesser-of : (t : Bool) (a b : ℕ) → (T t → to_z w32 a <ℤ to_z w32 b) → (T (not t) → to_z w32 b ≤ℤ to_z w32 a) → to_z w32 (cond t a b) ≡ int_min (to_z w32 a) (to_z w32 b)
lesser-of true a b h i = let l = h tt in omega (arith, ints, clamps, l)
lesser-of false a b h i = let l = i tt in omega (arith, ints, clamps, l)

abbrev raw : List ℤ → List ℕ
raw v = map (of_z w32) v

-- of two vectors of bits, where the number of the first one is less that of p, else that of q
abbrev chosen : (v w p q : List ℕ) → List ℤ
chosen v w p q = map (to_z w32) (sel_l (map (top 31) (zip2 (λ a b. cond (less a b) (2 ^ 32 - 1) 0) v w)) p q)

chosen-at : (v w p q : List ℕ) (k : ℕ) → length v ≡ 8 → length w ≡ 8 → length p ≡ 8 → length q ≡ 8 → k < 8 → get_or (chosen v w p q) k (pos 0) ≡ to_z w32 (cond (less (get_or v k 0) (get_or w k 0)) (get_or p k 0) (get_or q k 0))
chosen-at v w p q k a b c d lt =
    let ms : List Bool = zip2 less v w in
    let l : length ms ≡ 8 = length-zip2 less v w (a ∙ sym b) ∙ a in
    let m : length (sel_l ms p q) ≡ 8 = length-sel_l ms p q (l ∙ sym c) (l ∙ sym d) ∙ l in
    ap (λ ts. get_or (map (to_z w32) (sel_l ts p q)) k (pos 0)) (tops_compared w32 less v w)
    ∙ get_or-map (to_z w32) (sel_l ms p q) k 0 (pos 0) (omega (arith, m, lt))
    ∙ ap (to_z w32) (get_or-sel_l ms p q k 0 (omega (arith, l, lt)) (omega (arith, c, lt)) (omega (arith, d, lt)))
    ∙ ap (λ t. to_z w32 (cond t (get_or p k 0) (get_or q k 0))) (get_or-zip2 less v w k 0 0 false (omega (arith, a, lt)) (omega (arith, b, lt)))

chosen-long : (v w p q : List ℕ) → length v ≡ 8 → length w ≡ 8 → length p ≡ 8 → length q ≡ 8 → length (chosen v w p q) ≡ 8
chosen-long v w p q a b c d =
    let ms : List Bool = zip2 less v w in
    let l : length ms ≡ 8 = length-zip2 less v w (a ∙ sym b) ∙ a in
    length-map (sel_l (map (top 31) (zip2 (λ a b. cond (less a b) (2 ^ 32 - 1) 0) v w)) p q) (to_z w32)
    ∙ ap (λ ts. length (sel_l ts p q)) (tops_compared w32 less v w) ∙ length-sel_l ms p q (l ∙ sym c) (l ∙ sym d) ∙ l

fit-either : (t : Bool) (y z : ℤ) → FitsSigned w32 y → FitsSigned w32 z → FitsSigned w32 (cond t y z)
fit-either true y z h i = h
fit-either false y z h i = i

module _ (v w : List ℤ) (h : AreLanes v) (i : AreLanes w) where
  long-v : length (raw v) ≡ 8
  long-v = length-map v (of_z w32) ∙ h.eight

  long-w : length (raw w) ≡ 8
  long-w = length-map w (of_z w32) ∙ i.eight

  pub greater-at : (k : ℕ) → k < 8 → get_or (chosen (raw v) (raw w) (raw w) (raw v)) k (pos 0) ≡ int_max (get_or v k (pos 0)) (get_or w k (pos 0))
  greater-at k lt =
      let a = get_or (raw v) k 0 in
      let b = get_or (raw w) k 0 in
      chosen-at (raw v) (raw w) (raw w) (raw v) k long-v long-w long-w long-v lt
      ∙ greater-of (less a b) a b (λ t. lt_z_yes t) (λ t. lt_z_no t)
      ∙ ap₂ int_max (lane-raw v k h lt) (lane-raw w k i lt)

  pub lesser-at : (k : ℕ) → k < 8 → get_or (chosen (raw v) (raw w) (raw v) (raw w)) k (pos 0) ≡ int_min (get_or v k (pos 0)) (get_or w k (pos 0))
  lesser-at k lt =
      let a = get_or (raw v) k 0 in
      let b = get_or (raw w) k 0 in
      chosen-at (raw v) (raw w) (raw v) (raw w) k long-v long-w long-v long-w lt
      ∙ lesser-of (less a b) a b (λ t. lt_z_yes t) (λ t. lt_z_no t)
      ∙ ap₂ int_min (lane-raw v k h lt) (lane-raw w k i lt)

  pub greater-lanes : AreLanes (chosen (raw v) (raw w) (raw w) (raw v))
  greater-lanes =
      record {
        eight = chosen-long (raw v) (raw w) (raw w) (raw v) long-v long-w long-w long-v;
        fit = λ k lt. subst (FitsSigned w32) (sym (greater-at k lt)) (fit-either (int_lt (get_or w k (pos 0)) (get_or v k (pos 0))) _ _ (h.fit k lt) (i.fit k lt));
      }

  pub lesser-lanes : AreLanes (chosen (raw v) (raw w) (raw v) (raw w))
  lesser-lanes =
      record {
        eight = chosen-long (raw v) (raw w) (raw v) (raw w) long-v long-w long-v long-w;
        fit = λ k lt. subst (FitsSigned w32) (sym (lesser-at k lt)) (fit-either (int_lt (get_or w k (pos 0)) (get_or v k (pos 0))) _ _ (i.fit k lt) (h.fit k lt));
      }

-- ---- rectangles in lanes

-- a number in eight lanes
pub splat-lanes : (z : ℤ) → FitsSigned w32 z → AreLanes (map (to_z w32) (replicate 8 (of_z w32 z)))
splat-lanes z h = record { eight = refl; fit = λ k lt. subst (FitsSigned w32) (sym (splat-lane z k lt h)) h }

-- the rectangle of a lane meets another where their sides from west to east and from south to north have a number in common
pub lane-meets : (e : Rect8) (q : Rect) (k a b : ℕ) → k < 8
    → (bit_at a k ≡ 1) ↔ (int_max (get_or e.xmin k (pos 0)) q.xmin ≤ℤ int_min (get_or e.xmax k (pos 0)) q.xmax)
    → (bit_at b k ≡ 1) ↔ (int_max (get_or e.ymin k (pos 0)) q.ymin ≤ℤ int_min (get_or e.ymax k (pos 0)) q.ymax)
    → (bit_at (bit_and a b) k ≡ 1) ↔ AreMeeting (lane e k) q
lane-meets e q k a b lt f g =
    let r = lane e k in
    let x : get_or e.xmin k (pos 0) ≡ get_or e.xmin k (pos 1) = get_or_default e.xmin k (pos 0) (pos 1) (omega (arith, e.west.eight, lt)) in
    let y : get_or e.ymin k (pos 0) ≡ get_or e.ymin k (pos 1) = get_or_default e.ymin k (pos 0) (pos 1) (omega (arith, e.south.eight, lt)) in
    two_bits k a b (int_max r.xmin q.xmin ≤ℤ int_min r.xmax q.xmax) (int_max r.ymin q.ymin ≤ℤ int_min r.ymax q.ymax) (AreMeeting r q)
    (rw x at f) (rw y at g) (λ i j. meeting_by r q i j) (λ m. by_meeting r q m)

-- f has the rectangles of e, each t lanes before
abbrev pub AreTurnedBy : Rect8 → Rect8 → ℕ → Type 0
AreTurnedBy e f t = (k : ℕ) → k < 8 → lane f k ≡ lane e ((k + t) % 8)

pub turned-more : (e f g : Rect8) (t : ℕ) → AreTurnedBy e f t → AreTurnedBy f g 1 → AreTurnedBy e g (t + 1)
turned-more e f g t h i k lt =
    let n : ((k + 1) % 8 + t) % 8 ≡ (k + (t + 1)) % 8 = omega arith in
    i k lt ∙ h ((k + 1) % 8) (omega arith) ∙ ap (lane e) n

-- bit p of a number, in a row of bits that tell which lanes meet those t + 1 further on
row-pairs : (e f : Rect8) (t w m n p : ℕ) → w ≤ 8 → AreTurnedBy e f (t + 1)
    → ((k : ℕ) → k < w → (bit_at m k ≡ 1) ↔ AreMeeting (lane e k) (lane f k))
    → 8 * t ≤ p → p < 8 * t + w → bit_at n p ≡ bit_at m (p - 8 * t)
    → (bit_at n p ≡ 1) ↔ AreMeeting (lane e (p % 8)) (lane e ((p % 8 + p / 8 + 1) % 8))
row-pairs e f t w m n p le turned marks low high same =
    let k = p - 8 * t in
    let i : k ≡ p % 8 = omega (arith, le, low, high) in
    let s : k + (t + 1) ≡ p % 8 + p / 8 + 1 = omega (arith, le, low, high) in
    let l : k < w = omega (arith, low, high) in
    let j : lane f k ≡ lane e ((p % 8 + p / 8 + 1) % 8) = turned k (omega (arith, l, le)) ∙ ap (λ v. lane e (v % 8)) s in
    let P : ℕ → Type 0 = λ v. (v ≡ 1) ↔ AreMeeting (lane e (p % 8)) (lane e ((p % 8 + p / 8 + 1) % 8)) in
    let Q : Rect → Type 0 = λ q. (bit_at m k ≡ 1) ↔ AreMeeting q (lane e ((p % 8 + p / 8 + 1) % 8)) in
    let R : Rect → Type 0 = λ q. (bit_at m k ≡ 1) ↔ AreMeeting (lane e k) q in
    subst P (sym same) (subst Q (ap (lane e) i) (subst R j (marks k l)))

low-bits : (d k : ℕ) → k < 4 → bit_at (d % 16) k ≡ bit_at d k
low-bits d zero h = omega arith
low-bits d (suc zero) h = omega arith
low-bits d (suc (suc zero)) h = omega arith
low-bits d (suc (suc (suc zero))) h = omega arith
low-bits d (suc (suc (suc (suc k)))) h = absurd (omega (arith, h))

pub below-or : (k n : ℕ) → (k < n) ⊎ (n ≤ k)
below-or k zero = inr (omega arith)
below-or zero (suc n) = inl (omega arith)
below-or (suc k) (suc n) = ⊎_elim (λ h. inl (omega (arith, h))) (λ h. inr (omega (arith, h))) (below-or k n)

-- which lanes meet the same lane of others
abbrev pub AreMarksOf : Rect8 → Rect8 → ℕ → Type 0
AreMarksOf e f m = (k : ℕ) → k < 8 → (bit_at m k ≡ 1) ↔ AreMeeting (lane e k) (lane f k)

pub pairs-at : (e f g h i : Rect8) (a b c d n : ℕ) → a < 256 → b < 256 → c < 256 → n ≡ ((d % 16 * 256 + c) * 256 + b) * 256 + a
    → AreTurnedBy e f 1 → AreTurnedBy f g 1 → AreTurnedBy g h 1 → AreTurnedBy h i 1
    → AreMarksOf e f a → AreMarksOf e g b → AreMarksOf e h c → AreMarksOf e i d
    → (p : ℕ) → p < 28 → (bit_at n p ≡ 1) ↔ AreMeeting (lane e (p % 8)) (lane e ((p % 8 + p / 8 + 1) % 8))
pairs-at e f g h i a b c d n la lb lc same tf tg th ti ma mb mc md p lt = in_first (below-or p 8)
  where
    two : AreTurnedBy e g 2
    two = turned-more e f g 1 tf tg

    three : AreTurnedBy e h 3
    three = turned-more e g h 2 two th

    four : AreTurnedBy e i 4
    four = turned-more e h i 3 three ti

    bits : ℕ → ℕ
    bits q = bit_at (((d % 16 * 256 + c) * 256 + b) * 256 + a) q

    beyond-first : 8 ≤ p → bits p ≡ bit_at ((d % 16 * 256 + c) * 256 + b) (p - 8)
    beyond-first l = bit_at_cat_high ((d % 16 * 256 + c) * 256 + b) 8 a p la l

    beyond-second : 16 ≤ p → bits p ≡ bit_at (d % 16 * 256 + c) (p - 16)
    beyond-second l =
        let m : p - 8 - 8 ≡ p - 16 = omega arith in
        beyond-first (omega (arith, l)) ∙ bit_at_cat_high (d % 16 * 256 + c) 8 b (p - 8) lb (omega (arith, l)) ∙ ap (bit_at (d % 16 * 256 + c)) m

    beyond-third : 24 ≤ p → bits p ≡ bit_at (d % 16) (p - 24)
    beyond-third l =
        let m : p - 16 - 8 ≡ p - 24 = omega arith in
        beyond-second (omega (arith, l)) ∙ bit_at_cat_high (d % 16) 8 c (p - 16) lc (omega (arith, l)) ∙ ap (bit_at (d % 16)) m

    here : bit_at n p ≡ bits p
    here = ap (λ v. bit_at v p) same

    Claim : Type 0
    Claim = (bit_at n p ≡ 1) ↔ AreMeeting (lane e (p % 8)) (lane e ((p % 8 + p / 8 + 1) % 8))

    in_third : (p < 24) ⊎ (24 ≤ p) → 16 ≤ p → Claim
    in_third (inl l) m = row-pairs e h 2 8 c n p (omega arith) three mc m l (here ∙ beyond-second m ∙ bit_at_cat_low (d % 16) 8 c (p - 16) (omega (arith, l, m)))
    in_third (inr l) m = row-pairs e i 3 4 d n p (omega arith) four (λ k v. md k (omega (arith, v))) l lt (here ∙ beyond-third l ∙ low-bits d (p - 24) (omega (arith, l, lt)))

    in_second : (p < 16) ⊎ (16 ≤ p) → 8 ≤ p → Claim
    in_second (inl l) m = row-pairs e g 1 8 b n p (omega arith) two mb m l (here ∙ beyond-first m ∙ bit_at_cat_low (d % 16 * 256 + c) 8 b (p - 8) (omega (arith, l, m)))
    in_second (inr l) m = in_third (below-or p 24) l

    in_first : (p < 8) ⊎ (8 ≤ p) → Claim
    in_first (inl l) =
        let z : p ≡ p - 8 * 0 = omega arith in
        row-pairs e f 0 8 a n p (omega arith) tf ma (omega arith) l (here ∙ bit_at_cat_low ((d % 16 * 256 + c) * 256 + b) 8 a p l ∙ ap (bit_at a) z)
    in_first (inr l) = in_second (below-or p 16) l
