-- Numbers that fit their types are the same behind a cast, a call or a step of arithmetic.
use Rattle.std.proofs.Common.{◌≡◌, ℕ, true, false, ◌<◌, ◌≤◌, ◌^◌, ◌*◌, ℤ, pos, ◌+ℤ◌, ◌-ℤ◌, ◌*ℤ◌, ◌<ℤ◌, ◌≤ℤ◌, ◌↔◌, IsTrue, unsigned_abs, ap, sym, subst, ◌∙◌, lit<, arith}
use Rattle.std.proofs.lemmas.Int.{ints, to_z-of_z, unsigned_abs-mul, fits_signed_from_abs, fits_signed_mul}
use Rattle.std.proofs.lemmas.Nat.{mul-lt}
use Rattle.std.proofs.Math.Facts.{sfits_widen}
use Rattle.std.proofs.lemmas.Bool.Decides.{nat_tests}
use lib.Dec.{eqb}
use lib.Signed.{lt_z}
use mir.Syntax.{Width, w32, w64, w128}
use mir.Val.{SFits, to_z, of_z}
use Rattle.tl_geom.specs.declared.point.Point.{Point}
use Rattle.tl_geom.specs.declared.segment.Segment.{Segment}
use Rattle.tl_geom.specs.Plane.{step_cross}
use Rattle.tl_geom.specs.Keeping.Lines.{AreInLine}

-- what holds of a number holds of it behind its bits
pub kept : (w : Width) (z : ℤ) → SFits w z → (P : ℤ → Type 0) → P z → P (to_z w (of_z w z))
kept w z f P h = subst P (sym (to_z-of_z w z f)) h

fits64 : (z : ℤ) → unsigned_abs z < 2 ^ 32 → SFits w64 z
fits64 z h = fits_signed_from_abs w64 z (omega (arith, h))

fits128 : (z : ℤ) → unsigned_abs z < 2 ^ 97 → SFits w128 z
fits128 z h = fits_signed_from_abs w128 z (omega (arith, h))

pub bound64 : (z : ℤ) → unsigned_abs z < 2 ^ 32 → unsigned_abs (to_z w64 (of_z w64 z)) < 2 ^ 32
bound64 z h = kept w64 z (fits64 z h) (λ v. unsigned_abs v < 2 ^ 32) h

pub bound128 : (n : ℕ) (z : ℤ) → n ≤ 2 ^ 97 → unsigned_abs z < n → unsigned_abs (to_z w128 (of_z w128 z)) < n
bound128 n z k h = kept w128 z (fits128 z (omega arith)) (λ v. unsigned_abs v < n) h

-- ---- a number that was made wider

widened : (a r : ℤ) → unsigned_abs a < 2 ^ 32 → r ≡ to_z w64 (of_z w64 a) → to_z w128 (of_z w128 r) ≡ a
widened a r h e = ap (λ z. to_z w128 (of_z w128 z)) (e ∙ to_z-of_z w64 a (fits64 a h)) ∙ to_z-of_z w128 a (fits128 a (omega (arith, h)))

-- ---- products

product_bound : (a b : ℤ) (m n : ℕ) → unsigned_abs a < m → unsigned_abs b < n → unsigned_abs (a *ℤ b) < m * n
product_bound a b m n h k = subst (λ l. l < m * n) (sym (unsigned_abs-mul a b)) (mul-lt (unsigned_abs a) (unsigned_abs b) m n h k)

product_is : (x y a b : ℤ) → x ≡ a → y ≡ b → x *ℤ y ≡ a *ℤ b
product_is x y a b e f = cc

pub product_fits : (a b r t : ℤ) → unsigned_abs a < 2 ^ 32 → unsigned_abs b < 2 ^ 32 → r ≡ to_z w64 (of_z w64 a) → t ≡ to_z w64 (of_z w64 b) →
    SFits w128 (to_z w128 (of_z w128 r) *ℤ to_z w128 (of_z w128 t))
product_fits a b r t h k e f =
    subst (λ z. SFits w128 z) (sym (product_is (to_z w128 (of_z w128 r)) (to_z w128 (of_z w128 t)) a b (widened a r h e) (widened b t k f)))
    (fits_signed_from_abs w128 (a *ℤ b) (omega (arith, product_bound a b (2 ^ 32) (2 ^ 32) h k)))

pub product_value : (a b r t : ℤ) → unsigned_abs a < 2 ^ 32 → unsigned_abs b < 2 ^ 32 → r ≡ to_z w64 (of_z w64 a) → t ≡ to_z w64 (of_z w64 b) →
    to_z w128 (of_z w128 (to_z w128 (of_z w128 r) *ℤ to_z w128 (of_z w128 t))) ≡ a *ℤ b
product_value a b r t h k e f =
    to_z-of_z w128 (to_z w128 (of_z w128 r) *ℤ to_z w128 (of_z w128 t)) (product_fits a b r t h k e f)
    ∙ product_is (to_z w128 (of_z w128 r)) (to_z w128 (of_z w128 t)) a b (widened a r h e) (widened b t k f)

pub product_below : (a b r t : ℤ) → unsigned_abs a < 2 ^ 32 → unsigned_abs b < 2 ^ 32 → r ≡ to_z w64 (of_z w64 a) → t ≡ to_z w64 (of_z w64 b) →
    unsigned_abs (to_z w128 (of_z w128 (to_z w128 (of_z w128 r) *ℤ to_z w128 (of_z w128 t)))) < 2 ^ 64
product_below a b r t h k e f =
    subst (λ z. unsigned_abs z < 2 ^ 64) (sym (product_value a b r t h k e f)) (product_bound a b (2 ^ 32) (2 ^ 32) h k)

-- ---- a cross product

pub step_found : (a b u : ℤ) → SFits w32 a → SFits w32 b → u ≡ to_z w32 (of_z w32 b) -ℤ to_z w32 (of_z w32 a) → u ≡ b -ℤ a
step_found a b u f g e = e ∙ ap (λ z. z -ℤ to_z w32 (of_z w32 a)) (to_z-of_z w32 b g) ∙ ap (λ z. b -ℤ z) (to_z-of_z w32 a f)

pub product_found : (a b m : ℤ) → unsigned_abs a < 2 ^ 32 → unsigned_abs b < 2 ^ 32 → m ≡ to_z w64 (of_z w64 a) *ℤ to_z w64 (of_z w64 b) → m ≡ a *ℤ b
product_found a b m f g e = e ∙ product_is (to_z w64 (of_z w64 a)) (to_z w64 (of_z w64 b)) a b (to_z-of_z w64 a (fits64 a f)) (to_z-of_z w64 b (fits64 b g))

pub cross_found : (a b p q : Point) (ux uy vx vy m n r : ℤ) → ux ≡ b.x -ℤ a.x → uy ≡ b.y -ℤ a.y → vx ≡ q.x -ℤ p.x → vy ≡ q.y -ℤ p.y →
    m ≡ ux *ℤ vy → n ≡ uy *ℤ vx → unsigned_abs m < 2 ^ 64 → unsigned_abs n < 2 ^ 64 → unsigned_abs r < 2 ^ 65 →
    r ≡ to_z w128 (of_z w128 m) -ℤ to_z w128 (of_z w128 n) → to_z w128 (of_z w128 r) ≡ step_cross a b p q
cross_found a b p q ux uy vx vy m n r e e' f f' g g' hm hn hr i =
    to_z-of_z w128 r (fits128 r (omega (arith, hr))) ∙ i
    ∙ joined (to_z w128 (of_z w128 m)) (to_z w128 (of_z w128 n)) m n ux uy vx vy (b.x -ℤ a.x) (b.y -ℤ a.y) (q.x -ℤ p.x) (q.y -ℤ p.y)
    (to_z-of_z w128 m (fits128 m (omega (arith, hm)))) (to_z-of_z w128 n (fits128 n (omega (arith, hn)))) g g' e e' f f'
  where
    joined : (k l m n ux uy vx vy bx by qx qy : ℤ) → k ≡ m → l ≡ n → m ≡ ux *ℤ vy → n ≡ uy *ℤ vx → ux ≡ bx → uy ≡ by → vx ≡ qx → vy ≡ qy → k -ℤ l ≡ bx *ℤ qy -ℤ by *ℤ qx
    joined k l m n ux uy vx vy bx by qx qy s t g g' e e' f f' = cc

-- ---- which sign a cross product has

test_passed : (a b : ℤ) → lt_z a b ≡ true → a <ℤ b
test_passed a b e = omega (arith, ints)

tests_failed : (z : ℤ) → lt_z (pos 0) z ≡ false → lt_z z (pos 0) ≡ false → z ≡ pos 0
tests_failed z e f = omega (arith, ints)

pub read_back : (z : ℤ) → unsigned_abs z < 2 ^ 65 → to_z w128 (of_z w128 z) ≡ z
read_back z h = to_z-of_z w128 z (fits128 z (omega (arith, h)))

pub above_zero : (z : ℤ) → unsigned_abs z < 2 ^ 65 → lt_z (pos 0) (to_z w128 (of_z w128 z)) ≡ true → pos 0 <ℤ z
above_zero z h e = subst (λ v. pos 0 <ℤ v) (read_back z h) (test_passed (pos 0) (to_z w128 (of_z w128 z)) e)

pub below_zero : (z : ℤ) → unsigned_abs z < 2 ^ 65 → lt_z (to_z w128 (of_z w128 z)) (pos 0) ≡ true → z <ℤ pos 0
below_zero z h e = subst (λ v. v <ℤ pos 0) (read_back z h) (test_passed (to_z w128 (of_z w128 z)) (pos 0) e)

pub neither : (z : ℤ) → unsigned_abs z < 2 ^ 65 → lt_z (pos 0) (to_z w128 (of_z w128 z)) ≡ false → lt_z (to_z w128 (of_z w128 z)) (pos 0) ≡ false → z ≡ pos 0
neither z h e f = sym (read_back z h) ∙ tests_failed (to_z w128 (of_z w128 z)) e f

test_missed : (a b : ℤ) → lt_z a b ≡ false → b ≤ℤ a
test_missed a b e = omega (arith, ints)

pub is_negative : (z : ℤ) → SFits w128 z → lt_z (to_z w128 (of_z w128 z)) (pos 0) ≡ true → z <ℤ pos 0
is_negative z f e = subst (λ v. v <ℤ pos 0) (to_z-of_z w128 z f) (test_passed (to_z w128 (of_z w128 z)) (pos 0) e)

pub not_negative : (z : ℤ) → SFits w128 z → lt_z (to_z w128 (of_z w128 z)) (pos 0) ≡ false → pos 0 ≤ℤ z
not_negative z f e = subst (λ v. pos 0 ≤ℤ v) (to_z-of_z w128 z f) (test_missed (to_z w128 (of_z w128 z)) (pos 0) e)

pub is_lower : (a b : ℤ) → SFits w128 a → SFits w128 b → lt_z (to_z w128 (of_z w128 a)) (to_z w128 (of_z w128 b)) ≡ true → a <ℤ b
is_lower a b f g e =
    subst (λ v. v <ℤ b) (to_z-of_z w128 a f) (subst (λ v. to_z w128 (of_z w128 a) <ℤ v) (to_z-of_z w128 b g) (test_passed (to_z w128 (of_z w128 a)) (to_z w128 (of_z w128 b)) e))

pub not_lower : (a b : ℤ) → SFits w128 a → SFits w128 b → lt_z (to_z w128 (of_z w128 a)) (to_z w128 (of_z w128 b)) ≡ false → b ≤ℤ a
not_lower a b f g e =
    subst (λ v. b ≤ℤ v) (to_z-of_z w128 a f) (subst (λ v. v ≤ℤ to_z w128 (of_z w128 a)) (to_z-of_z w128 b g) (test_missed (to_z w128 (of_z w128 a)) (to_z w128 (of_z w128 b)) e))

-- ---- whether a cross product is 0

pub is_zero : (z : ℤ) → unsigned_abs z < 2 ^ 65 → of_z w128 z ≡ 0 → z ≡ pos 0
is_zero z h e = sym (read_back z h) ∙ ap (to_z w128) e

zero_test : (n : ℕ) → IsTrue (eqb n 0) ↔ (n ≡ 0)
zero_test n = (λ h. grind (arith, nat_tests, h), λ h. grind (arith, nat_tests, h))

pub read_cross : (a b p q a' b' p' q' : Point) (d : ℤ) → a ≡ a' → b ≡ b' → p ≡ p' → q ≡ q' → d ≡ step_cross a b p q → d ≡ step_cross a' b' p' q'
read_cross a b p q a' b' p' q' d e f g h i = i ∙ ap (λ a. step_cross a b p q) e ∙ ap (λ b. step_cross a' b p q) f ∙ ap (λ p. step_cross a' b' p q) g ∙ ap (λ q. step_cross a' b' p' q) h

pub in_line_test : (s t : Segment) (d m : ℤ) → unsigned_abs d < 2 ^ 65 → unsigned_abs m < 2 ^ 65 → d ≡ step_cross s.a s.b t.a t.b → m ≡ step_cross s.a s.b t.a s.a →
    of_z w128 d ≡ 0 → IsTrue (eqb (of_z w128 m) 0) ↔ AreInLine s t
in_line_test s t d m hd hm e f z = (
  λ h. record { parallel = sym e ∙ is_zero d hd z; on_line = sym f ∙ is_zero m hm ((zero_test (of_z w128 m)).0 h) },
  λ k. (zero_test (of_z w128 m)).1 (ap (of_z w128) (f ∙ k.on_line)),
)

pub not_parallel : (s t : Segment) (d : ℤ) → d ≡ step_cross s.a s.b t.a t.b → (of_z w128 d ≡ 0 → ⊥) → IsTrue (eqb (of_z w128 d) 0) ↔ AreInLine s t
not_parallel s t d e n =
    (λ h. absurd (n ((zero_test (of_z w128 d)).0 h)), λ k. (zero_test (of_z w128 d)).1 (ap (of_z w128) (e ∙ k.parallel)))

-- ---- one coordinate of a place

pub share_bound : (parts along : ℤ) → unsigned_abs parts < 2 ^ 65 → pos 0 ≤ℤ along → along ≤ℤ parts → unsigned_abs along < 2 ^ 65
share_bound parts along h low high = omega (arith, ints)

place_is : (p a n b r p' a' n' b' k A B : ℤ) → p' ≡ p → a' ≡ a → n' ≡ n → b' ≡ b → k ≡ r → r ≡ p' *ℤ a' +ℤ n' *ℤ (b' -ℤ a') → a ≡ A → b ≡ B → k ≡ p *ℤ A +ℤ n *ℤ (B -ℤ A)
place_is p a n b r p' a' n' b' k A B e f g h i j m o = cc

pub place_found : (p n a b r A B : ℤ) → SFits w128 p → SFits w128 n → SFits w32 a → SFits w32 b → SFits w128 r → a ≡ A → b ≡ B →
    r ≡ to_z w128 (of_z w128 p) *ℤ to_z w32 (of_z w32 a) +ℤ to_z w128 (of_z w128 n) *ℤ (to_z w32 (of_z w32 b) -ℤ to_z w32 (of_z w32 a)) →
    to_z w128 (of_z w128 r) ≡ p *ℤ A +ℤ n *ℤ (B -ℤ A)
place_found p n a b r A B fp fn fa fb fr e f g =
    place_is p a n b r _ _ _ _ _ A B (to_z-of_z w128 p fp) (to_z-of_z w32 a fa) (to_z-of_z w128 n fn) (to_z-of_z w32 b fb) (to_z-of_z w128 r fr) g e f

-- the same, in the steps that the code takes
narrow : (a r : ℤ) → SFits w32 a → r ≡ to_z w32 (of_z w32 a) → to_z w128 (of_z w128 r) ≡ a
narrow a r f e = ap (λ z. to_z w128 (of_z w128 z)) (e ∙ to_z-of_z w32 a f) ∙ to_z-of_z w128 a (sfits_widen tt f)

pub narrow_bound : (a r : ℤ) → SFits w32 a → r ≡ to_z w32 (of_z w32 a) → unsigned_abs (to_z w128 (of_z w128 r)) < 2 ^ 32
narrow_bound a r f e =
    let small : unsigned_abs a < 2 ^ 32 = omega (arith, ints, f.sfits) in
    subst (λ z. unsigned_abs z < 2 ^ 32) (sym (narrow a r f e)) small

pub wide_bound : (d r : ℤ) → unsigned_abs d < 2 ^ 32 → r ≡ to_z w64 (of_z w64 d) → unsigned_abs (to_z w128 (of_z w128 r)) < 2 ^ 32
wide_bound d r h e = subst (λ z. unsigned_abs z < 2 ^ 32) (sym (widened d r h e)) h

pub coordinate_found : (p n a b f d g k l r : ℤ) → SFits w128 p → SFits w128 n → SFits w32 a → SFits w32 b → SFits w128 r →
    f ≡ to_z w32 (of_z w32 a) → d ≡ to_z w32 (of_z w32 b) -ℤ to_z w32 (of_z w32 a) → unsigned_abs d < 2 ^ 32 → g ≡ to_z w64 (of_z w64 d) →
    k ≡ to_z w128 (of_z w128 p) *ℤ to_z w128 (of_z w128 f) → unsigned_abs k < 2 ^ 97 → l ≡ to_z w128 (of_z w128 n) *ℤ to_z w128 (of_z w128 g) → unsigned_abs l < 2 ^ 97 →
    r ≡ to_z w128 (of_z w128 k) +ℤ to_z w128 (of_z w128 l) → to_z w128 (of_z w128 r) ≡ p *ℤ a +ℤ n *ℤ (b -ℤ a)
coordinate_found p n a b f d g k l r fp fn fa fb fr ef ed hd eg ek hk el hl er =
    joined (to_z w128 (of_z w128 r)) r (to_z w128 (of_z w128 k)) k (to_z w128 (of_z w128 l)) l (to_z w128 (of_z w128 p)) p (to_z w128 (of_z w128 n)) n (to_z w128 (of_z w128 f)) a (to_z w128 (of_z w128 g)) (b -ℤ a)
    (to_z-of_z w128 r fr) er (to_z-of_z w128 k (fits128 k hk)) (to_z-of_z w128 l (fits128 l hl)) ek el (to_z-of_z w128 p fp) (to_z-of_z w128 n fn) (narrow a f fa ef)
    (widened d g hd eg ∙ step_found a b d fa fb ed)
  where
    joined : (R r K k L l P p N n F a G e : ℤ) → R ≡ r → r ≡ K +ℤ L → K ≡ k → L ≡ l → k ≡ P *ℤ F → l ≡ N *ℤ G → P ≡ p → N ≡ n → F ≡ a → G ≡ e → R ≡ p *ℤ a +ℤ n *ℤ e
    joined R r K k L l P p N n F a G e h1 h2 h3 h4 h5 h6 h7 h8 h9 h10 = cc

-- ---- a product of any two numbers of 64 bits

whole : (a r : ℤ) → SFits w64 a → r ≡ to_z w64 (of_z w64 a) → to_z w128 (of_z w128 r) ≡ a
whole a r f e = ap (λ z. to_z w128 (of_z w128 z)) (e ∙ to_z-of_z w64 a f) ∙ to_z-of_z w128 a (sfits_widen tt f)

at_most_half : (a : ℤ) → SFits w64 a → unsigned_abs a ≤ 2 ^ 63
at_most_half a f = omega (arith, ints, f.sfits)

pub whole_product_fits : (a b r t : ℤ) → SFits w64 a → SFits w64 b → r ≡ to_z w64 (of_z w64 a) → t ≡ to_z w64 (of_z w64 b) → SFits w128 (to_z w128 (of_z w128 r) *ℤ to_z w128 (of_z w128 t))
whole_product_fits a b r t f g e h =
    subst (λ z. SFits w128 z) (sym (product_is (to_z w128 (of_z w128 r)) (to_z w128 (of_z w128 t)) a b (whole a r f e) (whole b t g h)))
    (fits_signed_mul w128 a b (2 ^ 63) (2 ^ 63) (at_most_half a f) (at_most_half b g) (lit< tt))

pub whole_product : (a b r t : ℤ) → SFits w64 a → SFits w64 b → r ≡ to_z w64 (of_z w64 a) → t ≡ to_z w64 (of_z w64 b) →
    to_z w128 (of_z w128 (to_z w128 (of_z w128 r) *ℤ to_z w128 (of_z w128 t))) ≡ a *ℤ b
whole_product a b r t f g e h =
    to_z-of_z w128 (to_z w128 (of_z w128 r) *ℤ to_z w128 (of_z w128 t)) (whole_product_fits a b r t f g e h)
    ∙ product_is (to_z w128 (of_z w128 r)) (to_z w128 (of_z w128 t)) a b (whole a r f e) (whole b t g h)

sum_is : (x y a b : ℤ) → x ≡ a → y ≡ b → x +ℤ y ≡ a +ℤ b
sum_is x y a b e f = cc

-- ---- a sum of two numbers of 32 bits

pub narrow_sum_fits : (a b r t : ℤ) → SFits w32 a → SFits w32 b → r ≡ to_z w32 (of_z w32 a) → t ≡ to_z w32 (of_z w32 b) → SFits w128 (to_z w128 (of_z w128 r) +ℤ to_z w128 (of_z w128 t))
narrow_sum_fits a b r t f g e h =
    subst (λ z. SFits w128 z) (sym (sum_is (to_z w128 (of_z w128 r)) (to_z w128 (of_z w128 t)) a b (narrow a r f e) (narrow b t g h)))
    (fits_signed_from_abs w128 (a +ℤ b) (omega (arith, ints, f.sfits, g.sfits)))

pub narrow_sum : (a b r t : ℤ) → SFits w32 a → SFits w32 b → r ≡ to_z w32 (of_z w32 a) → t ≡ to_z w32 (of_z w32 b) →
    to_z w128 (of_z w128 (to_z w128 (of_z w128 r) +ℤ to_z w128 (of_z w128 t))) ≡ a +ℤ b
narrow_sum a b r t f g e h =
    to_z-of_z w128 (to_z w128 (of_z w128 r) +ℤ to_z w128 (of_z w128 t)) (narrow_sum_fits a b r t f g e h)
    ∙ sum_is (to_z w128 (of_z w128 r)) (to_z w128 (of_z w128 t)) a b (narrow a r f e) (narrow b t g h)
