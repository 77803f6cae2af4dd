-- Marks of the first eight of a list, and what stands behind some of them.
use Rattle.std.proofs.Common.{◌≡◌, ℕ, zero, suc, ◌+◌, ◌/◌, ◌<◌, ◌≤◌, ◌⊎◌, inl, inr, ⊎_elim, ◌↔◌, List, [], ◌∷◌, length, get_or, drop, refl, sym, ap, ◌∙◌, arith}
use Rattle.std.specs.Int.{bit_at}
use Rattle.tl_geom.specs.declared.rect.Rect.{Rect}
use Rattle.tl_geom.specs.declared.rect8.Rect8.{Rect8}
use Rattle.tl_geom.specs.EightRectangles.{lane}
use Rattle.tl_geom.specs.Rectangle.{AreMeeting}
use Rattle.tl_tree.specs.Keeping.Marking.{Includes, MeetsAt, AreBoundsOf}
use Rattle.std.proofs.lemmas.Nat.Bits.{bit_at-suc}
use Rattle.tl_geom.proofs.Turns.{below-or as by_test}

with_top : (a k : ℕ) → k < 7 → bit_at (a + 128) k ≡ bit_at a k
with_top a zero h = omega arith
with_top a (suc zero) h = omega arith
with_top a (suc (suc zero)) h = omega arith
with_top a (suc (suc (suc zero))) h = omega arith
with_top a (suc (suc (suc (suc zero)))) h = omega arith
with_top a (suc (suc (suc (suc (suc zero))))) h = omega arith
with_top a (suc (suc (suc (suc (suc (suc zero)))))) h = omega arith
with_top a (suc (suc (suc (suc (suc (suc (suc k))))))) h = absurd (omega (arith, h))

-- the marks without the first one
pub moved : (m k : ℕ) → k < 7 → bit_at (m / 2 + 128) k ≡ bit_at m (k + 1)
moved m k h =
    let e : k + 1 ≡ suc k = omega arith in
    with_top (m / 2) k h ∙ sym (bit_at-suc m k) ∙ ap (bit_at m) (sym e)

-- marks that include the numbers of which P is true include, without the first, those of which it is true one further
pub includes-later : (P : ℕ → Type 0) (m later : ℕ) → ((k : ℕ) → k < 7 → bit_at later k ≡ bit_at m (k + 1)) → bit_at later 7 ≡ 1 → Includes m P → Includes later (λ k. P (k + 1))
includes-later P m later step last h k lt p = by_last (by_test k 7)
  where
    by_last : (k < 7) ⊎ (7 ≤ k) → bit_at later k ≡ 1
    by_last (inl l) = step k l ∙ h (k + 1) (omega (arith, l)) p
    by_last (inr l) = let e : k ≡ 7 = omega (arith, l, lt) in ap (bit_at later) e ∙ last

-- the same of numbers that are true for another reason
pub includes-same : (P Q : ℕ → Type 0) (m : ℕ) → ((k : ℕ) → k < 8 → Q k → P k) → Includes m P → Includes m Q
includes-same P Q m s h k lt q = h k lt (s k lt q)

-- ---- the bounds of the first eight of a list

-- the lanes that meet a rectangle are the items whose bounds do
pub includes-meets : (b : ℕ → Rect) (q : Rect) (xs : List ℕ) (e : Rect8) (r : Rect) (m : ℕ) → AreBoundsOf b xs e → r ≡ q → ((k : ℕ) → k < 8 → (bit_at m k ≡ 1) ↔ AreMeeting (lane e k) r) → Includes m (MeetsAt b q xs)
includes-meets b q xs e r m lanes same bits k lt p = (bits k lt).1 (rw (lanes k lt p.within, same) p.meets)

pub at-drop : (xs : List ℕ) (c k : ℕ) → get_or (drop c xs) k 0 ≡ get_or xs (k + c) 0
at-drop xs zero k = let e : k ≡ k + 0 = omega arith in ap (λ i. get_or xs i 0) e
at-drop [] (suc c) k = refl
at-drop (x ∷ xs) (suc c) k = let e : suc (k + c) ≡ k + suc c = omega arith in at-drop xs c k ∙ ap (λ i. get_or (x ∷ xs) i 0) e

pub length-behind : (xs : List ℕ) (c k : ℕ) → k < length (drop c xs) → k + c < length xs
length-behind xs zero k h = omega (arith, h)
length-behind [] (suc c) k h = absurd (omega (arith, h))
length-behind (x ∷ xs) (suc c) k h = omega (arith, length-behind xs c k h)
