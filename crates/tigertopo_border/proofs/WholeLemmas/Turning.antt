-- Numbers of turns about a node: cross products and inner products of directions, and of what is mixed of two.
use Rattle.std.proofs.Common.{◌≡◌, ⊎_elim, ℤ, pos, ◌+ℤ◌, ◌-ℤ◌, ◌*ℤ◌, ◌<ℤ◌, ◌≤ℤ◌, sym, ap₂, ◌∙◌, arith}
use Rattle.std.proofs.lemmas.Int.{ints, by_lt_z}
use Rattle.tl_geom.specs.declared.direction.Direction.{Direction}
use Rattle.tl_geom.specs.Plane.{cross}
use Rattle.tl_geom.proofs.Polynomials.{num, ◌⊕◌, ◌⊖◌, ◌⊗◌, same}
use Rattle.tl_geom.proofs.Signs.{mono_lt, square, square_above, sign}

-- (dx, dy) is k of l parts of (x, y)
module _ (dx dy x y k l : ℤ) (ex : l *ℤ dx ≡ k *ℤ x) (ey : l *ℤ dy ≡ k *ℤ y) where
  pub cross_from : (ax ay : ℤ) → k *ℤ cross ax ay x y ≡ l *ℤ cross ax ay dx dy
  cross_from ax ay =
      same (num k ⊗ (num ax ⊗ num y ⊖ num ay ⊗ num x)) (num ax ⊗ (num k ⊗ num y) ⊖ num ay ⊗ (num k ⊗ num x)) (omega arith)
      ∙ ap₂ (λ p q. ax *ℤ q -ℤ ay *ℤ p) (sym ex) (sym ey)
      ∙ same (num ax ⊗ (num l ⊗ num dy) ⊖ num ay ⊗ (num l ⊗ num dx)) (num l ⊗ (num ax ⊗ num dy ⊖ num ay ⊗ num dx)) (omega arith)

  pub cross_to : (bx by : ℤ) → k *ℤ cross x y bx by ≡ l *ℤ cross dx dy bx by
  cross_to bx by =
      same (num k ⊗ (num x ⊗ num by ⊖ num y ⊗ num bx)) ((num k ⊗ num x) ⊗ num by ⊖ (num k ⊗ num y) ⊗ num bx) (omega arith)
      ∙ ap₂ (λ p q. p *ℤ by -ℤ q *ℤ bx) (sym ex) (sym ey)
      ∙ same ((num l ⊗ num dx) ⊗ num by ⊖ (num l ⊗ num dy) ⊗ num bx) (num l ⊗ (num dx ⊗ num by ⊖ num dy ⊗ num bx)) (omega arith)

  pub dot_from : (ax ay : ℤ) → k *ℤ (ax *ℤ x +ℤ ay *ℤ y) ≡ l *ℤ (ax *ℤ dx +ℤ ay *ℤ dy)
  dot_from ax ay =
      same (num k ⊗ (num ax ⊗ num x ⊕ num ay ⊗ num y)) (num ax ⊗ (num k ⊗ num x) ⊕ num ay ⊗ (num k ⊗ num y)) (omega arith)
      ∙ ap₂ (λ p q. ax *ℤ p +ℤ ay *ℤ q) (sym ex) (sym ey)
      ∙ same (num ax ⊗ (num l ⊗ num dx) ⊕ num ay ⊗ (num l ⊗ num dy)) (num l ⊗ (num ax ⊗ num dx ⊕ num ay ⊗ num dy)) (omega arith)

pub norm_above : (d : Direction) → pos 0 <ℤ (d.x *ℤ d.x +ℤ d.y *ℤ d.y)
norm_above d =
    let p = square d.x in let q = square d.y in
    by_lt_z (pos 0) (d.x *ℤ d.x +ℤ d.y *ℤ d.y) (λ h. h)
    (λ none. absurd (d.nonzero (zero_of d.x (omega (arith, ints, p, q, none))) (zero_of d.y (omega (arith, ints, p, q, none)))))
  where
    zero_of : (z : ℤ) → (z *ℤ z) ≤ℤ pos 0 → z ≡ pos 0
    zero_of z le = ⊎_elim (λ h. absurd (let k = square_above z (λ e. omega (arith, ints, h, e)) in omega (arith, ints, k, le)))
        (⊎_elim (λ e. e) (λ h. absurd (let k = square_above z (λ e. omega (arith, ints, h, e)) in omega (arith, ints, k, le)))) (sign z)

pub mix_from : (ax ay m n x y z w : ℤ) → cross ax ay (m *ℤ x +ℤ n *ℤ z) (m *ℤ y +ℤ n *ℤ w) ≡ m *ℤ cross ax ay x y +ℤ n *ℤ cross ax ay z w
mix_from ax ay m n x y z w =
    same (num ax ⊗ (num m ⊗ num y ⊕ num n ⊗ num w) ⊖ num ay ⊗ (num m ⊗ num x ⊕ num n ⊗ num z))
    (num m ⊗ (num ax ⊗ num y ⊖ num ay ⊗ num x) ⊕ num n ⊗ (num ax ⊗ num w ⊖ num ay ⊗ num z)) (omega arith)

pub mix_to : (bx by m n x y z w : ℤ) → cross (m *ℤ x +ℤ n *ℤ z) (m *ℤ y +ℤ n *ℤ w) bx by ≡ m *ℤ cross x y bx by +ℤ n *ℤ cross z w bx by
mix_to bx by m n x y z w =
    same ((num m ⊗ num x ⊕ num n ⊗ num z) ⊗ num by ⊖ (num m ⊗ num y ⊕ num n ⊗ num w) ⊗ num bx)
    (num m ⊗ (num x ⊗ num by ⊖ num y ⊗ num bx) ⊕ num n ⊗ (num z ⊗ num by ⊖ num w ⊗ num bx)) (omega arith)

pub beside_from : (ax ay M : ℤ) → cross ax ay (M *ℤ ax +ℤ (pos 0 -ℤ ay)) (M *ℤ ay +ℤ ax) ≡ ax *ℤ ax +ℤ ay *ℤ ay
beside_from ax ay M =
    let a = num ax in let b = num ay in
    same (a ⊗ (num M ⊗ b ⊕ a) ⊖ b ⊗ (num M ⊗ a ⊕ (num (pos 0) ⊖ b))) (a ⊗ a ⊕ b ⊗ b) (omega arith)

pub beside_to : (bx by M : ℤ) → cross (M *ℤ bx +ℤ by) (M *ℤ by +ℤ (pos 0 -ℤ bx)) bx by ≡ bx *ℤ bx +ℤ by *ℤ by
beside_to bx by M =
    let a = num bx in let b = num by in
    same ((num M ⊗ a ⊕ b) ⊗ b ⊖ (num M ⊗ b ⊕ (num (pos 0) ⊖ a)) ⊗ a) (a ⊗ a ⊕ b ⊗ b) (omega arith)

pub first_to : (ax ay bx by M : ℤ) → cross (M *ℤ ax +ℤ (pos 0 -ℤ ay)) (M *ℤ ay +ℤ ax) bx by ≡ M *ℤ cross ax ay bx by -ℤ (ax *ℤ bx +ℤ ay *ℤ by)
first_to ax ay bx by M =
    let a = num ax in let b = num ay in let c = num bx in let d = num by in
    same ((num M ⊗ a ⊕ (num (pos 0) ⊖ b)) ⊗ d ⊖ (num M ⊗ b ⊕ a) ⊗ c) (num M ⊗ (a ⊗ d ⊖ b ⊗ c) ⊖ (a ⊗ c ⊕ b ⊗ d)) (omega arith)

pub from_last : (ax ay bx by M : ℤ) → cross ax ay (M *ℤ bx +ℤ by) (M *ℤ by +ℤ (pos 0 -ℤ bx)) ≡ M *ℤ cross ax ay bx by -ℤ (ax *ℤ bx +ℤ ay *ℤ by)
from_last ax ay bx by M =
    let a = num ax in let b = num ay in let c = num bx in let d = num by in
    same (a ⊗ (num M ⊗ d ⊕ (num (pos 0) ⊖ c)) ⊖ b ⊗ (num M ⊗ c ⊕ d)) (num M ⊗ (a ⊗ d ⊖ b ⊗ c) ⊖ (a ⊗ c ⊕ b ⊗ d)) (omega arith)

pub left_turn : (ax ay : ℤ) → cross ax ay (pos 0 -ℤ ay) ax ≡ ax *ℤ ax +ℤ ay *ℤ ay
left_turn ax ay = let a = num ax in let b = num ay in same (a ⊗ a ⊖ b ⊗ (num (pos 0) ⊖ b)) (a ⊗ a ⊕ b ⊗ b) (omega arith)

pub right_turn : (bx by : ℤ) → cross bx by by (pos 0 -ℤ bx) ≡ pos 0 -ℤ (bx *ℤ bx +ℤ by *ℤ by)
right_turn bx by = let a = num bx in let b = num by in same (a ⊗ (num (pos 0) ⊖ a) ⊖ b ⊗ b) (num (pos 0) ⊖ (a ⊗ a ⊕ b ⊗ b)) (omega arith)

pub back_from : (ax ay : ℤ) → cross ax ay (pos 0 -ℤ ax) (pos 0 -ℤ ay) ≡ pos 0
back_from ax ay = let a = num ax in let b = num ay in same (a ⊗ (num (pos 0) ⊖ b) ⊖ b ⊗ (num (pos 0) ⊖ a)) (num (pos 0)) (omega arith)

pub back_to : (ax ay bx by : ℤ) → cross (pos 0 -ℤ ax) (pos 0 -ℤ ay) bx by ≡ pos 0 -ℤ cross ax ay bx by
back_to ax ay bx by =
    let a = num ax in let b = num ay in let c = num bx in let d = num by in let zero = num (pos 0) in
    same ((zero ⊖ a) ⊗ d ⊖ (zero ⊖ b) ⊗ c) (zero ⊖ (a ⊗ d ⊖ b ⊗ c)) (omega arith)

pub back_dot : (ax ay : ℤ) → ax *ℤ (pos 0 -ℤ ax) +ℤ ay *ℤ (pos 0 -ℤ ay) ≡ pos 0 -ℤ (ax *ℤ ax +ℤ ay *ℤ ay)
back_dot ax ay = let a = num ax in let b = num ay in let zero = num (pos 0) in same (a ⊗ (zero ⊖ a) ⊕ b ⊗ (zero ⊖ b)) (zero ⊖ (a ⊗ a ⊕ b ⊗ b)) (omega arith)

pub no_cross : (ax ay x y : ℤ) → x ≡ pos 0 → y ≡ pos 0 → cross ax ay x y ≡ pos 0
no_cross ax ay x y e f = ap₂ (λ p q. cross ax ay p q) e f ∙ same (num ax ⊗ num (pos 0) ⊖ num ay ⊗ num (pos 0)) (num (pos 0)) (omega arith)

pub no_cross_to : (bx by x y : ℤ) → x ≡ pos 0 → y ≡ pos 0 → cross x y bx by ≡ pos 0
no_cross_to bx by x y e f = ap₂ (λ p q. cross p q bx by) e f ∙ same (num (pos 0) ⊗ num by ⊖ num (pos 0) ⊗ num bx) (num (pos 0)) (omega arith)

pub no_dot : (ax ay x y : ℤ) → x ≡ pos 0 → y ≡ pos 0 → ax *ℤ x +ℤ ay *ℤ y ≡ pos 0
no_dot ax ay x y e f = ap₂ (λ p q. ax *ℤ p +ℤ ay *ℤ q) e f ∙ same (num ax ⊗ num (pos 0) ⊕ num ay ⊗ num (pos 0)) (num (pos 0)) (omega arith)

-- ---- mixed places

pub mixed_x : (m n v x z k l : ℤ) → (m *ℤ k +ℤ n *ℤ l) *ℤ v +ℤ (m *ℤ x +ℤ n *ℤ z) ≡ m *ℤ (k *ℤ v +ℤ x) +ℤ n *ℤ (l *ℤ v +ℤ z)
mixed_x m n v x z k l =
    same ((num m ⊗ num k ⊕ num n ⊗ num l) ⊗ num v ⊕ (num m ⊗ num x ⊕ num n ⊗ num z)) (num m ⊗ (num k ⊗ num v ⊕ num x) ⊕ num n ⊗ (num l ⊗ num v ⊕ num z)) (omega arith)

pub mixed_close : (e m n x z k l : ℤ) → pos 0 <ℤ m → pos 0 <ℤ n → (e *ℤ x) <ℤ k → (e *ℤ z) <ℤ l → (e *ℤ (m *ℤ x +ℤ n *ℤ z)) <ℤ (m *ℤ k +ℤ n *ℤ l)
mixed_close e m n x z k l some some' less less' =
    let a = mono_lt m (e *ℤ x) k some less in let b = mono_lt n (e *ℤ z) l some' less' in
    let f : e *ℤ (m *ℤ x +ℤ n *ℤ z) ≡ m *ℤ (e *ℤ x) +ℤ n *ℤ (e *ℤ z) =
    same (num e ⊗ (num m ⊗ num x ⊕ num n ⊗ num z)) (num m ⊗ (num e ⊗ num x) ⊕ num n ⊗ (num e ⊗ num z)) (omega arith) in
    omega (arith, ints, a, b, f)

pub mixed_close_below : (e m n x z k l : ℤ) → pos 0 <ℤ m → pos 0 <ℤ n → (e *ℤ (pos 0 -ℤ x)) <ℤ k → (e *ℤ (pos 0 -ℤ z)) <ℤ l → (e *ℤ (pos 0 -ℤ (m *ℤ x +ℤ n *ℤ z))) <ℤ (m *ℤ k +ℤ n *ℤ l)
mixed_close_below e m n x z k l some some' less less' =
    let h = mixed_close e m n (pos 0 -ℤ x) (pos 0 -ℤ z) k l some some' less less' in
    let f : e *ℤ (pos 0 -ℤ (m *ℤ x +ℤ n *ℤ z)) ≡ e *ℤ (m *ℤ (pos 0 -ℤ x) +ℤ n *ℤ (pos 0 -ℤ z)) =
    same (num e ⊗ (num (pos 0) ⊖ (num m ⊗ num x ⊕ num n ⊗ num z))) (num e ⊗ (num m ⊗ (num (pos 0) ⊖ num x) ⊕ num n ⊗ (num (pos 0) ⊖ num z))) (omega arith) in
    omega (arith, ints, h, f)
