-- The mean of two places, by weights above 0: its turns are means of theirs, and its latitude is between theirs.
use Rattle.std.proofs.Common.{◌≡◌, ℤ, pos, ◌+ℤ◌, ◌-ℤ◌, ◌*ℤ◌, ◌<ℤ◌, ◌≤ℤ◌, arith}
use Rattle.std.proofs.lemmas.Int.{ints}
use Rattle.tl_geom.specs.declared.rational.Rational.{Rational}
use Rattle.tl_geom.proofs.Polynomials.{num, ◌⊕◌, ◌⊖◌, ◌⊗◌, same}
use Rattle.tl_geom.proofs.Signs.{mono, mono_lt, product_above}

pub mean_above : (m n : ℤ) → pos 0 <ℤ m → pos 0 <ℤ n → (p q : Rational) → pos 0 <ℤ (m *ℤ p.d +ℤ n *ℤ q.d)
mean_above m n some_m some_n p q =
    let one = product_above m p.d some_m p.above_zero in
    let other = product_above n q.d some_n q.above_zero in
    omega (arith, ints, one, other)

abbrev pub mean : (m n : ℤ) → pos 0 <ℤ m → pos 0 <ℤ n → (p q : Rational) → Rational
mean m n some_m some_n p q = record {
  x = m *ℤ p.x +ℤ n *ℤ q.x;
  y = m *ℤ p.y +ℤ n *ℤ q.y;
  d = m *ℤ p.d +ℤ n *ℤ q.d;
  above_zero = mean_above m n some_m some_n p q;
}

pub mean_turn : (u v ax ay m n x y d X Y D : ℤ) →
    u *ℤ ((m *ℤ y +ℤ n *ℤ Y) -ℤ (m *ℤ d +ℤ n *ℤ D) *ℤ ay) -ℤ v *ℤ ((m *ℤ x +ℤ n *ℤ X) -ℤ (m *ℤ d +ℤ n *ℤ D) *ℤ ax) ≡
    m *ℤ (u *ℤ (y -ℤ d *ℤ ay) -ℤ v *ℤ (x -ℤ d *ℤ ax)) +ℤ n *ℤ (u *ℤ (Y -ℤ D *ℤ ay) -ℤ v *ℤ (X -ℤ D *ℤ ax))
mean_turn u v ax ay m n x y d X Y D =
    let U = num u in let V = num v in let M = num m in let N = num n in let a = num ax in let b = num ay in
    let p = num d in let q = num D in
    same (U ⊗ ((M ⊗ num y ⊕ N ⊗ num Y) ⊖ (M ⊗ p ⊕ N ⊗ q) ⊗ b) ⊖ V ⊗ ((M ⊗ num x ⊕ N ⊗ num X) ⊖ (M ⊗ p ⊕ N ⊗ q) ⊗ a))
    (M ⊗ (U ⊗ (num y ⊖ p ⊗ b) ⊖ V ⊗ (num x ⊖ p ⊗ a)) ⊕ N ⊗ (U ⊗ (num Y ⊖ q ⊗ b) ⊖ V ⊗ (num X ⊖ q ⊗ a))) (omega arith)

mean_times : (m n d D v : ℤ) → (m *ℤ d +ℤ n *ℤ D) *ℤ v ≡ m *ℤ (d *ℤ v) +ℤ n *ℤ (D *ℤ v)
mean_times m n d D v = same ((num m ⊗ num d ⊕ num n ⊗ num D) ⊗ num v) (num m ⊗ (num d ⊗ num v) ⊕ num n ⊗ (num D ⊗ num v)) (omega arith)

-- its latitude is between theirs
module _ (m n : ℤ) (some_m : pos 0 <ℤ m) (some_n : pos 0 <ℤ n) (p q : Rational) (v : ℤ) where
  abbrev middle : Rational
  middle = mean m n some_m some_n p q

  pub mean_north : (p.d *ℤ v) ≤ℤ p.y → (q.d *ℤ v) ≤ℤ q.y → (middle.d *ℤ v) ≤ℤ middle.y
  mean_north one other =
      let a : (m *ℤ (p.d *ℤ v)) ≤ℤ (m *ℤ p.y) = mono m (p.d *ℤ v) p.y (omega (arith, ints, some_m)) one in
      let b : (n *ℤ (q.d *ℤ v)) ≤ℤ (n *ℤ q.y) = mono n (q.d *ℤ v) q.y (omega (arith, ints, some_n)) other in
      let e = mean_times m n p.d q.d v in omega (arith, ints, a, b, e)

  pub mean_south : p.y ≤ℤ (p.d *ℤ v) → q.y ≤ℤ (q.d *ℤ v) → middle.y ≤ℤ (middle.d *ℤ v)
  mean_south one other =
      let a : (m *ℤ p.y) ≤ℤ (m *ℤ (p.d *ℤ v)) = mono m p.y (p.d *ℤ v) (omega (arith, ints, some_m)) one in
      let b : (n *ℤ q.y) ≤ℤ (n *ℤ (q.d *ℤ v)) = mono n q.y (q.d *ℤ v) (omega (arith, ints, some_n)) other in
      let e = mean_times m n p.d q.d v in omega (arith, ints, a, b, e)

  pub mean_past : (p.d *ℤ v) <ℤ p.y → (q.d *ℤ v) ≤ℤ q.y → (middle.d *ℤ v) <ℤ middle.y
  mean_past one other =
      let a : (m *ℤ (p.d *ℤ v)) <ℤ (m *ℤ p.y) = mono_lt m (p.d *ℤ v) p.y some_m one in
      let b : (n *ℤ (q.d *ℤ v)) ≤ℤ (n *ℤ q.y) = mono n (q.d *ℤ v) q.y (omega (arith, ints, some_n)) other in
      let e = mean_times m n p.d q.d v in omega (arith, ints, a, b, e)

  pub mean_before : p.y ≤ℤ (p.d *ℤ v) → q.y <ℤ (q.d *ℤ v) → middle.y <ℤ (middle.d *ℤ v)
  mean_before one other =
      let a : (m *ℤ p.y) ≤ℤ (m *ℤ (p.d *ℤ v)) = mono m p.y (p.d *ℤ v) (omega (arith, ints, some_m)) one in
      let b : (n *ℤ q.y) <ℤ (n *ℤ (q.d *ℤ v)) = mono_lt n q.y (q.d *ℤ v) some_n other in
      let e = mean_times m n p.d q.d v in omega (arith, ints, a, b, e)
