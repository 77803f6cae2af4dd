-- The ray of a point in the point's own numbers.
use Rattle.std.proofs.Common.{◌≡◌, ◌⊎◌, inl, inr, ⊎_elim, ℤ, pos, ◌*ℤ◌, ◌<ℤ◌, ◌≤ℤ◌, arith}
use Rattle.std.proofs.lemmas.Int.{ints}
use Rattle.tl_geom.specs.declared.point.Point.{Point}
use Rattle.tl_geom.specs.declared.rational.Rational.{Rational}
use Rattle.tl_geom.specs.Plane.{whole}
use Rattle.tl_geom.specs.Ray.{IsParted, IsEast}
use Rattle.tl_geom.proofs.Polynomials.{num, ◌⊗◌, same}

times_one : (z : ℤ) → z *ℤ pos 1 ≡ z
times_one z = same (num z ⊗ num (pos 1)) (num z) (omega arith)

one_times : (z : ℤ) → pos 1 *ℤ z ≡ z
one_times z = same (num (pos 1) ⊗ num z) (num z) (omega arith)

pub exchanged : (x y : ℤ) → x *ℤ y ≡ y *ℤ x
exchanged x y = same (num x ⊗ num y) (num y ⊗ num x) (omega arith)

-- the latitude of q parts the points
abbrev pub ArePartedBy : (q a b : Point) → Type 0
ArePartedBy q a b = ((a.y ≤ℤ q.y) × (q.y <ℤ b.y)) ⊎ ((b.y ≤ℤ q.y) × (q.y <ℤ a.y))

pub parted_by : (q a b : Point) → IsParted (whole q) a b → ArePartedBy q a b
parted_by q a b =
    let p = one_times a.y in let r = one_times b.y in
    ⊎_elim
    (λ k. let low = k.0 in let high = k.1 in inl (omega (arith, ints, p, low), omega (arith, ints, r, high)))
    (λ k. let low = k.0 in let high = k.1 in inr (omega (arith, ints, r, low), omega (arith, ints, p, high)))

pub is_parted : (q a b : Point) → ArePartedBy q a b → IsParted (whole q) a b
is_parted q a b =
    let p = one_times a.y in let r = one_times b.y in
    ⊎_elim
    (λ k. let low = k.0 in let high = k.1 in inl (omega (arith, ints, p, low), omega (arith, ints, r, high)))
    (λ k. let low = k.0 in let high = k.1 in inr (omega (arith, ints, r, low), omega (arith, ints, p, high)))

-- r is strictly east of q
pub east_height : (q : Point) (r : Rational) → IsEast (whole q) r → r.y ≡ r.d *ℤ q.y
east_height q r east =
    let y = times_one r.y in let d = exchanged r.d q.y in
    let e : r.y *ℤ pos 1 ≡ q.y *ℤ r.d = east.level in
    omega (arith, ints, y, d, e)

pub east_past : (q : Point) (r : Rational) → IsEast (whole q) r → (r.d *ℤ q.x) <ℤ r.x
east_past q r east =
    let x = times_one r.x in let d = exchanged r.d q.x in
    let h : (q.x *ℤ r.d) <ℤ (r.x *ℤ pos 1) = east.past in
    omega (arith, ints, x, d, h)

pub is_east : (q : Point) (r : Rational) → r.y ≡ r.d *ℤ q.y → (r.d *ℤ q.x) <ℤ r.x → IsEast (whole q) r
is_east q r height past =
    let y = times_one r.y in let x = times_one r.x in let dy = exchanged r.d q.y in let dx = exchanged r.d q.x in
    record { level = omega (arith, ints, y, dy, height); past = omega (arith, ints, x, dx, past) }
