-- A bound of the coordinates of all points, and lines that rise little enough.
use Rattle.std.proofs.Common.{◌≡◌, ℕ, zero, suc, ◌+◌, ◌≤◌, ℤ, pos, negsuc, ◌+ℤ◌, ◌-ℤ◌, ◌*ℤ◌, ◌<ℤ◌, ◌≤ℤ◌, Some, List, [], ◌∷◌, refl, subst, arith}
use Rattle.std.specs.Prelude.{slice_get}
use Rattle.std.proofs.lemmas.Int.{ints}
use Rattle.tl_geom.specs.declared.point.Point.{Point}
use Rattle.tl_geom.specs.declared.rational.Rational.{Rational}
use Rattle.tl_geom.specs.declared.segment.Segment.{Segment}
use Rattle.tl_geom.proofs.Polynomials.{num, ◌⊖◌, ◌⊗◌, same}
use Rattle.tl_geom.proofs.Signs.{mono, product_at_least}
use Rattle.tl_map_county.specs.TheMap.{MapChain}
use Rattle.tl_check_planar.specs.Keeping.Apart.{one_found}
use Rattle.tl_check_planar.specs.ByHeight.Heights.{AreNear}
use Rattle.tl_check_planar.specs.ByHeight.Neighbours.{IsNumbered}
use Rattle.tl_check_faces.proofs.Steep.{IsNearTo}

-- neither coordinate is further from 0 than the bound
pub record IsBounded (n : ℕ) (p : Point) : Type 0 where
  pub west : (pos 0 -ℤ pos n) ≤ℤ p.x
  pub east : p.x ≤ℤ pos n
  pub south : (pos 0 -ℤ pos n) ≤ℤ p.y
  pub north : p.y ≤ℤ pos n

-- so it is of each point of each chain
abbrev pub AreBounded : ℕ → List MapChain → Type 0
AreBounded n chains = (c k : ℕ) (chain : MapChain) (p : Point) → slice_get chains c ≡ Some chain → slice_get chain.points k ≡ Some p → IsBounded n p

-- how far a number is from 0 at most
pub record IsFar (z : ℤ) : Type 0 where
  pub n : ℕ
  pub below : (pos 0 -ℤ pos n) ≤ℤ z
  pub above : z ≤ℤ pos n

pub far : (z : ℤ) → IsFar z
far (pos n) = record { n = n; below = omega (arith, ints); above = omega (arith, ints) }
far (negsuc n) = record { n = suc n; below = omega (arith, ints); above = omega (arith, ints) }

more : (n m : ℕ) (p : Point) → n ≤ m → IsBounded n p → IsBounded m p
more n m p le b =
    let w = b.west in let e = b.east in let s = b.south in let t = b.north in
    record { west = omega (arith, ints, le, w); east = omega (arith, ints, le, e); south = omega (arith, ints, le, s); north = omega (arith, ints, le, t) }

of_point : (p : Point) → (n : ℕ) × IsBounded n p
of_point p =
    let x : IsFar p.x = far p.x in let y : IsFar p.y = far p.y in
    let w = x.below in let e = x.above in let s = y.below in let t = y.above in (
      x.n + y.n,
      record { west = omega (arith, ints, w); east = omega (arith, ints, e); south = omega (arith, ints, s); north = omega (arith, ints, t) },
    )

of_points : (points : List Point) → (n : ℕ) × ((k : ℕ) (p : Point) → slice_get points k ≡ Some p → IsBounded n p)
of_points [] = (0, λ k p e. absurd (cc))
of_points (q ∷ points) =
    let one : (n : ℕ) × IsBounded n q = of_point q in
    let rest : (n : ℕ) × ((k : ℕ) (p : Point) → slice_get points k ≡ Some p → IsBounded n p) = of_points points in
    (one.0 + rest.0, both one.0 rest.0 one.1 rest.1)
  where
    both : (n m : ℕ) → IsBounded n q → ((k : ℕ) (p : Point) → slice_get points k ≡ Some p → IsBounded m p) → (k : ℕ) (p : Point) → slice_get (q ∷ points) k ≡ Some p → IsBounded (n + m) p
    both n m one rest zero p e = subst (IsBounded (n + m)) (one_found q p (Some q) refl e) (more n (n + m) q (omega arith) one)
    both n m one rest (suc k) p e = more m (n + m) p (omega arith) (rest k p e)

pub some_bound : (chains : List MapChain) → (n : ℕ) × AreBounded n chains
some_bound [] = (0, λ c k chain p e f. absurd (cc))
some_bound (x ∷ chains) =
    let one : (n : ℕ) × ((k : ℕ) (p : Point) → slice_get x.points k ≡ Some p → IsBounded n p) = of_points x.points in
    let rest : (n : ℕ) × AreBounded n chains = some_bound chains in
    (one.0 + rest.0, both one.0 rest.0 one.1 rest.1)
  where
    both : (n m : ℕ) → ((k : ℕ) (p : Point) → slice_get x.points k ≡ Some p → IsBounded n p) → AreBounded m chains → AreBounded (n + m) (x ∷ chains)
    both n m one rest zero k chain p e f =
        more n (n + m) p (omega arith) (one k p (subst (λ (z : MapChain). slice_get z.points k ≡ Some p) (one_found chain x (Some x) e refl) f))
    both n m one rest (suc c) k chain p e f = more m (n + m) p (omega arith) (rest c k chain p e f)

-- ---- lines through a rational point

-- K is above what all ends of segments differ by in longitude, from one another and from the rational point
pub record IsSteep (K : ℤ) (chains : List MapChain) (r : Rational) : Type 0 where
  pub above : pos 0 <ℤ K
  pub ends : (s : ℕ) (u : Segment) → IsNumbered chains s u → AreNear K u.a u.b
  pub first : (s : ℕ) (u : Segment) → IsNumbered chains s u → IsNearTo K r u.a
  pub last : (s : ℕ) (u : Segment) → IsNumbered chains s u → IsNearTo K r u.b

module _ (chains : List MapChain) (r : Rational) (n : ℕ) (bounded : AreBounded n chains) (x : IsFar r.x) where
  abbrev steepness : ℤ
  steepness = pos x.n +ℤ r.d *ℤ pos n +ℤ pos n +ℤ pos n +ℤ pos 1

  some_part : pos 0 ≤ℤ (r.d *ℤ pos n)
  some_part = let d : pos 0 <ℤ r.d = r.above_zero in product_at_least r.d (pos n) (omega (arith, ints, d)) (omega (arith, ints))

  near_to : (p : Point) → IsBounded n p → IsNearTo steepness r p
  near_to p b =
      let d : pos 0 <ℤ r.d = r.above_zero in
      let low : (r.d *ℤ (pos 0 -ℤ pos n)) ≤ℤ (r.d *ℤ p.x) = mono r.d (pos 0 -ℤ pos n) p.x (omega (arith, ints, d)) b.west in
      let high : (r.d *ℤ p.x) ≤ℤ (r.d *ℤ pos n) = mono r.d p.x (pos n) (omega (arith, ints, d)) b.east in
      let back : r.d *ℤ (pos 0 -ℤ pos n) ≡ pos 0 -ℤ r.d *ℤ pos n = same (num r.d ⊗ (num (pos 0) ⊖ num (pos n))) (num (pos 0) ⊖ num r.d ⊗ num (pos n)) (omega arith) in
      let below = x.below in let above = x.above in
      record { west = omega (arith, ints, low, back, above); east = omega (arith, ints, high, below) }

  pub steep : IsSteep steepness chains r
  steep = record {
    above = let part = some_part in omega (arith, ints, part);
    ends = λ s u is.
        let a : IsBounded n u.a = bounded is.c is.k is.joins.chain u.a is.joins.is is.joins.from in
        let b : IsBounded n u.b = bounded is.c (is.k + 1) is.joins.chain u.b is.joins.is is.joins.to in
        let aw = a.west in let ae = a.east in let bw = b.west in let be = b.east in let part = some_part in
        record { west = omega (arith, ints, ae, bw, part); east = omega (arith, ints, aw, be, part) };
    first = λ s u is. near_to u.a (bounded is.c is.k is.joins.chain u.a is.joins.is is.joins.from);
    last = λ s u is. near_to u.b (bounded is.c (is.k + 1) is.joins.chain u.b is.joins.is is.joins.to);
  }

pub some_steepness : (chains : List MapChain) (r : Rational) → (K : ℤ) × IsSteep K chains r
some_steepness chains r =
    let bound : (n : ℕ) × AreBounded n chains = some_bound chains in
    (steepness chains r bound.0 bound.1 (far r.x), steep chains r bound.0 bound.1 (far r.x))
