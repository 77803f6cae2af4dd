-- The ends of segments by height, and turns to them.
use Rattle.std.proofs.Common.{◌≡◌, ◌⊎◌, inl, inr, ⊎_elim, Bool, true, false, T, ℤ, pos, ◌-ℤ◌, ◌*ℤ◌, ◌<ℤ◌, ◌≤ℤ◌, if◌then◌else◌, refl, sym, ap, subst, arith}
use Rattle.std.specs.Prelude.{int_lt}
use Rattle.std.proofs.lemmas.Int.{ints, by_lt_z}
use Rattle.tl_geom.specs.declared.point.Point.{Point}
use Rattle.tl_geom.specs.declared.segment.Segment.{Segment}
use Rattle.tl_geom.proofs.Polynomials.{num, ◌⊗◌, same}
use Rattle.tl_geom.proofs.Signs.{mono, sign}
use Rattle.tl_geom.proofs.Places.{point_same}
use Rattle.tl_check_planar.specs.ByHeight.Heights.{height, AreNear, low_end, high_end}
use Rattle.tl_check_planar.proofs.ByHeight.Order.{rise}

pub lt_of : (x y : ℤ) → int_lt x y ≡ true → x <ℤ y
lt_of x y e = record { lt = subst T (sym e) tt }

pub le_of : (x y : ℤ) → int_lt x y ≡ false → y ≤ℤ x
le_of x y e = by_lt_z x y (λ less. absurd (subst T e less.lt)) (λ le. le)

-- ---- which of two points is higher

module _ (K : ℤ) (p q : Point) (near : AreNear K p q) where
  pub above_zero : pos 0 <ℤ K
  above_zero = let w = near.west in let e = near.east in omega (arith, ints, w, e)

  times_one : K *ℤ pos 1 ≡ K
  times_one = same (num K ⊗ num (pos 1)) (num K) (omega arith)

  -- the northern one
  pub higher : p.y <ℤ q.y → height K p <ℤ height K q
  higher north =
      let step : (K *ℤ pos 1) ≤ℤ (K *ℤ (q.y -ℤ p.y)) = let h = above_zero in mono K (pos 1) (q.y -ℤ p.y) (omega (arith, ints, h)) (omega (arith, ints, north)) in
      let e = near.east in
      omega (arith, ints, step, times_one, e, rise K p q)

  -- of two of one latitude the western one
  pub higher_west : p.y ≡ q.y → q.x <ℤ p.x → height K p <ℤ height K q
  higher_west level west =
      let same_y : K *ℤ p.y ≡ K *ℤ q.y = ap (λ y. K *ℤ y) level in
      omega (arith, ints, west, same_y)

pub near_back : (K : ℤ) (p q : Point) → AreNear K p q → AreNear K q p
near_back K p q near = record { west = near.east; east = near.west }

-- points that differ have different heights
pub one_higher : (K : ℤ) (p q : Point) → AreNear K p q → ¬ (p ≡ q) → (height K p <ℤ height K q) ⊎ (height K q <ℤ height K p)
one_higher K p q near differ =
    ⊎_elim (λ south. inl (higher K p q near (omega (arith, ints, south))))
    (λ rest. ⊎_elim
    (λ level.
    let one : p.y ≡ q.y = omega (arith, ints, level) in
    ⊎_elim (λ west. inr (higher_west K q p (near_back K p q near) (sym one) (omega (arith, ints, west))))
    (λ more. ⊎_elim (λ here. absurd (differ (point_same p q (omega (arith, ints, here)) one))) (λ east. inl (higher_west K p q near one (omega (arith, ints, east)))) more)
    (sign (p.x -ℤ q.x)))
    (λ north. inr (higher K q p (near_back K p q near) (omega (arith, ints, north)))) rest)
    (sign (p.y -ℤ q.y))

-- ---- the ends of a segment

-- low and high are the ends of the segment, by rising height
pub record AreEndsOf (K : ℤ) (s : Segment) (low high : Point) : Type 0 where
  pub are : ((low ≡ s.a) × (high ≡ s.b)) ⊎ ((low ≡ s.b) × (high ≡ s.a))
  pub rising : height K low <ℤ height K high

pub ends_of : (K : ℤ) (s : Segment) → AreNear K s.a s.b → AreEndsOf K s (low_end K s) (high_end K s)
ends_of K s near = go (int_lt (height K s.a) (height K s.b)) refl
  where
    go : (t : Bool) → int_lt (height K s.a) (height K s.b) ≡ t → AreEndsOf K s (if t then s.a else s.b) (if t then s.b else s.a)
    go true e = record { are = inl (refl, refl); rising = lt_of (height K s.a) (height K s.b) e }
    go false e = record {
      are = inr (refl, refl);
      rising =
          ⊎_elim (λ up. absurd (let le = le_of (height K s.a) (height K s.b) e in omega (arith, ints, le, up))) (λ down. down)
          (one_higher K s.a s.b near s.different);
    }
