-- Rational points in lowest terms.
use Prim.Native.Nat.{◌∣◌}
use Rattle.std.specs.Prelude.{◌≡◌, ℕ, unsigned_abs}
use Rattle.tl_geom.specs.declared.rational.Rational.{Rational}
use Rattle.tl_geom.specs.Plane.{IsSame}

-- no number above 1 divides both numerators and the denominator
abbrev pub IsLowest : Rational → Type 0
IsLowest r = (n : ℕ) → n ∣ unsigned_abs r.x → n ∣ unsigned_abs r.y → n ∣ unsigned_abs r.d → n ≡ 1

-- r is the place q, in lowest terms
pub record IsLowestOf (q r : Rational) : Type 0 where
  pub same : IsSame r q
  pub lowest : IsLowest r
