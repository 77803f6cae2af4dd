-- Powers of ten, and digits.
use Rattle.std.proofs.Common.{◌≡◌, ℕ, zero, suc, ◌+◌, ◌-◌, ◌*◌, ◌/◌, ◌%◌, ◌^◌, ◌≤◌, [], ◌∷◌, ◌++◌, refl, arith}
use Rattle.std.specs.Prelude.{ℤ, unsigned_abs}
use Rattle.tigertopo_faults.specs.Places.Degrees.{digits_below, nearest, units_of}

ten_more : (n k : ℕ) → 10 ^ n ≤ 10 ^ (n + k)
ten_more n zero = let same : n + 0 ≡ n = omega arith in rw same (omega arith)
ten_more n (suc k) =
    let more = ten_more n k in
    let next : n + suc k ≡ suc (n + k) = omega arith in
    rw next (omega (arith, more))

pub tens : (e n : ℕ) → e ≤ n → 10 ^ e ≤ 10 ^ n
tens e n within = let rest : n ≡ e + (n - e) = omega arith in rw rest (ten_more e (n - e))

pub some_ten : (n : ℕ) → 1 ≤ 10 ^ n
some_ten n = tens 0 n (omega arith)

-- a digit before those behind it
pub digit_next : (n left places : ℕ) → places ≡ left + 1 → digits_below places n ≡ (48 + n / 10 ^ left % 10) ∷ [] ++ digits_below left n
digit_next n left places more = let next : places ≡ suc left = omega arith in rw next refl

pub units_are : (places : ℕ) (x d : ℤ) (a b units : ℕ) → a ≡ unsigned_abs x → b ≡ unsigned_abs d → units ≡ nearest (a * 10 ^ (places - 6)) b → units ≡ units_of places x d
units_are places x d a b units one two is = rw (is, one, two) refl
