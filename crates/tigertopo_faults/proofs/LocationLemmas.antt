-- Places that are printed in degrees, and words that spell them.
use Rattle.std.proofs.Common.{◌≡◌, ℕ, zero, suc, ◌+◌, ◌-◌, ◌*◌, ◌/◌, ◌%◌, ◌^◌, ◌<◌, ◌≤◌, ◌==◌, ◌&&◌, true, false, neg_ℤ, List, [], ◌++◌, length, codes, refl, sym, ap, subst, ◌∙◌, arith, inr, if◌then◌else◌}
use Rattle.std.specs.Prelude.{ℤ, pos, negsuc, ◌*ℤ◌, ◌<ℤ◌, decimal, unsigned_abs, int_lt, nat_lt, Bool}
use Rattle.std.specs.Char.{digit_value}
use Rattle.std.specs.Str.Parse.{AllDigits, digits_value, digits_value_after}
use Rattle.std.proofs.lemmas.Str.{digit_value_digit}
use Rattle.std.proofs.lemmas.Nat.{div-mul-add}
use Rattle.std.proofs.lemmas.Int.{ints, unsigned_abs-mul}
use Rattle.std.proofs.lemmas.Bool.Decides.{nat_tests}
use Rattle.std.proofs.Math.Nat.{pow-suc, mul-mod_left, le-mul_of_pos_right}
use Rattle.std.proofs.Math.Arith.{mod-mul}
use Rattle.tl_geom.specs.declared.point.Point.{Point}
use Rattle.tl_geom.specs.declared.rational.Rational.{Rational}
use Rattle.tl_record.specs.Limits.{greatest_longitude, greatest_latitude}
use Rattle.tigertopo_words.specs.Points.{AreDecimals, AreDegreesOf, AreDegrees, Spells}
use Rattle.tigertopo_faults.specs.Places.Degrees.{degrees_text, digits_below, nearest, sign_of, units_of, decimals_of, location_text}
use Rattle.tl_geom.proofs.Dividing.{some_size}
use Rattle.tigertopo_faults.proofs.DegreeLemmas.{some_ten}

-- so many digits are digits
digit : (place n : ℕ) → digit_value (48 + n / 10 ^ place % 10) ≡ n / 10 ^ place % 10
digit place n =
    let less : n / 10 ^ place % 10 < 10 = omega arith in
    let is = digit_value_digit (48 + n / 10 ^ place % 10) (omega (arith, less), omega (arith, less)) in omega (arith, is)

are_digits : (places n : ℕ) → AllDigits 10 (digits_below places n)
are_digits zero n = tt
are_digits (suc place) n = (let is = digit place n in omega (arith, is), are_digits place n)

count_digits : (places n : ℕ) → length (digits_below places n) ≡ places
count_digits zero n = refl
count_digits (suc place) n = let less = count_digits place n in omega (arith, less)

-- and their number is what is left of the number below that place
digits_after : (places before n : ℕ) → digits_value_after 10 before (digits_below places n) ≡ before * 10 ^ places + n % 10 ^ places
digits_after zero before n = let none : n % 1 ≡ 0 = omega arith in omega (arith, none)
digits_after (suc place) before n =
    let rest = digits_after place (before * 10 + digit_value (48 + n / 10 ^ place % 10)) n in
    let is = digit place n in
    let some = some_ten place in
    let split = mod-mul n {m = 10} {c = 10 ^ place} (omega arith) (omega (arith, some)) in
    let power = pow-suc 10 place in
    let product : 10 * 10 ^ place ≡ 10 ^ suc place = omega (arith, power) in
    let cut : n % 10 ^ suc place ≡ (n / 10 ^ place % 10) * 10 ^ place + n % 10 ^ place = sym (ap (λ (m : ℕ). n % m) product) ∙ split in
    let worth : (before * 10 + digit_value (48 + n / 10 ^ place % 10)) * 10 ^ place ≡ (before * 10 + n / 10 ^ place % 10) * 10 ^ place = ap (λ (d : ℕ). (before * 10 + d) * 10 ^ place) is in
    let whole : before * 10 ^ suc place ≡ before * (10 * 10 ^ place) = ap (λ (m : ℕ). before * m) (sym product) in
    omega (arith, rest, cut, worth, whole)

digits_are : (places n : ℕ) → digits_value 10 (digits_below places n) ≡ n % 10 ^ places
digits_are places n = let is = digits_after places 0 n in omega (arith, is)

-- the six decimals of a number of millionths
six : (n : ℕ) → AreDecimals (digits_below 6 n) (n % 1000000)
six n =
    let count = count_digits 6 n in
    record {
      digits = are_digits 6 n;
      some = omega (arith, count);
      most = omega (arith, count);
      worth = let is = digits_are 6 n in let scale : 10 ^ (6 - length (digits_below 6 n)) ≡ 1 = ap (λ (k : ℕ). 10 ^ (6 - k)) count in rw scale (omega (arith, is));
    }

spelt : (n : ℕ) → AreDegreesOf (decimal (n / 1000000) ++ codes "." ++ digits_below 6 n) n
spelt n = record { whole = n / 1000000; decimals = digits_below 6 n; part = n % 1000000; is = refl; behind = six n; sum = omega arith }

-- a whole number of millionths over any denominator
units_whole : (n d : ℕ) → 0 < d → nearest (n * d * 10 ^ (6 - 6)) d ≡ n
units_whole n d some =
    let is : 2 * (n * d * 1) + d ≡ n * (2 * d) + d = omega arith in
    ap (λ (k : ℕ). k / (2 * d)) is ∙ div-mul-add n (2 * d) d (omega arith)

-- a coordinate's sign
not_below : (n : ℕ) → int_lt (pos n) (pos 0) ≡ false
not_below n = grind (arith, nat_tests)

from_zero : (n : ℕ) (d x : ℤ) → x ≡ pos n *ℤ d → pos 0 <ℤ d → int_lt x (pos 0) ≡ false
from_zero n (pos d) x is above = ap (λ (z : ℤ). int_lt z (pos 0)) is ∙ not_below (n * d)
from_zero n (negsuc d) x is above = absurd (omega (arith, ints, above))

negated : (k : ℕ) → 0 < k → int_lt (neg_ℤ (pos k)) (pos 0) ≡ true
negated zero some = absurd (omega arith)
negated (suc k) some = refl

below_zero : (n : ℕ) (d x : ℤ) → x ≡ negsuc n *ℤ d → pos 0 <ℤ d → int_lt x (pos 0) ≡ true
below_zero n (pos d) x is above =
    let some : 0 < d = omega (arith, ints, above) in
    let more = le-mul_of_pos_right {m = d} (suc n) some in
    ap (λ (z : ℤ). int_lt z (pos 0)) is ∙ negated (suc n * d) (omega (arith, more))
below_zero n (negsuc d) x is above = absurd (omega (arith, ints, above))

-- a sign, and a number of millionths in degrees
abbrev signed : List ℕ → ℕ → List ℕ
signed sign units = sign ++ decimal (units / 1000000) ++ codes "." ++ digits_below 6 units

printed : (x d : ℤ) → degrees_text 6 x d ≡ signed (sign_of x (units_of 6 x d)) (units_of 6 x d)
unfolding degrees_text
printed x d = refl

units_are : (z d x : ℤ) → x ≡ z *ℤ d → pos 0 <ℤ d → units_of 6 x d ≡ unsigned_abs z
units_are z d x is above =
    let size = ap unsigned_abs is ∙ unsigned_abs-mul z d in
    ap (λ (k : ℕ). nearest (k * 10 ^ (6 - 6)) (unsigned_abs d)) size ∙ units_whole (unsigned_abs z) (unsigned_abs d) (some_size d above)

-- a coordinate of a whole number of millionths is printed as it is spelt
coordinate : (z d x : ℤ) → x ≡ z *ℤ d → pos 0 <ℤ d → AreDegrees (degrees_text 6 x d) z
coordinate (pos n) d x is above =
    let units = units_are (pos n) d x is above in
    let sign = ap (λ (b : Bool). if b && nat_lt 0 n then codes "-" else []) (from_zero n d x is above) in
    subst (λ (text : List ℕ). AreDegreesOf text n) (sym (printed x d ∙ ap (λ (u : ℕ). signed (sign_of x u) u) units ∙ ap (λ (s : List ℕ). signed s n) sign)) (spelt n)
coordinate (negsuc n) d x is above =
    let units = units_are (negsuc n) d x is above in
    let some : nat_lt 0 (suc n) ≡ true = grind (arith, nat_tests) in
    let sign = ap (λ (b : Bool). if b && nat_lt 0 (suc n) then codes "-" else []) (below_zero n d x is above) ∙ ap (λ (b : Bool). if true && b then codes "-" else []) some in
    (decimal (suc n / 1000000) ++ codes "." ++ digits_below 6 (suc n), printed x d ∙ ap (λ (u : ℕ). signed (sign_of x u) u) units ∙ ap (λ (s : List ℕ). signed s (suc n)) sign, spelt (suc n))

-- nothing is left of it
nothing_left : (z d x : ℤ) → x ≡ z *ℤ d → (unsigned_abs x % unsigned_abs d == 0) ≡ true
nothing_left z d x is =
    let size = ap unsigned_abs is ∙ unsigned_abs-mul z d in
    let none : unsigned_abs x % unsigned_abs d ≡ 0 = ap (λ (k : ℕ). k % unsigned_abs d) size ∙ mul-mod_left (unsigned_abs z) (unsigned_abs d) in
    ap (λ (k : ℕ). k == 0) none

whole_has_six : (at : Rational) (p : Point) → at.x ≡ p.x *ℤ at.d → at.y ≡ p.y *ℤ at.d → decimals_of at ≡ 6
whole_has_six at p x y =
    ap (λ (b : Bool). if b && (unsigned_abs at.y % unsigned_abs at.d == 0) then 6 else 10) (nothing_left p.x at.d at.x x)
    ∙ ap (λ (b : Bool). if b then 6 else 10) (nothing_left p.y at.d at.y y)

-- a place at whole millionths is printed as it is given
pub given : (at : Rational) (p : Point) → at.x ≡ p.x *ℤ at.d → at.y ≡ p.y *ℤ at.d → unsigned_abs p.x ≤ greatest_longitude → unsigned_abs p.y ≤ greatest_latitude
    → Spells (codes "@" ++ location_text at) p
unfolding location_text
given at p x y east north = inr (record {
  east = degrees_text 6 at.x at.d;
  north = degrees_text 6 at.y at.d;
  is = ap (λ (k : ℕ). codes "@" ++ (degrees_text k at.x at.d ++ codes "," ++ degrees_text k at.y at.d)) (whole_has_six at p x y);
  x = coordinate p.x at.d at.x x at.above_zero;
  y = coordinate p.y at.d at.y y at.above_zero;
  longitude = east;
  latitude = north;
})
