-- Where faults lie in a picture.
use Rattle.std.proofs.Common.{◌≡◌, ℕ, ◌+◌, ◌-◌, ◌*◌, ◌/◌, ◌^◌, ◌<◌, ◌≤◌, ℤ, refl, ap₂, arith}
use Rattle.std.proofs.Math.Nat.{mul-le-mul_right, div-le_of_le-mul}
use Rattle.tl_geom.specs.declared.point.Point.{Point}
use Rattle.tigertopo_pictures.specs.declared.svg.places.Mark.{Mark}
use Rattle.tigertopo_pictures.specs.Svg.Pictures.{beyond, beyond_up}

-- a part of a divisor, so many times, is no more than so many times beyond it
pub up_small : (part d weight : ℕ) → part < d → weight ≤ 322000000 → (part * (2 * weight) + (d - 1)) / d ≤ 2 ^ 30
up_small part d weight below small =
    let most : part * (2 * weight) ≤ d * (2 * weight) = mul-le-mul_right (2 * weight) (omega arith) in
    let all : (part * (2 * weight) + (d - 1)) / d ≤ 2 * weight + 1 = div-le_of_le-mul d (omega (arith, most)) in
    omega (arith, all, small)

-- the same part of the same divisor, as often
pub same_beyond : (part d weight p e w : ℕ) → part ≡ p → d ≡ e → weight ≡ w → beyond part d weight ≡ beyond p e w
same_beyond part d weight p e w one two three = rw (one, two, three) refl

pub same_beyond_up : (part d weight p e w : ℕ) → part ≡ p → d ≡ e → weight ≡ w → beyond_up part d weight ≡ beyond_up p e w
same_beyond_up part d weight p e w one two three = rw (one, two, three) refl

-- the same two places
pub same_mark : (corner : Point) (x y u v : ℤ) → x ≡ u → y ≡ v
    → ◌≡◌ {A = Mark} (record { corner = corner; at = record { x = x; y = y } }) (record { corner = corner; at = record { x = u; y = v } })
same_mark corner x y u v p q = ap₂ (λ a b. record { corner = corner; at = record { x = a; y = b } }) p q
