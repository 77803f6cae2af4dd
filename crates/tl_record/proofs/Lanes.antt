-- Numbers of one width that stand side by side in one word, the first in its lowest bits.
use Rattle.std.proofs.Common.{◌≡◌, ℕ, ◌+◌, ◌-◌, ◌*◌, ◌/◌, ◌%◌, ◌^◌, ◌<◌, ◌≤◌, List, [], ◌∷◌, map, sym, ap, subst, ◌∙◌, arith}
use Rattle.std.proofs.lemmas.Nat.{and_block, and_mask, and_le_r, mod-mul-add, div-mul-add, div-add-mod', mul-le, mul-add-lt, pow_pos, pow-add}
use lib.Bits.{bit_and}

-- the word that holds these numbers, each in a lane of so many bits
abbrev pub lanes : ℕ → List ℕ → ℕ
lanes bits [] = 0
lanes bits (x ∷ xs) = lanes bits xs * 2 ^ bits + x

-- what holds of each number
abbrev pub Each : (ℕ → Type 0) → List ℕ → Type 0
Each P [] = Unit {0}
Each P (x ∷ xs) = P x × Each P xs

-- numbers in pairs
abbrev pub flat : List (ℕ × ℕ) → List ℕ
flat [] = []
flat (p ∷ ps) = p.0 ∷ p.1 ∷ flat ps

abbrev pub AtMost : ℕ → List (ℕ × ℕ) → Type 0
AtMost most [] = Unit {0}
AtMost most (p ∷ ps) = (p.0 ≤ most) × (p.1 ≤ most) × AtMost most ps

-- the ones of each first lane of a pair
abbrev pub first_ones : ℕ → List (ℕ × ℕ) → ℕ
first_ones bits ps = lanes (bits + bits) (map (λ _. 2 ^ bits - 1) ps)

first_lane : (bits most : ℕ) (ps : List (ℕ × ℕ)) → most < 2 ^ bits → AtMost most ps → lanes bits (flat ps) % 2 ^ bits ≤ most
first_lane bits most [] below all = omega (arith, pow_pos bits)
first_lane bits most (p ∷ ps) below all = rw (mod-mul-add (lanes bits (p.1 ∷ flat ps)) (2 ^ bits) p.0 (omega (arith, all.0))) all.0

merge_once : (q r w a b c : ℕ) → (((q * w + r) * w + b) * w + a) * c + ((q * w + r) * w + b) ≡ ((q * w + r) * c + q) * (w * w) + ((c * b + r) * w + (c * a + b))
merge_once q r w a b c = omega arith

-- two lanes of a pair become one that holds c times the first and the second
merge_pair : (bits c most : ℕ) (p : ℕ × ℕ) (rest mask : ℕ) → c * most + most < 2 ^ bits → p.0 ≤ most → p.1 ≤ most → rest % 2 ^ bits ≤ most
    → bit_and (((rest * 2 ^ bits + p.1) * 2 ^ bits + p.0) * c + ((rest * 2 ^ bits + p.1) * 2 ^ bits + p.0) / 2 ^ bits) (mask * 2 ^ (bits + bits) + (2 ^ bits - 1))
    ≡ bit_and (rest * c + rest / 2 ^ bits) mask * 2 ^ (bits + bits) + (c * p.0 + p.1)
merge_pair bits c most p rest mask below first second next =
    let w = 2 ^ bits in
    let positive : 0 < w = pow_pos bits in
    let square : 2 ^ (bits + bits) ≡ w * w = pow-add 2 bits bits in
    let all : rest ≡ rest / w * w + rest % w = sym (div-add-mod' rest w) in
    let times_first : c * p.0 ≤ c * most = mul-le c p.0 c most (omega arith) first in
    let times_second : c * p.1 ≤ c * most = mul-le c p.1 c most (omega arith) second in
    let low : c * p.0 + p.1 < w = omega arith in
    let high : c * p.1 + rest % w < w = omega arith in
    let small : (c * p.1 + rest % w) * w + (c * p.0 + p.1) < 2 ^ (bits + bits) = rw square (mul-add-lt (c * p.1 + rest % w) w (c * p.0 + p.1) w high low) in
    let ones : w - 1 < 2 ^ (bits + bits) = rw square (let h = mul-le 1 w w w (omega arith) (omega arith) in omega arith) in
    let shifted : ((rest * w + p.1) * w + p.0) / w ≡ rest * w + p.1 = div-mul-add (rest * w + p.1) w p.0 (omega arith) in
    let sum : ((rest * w + p.1) * w + p.0) * c + (rest * w + p.1) ≡ (rest * c + rest / w) * 2 ^ (bits + bits) + ((c * p.1 + rest % w) * w + (c * p.0 + p.1)) =
    rw square (subst (λ r. ((r * w + p.1) * w + p.0) * c + (r * w + p.1) ≡ (r * c + rest / w) * (w * w) + ((c * p.1 + rest % w) * w + (c * p.0 + p.1))) (sym all) (merge_once (rest / w) (rest % w) w p.0 p.1 c)) in
    let apart = and_block (bits + bits) (rest * c + rest / w) mask ((c * p.1 + rest % w) * w + (c * p.0 + p.1)) (w - 1) small ones in
    let last : bit_and ((c * p.1 + rest % w) * w + (c * p.0 + p.1)) (w - 1) ≡ c * p.0 + p.1 = and_mask ((c * p.1 + rest % w) * w + (c * p.0 + p.1)) bits ∙ mod-mul-add (c * p.1 + rest % w) w (c * p.0 + p.1) low in
    rw (shifted, sum) (apart ∙ ap (λ n. bit_and (rest * c + rest / w) mask * 2 ^ (bits + bits) + n) last)

nothing_in : (n : ℕ) → bit_and n 0 ≡ 0
nothing_in n = let h = and_le_r n 0 in omega arith

-- all pairs at once
pub merged : (bits c most : ℕ) (ps : List (ℕ × ℕ)) → c * most + most < 2 ^ bits → AtMost most ps
    → bit_and (lanes bits (flat ps) * c + lanes bits (flat ps) / 2 ^ bits) (first_ones bits ps) ≡ lanes (bits + bits) (map (λ p. c * p.0 + p.1) ps)
merged bits c most [] below all = nothing_in _
merged bits c most (p ∷ ps) below all =
    let most_below : most < 2 ^ bits = omega arith in
    merge_pair bits c most p (lanes bits (flat ps)) (first_ones bits ps) below all.0 all.1 (first_lane bits most ps most_below all.2)
    ∙ ap (λ n. n * 2 ^ (bits + bits) + (c * p.0 + p.1)) (merged bits c most ps below all.2)
