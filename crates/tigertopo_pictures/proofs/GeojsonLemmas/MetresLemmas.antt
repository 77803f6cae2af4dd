-- Divisions that are taken apart.
use Rattle.std.proofs.Common.{◌≡◌, ℕ, ◌+◌, ◌*◌, ◌/◌, ◌%◌, ◌<◌, sym, ap, ◌∙◌, arith}
use Rattle.std.proofs.Math.Nat.{add-mul, mul_right_comm, mul-add-div_right}
use Rattle.std.proofs.lemmas.Nat.{div-add-mod'}

-- a product is divided part by part
pub taken_apart : (s d h t : ℕ) → 0 < t → s / t * d + (s % t * d + h) / t ≡ (s * d + h) / t
taken_apart s d h t some =
    let whole : s / t * t * d + s % t * d ≡ s * d = sym (add-mul (s / t * t) (s % t) d) ∙ ap (λ n. n * d) (div-add-mod' s t) in
    let moved : s / t * t * d ≡ s / t * d * t = mul_right_comm (s / t) t d in
    let sum : s / t * d * t + (s % t * d + h) ≡ s * d + h = omega (arith, whole, moved) in
    sym (mul-add-div_right some (s / t * d) (s % t * d + h)) ∙ ap (λ n. n / t) sum
