use Rattle.std.proofs.Common.{◌≡◌, ◌∙◌, ◌<◌, ◌-◌, ◌-ℤ◌, ℕ, ℤ, pos, negsuc, FitsSigned, w32, w64, to_z, of_z, to_z-of_z, zero, suc, true, List, [], ◌∷◌, length, take, drop, take_all, get_or, refl, sym, ap, arith, decimal}
use Rattle.std.proofs.lemmas.Grind.{common_steps}
use Rattle.std.specs.Bool.{◌==◌}
use Rattle.std.specs.Fmt.{signed_decimal}
use Rattle.tl_cert.proofs.NumberLemmas.{no_coordinate, not_zero}
use Rattle.tl_cert.proofs.number.coordinate_of.Goals.{then-is_empty-via-then-is_empty, then-is_empty-via-else-is_empty+then-bytes-ne45}
use Rattle.tl_cert.proofs.number.coordinate_of.Goals as goal

-- where no minus stands first, and the bytes spell no number, no coordinate is spelt
no_plain : (bytes : List ℕ) → ((n : ℕ) → n < 2147483648 → bytes ≡ decimal n → ⊥) → (get_or bytes 0 0 ≡ 45 → ⊥) → (z : ℤ) → FitsSigned w32 z → bytes ≡ signed_decimal z → ⊥
no_plain bytes none other (pos n) fits is = none n (omega (arith, fits.sfits)) is
no_plain bytes none other (negsuc n) fits is = other (ap (λ b. get_or b 0 0) is)

no_first : (bytes : List ℕ) → true ≡ (length bytes == 0) → get_or bytes 0 0 ≡ 45 → ⊥
no_first [] none minus = omega (arith, minus)
no_first (x ∷ bytes) none minus = grind (arith, none)

-- a number without a minus
plain_spelt : (bytes : List ℕ) (n : ℕ) → bytes ≡ decimal n → n < 2147483648 → (bytes ≡ signed_decimal (to_z w32 n)) × FitsSigned w32 (to_z w32 n)
plain_spelt bytes n is small =
    let fits : FitsSigned w32 (pos n) = record { sfits = omega (arith, small) } in
    rw (to_z-of_z fits) (is, fits)

pub returns-then-is_empty : goal.returns-then-is_empty
returns-then-is_empty c = plain_spelt c.args.bytes.now c.in-Some.value c.in-Some.ensures.0 c.in-Some.ensures.1

-- a number behind a minus
minus_spelt : (bytes : List ℕ) (n : ℕ) → get_or bytes 0 0 ≡ 45 → take (length bytes - 1) (drop 1 bytes) ≡ decimal n → (n ≡ 0 → ⊥) → n < 2147483649
    → (bytes ≡ signed_decimal (to_z w32 (of_z w32 (to_z w64 (of_z w64 (pos 0 -ℤ to_z w64 n)))))) × FitsSigned w32 (to_z w32 (of_z w32 (to_z w64 (of_z w64 (pos 0 -ℤ to_z w64 n)))))
minus_spelt [] n minus is some small = absurd (omega (arith, minus))
minus_spelt (x ∷ others) zero minus is some small = absurd (some refl)
minus_spelt (x ∷ others) (suc m) minus is some small =
    let above : FitsSigned w64 (pos (suc m)) = record { sfits = omega (arith, small) } in
    let below : FitsSigned w64 (negsuc m) = record { sfits = omega (arith, small) } in
    let fits : FitsSigned w32 (negsuc m) = record { sfits = omega (arith, small) } in
    let negated : pos 0 -ℤ pos (suc m) ≡ negsuc m = grind (arith, common_steps) in
    let far : to_z w64 (of_z w64 (pos 0 -ℤ to_z w64 (suc m))) ≡ negsuc m = ap (λ z. to_z w64 (of_z w64 (pos 0 -ℤ z))) (to_z-of_z above) ∙ ap (λ z. to_z w64 (of_z w64 z)) negated ∙ to_z-of_z below in
    let near : to_z w32 (of_z w32 (to_z w64 (of_z w64 (pos 0 -ℤ to_z w64 (suc m))))) ≡ negsuc m = ap (λ z. to_z w32 (of_z w32 z)) far ∙ to_z-of_z fits in
    rw near (ap (λ b. b ∷ others) minus ∙ ap (λ l. 45 ∷ l) (sym (take_all (length (x ∷ others) - 1) others (omega arith)) ∙ is), fits)

pub returns : goal.returns
returns c = minus_spelt c.args.bytes.now c.in-Some-digits_of.value c.if-bytes-ne45.false c.in-Some-digits_of.ensures.0 c.if-value-eq0.false c.in-Some-digits_of.ensures.1

pub returns-in_default : goal.returns-in_default
returns-in_default c =
    no_plain c.args.bytes.now c.in_default.ensures
    (elim c.then-is_empty.branch [
      | then-is_empty-via-then-is_empty w ↦ no_first c.args.bytes.now w.if-is_empty.ensures
      | then-is_empty-via-else-is_empty+then-bytes-ne45 w ↦ w.if-bytes-ne45.true
    ])

pub returns-in_default-digits_of : goal.returns-in_default-digits_of
returns-in_default-digits_of c =
    no_coordinate c.args.bytes.now c.if-bytes-ne45.false (λ n some small is. c.in_default-digits_of.ensures n small is)

pub returns-then-value-eq0 : goal.returns-then-value-eq0
returns-then-value-eq0 c =
    no_coordinate c.args.bytes.now c.if-bytes-ne45.false
    (λ n some small is. not_zero _ c.in-Some-digits_of.value n c.if-value-eq0.true c.in-Some-digits_of.ensures.0 some small is)
