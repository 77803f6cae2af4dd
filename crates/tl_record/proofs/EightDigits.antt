-- Eight digits in one word.
use Rattle.std.proofs.Common.{◌≡◌, ℕ, suc, ◌+◌, ◌-◌, ◌*◌, ◌/◌, ◌<◌, ◌≤◌, true, List, [], ◌∷◌, map, length, refl, ap, ◌∙◌, arith}
use Rattle.std.specs.List.{list_all, AllPass}
use Rattle.std.proofs.lemmas.List.Sums.{AllPass-from_list_all}
use Rattle.std.specs.Char.{is_ascii_digit}
use Rattle.std.specs.Int.{from_le_bytes, w64}
use Rattle.tl_record.specs.Fields.{decimal}
use Rattle.tl_record.proofs.Lanes.{lanes, Each, AtMost, flat, merged}
use lib.Bits.{bit_and}

-- the digits of these bytes
abbrev pub values : List ℕ → List ℕ
values bytes = map (λ x. x - 48) bytes

-- eight digits in pairs
abbrev in_pairs : (a b c d e f g h : ℕ) → List (ℕ × ℕ)
in_pairs a b c d e f g h = (a, b) ∷ (c, d) ∷ (e, f) ∷ (g, h) ∷ []

-- neighbours put together three times are the number that the digits spell
merged_thrice : (a b c d e f g h digits pairs fours : ℕ) → AtMost 9 (in_pairs a b c d e f g h) → digits ≡ lanes 8 (flat (in_pairs a b c d e f g h))
    → pairs ≡ bit_and (digits * 10 + digits / 256) 0x00ff00ff00ff00ff → fours ≡ bit_and (pairs * 100 + pairs / 65536) 0x0000ffff0000ffff
    → bit_and (fours * 10000 + fours / 4294967296) 0xffffffff
    ≡ a * 10000000 + (b * 1000000 + (c * 100000 + (d * 10000 + (e * 1000 + (f * 100 + (g * 10 + (h * 1 + 0)))))))
merged_thrice a b c d e f g h digits pairs fours small is first second =
    let two : List (ℕ × ℕ) = (10 * a + b, 10 * c + d) ∷ (10 * e + f, 10 * g + h) ∷ [] in
    let four : List (ℕ × ℕ) = (100 * (10 * a + b) + (10 * c + d), 100 * (10 * e + f) + (10 * g + h)) ∷ [] in
    let pairs_are : pairs ≡ lanes 16 (flat two) = first ∙ ap (λ n. bit_and (n * 10 + n / 256) 0x00ff00ff00ff00ff) is ∙ merged 8 10 9 (in_pairs a b c d e f g h) (omega arith) small in
    let fours_are : fours ≡ lanes 32 (flat four) = second ∙ ap (λ n. bit_and (n * 100 + n / 65536) 0x0000ffff0000ffff) pairs_are ∙ merged 16 100 99 two (omega arith) (omega arith, omega arith, (omega arith, omega arith, tt)) in
    let whole : bit_and (fours * 10000 + fours / 4294967296) 0xffffffff ≡ lanes 64 (map (λ p. 10000 * p.0 + p.1) four) =
    ap (λ n. bit_and (n * 10000 + n / 4294967296) 0xffffffff) fours_are ∙ merged 32 10000 9999 four (omega arith) (omega arith, omega arith, tt) in
    whole ∙ omega arith

most_in_lanes : (a b c d e f g h : ℕ) → AtMost 9 (in_pairs a b c d e f g h) → lanes 8 (flat (in_pairs a b c d e f g h)) ≤ 0x0909090909090909
most_in_lanes a b c d e f g h s = omega arith

most_spelt : (a b c d e f g h : ℕ) → AtMost 9 (in_pairs a b c d e f g h)
    → a * 10000000 + (b * 1000000 + (c * 100000 + (d * 10000 + (e * 1000 + (f * 100 + (g * 10 + (h * 1 + 0))))))) < 100000000
most_spelt a b c d e f g h s = omega arith

nine : (x : ℕ) → x ≤ 57 → x - 48 ≤ 9
nine x most = omega arith

-- digits are digits of their values
at_least_digits : (bytes : List ℕ) → Each (λ x. (48 ≤ x) × (x ≤ 57)) bytes → lanes 8 bytes ≡ lanes 8 (values bytes) + lanes 8 (map (λ _. 48) bytes)
at_least_digits [] each = refl
at_least_digits (x ∷ xs) each = let rest = at_least_digits xs each.1 in omega (arith, rest, each.0.0)

is_digit : (x : ℕ) → is_ascii_digit x ≡ true → (48 ≤ x) × (x ≤ 57)
is_digit x is = (grind arith, grind arith)

each_of : (bytes : List ℕ) → AllPass is_ascii_digit bytes → Each (λ x. (48 ≤ x) × (x ≤ 57)) bytes
each_of [] pass = tt
each_of (x ∷ xs) pass = (is_digit x (pass 0 0 (omega arith)), each_of xs (λ k d less. pass (suc k) d (omega (arith, less))))

-- what eight digits show, each less the digit 0 in a lane of its own
pub record SpellsEight (bytes : List ℕ) (digits : ℕ) : Type 0 where
  pub small : digits ≤ 0x0909090909090909
  pub below : decimal bytes < 100000000
  pub value : (pairs fours : ℕ) → pairs ≡ bit_and (digits * 10 + digits / 256) 0x00ff00ff00ff00ff
      → fours ≡ bit_and (pairs * 100 + pairs / 65536) 0x0000ffff0000ffff → bit_and (fours * 10000 + fours / 4294967296) 0xffffffff ≡ decimal bytes

pub spells_eight : (bytes : List ℕ) (digits : ℕ) → length bytes ≡ 8 → digits + 0x3030303030303030 ≡ from_le_bytes w64 bytes → list_all is_ascii_digit bytes ≡ true
    → SpellsEight bytes digits
spells_eight (a ∷ b ∷ c ∷ d ∷ e ∷ f ∷ g ∷ h ∷ []) digits len is all =
    let bytes = a ∷ b ∷ c ∷ d ∷ e ∷ f ∷ g ∷ h ∷ [] in
    let s = each_of bytes (AllPass-from_list_all is_ascii_digit bytes all) in
    let lanes_are : digits + 0x3030303030303030 ≡ lanes 8 bytes = is ∙ omega arith in
    let same : digits ≡ lanes 8 (values bytes) = omega (arith, lanes_are, at_least_digits bytes s) in
    let small : AtMost 9 (in_pairs (a - 48) (b - 48) (c - 48) (d - 48) (e - 48) (f - 48) (g - 48) (h - 48)) =
    (nine a s.0.1, nine b s.1.0.1, (nine c s.1.1.0.1, nine d s.1.1.1.0.1, (nine e s.1.1.1.1.0.1, nine f s.1.1.1.1.1.0.1, (nine g s.1.1.1.1.1.1.0.1, nine h s.1.1.1.1.1.1.1.0.1, tt)))) in
    record {
      small = rw same (most_in_lanes (a - 48) (b - 48) (c - 48) (d - 48) (e - 48) (f - 48) (g - 48) (h - 48) small);
      below = most_spelt (a - 48) (b - 48) (c - 48) (d - 48) (e - 48) (f - 48) (g - 48) (h - 48) small;
      value = λ pairs fours. merged_thrice (a - 48) (b - 48) (c - 48) (d - 48) (e - 48) (f - 48) (g - 48) (h - 48) digits pairs fours small same;
    }
spells_eight [] digits len is all = absurd (omega arith)
spells_eight (a ∷ []) digits len is all = absurd (omega arith)
spells_eight (a ∷ b ∷ []) digits len is all = absurd (omega arith)
spells_eight (a ∷ b ∷ c ∷ []) digits len is all = absurd (omega arith)
spells_eight (a ∷ b ∷ c ∷ d ∷ []) digits len is all = absurd (omega arith)
spells_eight (a ∷ b ∷ c ∷ d ∷ e ∷ []) digits len is all = absurd (omega arith)
spells_eight (a ∷ b ∷ c ∷ d ∷ e ∷ f ∷ []) digits len is all = absurd (omega arith)
spells_eight (a ∷ b ∷ c ∷ d ∷ e ∷ f ∷ g ∷ []) digits len is all = absurd (omega arith)
spells_eight (a ∷ b ∷ c ∷ d ∷ e ∷ f ∷ g ∷ h ∷ i ∷ rest) digits len is all = absurd (omega arith)
