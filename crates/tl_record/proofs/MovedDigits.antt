-- Digits at the front of a word, moved to its end, behind zeros.
use Rattle.std.proofs.Common.{◌≡◌, ℕ, zero, suc, ◌+◌, ◌-◌, ◌*◌, ◌/◌, ◌%◌, ◌^◌, ◌<◌, ◌≤◌, true, List, [], ◌∷◌, ◌++◌, length, length-append, map, take, replicate, refl, sym, ap, ◌∙◌, arith}
use Rattle.std.proofs.lemmas.List.{length-map, length-replicate, length-take-le}
use Rattle.std.proofs.lemmas.Nat.{and_block, or_block, xor_block, or_lt, xor_lt, and_le_r, and_mask, and-not, and_comm}
use Rattle.std.proofs.lemmas.Nat.Bits.{and_high, bit_at_and, bit_at_or, bit_at-zero, same_from_bits, bit_at_cat_low, bit_at_cat_high, bit_at-trailing_zeros}
use Rattle.std.specs.Int.Bits.{bit_xor, xor_self, xor_add_and}
use Rattle.std.specs.List.{list_all, slice_index}
use Rattle.std.specs.Char.{is_ascii_digit}
use Rattle.std.specs.Int.{from_le_bytes, w64, bit_at, trailing_zeros}
use Rattle.std.specs.Int.RustNames.{bit_or}
use lib.Bits.{bit_and}
use Rattle.tl_record.specs.Fields.{decimal}
use Rattle.tl_record.specs.Word.{IsWordOf, above_nine_bit}
use Rattle.tl_record.proofs.Lanes.{lanes, Each}

-- so many bytes behind zeros
abbrev pub behind_zeros : ℕ → List ℕ → List ℕ
behind_zeros count bytes = replicate (8 - count) 48 ++ take count bytes

pub record AreBytes (a b c d e f g h : ℕ) : Type 0 where
  pub first : (a < 256) × (b < 256) × (c < 256) × (d < 256)
  pub second : (e < 256) × (f < 256) × (g < 256) × (h < 256)

-- the first values of a word, moved to its end
moved_digits : (count : ℕ) → 0 < count → count ≤ 8 → (p q r s t u v w word : ℕ) → AreBytes p q r s t u v w → word ≡ lanes 8 (p ∷ q ∷ r ∷ s ∷ t ∷ u ∷ v ∷ w ∷ [])
    → word * 2 ^ (64 - 8 * count) % 18446744073709551616 + 3472328296227680304
    ≡ from_le_bytes w64 (replicate (8 - count) 48 ++ map (λ x. x + 48) (take count (p ∷ q ∷ r ∷ s ∷ t ∷ u ∷ v ∷ w ∷ [])))
moved_digits zero some few p q r s t u v w word are is = absurd (omega arith)
moved_digits (suc zero) some few p q r s t u v w word are is = omega (arith, is)
moved_digits (suc (suc zero)) some few p q r s t u v w word are is = omega (arith, is)
moved_digits (suc (suc (suc zero))) some few p q r s t u v w word are is = omega (arith, is)
moved_digits (suc (suc (suc (suc zero)))) some few p q r s t u v w word are is = omega (arith, is)
moved_digits (suc (suc (suc (suc (suc zero))))) some few p q r s t u v w word are is = omega (arith, is)
moved_digits (suc (suc (suc (suc (suc (suc zero)))))) some few p q r s t u v w word are is = omega (arith, is)
moved_digits (suc (suc (suc (suc (suc (suc (suc zero))))))) some few p q r s t u v w word are is = omega (arith, is)
moved_digits (suc (suc (suc (suc (suc (suc (suc (suc zero)))))))) some few p q r s t u v w word are is = omega (arith, is)
moved_digits (suc (suc (suc (suc (suc (suc (suc (suc (suc n))))))))) some few p q r s t u v w word are is = absurd (omega arith)

-- and without the digit 0 in each of them
moved_lanes : (count : ℕ) → 0 < count → count ≤ 8 → (p q r s t u v w word : ℕ) → AreBytes p q r s t u v w → word ≡ lanes 8 (p ∷ q ∷ r ∷ s ∷ t ∷ u ∷ v ∷ w ∷ [])
    → word * 2 ^ (64 - 8 * count) % 18446744073709551616 ≡ from_le_bytes w64 (replicate (8 - count) 0 ++ take count (p ∷ q ∷ r ∷ s ∷ t ∷ u ∷ v ∷ w ∷ []))
moved_lanes zero some few p q r s t u v w word are is = absurd (omega arith)
moved_lanes (suc zero) some few p q r s t u v w word are is = omega (arith, is)
moved_lanes (suc (suc zero)) some few p q r s t u v w word are is = omega (arith, is)
moved_lanes (suc (suc (suc zero))) some few p q r s t u v w word are is = omega (arith, is)
moved_lanes (suc (suc (suc (suc zero)))) some few p q r s t u v w word are is = omega (arith, is)
moved_lanes (suc (suc (suc (suc (suc zero))))) some few p q r s t u v w word are is = omega (arith, is)
moved_lanes (suc (suc (suc (suc (suc (suc zero)))))) some few p q r s t u v w word are is = omega (arith, is)
moved_lanes (suc (suc (suc (suc (suc (suc (suc zero))))))) some few p q r s t u v w word are is = omega (arith, is)
moved_lanes (suc (suc (suc (suc (suc (suc (suc (suc zero)))))))) some few p q r s t u v w word are is = omega (arith, is)
moved_lanes (suc (suc (suc (suc (suc (suc (suc (suc (suc n))))))))) some few p q r s t u v w word are is = absurd (omega arith)

-- they are bytes
abbrev Below : List ℕ → Type 0
Below bytes = (i : ℕ) → slice_index bytes i < 256

below_append : (xs ys : List ℕ) → Below xs → Below ys → Below (xs ++ ys)
below_append [] ys left right i = right i
below_append (x ∷ xs) ys left right zero = left 0
below_append (x ∷ xs) ys left right (suc i) = below_append xs ys (λ k. left (suc k)) right i

below_zeros : (n : ℕ) → Below (replicate n 48)
below_zeros zero i = omega arith
below_zeros (suc n) zero = omega arith
below_zeros (suc n) (suc i) = below_zeros n i

below_take : (n : ℕ) (bytes : List ℕ) → Below bytes → Below (take n bytes)
below_take zero bytes below i = omega arith
below_take (suc n) [] below i = omega arith
below_take (suc n) (byte ∷ bytes) below zero = below 0
below_take (suc n) (byte ∷ bytes) below (suc i) = below_take n bytes (λ k. below (suc k)) i

eight_bytes : (count : ℕ) (bytes : List ℕ) → count ≤ 8 → length bytes ≡ 8 → length (behind_zeros count bytes) ≡ 8
eight_bytes count bytes few eight =
    omega (arith, length-append (replicate (8 - count) 48) (take count bytes), length-replicate {A = ℕ} (8 - count) 48, length-take-le count bytes (omega (arith, eight)), few)

-- zeros in front change no value
zeros_value : (n : ℕ) (digits : List ℕ) → decimal (replicate n 48 ++ digits) ≡ decimal digits
zeros_value zero digits = refl
zeros_value (suc n) digits = omega (arith, zeros_value n digits)

zeros_all : (n : ℕ) (digits : List ℕ) → list_all is_ascii_digit (replicate n 48 ++ digits) ≡ list_all is_ascii_digit digits
zeros_all zero digits = refl
zeros_all (suc n) digits = zeros_all n digits

pub all_behind : (count : ℕ) (bytes : List ℕ) → list_all is_ascii_digit (take count bytes) ≡ true → list_all is_ascii_digit (behind_zeros count bytes) ≡ true
all_behind count bytes all = zeros_all (8 - count) (take count bytes) ∙ all

pub value_behind : (count value : ℕ) (bytes : List ℕ) → value ≡ decimal (behind_zeros count bytes) → decimal (take count bytes) ≡ value
value_behind count value bytes is = sym (is ∙ zeros_value (8 - count) (take count bytes))

-- each byte without the digit 0
abbrev pub without_zero : List ℕ → List ℕ
without_zero bytes = map (λ b. bit_xor b 48) bytes

each_below : (bytes : List ℕ) → Below bytes → Each (λ x. x < 256) bytes
each_below [] below = tt
each_below (x ∷ xs) below = (below 0, each_below xs (λ i. below (suc i)))

below_each : (bytes : List ℕ) → Each (λ x. x < 256) bytes → Below bytes
below_each [] each i = omega arith
below_each (x ∷ xs) each zero = each.0
below_each (x ∷ xs) each (suc i) = below_each xs each.1 i

eight_lanes : (bytes : List ℕ) → length bytes ≡ 8 → lanes 8 bytes ≡ from_le_bytes w64 bytes
eight_lanes (a ∷ b ∷ c ∷ d ∷ e ∷ f ∷ g ∷ h ∷ []) len = omega arith
eight_lanes [] len = absurd (omega arith)
eight_lanes (a ∷ []) len = absurd (omega arith)
eight_lanes (a ∷ b ∷ []) len = absurd (omega arith)
eight_lanes (a ∷ b ∷ c ∷ []) len = absurd (omega arith)
eight_lanes (a ∷ b ∷ c ∷ d ∷ []) len = absurd (omega arith)
eight_lanes (a ∷ b ∷ c ∷ d ∷ e ∷ []) len = absurd (omega arith)
eight_lanes (a ∷ b ∷ c ∷ d ∷ e ∷ f ∷ []) len = absurd (omega arith)
eight_lanes (a ∷ b ∷ c ∷ d ∷ e ∷ f ∷ g ∷ []) len = absurd (omega arith)
eight_lanes (a ∷ b ∷ c ∷ d ∷ e ∷ f ∷ g ∷ h ∷ i ∷ rest) len = absurd (omega arith)

-- the digit 0 is taken from each byte
zeros_off : (bytes : List ℕ) → Each (λ x. x < 256) bytes → bit_xor (lanes 8 bytes) (lanes 8 (map (λ _. 48) bytes)) ≡ lanes 8 (without_zero bytes)
zeros_off [] below = xor_self 0
zeros_off (x ∷ xs) below =
    xor_block 8 (lanes 8 xs) (lanes 8 (map (λ _. 48) xs)) x 48 below.0 (omega arith) ∙ ap (λ n. n * 2 ^ 8 + bit_xor x 48) (zeros_off xs below.1)

each_without : (bytes : List ℕ) → Each (λ x. x < 256) bytes → Each (λ x. x < 256) (without_zero bytes)
each_without [] below = tt
each_without (x ∷ xs) below = (xor_lt 8 x 48 below.0 (omega arith), each_without xs below.1)

mask_lanes : (bytes : List ℕ) (mask : ℕ) → length bytes ≡ 8 → lanes 8 (map (λ _. mask) bytes) ≡ lanes 8 (mask ∷ mask ∷ mask ∷ mask ∷ mask ∷ mask ∷ mask ∷ mask ∷ [])
mask_lanes (a ∷ b ∷ c ∷ d ∷ e ∷ f ∷ g ∷ h ∷ []) mask len = refl
mask_lanes [] mask len = absurd (omega arith)
mask_lanes (a ∷ []) mask len = absurd (omega arith)
mask_lanes (a ∷ b ∷ []) mask len = absurd (omega arith)
mask_lanes (a ∷ b ∷ c ∷ []) mask len = absurd (omega arith)
mask_lanes (a ∷ b ∷ c ∷ d ∷ []) mask len = absurd (omega arith)
mask_lanes (a ∷ b ∷ c ∷ d ∷ e ∷ []) mask len = absurd (omega arith)
mask_lanes (a ∷ b ∷ c ∷ d ∷ e ∷ f ∷ []) mask len = absurd (omega arith)
mask_lanes (a ∷ b ∷ c ∷ d ∷ e ∷ f ∷ g ∷ []) mask len = absurd (omega arith)
mask_lanes (a ∷ b ∷ c ∷ d ∷ e ∷ f ∷ g ∷ h ∷ i ∷ rest) mask len = absurd (omega arith)

pub without : (bytes : List ℕ) (word : ℕ) → IsWordOf bytes word → IsWordOf (without_zero bytes) (bit_xor word 3472328296227680304)
without bytes word of =
    let each = each_below bytes of.below in
    let eight : length (without_zero bytes) ≡ 8 = length-map bytes (λ b. bit_xor b 48) ∙ of.eight in
    let zeros : lanes 8 (map (λ _. 48) bytes) ≡ 3472328296227680304 = mask_lanes bytes 48 of.eight in
    let lanes_are : word ≡ lanes 8 bytes = of.is ∙ sym (eight_lanes bytes of.eight) in
    record {
      eight = eight;
      below = below_each (without_zero bytes) (each_without bytes each);
      is = ap (λ n. bit_xor n 3472328296227680304) lanes_are ∙ ap (λ n. bit_xor (lanes 8 bytes) n) (sym zeros) ∙ zeros_off bytes each ∙ eight_lanes (without_zero bytes) eight;
    }

-- the top bits of bytes above 9, lane by lane
bits_by_lanes : (bytes : List ℕ) → Each (λ x. x < 256) bytes
    → bit_and (bit_or (bit_and (lanes 8 bytes) (lanes 8 (map (λ _. 127) bytes)) + lanes 8 (map (λ _. 118) bytes)) (lanes 8 bytes)) (lanes 8 (map (λ _. 128) bytes))
    ≡ lanes 8 (map above_nine_bit bytes)
bits_by_lanes [] below = let h = and_le_r (bit_or (bit_and 0 0 + 0) 0) 0 in omega arith
bits_by_lanes (x ∷ xs) below =
    let word = lanes 8 xs in
    let low = lanes 8 (map (λ _. 127) xs) in
    let up = lanes 8 (map (λ _. 118) xs) in
    let top = lanes 8 (map (λ _. 128) xs) in
    let small : bit_and x 127 ≤ 127 = and_le_r x 127 in
    let raised : bit_and x 127 + 118 < 2 ^ 8 = omega (arith, small) in
    let sum : bit_and word low * 2 ^ 8 + bit_and x 127 + (up * 2 ^ 8 + 118) ≡ (bit_and word low + up) * 2 ^ 8 + (bit_and x 127 + 118) = omega arith in
    ap (λ n. bit_and (bit_or (n + (up * 2 ^ 8 + 118)) (word * 2 ^ 8 + x)) (top * 2 ^ 8 + 128)) (and_block 8 word low x 127 below.0 (omega arith))
    ∙ ap (λ n. bit_and (bit_or n (word * 2 ^ 8 + x)) (top * 2 ^ 8 + 128)) sum
    ∙ ap (λ n. bit_and n (top * 2 ^ 8 + 128)) (or_block 8 (bit_and word low + up) word (bit_and x 127 + 118) x raised below.0)
    ∙ and_block 8 (bit_or (bit_and word low + up) word) top (bit_or (bit_and x 127 + 118) x) 128 (or_lt 8 (bit_and x 127 + 118) x raised below.0) (omega arith)
    ∙ ap (λ n. n * 2 ^ 8 + above_nine_bit x) (bits_by_lanes xs below.1)

below_bits : (bytes : List ℕ) → Each (λ x. x < 256) (map above_nine_bit bytes)
below_bits [] = tt
below_bits (x ∷ xs) = (let h = and_le_r (bit_or (bit_and x 127 + 118) x) 128 in omega arith, below_bits xs)

pub bits_above : (bytes : List ℕ) (word : ℕ) → IsWordOf bytes word
    → IsWordOf (map above_nine_bit bytes) (bit_and (bit_or (bit_and word 0x7f7f7f7f7f7f7f7f + 0x7676767676767676) word) 0x8080808080808080)
bits_above bytes word of =
    let each = each_below bytes of.below in
    let eight : length (map above_nine_bit bytes) ≡ 8 = length-map bytes above_nine_bit ∙ of.eight in
    let lanes_are : word ≡ lanes 8 bytes = of.is ∙ sym (eight_lanes bytes of.eight) in
    let low : lanes 8 (map (λ _. 127) bytes) ≡ 0x7f7f7f7f7f7f7f7f = mask_lanes bytes 127 of.eight in
    let up : lanes 8 (map (λ _. 118) bytes) ≡ 0x7676767676767676 = mask_lanes bytes 118 of.eight in
    let top : lanes 8 (map (λ _. 128) bytes) ≡ 0x8080808080808080 = mask_lanes bytes 128 of.eight in
    record {
      eight = eight;
      below = below_each (map above_nine_bit bytes) (below_bits bytes);
      is = ap (λ n. bit_and (bit_or (bit_and n 0x7f7f7f7f7f7f7f7f + 0x7676767676767676) n) 0x8080808080808080) lanes_are
          ∙ ap (λ n. bit_and (bit_or (bit_and (lanes 8 bytes) n + 0x7676767676767676) (lanes 8 bytes)) 0x8080808080808080) (sym low)
          ∙ ap (λ n. bit_and (bit_or (bit_and (lanes 8 bytes) (lanes 8 (map (λ _. 127) bytes)) + n) (lanes 8 bytes)) 0x8080808080808080) (sym up)
          ∙ ap (λ n. bit_and (bit_or (bit_and (lanes 8 bytes) (lanes 8 (map (λ _. 127) bytes)) + lanes 8 (map (λ _. 118) bytes)) (lanes 8 bytes)) n) (sym top)
          ∙ bits_by_lanes bytes each ∙ eight_lanes (map above_nine_bit bytes) eight;
    }

-- a byte whose bit isn't set is at most 9
at_most_nine : (x : ℕ) → x < 256 → bit_at (above_nine_bit x) 7 ≡ 0 → x ≤ 9
at_most_nine x below none =
    let both = bit_at_and (bit_or (bit_and x 127 + 118) x) 128 7 in
    let either = bit_at_or (bit_and x 127 + 118) x 7 in
    let low : bit_and x 127 ≡ x % 128 = and_mask x 7 in
    omega (arith, both, either, low, none)

-- and where it was a byte without the digit 0, the byte is a digit
is_digit : (b : ℕ) → b < 256 → bit_xor b 48 ≤ 9 → b ≡ bit_xor b 48 + 48
is_digit b below small =
    let sum = xor_add_and b 48 in
    let high : bit_and b 48 ≡ (b / 2 ^ 4 % 2 ^ 2) * 2 ^ 4 = and_high b 2 4 in
    omega (arith, sum, high, small)

-- so many bytes at the front are digits
pub record StartsWithDigits (count : ℕ) (bytes : List ℕ) : Type 0 where
  pub same : take count bytes ≡ map (λ x. x + 48) (take count (without_zero bytes))
  pub all : list_all is_ascii_digit (take count bytes) ≡ true

starts_more : (n b : ℕ) (bytes : List ℕ) → b ≡ bit_xor b 48 + 48 → bit_xor b 48 ≤ 9 → StartsWithDigits n bytes → StartsWithDigits (suc n) (b ∷ bytes)
starts_more n b bytes is small rest =
    let digit : is_ascii_digit b ≡ true = let low : 48 ≤ b = omega (arith, is) in let high : b ≤ 57 = omega (arith, is, small) in grind arith in
    record {
      same = ap (λ (h : ℕ). h ∷ take n bytes) is ∙ ap (λ (l : List ℕ). (bit_xor b 48 + 48) ∷ l) rest.same;
      all = rw digit rest.all;
    }

starts : (count : ℕ) (bytes : List ℕ) → Each (λ x. x < 256) bytes → ((i : ℕ) → i < 8 * count → bit_at (lanes 8 (map above_nine_bit (without_zero bytes))) i ≡ 0)
    → StartsWithDigits count bytes
starts zero bytes below none = record { same = refl; all = refl }
starts (suc n) [] below none = record { same = refl; all = refl }
starts (suc n) (b ∷ bytes) below none =
    let x = bit_xor b 48 in
    let others = lanes 8 (map above_nine_bit (without_zero bytes)) in
    let here = above_nine_bit x in
    let fits : here < 2 ^ 8 = let h = and_le_r (bit_or (bit_and x 127 + 118) x) 128 in omega arith in
    let top : bit_at here 7 ≡ 0 = sym (bit_at_cat_low others 8 here 7 (omega arith)) ∙ none 7 (omega arith) in
    let small = at_most_nine x (xor_lt 8 b 48 below.0 (omega arith)) top in
    let is = is_digit b below.0 small in
    let rest = starts n bytes below.1 (λ i less. ap (λ k. bit_at others k) (omega arith) ∙ sym (bit_at_cat_high others 8 here (i + 8) fits (omega arith)) ∙ none (i + 8) (omega (arith, less))) in
    starts_more n b bytes is small rest

moved_by : (count : ℕ) (xs : List ℕ) (word : ℕ) → 0 < count → count ≤ 8 → IsWordOf xs word
    → word * 2 ^ (64 - 8 * count) % 18446744073709551616 + 3472328296227680304 ≡ from_le_bytes w64 (replicate (8 - count) 48 ++ map (λ x. x + 48) (take count xs))
moved_by count (p ∷ q ∷ r ∷ s ∷ t ∷ u ∷ v ∷ w ∷ []) word some few of =
    moved_digits count some few p q r s t u v w word (record { first = (of.below 0, of.below 1, of.below 2, of.below 3); second = (of.below 4, of.below 5, of.below 6, of.below 7) })
    (of.is ∙ sym (eight_lanes (p ∷ q ∷ r ∷ s ∷ t ∷ u ∷ v ∷ w ∷ []) refl))
moved_by count [] word some few of = absurd (omega (arith, of.eight))
moved_by count (a ∷ []) word some few of = absurd (omega (arith, of.eight))
moved_by count (a ∷ b ∷ []) word some few of = absurd (omega (arith, of.eight))
moved_by count (a ∷ b ∷ c ∷ []) word some few of = absurd (omega (arith, of.eight))
moved_by count (a ∷ b ∷ c ∷ d ∷ []) word some few of = absurd (omega (arith, of.eight))
moved_by count (a ∷ b ∷ c ∷ d ∷ e ∷ []) word some few of = absurd (omega (arith, of.eight))
moved_by count (a ∷ b ∷ c ∷ d ∷ e ∷ f ∷ []) word some few of = absurd (omega (arith, of.eight))
moved_by count (a ∷ b ∷ c ∷ d ∷ e ∷ f ∷ g ∷ []) word some few of = absurd (omega (arith, of.eight))
moved_by count (a ∷ b ∷ c ∷ d ∷ e ∷ f ∷ g ∷ h ∷ i ∷ rest) word some few of = absurd (omega (arith, of.eight))

moved_to : (count : ℕ) (xs : List ℕ) (word : ℕ) → 0 < count → count ≤ 8 → IsWordOf xs word
    → word * 2 ^ (64 - 8 * count) % 18446744073709551616 ≡ from_le_bytes w64 (replicate (8 - count) 0 ++ take count xs)
moved_to count (p ∷ q ∷ r ∷ s ∷ t ∷ u ∷ v ∷ w ∷ []) word some few of =
    moved_lanes count some few p q r s t u v w word (record { first = (of.below 0, of.below 1, of.below 2, of.below 3); second = (of.below 4, of.below 5, of.below 6, of.below 7) })
    (of.is ∙ sym (eight_lanes (p ∷ q ∷ r ∷ s ∷ t ∷ u ∷ v ∷ w ∷ []) refl))
moved_to count [] word some few of = absurd (omega (arith, of.eight))
moved_to count (a ∷ []) word some few of = absurd (omega (arith, of.eight))
moved_to count (a ∷ b ∷ []) word some few of = absurd (omega (arith, of.eight))
moved_to count (a ∷ b ∷ c ∷ []) word some few of = absurd (omega (arith, of.eight))
moved_to count (a ∷ b ∷ c ∷ d ∷ []) word some few of = absurd (omega (arith, of.eight))
moved_to count (a ∷ b ∷ c ∷ d ∷ e ∷ []) word some few of = absurd (omega (arith, of.eight))
moved_to count (a ∷ b ∷ c ∷ d ∷ e ∷ f ∷ []) word some few of = absurd (omega (arith, of.eight))
moved_to count (a ∷ b ∷ c ∷ d ∷ e ∷ f ∷ g ∷ []) word some few of = absurd (omega (arith, of.eight))
moved_to count (a ∷ b ∷ c ∷ d ∷ e ∷ f ∷ g ∷ h ∷ i ∷ rest) word some few of = absurd (omega (arith, of.eight))

-- what digits at the front show
pub record Leads (bytes : List ℕ) (count moved : ℕ) : Type 0 where
  pub first : list_all is_ascii_digit (take count bytes) ≡ true
  pub word : IsWordOf (behind_zeros count bytes) (moved + 3472328296227680304)
  pub all : list_all is_ascii_digit (behind_zeros count bytes) ≡ true

lead_by : (bytes : List ℕ) (word digits count : ℕ) → IsWordOf bytes word → IsWordOf (without_zero bytes) digits → 0 < count → count ≤ 8 → StartsWithDigits count bytes
    → Leads bytes count (digits * 2 ^ (64 - 8 * count) % 18446744073709551616)
lead_by bytes word digits count of off some few start = record {
  first = start.all;
  word = record {
    eight = eight_bytes count bytes few of.eight;
    below = below_append (replicate (8 - count) 48) (take count bytes) (below_zeros (8 - count)) (below_take count bytes of.below);
    is = moved_by count (without_zero bytes) digits some few off ∙ ap (λ (l : List ℕ). from_le_bytes w64 (replicate (8 - count) 48 ++ l)) (sym start.same);
  };
  all = all_behind count bytes start.all;
}

-- those before the lowest bit
pub leads : (bytes : List ℕ) (word digits others count : ℕ) → IsWordOf bytes word → digits ≡ bit_xor word 3472328296227680304
    → IsWordOf (map above_nine_bit (without_zero bytes)) others → 0 < others → others < 2 ^ 64 → count ≡ trailing_zeros w64 others / 8 → 0 < count
    → Leads bytes count (digits * 2 ^ (64 - 8 * count) % 18446744073709551616)
leads bytes word digits others count of taken bits some fits told above =
    let eight : length (map above_nine_bit (without_zero bytes)) ≡ 8 = bits.eight in
    let lanes_are : others ≡ lanes 8 (map above_nine_bit (without_zero bytes)) = bits.is ∙ sym (eight_lanes (map above_nine_bit (without_zero bytes)) eight) in
    let lowest = bit_at-trailing_zeros w64 others some fits in
    let few : count ≤ 8 = omega (arith, told, lowest.0) in
    let start = starts count bytes (each_below bytes of.below) (λ i less. ap (λ n. bit_at n i) (sym lanes_are) ∙ lowest.2 i (omega (arith, told, less))) in
    let off : IsWordOf (without_zero bytes) digits = rw taken (without bytes word of) in
    lead_by bytes word digits count of off above few start

-- or as many as were moved, where none of them is above 9
zero_lanes : (xs : List ℕ) → Each (λ x. x < 256) xs → lanes 8 xs ≡ 0 → Each (λ x. x ≡ 0) xs
zero_lanes [] below none = tt
zero_lanes (x ∷ xs) below none = (omega (arith, none), zero_lanes xs below.1 (omega (arith, none)))

none_above : (xs : List ℕ) → Each (λ x. x < 256) xs → Each (λ x. x ≡ 0) (map above_nine_bit xs) → Each (λ x. x ≤ 9) xs
none_above [] below none = tt
none_above (x ∷ xs) below none = (at_most_nine x below.0 (ap (λ n. bit_at n 7) none.0), none_above xs below.1 none.1)

each_behind : (n : ℕ) (xs : List ℕ) → Each (λ x. x ≤ 9) (replicate n 0 ++ xs) → Each (λ x. x ≤ 9) xs
each_behind zero xs each = each
each_behind (suc n) xs each = each_behind n xs each.1

starts_small : (count : ℕ) (bytes : List ℕ) → Each (λ x. x < 256) bytes → Each (λ x. x ≤ 9) (take count (without_zero bytes)) → StartsWithDigits count bytes
starts_small zero bytes below small = record { same = refl; all = refl }
starts_small (suc n) [] below small = record { same = refl; all = refl }
starts_small (suc n) (b ∷ bytes) below small = starts_more n b bytes (is_digit b below.0 small.0) small.0 (starts_small n bytes below.1 small.1)

eight_moved : (count : ℕ) (xs : List ℕ) → count ≤ 8 → length xs ≡ 8 → length (replicate (8 - count) 0 ++ take count xs) ≡ 8
eight_moved count xs few eight =
    omega (arith, length-append (replicate (8 - count) 0) (take count xs), length-replicate {A = ℕ} (8 - count) 0, length-take-le count xs (omega (arith, eight)), few)

zeros_below : (n : ℕ) → Below (replicate n 0)
zeros_below zero i = omega arith
zeros_below (suc n) zero = omega arith
zeros_below (suc n) (suc i) = zeros_below n i

pub moved_word : (count : ℕ) (xs : List ℕ) (word : ℕ) → 0 < count → count ≤ 8 → IsWordOf xs word
    → IsWordOf (replicate (8 - count) 0 ++ take count xs) (word * 2 ^ (64 - 8 * count) % 18446744073709551616)
moved_word count xs word some few of = record {
  eight = eight_moved count xs few of.eight;
  below = below_append (replicate (8 - count) 0) (take count xs) (zeros_below (8 - count)) (below_take count xs of.below);
  is = moved_to count xs word some few of;
}

pub first_leads : (bytes : List ℕ) (word count others : ℕ) → IsWordOf bytes word → 0 < count → count ≤ 8
    → IsWordOf (map above_nine_bit (replicate (8 - count) 0 ++ take count (without_zero bytes))) others → others ≡ 0
    → Leads bytes count (bit_xor word 3472328296227680304 * 2 ^ (64 - 8 * count) % 18446744073709551616)
first_leads bytes word count others of some few bits none =
    let off = without bytes word of in
    let moved = replicate (8 - count) 0 ++ take count (without_zero bytes) in
    let below : Each (λ x. x < 256) moved = each_below moved (moved_word count (without_zero bytes) (bit_xor word 3472328296227680304) some few off).below in
    let lanes_are : lanes 8 (map above_nine_bit moved) ≡ 0 = eight_lanes (map above_nine_bit moved) bits.eight ∙ sym bits.is ∙ none in
    let each = none_above moved below (zero_lanes (map above_nine_bit moved) (below_bits moved) lanes_are) in
    lead_by bytes word (bit_xor word 3472328296227680304) count of off some few (starts_small count bytes (each_below bytes of.below) (each_behind (8 - count) (take count (without_zero bytes)) each))

-- ---- a sum that leaves out no top bit

no_top : (word sum top : ℕ) → bit_and (bit_or sum word) top ≡ 0 → bit_and top word ≡ 0
no_top word sum top none =
    same_from_bits (bit_and top word) 0 (λ i.
    let all : bit_at (bit_and (bit_or sum word) top) i ≡ 0 = ap (λ n. bit_at n i) none ∙ bit_at-zero i in
    omega (arith, all, bit_at_and (bit_or sum word) top i, bit_at_or sum word i, bit_at_and top word i, bit_at-zero i))

-- where none of its bits is a top bit, no byte of a word is above 9
pub none_marked : (bytes : List ℕ) (word : ℕ) → IsWordOf bytes word → word < 2 ^ 64
    → bit_and (bit_or ((word + 0x7676767676767676) % 2 ^ 64) word) 0x8080808080808080 ≡ 0 → IsWordOf (map above_nine_bit bytes) 0
none_marked bytes word of below none =
    let low : bit_and 0x7f7f7f7f7f7f7f7f word ≡ word =
    let parts = and-not 64 0x8080808080808080 word (omega arith) below in
    let no = no_top word ((word + 0x7676767676767676) % 2 ^ 64) 0x8080808080808080 none in omega (arith, parts, no) in
    let also : bit_and word 0x7f7f7f7f7f7f7f7f ≡ word = and_comm word 0x7f7f7f7f7f7f7f7f ∙ low in
    let small : word ≤ 0x7f7f7f7f7f7f7f7f = let h = and_le_r word 0x7f7f7f7f7f7f7f7f in omega (arith, h, also) in
    let sum : (word + 0x7676767676767676) % 2 ^ 64 ≡ bit_and word 0x7f7f7f7f7f7f7f7f + 0x7676767676767676 = omega (arith, also, small) in
    let same : bit_and (bit_or (bit_and word 0x7f7f7f7f7f7f7f7f + 0x7676767676767676) word) 0x8080808080808080 ≡ 0 =
    ap (λ n. bit_and (bit_or n word) 0x8080808080808080) (sym sum) ∙ none in
    rw same at (bits_above bytes word of)
