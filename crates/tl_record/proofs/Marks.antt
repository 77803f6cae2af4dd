-- Bytes at the front of which none is marked.
use Rattle.std.proofs.Common.{◌≡◌, ℕ, zero, suc, ◌%◌, ◌^◌, ◌<◌, ◌≤◌, ltb, leb, true, false, Bool, List, [], ◌∷◌, length, take, get_or, map, not, cond, eqb, refl, sym, ap, ◌∙◌, replicate, w8, arith}
use Rattle.std.specs.List.{list_all, prefix_len}
use Rattle.std.proofs.lemmas.Simd.{first_set_mask_l, length-chunk, run_in_chunk_le, run_in_chunk_fails, tops_compared, mask_l-mod}
use Rattle.std.proofs.lemmas.List.{length-map}
use lib.Lanes.{mask_l, zip2, top, chunk}
use lib.Count.{count_trailing_zeros}
use Rattle.tl_record.specs.Fields.{is_cenid_byte}

-- as many lanes of sixteen as no bit is set for, from the first
pub lanes_told : (p : ℕ → Bool) (bytes : List ℕ) (marked found : ℕ) → 16 ≤ length bytes → marked ≡ mask_l (map p (chunk 0 16 bytes))
    → found ≡ cond (eqb marked 0) 16 (count_trailing_zeros 64 marked) → (found ≤ 16) × ((k : ℕ) → k < found → p (get_or bytes k 0) ≡ false)
lanes_told p bytes marked found room mask is =
    let counted : found ≡ prefix_len (λ x. not (p x)) (chunk 0 16 bytes) =
    is ∙ ap (λ n. cond (eqb n 0) 16 (count_trailing_zeros 64 n)) mask ∙ first_set_mask_l p (chunk 0 16 bytes) 16 (length-chunk 0 16 bytes room) (omega arith) in (
      run_in_chunk_le p bytes 0 16 found 0 room counted,
      λ k below. run_in_chunk_fails p bytes 0 16 found 0 room counted k (omega arith) (omega arith),
    )

splat_zip2 : (t : ℕ → ℕ → Bool) (y : ℕ) (xs : List ℕ) → zip2 t (replicate (length xs) y) xs ≡ map (t y) xs
splat_zip2 t y [] = refl
splat_zip2 t y (x ∷ xs) = ap (λ rest. t y x ∷ rest) (splat_zip2 t y xs)

-- `to_bitmask` of `simd_ge` with a splat, which is compared as the first of two
pub splat_bitmask : (xs : List ℕ) (y : ℕ) → length xs ≡ 16
    → mask_l (map (top 7) (zip2 (λ a b. cond (leb a b) 255 0) (replicate 16 y) xs)) % 2 ^ 64 ≡ mask_l (map (leb y) xs)
splat_bitmask xs y long =
    ap (λ ms. mask_l ms % 2 ^ 64) (tops_compared w8 leb (replicate 16 y) xs ∙ ap (λ m. zip2 leb (replicate m y) xs) (sym long) ∙ splat_zip2 leb y xs)
    ∙ mask_l-mod (map (leb y) xs) 64 (omega (arith, length-map xs (leb y), long))

pub not_below : (x : ℕ) → ltb x 32 ≡ false → 32 ≤ x
not_below x is = grind arith

pub not_above : (x : ℕ) → leb 127 x ≡ false → x ≤ 126
not_above x is = grind arith

is_printed : (x : ℕ) → 32 ≤ x → x ≤ 126 → is_cenid_byte x ≡ true
is_printed x low high = grind arith

all_front : (bytes : List ℕ) (n : ℕ) → ((k : ℕ) → k < n → is_cenid_byte (get_or bytes k 0) ≡ true) → list_all is_cenid_byte (take n bytes) ≡ true
all_front bytes zero each = refl
all_front [] (suc n) each = refl
all_front (byte ∷ bytes) (suc n) each = rw (each 0 (omega arith), all_front bytes n (λ k below. each (suc k) (omega arith))) refl

-- so many bytes that are neither below the blank nor above the tilde
pub all_printed : (bytes : List ℕ) (n low high : ℕ) → n ≤ low → n ≤ high → ((k : ℕ) → k < low → 32 ≤ get_or bytes k 0) → ((k : ℕ) → k < high → get_or bytes k 0 ≤ 126)
    → list_all is_cenid_byte (take n bytes) ≡ true
all_printed bytes n low high many also from to = all_front bytes n (λ k below. is_printed (get_or bytes k 0) (from k (omega arith)) (to k (omega arith)))
