-- A part of a list of bytes, as a buffer keeps it.
use Rattle.std.proofs.Common.{◌≡◌, ℕ, ◌+◌, ◌-◌, ◌<◌, ◌≤◌, List, [], ◌∷◌, ◌++◌, length, take, drop, get_or, set, sym, ap, ◌∙◌, arith}
use Rattle.std.proofs.lemmas.List.{drop-take, drop-drop, take_more, take_more_set, get_or-drop, length-drop, take-append-le, length-take, length-take-le}
use Rattle.std.proofs.Math.Seq.{take-append-add}
use borrow.Rule.Slice.PartMut.{put_mid, post_of}

-- bytes are taken off the front of a part
pub part_consumed : (bytes : List ℕ) (at filled count : ℕ) → count ≤ filled - at
    → take (filled - (at + count)) (drop (at + count) bytes) ≡ drop count (take (filled - at) (drop at bytes))
part_consumed bytes at filled count within =
    let split : filled - at ≡ count + (filled - (at + count)) = omega arith in
    sym (ap (λ n. drop count (take n (drop at bytes))) split ∙ drop-take count (filled - (at + count)) (drop at bytes) ∙ ap (take (filled - (at + count))) (drop-drop count at bytes))

-- a line stands in a part with the byte that ends it
pub line_within : (bytes part : List ℕ) (at filled len : ℕ) → take (filled - at) (drop at bytes) ≡ part → len < length part → at + len + 1 ≤ filled
line_within bytes part at filled len view lt = omega (arith, ap length view, length-take (filled - at) (drop at bytes), lt)

-- one byte of a part is copied to the front: old is the list before any was, bytes the list so far
pub byte_moved : (old bytes : List ℕ) (at index : ℕ) → at ≤ index → index < length bytes → length bytes ≡ length old → drop index bytes ≡ drop index old
    → take (index - at) bytes ≡ take (index - at) (drop at old)
    → take (index + 1 - at) (set bytes (index - at) (get_or bytes index 0)) ≡ take (index + 1 - at) (drop at old)
byte_moved old bytes at index le below same rest front =
    let within : index - at < length bytes = omega arith in
    let inside : index - at < length (drop at old) = rw (length-drop at old) (omega arith) in
    let next : index + 1 - at ≡ index - at + 1 = omega arith in
    let place : at + (index - at) ≡ index = omega arith in
    let byte : get_or bytes index 0 ≡ get_or (drop at old) (index - at) 0 =
    ap (λ n. get_or bytes n 0) (sym (omega arith)) ∙ sym (get_or-drop index bytes 0 0) ∙ ap (λ (l : List ℕ). get_or l 0 0) rest ∙ get_or-drop index old 0 0
    ∙ ap (λ n. get_or old n 0) (omega arith) ∙ sym (get_or-drop at old (index - at) 0) in
    ap (λ n. take n (set bytes (index - at) (get_or bytes index 0))) next
    ∙ take_more_set bytes (index - at) (get_or bytes index 0) within
    ∙ ap (λ (l : List ℕ). l ++ get_or bytes index 0 ∷ []) front
    ∙ ap (λ n. take (index - at) (drop at old) ++ n ∷ []) byte
    ∙ sym (take_more (drop at old) (index - at) 0 inside)
    ∙ ap (λ n. take n (drop at old)) (sym next)

-- bytes are put behind a part that stands at the front
pub part_filled : (front bytes : List ℕ) (k room count : ℕ) → k ≤ length front → count ≤ length bytes
    → take (k + count) (put_mid k room front bytes) ≡ take k front ++ take count bytes
part_filled front bytes k room count within some =
    let size : length (take k front) ≡ k = length-take-le k front within in
    ap (λ n. take (n + count) (put_mid k room front bytes)) (sym size) ∙ take-append-add (take k front) (bytes ++ post_of k room front) count
    ∙ ap (λ (l : List ℕ). take k front ++ l) (take-append-le count bytes (post_of k room front) some)
