-- Lines that are put one before the other, from the last to the first.
use Rattle.std.proofs.Common.{◌≡◌, ℕ, ◌+◌, ◌*◌, ◌-◌, ◌<◌, ◌≤◌, ◌^◌, List, [], ◌∷◌, ◌++◌, length, take, drop, map, get_or, refl, sym, ap, subst, ◌∙◌, arith}
use Rattle.std.proofs.Common.{append_assoc, append-nil, add-one, decimal, set, length-set, length-drop, take_all, take-add, drop-cons}
use Rattle.std.proofs.lemmas.List.{drop-set, drop_all}
use Rattle.std.proofs.lemmas.Fmt.{length-decimal-le}
use Rattle.tl_cert_output.specs.Writing.{line_of}
use Rattle.tl_cert.specs.Text.{numbered_line}
use Rattle.tl_cert.specs.Keeping.Putting.{HasRoom, Puts}
use Rattle.tl_cert.proofs.WriteLemmas.{line_first, numbers_text, numbers_joins}

-- a number of 32 bits has ten digits at most
pub few_digits : (n : ℕ) → n < 2 ^ 32 → length (decimal n) ≤ 10
few_digits n small = length-decimal-le 10 n (omega arith) (omega arith) (omega arith)

-- ---- what is put before what stands there

-- room for so many bytes is room for fewer
pub room_first : (all most place : ℕ) (text : List ℕ) → most ≤ all → HasRoom all place text → HasRoom most place text
room_first all most place text less h = record { room = omega (arith, less, h.room); within = h.within }

-- the room that is left before what was put
pub room_left : (all less most place start : ℕ) (old new bytes : List ℕ) → less + most ≤ all → HasRoom all place old
    → Puts less place start old new bytes → HasRoom most start new
room_left all less most place start old new bytes fits h p =
    record { room = omega (arith, fits, h.room, p.few); within = omega (arith, h.within, p.before, p.size) }

-- bytes are put, and others before them
pub puts_both : (all less more place middle start : ℕ) (old between new front behind whole : List ℕ) → less + more ≤ all
    → Puts less place middle old between behind → Puts more middle start between new front → front ++ behind ≡ whole
    → Puts all place start old new whole
puts_both all less more place middle start old between new front behind whole fits p q same =
    record {
      before = omega (arith, p.before, q.before);
      few = omega (arith, fits, p.few, q.few);
      written = q.written ∙ ap (λ l. front ++ l) p.written ∙ sym (append_assoc front behind (drop place old)) ∙ ap (λ l. l ++ drop place old) same;
      size = q.size ∙ p.size;
    }

-- four words, one behind the other
pub words_flat : (a b c d : List ℕ) → a ++ (b ++ (c ++ d)) ≡ ((a ++ b) ++ c) ++ d
words_flat a b c d = simp append_assoc

-- the same before others
pub words_before : (a b c d rest : List ℕ) → a ++ (b ++ (c ++ (d ++ rest))) ≡ (((a ++ b) ++ c) ++ d) ++ rest
words_before a b c d rest = simp append_assoc

-- nothing is put
pub puts_none : (most place : ℕ) (text : List ℕ) → Puts most place place text text []
puts_none most place text = record { before = omega arith; few = omega arith; written = refl; size = refl }

-- a byte is put
pub puts_byte : (byte place : ℕ) (text : List ℕ) → HasRoom 1 place text → Puts 1 place (place - 1) text (set text (place - 1) byte) (byte ∷ [])
puts_byte byte place text h =
    let next : place - 1 + 1 ≡ place = omega (arith, h.room) in
    record {
      before = omega arith;
      few = omega arith;
      written = drop-set text (place - 1) byte (omega (arith, h.room, h.within)) ∙ ap (λ i. byte ∷ drop i text) next;
      size = length-set text (place - 1) byte;
    }

-- the digits of a number of 32 bits are put
pub puts_digits : (n place start : ℕ) (old new : List ℕ) → n < 2 ^ 32 → start + length (decimal n) ≡ place
    → drop start new ≡ decimal n ++ drop place old → length new ≡ length old → Puts 10 place start old new (decimal n)
puts_digits n place start old new small counted written size =
    record { before = omega (arith, counted); few = omega (arith, counted, few_digits n small); written = written; size = size }

-- what was put before an array's end is the slice from there to the end
pub put_slice : (most start size : ℕ) (old new bytes : List ℕ) → length old ≡ size → Puts most size start old new bytes
    → take (size - start) (drop start new) ≡ bytes
put_slice most start size old new bytes long p =
    take_all (size - start) (drop start new) (omega (arith, length-drop start new, long, p.size))
    ∙ p.written
    ∙ ap (λ l. bytes ++ l) (drop_all size old (omega (arith, long)))
    ∙ append-nil bytes

-- a line more before those of the numbers behind it
pub number_before : (letter : ℕ) (numbers : List ℕ) (place : ℕ) (text behind rest : List ℕ) → place < length numbers
    → text ≡ line_of (numbered_line (letter ∷ []) (get_or numbers place 0)) ++ behind
    → behind ≡ numbers_text (letter ∷ []) (drop (place + 1) numbers) ++ rest
    → text ≡ numbers_text (letter ∷ []) (drop place numbers) ++ rest
number_before letter numbers place text behind rest below first others =
    let line = line_of (numbered_line (letter ∷ []) (get_or numbers place 0)) in
    first ∙ ap (λ l. line ++ l) others
    ∙ sym (append_assoc line (numbers_text (letter ∷ []) (drop (place + 1) numbers)) rest)
    ∙ ap (λ l. l ++ rest) (line_first (numbered_line (letter ∷ []) (get_or numbers place 0)) (map (numbered_line (letter ∷ [])) (drop (place + 1) numbers)))
    ∙ ap (λ (l : List ℕ). numbers_text (letter ∷ []) l ++ rest) (sym (one_more numbers place below))
  where
    one_more : (numbers : List ℕ) (place : ℕ) → place < length numbers → drop place numbers ≡ get_or numbers place 0 ∷ drop (place + 1) numbers
    one_more numbers place below = rw (add-one, drop-cons numbers place 0) refl

-- the same, as it is put: the number of those that are still to be put is one less
pub puts_next : (letter : ℕ) (numbers : List ℕ) (left : ℕ) (place middle start : ℕ) (old between new : List ℕ) → 0 < left → left ≤ length numbers
    → place ≤ start + 13 * length numbers
    → Puts (13 * length numbers) place middle old between (numbers_text (letter ∷ []) (drop left numbers))
    → Puts 13 middle start between new (line_of (numbered_line (letter ∷ []) (get_or numbers (left - 1) 0)))
    → Puts (13 * length numbers) place start old new (numbers_text (letter ∷ []) (drop (left - 1) numbers))
puts_next letter numbers left place middle start old between new some few near p q =
    let same : left - 1 + 1 ≡ left = omega (arith, some) in
    record {
      before = omega (arith, p.before, q.before);
      few = near;
      written = number_before letter numbers (left - 1) _ (drop middle between) (drop place old) (omega (arith, some, few)) q.written
          (subst (λ n. drop middle between ≡ numbers_text (letter ∷ []) (drop n numbers) ++ drop place old) (sym same) p.written);
      size = q.size ∙ p.size;
    }

-- some numbers more
pub numbers_more : (word xs : List ℕ) (done count : ℕ)
    → numbers_text word (take done xs) ++ numbers_text word (take count (drop done xs)) ≡ numbers_text word (take (done + count) xs)
numbers_more word xs done count =
    sym (ap (numbers_text word) (take-add done count xs) ∙ numbers_joins word (take done xs) (take count (drop done xs)))
