-- What reading several texts as one gives.
use Rattle.std.proofs.Common.{◌≡◌, ℕ, zero, suc, ◌+◌, ◌-◌, ◌^◌, ◌<◌, ◌≤◌, min, Bool, false, not, ◌==◌, nat_eq, List, [], ◌∷◌, ◌++◌, length, take, drop, slice_index}
use Rattle.std.proofs.Common.{Some, None, refl, ap, ◌∙◌, append_assoc, arith, map, option_map, if◌then◌else◌, slice_index_or, slice_set, slice_range, add-one, sym, drop-drop, take_at, take-append-drop}
use Rattle.std.proofs.Math.Seq.{drop-cons}
use Rattle.std.proofs.lemmas.Option.{same_Some, slice_get-get_or}
use Rattle.std.proofs.lemmas.List.{drop-set, drop-set-lt, drop-take, get_or-take, length-take-le}
use Rattle.std.specs.Io.KnownBytes.{Consumes, IsAtEnd, Keeps, prepend_known}
use Rattle.std.specs.Prelude.{Option, slice_get}
use Rattle.std.specs.Fmt.{option_append}
use Rattle.tl_record.specs.Failures.{one_more}
use Rattle.tigertopo_files.specs.Joining.{line_feed, leaves_open, closed, joined, joined_bytes, failures_from}

pub leaves_open-append : (before : Bool) (xs ys : List ℕ) → leaves_open before (xs ++ ys) ≡ leaves_open (leaves_open before xs) ys
leaves_open-append before [] ys = refl
leaves_open-append before (x ∷ xs) ys = leaves_open-append (not (x == line_feed)) xs ys

-- what was read leaves the rest of the text to be closed
pub closed-append : (before : Bool) (xs ys : List ℕ) → closed before (xs ++ ys) ≡ xs ++ closed (leaves_open before xs) ys
closed-append before xs ys =
    rw leaves_open-append (append_assoc xs ys (if leaves_open (leaves_open before xs) ys then line_feed ∷ [] else []))

-- the last byte decides
leaves_open-cons : (xs : List ℕ) (x : ℕ) (before : Bool)
    → leaves_open before (x ∷ xs) ≡ not (slice_index (x ∷ xs) (length xs) == line_feed)
leaves_open-cons [] x before = refl
leaves_open-cons (y ∷ ys) x before = leaves_open-cons ys y (not (x == line_feed))

pub leaves_open-last : (before : Bool) (xs : List ℕ) → 0 < length xs
    → leaves_open before xs ≡ not (slice_index xs (length xs - 1) == line_feed)
leaves_open-last before [] h = absurd (omega arith)
leaves_open-last before (x ∷ xs) h =
    let size : length (x ∷ xs) - 1 ≡ length xs = omega arith in
    rw size (leaves_open-cons xs x before)

-- the last byte, where there is one
pub leaves_open-of_last : (before : Bool) (xs : List ℕ) (byte : ℕ) → slice_get xs (length xs - 1) ≡ Some byte → not (byte == line_feed) ≡ leaves_open before xs
leaves_open-of_last before [] byte is = cc
leaves_open-of_last before (x ∷ xs) byte is =
    let last : length xs < length (x ∷ xs) = omega arith in
    let here : length (x ∷ xs) - 1 ≡ length xs = omega arith in
    let found : slice_index (x ∷ xs) (length xs) ≡ byte =
    same_Some (slice_index (x ∷ xs) (length xs)) byte (sym (slice_get-get_or (x ∷ xs) (length xs) 0 last) ∙ (rw here at is)) in
    ap (λ b. not (b == line_feed)) (sym found) ∙ sym (leaves_open-cons xs x before)

-- the last of the n bytes that a read gave decides
pub leaves_open-read : (before : Bool) (buf : List ℕ) (n : ℕ) → 0 < n → n ≤ length buf
    → leaves_open before (take n buf) ≡ not (nat_eq (slice_index_or buf (n - 1) 0) line_feed)
leaves_open-read before buf n some bound =
    let size : length (take n buf) ≡ n = length-take-le n buf bound in
    let last : n - 1 < n = omega arith in
    let here : slice_index_or (take n buf) (n - 1) 0 ≡ slice_index_or buf (n - 1) 0 = get_or-take n buf (n - 1) 0 last in
    leaves_open-last before (take n buf) (omega arith) ∙ ap (λ k. not (nat_eq (slice_index_or (take n buf) (k - 1) 0) line_feed)) size
    ∙ ap (λ b. not (nat_eq b line_feed)) here

-- a read of the first text, of whose bytes and of those behind it some are known
first_read : (before : Bool) (a b rest : Option (List ℕ)) (xs : List ℕ) → Consumes a b xs
    → Consumes (option_append (option_map (closed before) a) rest)
    (option_append (option_map (closed (leaves_open before xs)) b) rest) xs
first_read before None b rest xs h = tt
first_read before (Some p) None rest xs h = absurd h
first_read before (Some p) (Some q) None xs h = tt
first_read before (Some p) (Some q) (Some r) xs h =
    ap (λ l. closed before l ++ r) h ∙ ap (λ l. l ++ r) (closed-append before xs q)
    ∙ append_assoc xs (closed (leaves_open before xs) q) r

-- the first text is at its end
first_end : (before : Bool) (a b rest : Option (List ℕ)) → Consumes a b [] → IsAtEnd b
    → Consumes (option_append (option_map (closed before) a) rest) rest (if before then line_feed ∷ [] else [])
first_end before None b rest h e = tt
first_end before (Some p) None rest h e = absurd h
first_end before (Some p) (Some q) None h e = tt
first_end before (Some p) (Some q) (Some r) h e = ap (λ l. closed before l ++ r) (h ∙ e)

-- a line feed at the front of a buffer
pub take-line_feed : (buf : List ℕ) → 0 < length buf → take 1 (slice_set buf 0 line_feed) ≡ line_feed ∷ []
take-line_feed [] h = absurd (omega arith)
take-line_feed (x ∷ xs) h = refl

module _ {R : Type 0} (bytes : R → Option (List ℕ)) where
  -- the reader at i gave some bytes
  pub joined_bytes-read : (before : Bool) (readers : List R) (i : ℕ) (old new : R) (xs : List ℕ) → i < length readers
      → old ≡ slice_index_or readers i old → Consumes (bytes old) (bytes new) xs
      → Consumes (joined_bytes bytes before (drop i readers))
      (joined_bytes bytes (leaves_open before xs) (drop i (slice_set readers i new))) xs
  joined_bytes-read before readers i old new xs within here h =
      let from : drop i readers ≡ old ∷ drop (i + 1) readers = rw (add-one, drop-cons readers i old, ← here) refl in
      rw (from, drop-set readers i new within) (first_read before _ _ _ xs h)

  -- the reader at i is at its end
  pub joined_bytes-end : (before : Bool) (readers : List R) (i : ℕ) (old new : R) → i < length readers
      → old ≡ slice_index_or readers i old → Consumes (bytes old) (bytes new) [] → IsAtEnd (bytes new)
      → Consumes (joined_bytes bytes before (drop i readers))
      (joined_bytes bytes false (drop (i + 1) (slice_set readers i new))) (if before then line_feed ∷ [] else [])
  joined_bytes-end before readers i old new within here h e =
      let from : drop i readers ≡ old ∷ drop (i + 1) readers = rw (add-one, drop-cons readers i old, ← here) refl in
      let past : drop (i + 1) (slice_set readers i new) ≡ drop (i + 1) readers =
      drop-set-lt (i + 1) readers i new (omega arith) in
      rw (from, past) (first_end before _ _ _ h e)

  -- the readers' texts, where each is known
  pub joined_bytes-known : (readers : List R) (texts : List (List ℕ)) → map bytes readers ≡ map Some texts
      → joined_bytes bytes false readers ≡ Some (joined texts)
  joined_bytes-known [] [] h = refl
  joined_bytes-known [] (text ∷ texts) h = cc
  joined_bytes-known (reader ∷ readers) [] h = cc
  joined_bytes-known (reader ∷ readers) (text ∷ texts) h =
      let first : bytes reader ≡ Some text = cc in
      let others : map bytes readers ≡ map Some texts = cc in
      rw (first, joined_bytes-known readers texts others) refl

-- ---- failures

-- one more before, one more behind
from_one_more : {R : Type 0} (failures : R → ℕ) (before : ℕ) (readers : List R) → failures_from failures (one_more before) readers ≡ one_more (failures_from failures before readers)
from_one_more failures before [] = refl
from_one_more failures before (reader ∷ rest) =
    let same : min (one_more before + failures reader) (2 ^ 64 - 1) ≡ one_more (min (before + failures reader) (2 ^ 64 - 1)) = omega arith in
    ap (λ n. failures_from failures n rest) same ∙ from_one_more failures (min (before + failures reader) (2 ^ 64 - 1)) rest

-- a read of one of them that failed
pub failed_read : {R : Type 0} (failures : R → ℕ) (before : ℕ) (readers : List R) (i : ℕ) (old new : R) → i < length readers → old ≡ slice_index_or readers i old → failures new ≡ one_more (failures old)
    → failures_from failures before (slice_set readers i new) ≡ one_more (failures_from failures before readers)
failed_read failures before [] i old new within here more = absurd (omega arith)
failed_read failures before (reader ∷ rest) zero old new within here more =
    let more_here : failures new ≡ one_more (failures reader) = more ∙ ap (λ r. one_more (failures r)) here in
    let same : min (before + failures new) (2 ^ 64 - 1) ≡ one_more (min (before + failures reader) (2 ^ 64 - 1)) = omega (arith, more_here) in
    ap (λ n. failures_from failures n rest) same ∙ from_one_more failures (min (before + failures reader) (2 ^ 64 - 1)) rest
failed_read failures before (reader ∷ rest) (suc i) old new within here more =
    failed_read failures (min (before + failures reader) (2 ^ 64 - 1)) rest i old new (omega arith) here more

-- a read of one of them that didn't
pub good_read : {R : Type 0} (failures : R → ℕ) (before : ℕ) (readers : List R) (i : ℕ) (old new : R) → i < length readers → old ≡ slice_index_or readers i old → failures new ≡ failures old
    → failures_from failures before (slice_set readers i new) ≡ failures_from failures before readers
good_read failures before [] i old new within here same = absurd (omega arith)
good_read failures before (reader ∷ rest) zero old new within here same = ap (λ n. failures_from failures (min (before + n) (2 ^ 64 - 1)) rest) (same ∙ ap failures here)
good_read failures before (reader ∷ rest) (suc i) old new within here same =
    good_read failures (min (before + failures reader) (2 ^ 64 - 1)) rest i old new (omega arith) here same

-- ---- bytes that are given from the front of what is held

pub advance : (bytes : List ℕ) (start end n : ℕ) → n ≤ end - start → slice_range bytes (start + n) end ≡ drop n (slice_range bytes start end)
advance bytes start end n within =
    let whole : n + (end - (start + n)) ≡ end - start = omega arith in
    ap (take (end - (start + n))) (sym (drop-drop n start bytes)) ∙ sym (drop-take n (end - (start + n)) (drop start bytes)) ∙ ap (λ k. drop n (take k (drop start bytes))) whole

-- what was held is what was given, and what is held then
pub given : (held buf_old buf_new : List ℕ) (n : ℕ) → n ≤ length held → buf_new ≡ take n held ++ drop n buf_old → held ≡ take n buf_new ++ drop n held
given held buf_old buf_new n within copied =
    let front : take n buf_new ≡ take n held = ap (take n) copied ∙ take_at (take n held) (drop n buf_old) n (length-take-le n held within) in
    sym (take-append-drop n held) ∙ ap (λ l. l ++ drop n held) (sym front)

-- nothing is given to a buffer with room where nothing is held
pub none_held : (held buf_old buf_new : List ℕ) (n : ℕ) → n ≡ min (length held) (length buf_old) → buf_new ≡ take n held ++ drop n buf_old → n ≡ 0 → 0 < length buf_new → held ≡ []
none_held [] buf_old buf_new n count copied nothing some = refl
none_held (byte ∷ held) buf_old buf_new n count copied nothing some =
    let same : length buf_new ≡ length buf_old = ap length copied ∙ ap (λ k. length (take k (byte ∷ held) ++ drop k buf_old)) nothing in
    absurd (omega (arith, count, nothing, same, some))

with_nothing : (left : Option (List ℕ)) → prepend_known [] left ≡ left
with_nothing None = refl
with_nothing (Some bytes) = refl

-- where nothing is held, what is still to come are the other source's bytes
pub nothing_held : (items : List ℕ) (start end : ℕ) (left : Option (List ℕ)) → start ≡ end → left ≡ prepend_known (slice_range items start end) left
nothing_held items start end left same =
    let none : end - start ≡ 0 = omega (arith, same) in
    let empty : slice_range items start end ≡ [] = ap (λ n. take n (drop start items)) none in
    sym (ap (λ held. prepend_known held left) empty ∙ with_nothing left)

-- what nothing was taken of stays
pub keeps_none : (old new : Option (List ℕ)) (n : ℕ) (buf : List ℕ) → n ≡ 0 → Consumes old new (take n buf) → Keeps old new
keeps_none None new n buf none takes = tt
keeps_none (Some xs) None n buf none takes = takes
keeps_none (Some xs) (Some ys) n buf none takes = sym (rw none at takes)
