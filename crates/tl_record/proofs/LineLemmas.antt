-- Line feeds in a text, and its lines.
use Rattle.std.proofs.Common.{◌≡◌, ◌≢◌, ℕ, zero, suc, ◌+◌, ◌-◌, ◌<◌, ◌≤◌, true, false, List, [], ◌∷◌, ◌++◌, Some, None, length, take, drop, zero-add, take-add, take-append-drop, ne_eqb, refl, sym, ap, ◌∙◌, arith, inl, inr, take_all, cond}
use Rattle.std.specs.List.{between, slice_index}
use Rattle.std.proofs.lemmas.List.{length-drop, get_or-drop, length-append, take_at, append-nil, drop_more, drop_all, take_more}
use Rattle.std.proofs.lemmas.List.Sums.{sum_by-append}
use Rattle.std.proofs.lemmas.Slice.{between_to_end}
use Rattle.std.proofs.lemmas.Bool.{cases_Bool, eqb-true}
use Rattle.memchr.specs.Find.{IsFirstByte, is_byte}
use Rattle.tl_record.specs.Lines.{line_feed, line_feeds, raw_lines, with_first_byte, first_line, after_first_line}

pub feeds-append : (front rest : List ℕ) → line_feeds (front ++ rest) ≡ line_feeds front + line_feeds rest
feeds-append front rest = sum_by-append (λ byte. cond (is_byte line_feed byte) 1 0) front rest

feeds-cons : (byte : ℕ) (text : List ℕ) → line_feeds (byte ∷ text) ≡ cond (is_byte line_feed byte) 1 0 + line_feeds text
feeds-cons byte text = feeds-append (byte ∷ []) text ∙ ap (λ n. n + line_feeds text) (zero-add (cond (is_byte line_feed byte) 1 0))

-- a byte that is a line feed counts, and no other
feed_counts : (byte : ℕ) (text : List ℕ) → is_byte line_feed byte ≡ true → line_feeds (byte ∷ text) ≡ 1 + line_feeds text
feed_counts byte text is = feeds-cons byte text ∙ rw is refl

pub other_counts : (byte : ℕ) (text : List ℕ) → is_byte line_feed byte ≡ false → line_feeds (byte ∷ text) ≡ line_feeds text
other_counts byte text is = feeds-cons byte text ∙ rw is (zero-add (line_feeds text))

-- where no byte below a place is a line feed, none is counted
pub none_below : (text : List ℕ) (n : ℕ) → n ≤ length text → ((k : ℕ) → k < n → is_byte line_feed (slice_index text k) ≡ true → ⊥) → line_feeds (take n text) ≡ 0
none_below text zero within other = refl
none_below [] (suc n) within other = refl
none_below (byte ∷ text) (suc n) within other =
    elim (cases_Bool (is_byte line_feed byte)) [
      | inl is ↦ absurd (other 0 (omega arith) is)
      | inr is ↦ other_counts byte (take n text) is ∙ none_below text n (omega arith) (λ k below. other (suc k) (omega arith))
    ]

-- the bytes of a buffer up to a line feed that a search behind its first bytes found
pub feed_found : (bytes view : List ℕ) (searched found : ℕ) → view ≡ bytes → searched ≤ length bytes → line_feeds (take searched bytes) ≡ 0
    → IsFirstByte (is_byte line_feed) (between searched (length view) view) (Some found)
    → (searched + found < length bytes) × (slice_index bytes (searched + found) ≡ line_feed) × (line_feeds (take (searched + found) bytes) ≡ 0)
feed_found bytes view searched found same within none first =
    let rest : between searched (length bytes) bytes ≡ drop searched bytes = between_to_end bytes searched (length bytes) (omega arith) in
    let behind = rw rest at (rw same at first) in
    let below : found < length (drop searched bytes) = behind.0.high in
    let inside : found < length bytes - searched = omega (arith, below, length-drop searched bytes) in
    let before = none_below (drop searched bytes) found (omega arith) (λ k less. behind.0.before k (omega arith) less) in
    let is : slice_index (drop searched bytes) found ≡ line_feed = eqb-true _ _ behind.1 in (
      omega arith,
      sym (get_or-drop searched bytes found 0) ∙ is,
      ap line_feeds (take-add searched found bytes) ∙ feeds-append (take searched bytes) (take found (drop searched bytes)) ∙ rw (none, before) refl,
    )

-- no line feed was found behind the first bytes of a buffer
pub no_feed_found : (bytes view : List ℕ) (searched : ℕ) → view ≡ bytes → searched ≤ length bytes → line_feeds (take searched bytes) ≡ 0
    → IsFirstByte (is_byte line_feed) (between searched (length view) view) None → line_feeds bytes ≡ 0
no_feed_found bytes view searched same within none nowhere =
    let rest : between searched (length bytes) bytes ≡ drop searched bytes = between_to_end bytes searched (length bytes) (omega arith) in
    let behind = rw rest at (rw same at nowhere) in
    let all : take (length (drop searched bytes)) (drop searched bytes) ≡ drop searched bytes = take_all (length (drop searched bytes)) (drop searched bytes) (omega arith) in
    let after = none_below (drop searched bytes) (length (drop searched bytes)) (omega arith) (λ k less. behind k (omega arith) less) in
    ap line_feeds (sym (take-append-drop searched bytes)) ∙ feeds-append (take searched bytes) (drop searched bytes) ∙ rw (none, sym (ap line_feeds all) ∙ after) refl

-- there is less room where bytes were added
pub less_room : (old bytes new : List ℕ) (size count : ℕ) → length old ≤ size → (length old ≡ size → ⊥) → new ≡ old ++ bytes → length bytes ≡ count → (count ≡ 0 → ⊥) → size - length new < size - length old
less_room old bytes new size count room full joined long some = rw joined (omega (arith, length-append old bytes, room, full, long, some))

-- bytes behind bytes with no line feed are still to be searched
pub front_searched : (old bytes new : List ℕ) (searched : ℕ) → new ≡ old ++ bytes → searched ≡ length old → line_feeds old ≡ 0
    → (searched ≤ length new) × (line_feeds (take searched new) ≡ 0)
front_searched old bytes new searched joined all none =
    let front : take searched new ≡ old = ap (take searched) joined ∙ take_at old bytes searched (sym all) in
    (rw joined (omega (arith, length-append old bytes)), ap line_feeds front ∙ none)

pub no_bytes : (front bytes : List ℕ) → length bytes ≡ 0 → front ++ bytes ≡ front
no_bytes front [] none = append-nil front
no_bytes front (byte ∷ bytes) none = absurd (omega arith)

-- a text with no line feed is one line, and nothing follows it
pub no_feed_here : (byte : ℕ) (text : List ℕ) → line_feeds (byte ∷ text) ≡ 0 → (is_byte line_feed byte ≡ false) × (line_feeds text ≡ 0)
no_feed_here byte text none =
    elim (cases_Bool (is_byte line_feed byte)) [
      | inl is ↦ let counted = feed_counts byte text is in absurd (omega (arith, counted))
      | inr is ↦ (is, sym (other_counts byte text is) ∙ none)
    ]

pub first_line_before : (front rest : List ℕ) → line_feeds front ≡ 0 → first_line (front ++ line_feed ∷ rest) ≡ front
first_line_before [] rest none = refl
first_line_before (byte ∷ front) rest none =
    let parts = no_feed_here byte front none in rw parts.0 (ap (λ (l : List ℕ). byte ∷ l) (first_line_before front rest parts.1))

pub after_first_line_before : (front rest : List ℕ) → line_feeds front ≡ 0 → after_first_line (front ++ line_feed ∷ rest) ≡ rest
after_first_line_before [] rest none = refl
after_first_line_before (byte ∷ front) rest none =
    let parts = no_feed_here byte front none in rw parts.0 (after_first_line_before front rest parts.1)

pub first_line_whole : (text : List ℕ) → line_feeds text ≡ 0 → first_line text ≡ text
first_line_whole [] none = refl
first_line_whole (byte ∷ text) none = let parts = no_feed_here byte text none in rw parts.0 (ap (λ (l : List ℕ). byte ∷ l) (first_line_whole text parts.1))

pub after_first_line_whole : (text : List ℕ) → line_feeds text ≡ 0 → after_first_line text ≡ []
after_first_line_whole [] none = refl
after_first_line_whole (byte ∷ text) none = let parts = no_feed_here byte text none in rw parts.0 (after_first_line_whole text parts.1)

-- the first line of a text goes at least as far as its bytes with no line feed
pub first_line_over : (front rest : List ℕ) → line_feeds front ≡ 0 → length front ≤ length (first_line (front ++ rest))
first_line_over [] rest none = omega arith
first_line_over (first ∷ front) rest none =
    let parts = no_feed_here first front none in
    let longer = first_line_over front rest parts.1 in
    rw parts.0 (omega (arith, longer))

-- a byte before a text stands before its first line
byte_before : (byte : ℕ) (text : List ℕ) → with_first_byte byte (raw_lines text) ≡ (byte ∷ first_line text) ∷ raw_lines (after_first_line text)
byte_before byte [] = refl
byte_before byte (next ∷ text) =
    elim (cases_Bool (is_byte line_feed next)) [
      | inl is ↦ rw is refl
      | inr is ↦ rw is (ap (with_first_byte byte) (byte_before next text))
    ]

-- the raw lines of a text: its first line, and those of what follows it
pub raw_lines-first : (text : List ℕ) → text ≢ [] → raw_lines text ≡ first_line text ∷ raw_lines (after_first_line text)
raw_lines-first [] some = absurd (some refl)
raw_lines-first (byte ∷ text) some =
    elim (cases_Bool (is_byte line_feed byte)) [
      | inl is ↦ rw is refl
      | inr is ↦ rw is (byte_before byte text)
    ]

-- bytes up to a line feed, the line feed, and the bytes after it
pub split_at_feed : (bytes : List ℕ) (len : ℕ) → len < length bytes → slice_index bytes len ≡ line_feed → bytes ≡ take len bytes ++ line_feed ∷ drop (len + 1) bytes
split_at_feed bytes len within is =
    sym (take-append-drop len bytes) ∙ ap (λ (l : List ℕ). take len bytes ++ l) (drop_more bytes len 0 within)
    ∙ ap (λ byte. take len bytes ++ byte ∷ drop (len + 1) bytes) is

pub feeds-split : (front rest : List ℕ) → line_feeds front ≡ 0 → line_feeds (front ++ line_feed ∷ rest) ≡ line_feeds rest + 1
feeds-split front rest none =
    let counted = feed_counts line_feed rest refl in
    feeds-append front (line_feed ∷ rest) ∙ rw (none, counted) (omega arith)

-- where the first line of a text ends
pub line_ends : (text : List ℕ) (n : ℕ) → n < length text → slice_index text n ≡ line_feed → line_feeds (take n text) ≡ 0
    → (take n text ≡ first_line text) × (drop (n + 1) text ≡ after_first_line text)
line_ends text n within feed none =
    let split = split_at_feed text n within feed in
    (sym (ap first_line split ∙ first_line_before (take n text) (drop (n + 1) text) none), sym (ap after_first_line split ∙ after_first_line_before (take n text) (drop (n + 1) text) none))

pub line_is_whole : (text : List ℕ) → line_feeds text ≡ 0 → (take (length text) text ≡ first_line text) × (drop (length text + 1) text ≡ after_first_line text)
line_is_whole text none =
    (take_all (length text) text (omega arith) ∙ sym (first_line_whole text none), drop_all (length text + 1) text (omega arith) ∙ sym (after_first_line_whole text none))

-- one more byte that is no line feed
pub no_feed_more : (text : List ℕ) (n : ℕ) → n < length text → (slice_index text n ≡ line_feed → ⊥) → line_feeds (take n text) ≡ 0 → line_feeds (take (n + 1) text) ≡ 0
no_feed_more text n within other none =
    let counted = other_counts (slice_index text n) [] (ne_eqb (slice_index text n) 10 other) in
    ap line_feeds (take_more text n 0 within) ∙ feeds-append (take n text) (slice_index text n ∷ []) ∙ rw (none, counted) refl
