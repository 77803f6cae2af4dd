-- A line that was found in a buffer, and lines that can't be there.
use Rattle.std.proofs.Common.{refl, ◌≡◌, ℕ, ◌+◌, ◌-◌, ◌<◌, suc, List, [], ◌∷◌, ◌++◌, length, take, drop, Option, None, Some, Err, sym, ap, subst, ◌∙◌, arith, append_assoc, append-nil, length-append, slice_index, take_all}
use Rattle.std.specs.Option.{IfSome}
use Rattle.std.specs.Io.KnownBytes.{Keeps, Consumes, IsAtEnd, prepend_known}
use Rattle.std.proofs.lemmas.List.{take-append-le, take-append-drop}
use Rattle.std.proofs.Math.Seq.{take-append-add}
use Rattle.tl_record.specs.Lines.{line_feed, line_feeds, first_line, joined_lines}
use Rattle.tl_record.proofs.LineLemmas.{first_line_before, split_at_feed, feeds-split}
use Rattle.tl_cert.specs.declared.stop.CertStop.{CertStop}
use Rattle.tl_cert.specs.declared.stop.CertStop.TheVariants.{Text}
use Rattle.tl_cert.specs.declared.lines.Lines.{Lines}
use Rattle.tl_cert.specs.Keeping.Lines.{TakesFetched, NoLineBegins, LineState, ReadsLine, EndsText}

-- the first line of a text is one
pub first_only : (front other x y : List ℕ) → line_feeds front ≡ 0 → line_feeds other ≡ 0 → front ++ line_feed ∷ x ≡ other ++ line_feed ∷ y → front ≡ other
first_only front other x y none nothing same = sym (first_line_before front x none) ∙ ap first_line same ∙ first_line_before other y nothing

-- the text is the line that was found, its line feed, and what comes behind
pub whole_text : (text bytes xs : List ℕ) (len : ℕ) → bytes ++ xs ≡ text → len < length bytes → slice_index bytes len ≡ line_feed
    → text ≡ take len bytes ++ line_feed ∷ (drop (len + 1) bytes ++ xs)
whole_text text bytes xs len kept within feed =
    sym kept ∙ ap (λ (l : List ℕ). l ++ xs) (split_at_feed bytes len within feed) ∙ append_assoc (take len bytes) (line_feed ∷ drop (len + 1) bytes) xs

-- where the line that was found is none of these, none begins the text
pub found_other : (P : List ℕ → Type 0) (old left : Option (List ℕ)) (bytes : List ℕ) (len : ℕ) → Keeps old (prepend_known bytes left)
    → len < length bytes → slice_index bytes len ≡ line_feed → line_feeds (take len bytes) ≡ 0 → (P (take len bytes) → ⊥) → IfSome old (NoLineBegins P)
found_other P None left bytes len kept within feed none other = tt
found_other P (Some text) None bytes len kept within feed none other = absurd kept
found_other P (Some text) (Some xs) bytes len kept within feed none other = λ line rest is short same.
    let first = first_only (take len bytes) line (drop (len + 1) bytes ++ xs) rest none short.none (sym (whole_text text bytes xs len kept within feed) ∙ same) in
    other (subst P (sym first) is)

-- a text has no line without a line feed
pub none_left : (P : List ℕ → Type 0) (old left : Option (List ℕ)) (bytes : List ℕ) → Keeps old (prepend_known bytes left) → line_feeds bytes ≡ 0 → IsAtEnd left
    → IfSome old (NoLineBegins P)
none_left P None left bytes kept none ended = tt
none_left P (Some text) None bytes kept none ended = absurd kept
none_left P (Some text) (Some xs) bytes kept none ended = λ line rest is short same.
    let all : line_feeds text ≡ 0 = ap line_feeds (sym kept ∙ ap (λ (l : List ℕ). bytes ++ l) ended ∙ append-nil bytes) ∙ none in
    omega (arith, all, ap line_feeds same, feeds-split line rest short.none)

-- a line's line feed stands within so many bytes
feed_within : (line rest : List ℕ) (n : ℕ) → length line < n → (more : List ℕ) × (take n (line ++ line_feed ∷ rest) ≡ line ++ line_feed ∷ more)
feed_within line rest n short =
    let next : n - length line - 1 + 1 ≡ suc (n - length line - 1) = omega arith in (
      take (n - length line - 1) rest,
      ap (λ m. take m (line ++ line_feed ∷ rest)) (omega arith) ∙ take-append-add line (line_feed ∷ rest) (n - length line - 1 + 1)
          ∙ ap (λ (l : List ℕ). line ++ l) (ap (λ m. take m (line_feed ∷ rest)) next),
    )

pub too_long : (P : List ℕ → Type 0) (old left : Option (List ℕ)) (bytes : List ℕ) → Keeps old (prepend_known bytes left) → line_feeds bytes ≡ 0 → length bytes ≡ 4096
    → IfSome old (NoLineBegins P)
too_long P None left bytes kept none full = tt
too_long P (Some text) None bytes kept none full = absurd kept
too_long P (Some text) (Some xs) bytes kept none full = λ line rest is short same.
    let front : take 4096 text ≡ bytes = ap (take 4096) (sym kept) ∙ take-append-le 4096 bytes xs (omega (arith, full)) ∙ ap (λ n. take n bytes) (sym full) ∙ take_all (length bytes) bytes (omega arith) in
    let more = feed_within line rest 4096 (omega (arith, short.few)) in
    let has : line_feeds bytes ≡ line_feeds more.0 + 1 = ap line_feeds (sym front ∙ ap (take 4096) same ∙ more.1) ∙ feeds-split line more.0 short.none in
    omega (arith, none, has)

-- the line is taken off
pub line_taken : (old left : Option (List ℕ)) (bytes after line : List ℕ) (len : ℕ) → Keeps old (prepend_known bytes left)
    → len < length bytes → slice_index bytes len ≡ line_feed → after ≡ drop (len + 1) bytes → take len bytes ≡ line
    → Consumes old (prepend_known after left) (joined_lines (line ∷ []))
line_taken None left bytes after line len kept within feed rest is = tt
line_taken (Some text) None bytes after line len kept within feed rest is = kept
line_taken (Some text) (Some xs) bytes after line len kept within feed rest is =
    whole_text text bytes xs len kept within feed ∙ rw (rest, is) (sym (append_assoc line (line_feed ∷ []) (drop (len + 1) bytes ++ xs)))

-- bytes that were fetched are left
pub some_left : (bytes : List ℕ) (left : Option (List ℕ)) → (length bytes ≡ 0 → ⊥) → IfSome (prepend_known bytes left) (λ text. text ≡ [] → ⊥)
some_left bytes None some = tt
some_left bytes (Some xs) some = λ none. some (let sizes = ap length none in omega (arith, sizes, length-append bytes xs))

-- no byte was fetched, and none comes
pub nothing_left : (buffer bytes : List ℕ) (old new : Option (List ℕ)) → length buffer ≡ 0 → length bytes ≡ 0 → Consumes old new bytes → IsAtEnd new
    → IfSome (prepend_known buffer old) (λ text. text ≡ [])
nothing_left buffer bytes None new none nothing took end = tt
nothing_left buffer bytes (Some xs) None none nothing took end = absurd took
nothing_left buffer bytes (Some xs) (Some rest) none nothing took end =
    empty (buffer ++ xs) (omega (arith, length-append buffer xs, none, ap length took, length-append bytes rest, nothing, ap length end))
  where
    empty : (text : List ℕ) → length text ≡ 0 → text ≡ []
    empty [] none = refl
    empty (byte ∷ text) none = absurd (omega (arith, none))

-- some byte was fetched
pub more_left : (buffer bytes : List ℕ) (old new : Option (List ℕ)) → (length bytes ≡ 0 → ⊥) → Consumes old new bytes
    → IfSome (prepend_known buffer old) (λ text. text ≡ [] → ⊥)
more_left buffer bytes None new some took = tt
more_left buffer bytes (Some xs) None some took = absurd took
more_left buffer bytes (Some xs) (Some rest) some took =
    λ none. some (let sizes = ap length none in let all = ap length took in omega (arith, sizes, length-append buffer xs, all, length-append bytes rest))

-- the lines that stand first among the bytes that were fetched are taken
pub front_lines_taken : (old new : Lines) (lines : List (List ℕ)) (len : ℕ) (seen : List ℕ) → seen ≡ old.buffer → take len seen ≡ joined_lines lines
    → new.buffer ≡ drop len old.buffer → new.lines ≡ old.lines + length lines → TakesFetched old new lines
front_lines_taken old new lines len seen same spelt rest counted = record {
  bytes =
      sym (take-append-drop len old.buffer)
      ∙ ap (λ l. l ++ drop len old.buffer) (ap (take len) (sym same) ∙ spelt)
      ∙ ap (λ l. joined_lines lines ++ l) (sym rest);
  counted = counted;
}

-- a stop with this line
pub stops_with : {R V : Type 0} (remaining : R → Option (List ℕ)) (spelt : V → List ℕ) (fits : V → Type 0) (old new : LineState R) (stop : CertStop) (line : ℕ) → stop ≡ Text line
    → ReadsLine remaining spelt fits old new (Err (Text line)) → ReadsLine remaining spelt fits old new (Err stop)
stops_with remaining spelt fits old new stop line is reads = subst (λ s. ReadsLine remaining spelt fits old new (Err s)) (sym is) reads

pub ends_with : {R : Type 0} (remaining : R → Option (List ℕ)) (old new : LineState R) (stop : CertStop) (line : ℕ) → stop ≡ Text line
    → EndsText remaining old new (Err (Text line)) → EndsText remaining old new (Err stop)
ends_with remaining old new stop line is ends = subst (λ s. EndsText remaining old new (Err s)) (sym is) ends
