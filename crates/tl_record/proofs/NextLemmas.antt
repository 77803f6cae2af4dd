-- What a search for the next line shows of the text that wasn't judged before.
use Rattle.std.proofs.Common.{◌≡◌, ◌≢◌, ℕ, ◌+◌, ◌<◌, List, [], ◌∷◌, ◌++◌, Option, None, Some, length, take, drop, refl, sym, ap, ◌∙◌, arith, append_assoc, append-nil, replicate, ◌≤◌}
use Rattle.std.proofs.lemmas.List.{length-replicate}
use Rattle.std.specs.List.{slice_index}
use Rattle.std.specs.Io.KnownBytes.{Keeps, IsAtEnd, prepend_known}
use Rattle.tl_record.specs.declared.layout.Layout.{Layout}
use Rattle.tl_record.specs.declared.stop.Cause.{Cause}
use Rattle.tl_record.specs.declared.judge.Judgement.{Judgement}
use Rattle.tl_record.specs.declared.judge.Meaning.{Meaning}
use Rattle.tl_record.specs.declared.judge.Meaning.TheVariants as meaning
use Rattle.tl_record.specs.declared.record.Record.{Record}
use Rattle.tl_record.specs.Meaning.{judgement_with}
use Rattle.tl_record.specs.declared.judge.Judgement.TheVariants.{PassedOver, Read, Refused}
use Rattle.tl_record.specs.declared.reader.NextLine.TheVariants as next
use Rattle.tl_record.specs.Lines.{line_feed, line_feeds, first_line, after_first_line}
use Rattle.tl_record.specs.Judgement.{judgement}
use Rattle.tl_record.specs.NextLine.{IfAccepted, IfRefused, TakesLine, FindsNext}
use Rattle.tl_record.proofs.LineLemmas.{first_line_before, after_first_line_before, first_line_whole, after_first_line_whole, first_line_over, split_at_feed, feeds-split}

accepted : (j : Judgement) (P : Type 0) → P → IfAccepted j P
accepted PassedOver P p = p
accepted (Read r) P p = p
accepted (Refused cause) P p = tt

pub not_empty : (front rest : List ℕ) (byte : ℕ) → front ++ byte ∷ rest ≢ []
not_empty [] rest byte is = cc
not_empty (first ∷ front) rest byte is = cc

some_bytes : (front rest : List ℕ) → 0 < length front → front ++ rest ≢ []
some_bytes [] rest some is = absurd (omega arith)
some_bytes (first ∷ front) rest some is = cc

-- what is left of a text behind a line: what follows it, or the line too where it is refused
abbrev pub left_of : Judgement → (accepted refused : List ℕ) → List ℕ
left_of PassedOver accepted refused = accepted
left_of (Read r) accepted refused = accepted
left_of (Refused cause) accepted refused = refused

-- what was consumed of a buffer behind a line that is told by its meaning
pub left_refused : (told : Meaning) (cause : Cause) (r : Record) (rest bytes : List ℕ) → told ≡ meaning.Refused cause → bytes ≡ left_of (judgement_with told r) rest bytes
left_refused meaning.PassedOver cause r rest bytes is = absurd (let wrong = is in cc)
left_refused meaning.Read cause r rest bytes is = absurd (let wrong = is in cc)
left_refused (meaning.Refused c) cause r rest bytes is = refl

pub left_accepted : (told : Meaning) (r : Record) (rest bytes after : List ℕ) → ((cause : Cause) → told ≡ meaning.Refused cause → ⊥) → after ≡ rest
    → after ≡ left_of (judgement_with told r) rest bytes
left_accepted meaning.PassedOver r rest bytes after not is = is
left_accepted meaning.Read r rest bytes after not is = is
left_accepted (meaning.Refused cause) r rest bytes after not is = absurd (not cause refl)

accepted_left : (j : Judgement) (rest text after : List ℕ) → after ≡ rest → IfAccepted j (let old : Option (List ℕ) = Some (left_of j rest text) in old ≡ Some after)
accepted_left PassedOver rest text after is = ap (λ (l : List ℕ). Some l) (sym is)
accepted_left (Read r) rest text after is = ap (λ (l : List ℕ). Some l) (sym is)
accepted_left (Refused cause) rest text after is = tt

refused_left : (j : Judgement) (rest text : List ℕ) → IfRefused j (let old : Option (List ℕ) = Some (left_of j rest text) in old ≡ Some text)
refused_left PassedOver rest text = tt
refused_left (Read r) rest text = tt
refused_left (Refused cause) rest text = refl

-- a line whose line feed stands in a text
takes_line : (layout : Layout) (number : ℕ) (front rest : List ℕ) (j : Judgement) → line_feeds front ≡ 0 → j ≡ judgement layout number front
    → TakesLine layout number (front ++ line_feed ∷ rest) (Some (left_of j rest (front ++ line_feed ∷ rest))) j
takes_line layout number front rest j none is =
    let text = front ++ line_feed ∷ rest in
    record {
      first = record {
        some = not_empty front rest line_feed;
        is = is ∙ ap (judgement layout number) (sym (first_line_before front rest none));
      };
      rest = accepted_left j rest text (after_first_line text) (after_first_line_before front rest none);
      feeds = accepted j (line_feeds text ≡ line_feeds (after_first_line text) + 1)
          (feeds-split front rest none ∙ ap (λ l. line_feeds l + 1) (sym (after_first_line_before front rest none)));
      stays = refused_left j rest text;
    }

-- what is left of a buffer, before the bytes of its source
joined_left : (j : Judgement) (rest bytes whole xs : List ℕ) → bytes ++ xs ≡ whole
    → left_of j rest bytes ++ xs ≡ left_of j (rest ++ xs) whole
joined_left PassedOver rest bytes whole xs is = refl
joined_left (Read r) rest bytes whole xs is = refl
joined_left (Refused cause) rest bytes whole xs is = is

-- a line whose line feed was fetched
pub finds_line : (layout : Layout) (number : ℕ) (old left : Option (List ℕ)) (bytes after : List ℕ) (len : ℕ) (j : Judgement) → Keeps old (prepend_known bytes left)
    → len < length bytes → slice_index bytes len ≡ line_feed → line_feeds (take len bytes) ≡ 0 → j ≡ judgement layout number (take len bytes)
    → after ≡ left_of j (drop (len + 1) bytes) bytes
    → FindsNext layout number old (prepend_known after left) (next.Line j)
finds_line layout number None left bytes after len j kept within feed none is rest = tt
finds_line layout number (Some text) None bytes after len j kept within feed none is rest = absurd kept
finds_line layout number (Some text) (Some xs) bytes after len j kept within feed none is rest =
    let behind = drop (len + 1) bytes in
    let split : bytes ++ xs ≡ take len bytes ++ line_feed ∷ (behind ++ xs) =
    ap (λ (l : List ℕ). l ++ xs) (split_at_feed bytes len within feed) ∙ append_assoc (take len bytes) (line_feed ∷ behind) xs in
    let whole : text ≡ take len bytes ++ line_feed ∷ (behind ++ xs) = sym kept ∙ split in
    let left_is : after ++ xs ≡ left_of j (behind ++ xs) (take len bytes ++ line_feed ∷ (behind ++ xs)) =
    ap (λ (l : List ℕ). l ++ xs) rest ∙ joined_left j behind bytes _ xs split in
    rw (whole, left_is) (takes_line layout number (take len bytes) (behind ++ xs) j none is)

-- the last line, with no line feed
pub finds_last : (layout : Layout) (number : ℕ) (left : Option (List ℕ)) (bytes : List ℕ) (j : Judgement)
    → bytes ≢ [] → IsAtEnd left → line_feeds bytes ≡ 0 → j ≡ judgement layout number bytes
    → FindsNext layout number (prepend_known bytes left) (prepend_known bytes left) (next.Last j)
finds_last layout number None bytes j some ended none is = tt
finds_last layout number (Some xs) bytes j some ended none is =
    let whole : bytes ++ xs ≡ bytes = ap (λ (l : List ℕ). bytes ++ l) ended ∙ append-nil bytes in
    rw whole record {
      first = record { some = some; is = is ∙ ap (judgement layout number) (sym (first_line_whole bytes none)) };
      rest = after_first_line_whole bytes none;
      stays = refl;
    }

-- a line that fills the buffer, which is longer than any line that is read
pub finds_full : (layout : Layout) (number : ℕ) (old left : Option (List ℕ)) (bytes : List ℕ) (cause : Cause) → Keeps old (prepend_known bytes left)
    → line_feeds bytes ≡ 0 → 0 < length bytes → ((line : List ℕ) → length bytes ≤ length line → judgement layout number line ≡ Refused cause)
    → FindsNext layout number old (prepend_known bytes left) (next.Line (Refused cause))
finds_full layout number None left bytes cause kept none some is = tt
finds_full layout number (Some text) None bytes cause kept none some is = absurd kept
finds_full layout number (Some text) (Some xs) bytes cause kept none some is =
    rw (← kept) record {
      first = record {
        some = some_bytes bytes xs some;
        is = sym (is (first_line (bytes ++ xs)) (first_line_over bytes xs none));
      };
      rest = tt;
      feeds = tt;
      stays = refl;
    }

-- a failed read takes nothing
pub finds_failed : (layout : Layout) (number : ℕ) (left after : Option (List ℕ)) (bytes : List ℕ) → Keeps left after
    → FindsNext layout number (prepend_known bytes left) (prepend_known bytes after) next.Failed
finds_failed layout number None after bytes kept = tt
finds_failed layout number (Some xs) None bytes kept = absurd kept
finds_failed layout number (Some xs) (Some ys) bytes kept = rw kept refl

-- some line of more bytes than that
unfoldable pub longer : ℕ → List ℕ
longer n = replicate (n + 1) 0

pub longer_is : (n : ℕ) → n < length (longer n)
unfolding longer
longer_is n = omega (arith, length-replicate {A = ℕ} (n + 1) 0)
