-- Lines of several texts that are counted while readers give them.
use Rattle.std.proofs.Common.{◌≡◌, ◌≢◌, ℕ, zero, suc, ◌+◌, ◌-◌, ◌^◌, ◌<◌, ◌≤◌, Bool, true, false, All, List, [], ◌∷◌, ◌++◌, length, take, map, Option, Some, None, IfSome, slice_set, slice_index_or, add-one, refl, sym, ap, subst, ◌∙◌, arith}
use Rattle.std.proofs.lemmas.List.{length-append, length-take}
use Rattle.std.proofs.lemmas.Simd.{map-map}
use Rattle.std.proofs.lemmas.List.Elements.{All-head, All-tail}
use Rattle.std.specs.Io.KnownBytes.{Consumes, IsAtEnd, Keeps}
use Rattle.tl_record.specs.Lines.{raw_lines}
use Rattle.tigertopo_files.specs.Counting.{lines_with, IsNew, CountsAt, IsShort, IsCounted, AreCounted}
use Rattle.tigertopo_files.specs.Files.{Under, bytes_under}
use Rattle.tigertopo_files.specs.Reading.{counted_names}
use Rattle.tigertopo_files.specs.declared.counting.LineCount.{LineCount}
use Rattle.tigertopo_files.proofs.CountingLemmas.{few_lines}

-- ---- counts of which one goes on

module _ (bytes : List ℕ) where
  pub set_goes_on : (counts : List LineCount) (place : ℕ) (d new : LineCount) → place < length counts → ((text : List ℕ) → lines_with new text ≡ lines_with (slice_index_or counts place d) (bytes ++ text))
      → CountsAt counts (slice_set counts place new) place bytes
  set_goes_on [] place d new within more = absurd (omega (arith, within))
  set_goes_on (count ∷ counts) zero d new within more = (more, refl)
  set_goes_on (count ∷ counts) (suc place) d new within more = (refl, set_goes_on counts place d new (omega (arith, within)) more)

  pub none_goes_on : (counts : List LineCount) (place : ℕ) → length counts ≤ place → CountsAt counts counts place bytes
  none_goes_on [] place past = refl
  none_goes_on (count ∷ counts) zero past = absurd (omega (arith, past))
  none_goes_on (count ∷ counts) (suc place) past = (refl, none_goes_on counts place (omega (arith, past)))

-- ---- one text

begin_one : (text : Option (List ℕ)) (count : LineCount) → IsNew count → IsShort text → IsCounted text text count
begin_one None count new short = tt
begin_one (Some text) count new short =
    let few = few_lines text in
    let is = new text in
    (omega (arith, few, is, short), short)

read_one : (text old left : Option (List ℕ)) (count other : LineCount) (bytes : List ℕ) → IsCounted text old count → Consumes old left bytes → ((rest : List ℕ) → lines_with other rest ≡ lines_with count (bytes ++ rest))
    → IsCounted text left other
read_one None old left count other bytes is takes more = tt
read_one (Some text) None left count other bytes is takes more = absurd is
read_one (Some text) (Some all) None count other bytes is takes more = absurd takes
read_one (Some text) (Some all) (Some rest) count other bytes is takes more =
    let long = length-append bytes rest in
    let whole = ap length takes in
    let short = is.1 in
    (more rest ∙ ap (lines_with count) (sym takes) ∙ is.0, omega (arith, long, whole, short))

end_one : (text old left : Option (List ℕ)) (count : LineCount) → IsCounted text old count → Consumes old left [] → IsAtEnd left → IsCounted text (Some []) count
end_one None old left count is takes end = tt
end_one (Some text) None left count is takes end = absurd is
end_one (Some text) (Some all) None count is takes end = absurd takes
end_one (Some text) (Some all) (Some rest) count is takes end = (ap (lines_with count) (sym (takes ∙ end)) ∙ is.0, omega (arith))

keep_one : (text old left : Option (List ℕ)) (count : LineCount) → IsCounted text old count → Keeps old left → IsCounted text left count
keep_one None old left count is keeps = tt
keep_one (Some text) None left count is keeps = absurd is
keep_one (Some text) (Some all) None count is keeps = absurd keeps
keep_one (Some text) (Some all) (Some rest) count is keeps = subst (λ (left : List ℕ). IsCounted (Some text) (Some left) count) (sym keeps) is

-- what is left of it is counted by the last
last_one : (text old : Option (List ℕ)) (count all : LineCount) → IsCounted text old count → IfSome old (λ bytes. length bytes < 2 ^ 64 - 1 → lines_with all [] ≡ lines_with count bytes) → IsCounted text (Some []) all
last_one None old count all is rest = tt
last_one (Some text) None count all is rest = absurd is
last_one (Some text) (Some left) count all is rest =
    let short = is.1 in
    (rest (omega (arith, short)) ∙ is.0, omega (arith))

-- ---- a source that is read to its end

-- so many reads gave a byte each at least, which are counted
abbrev pub IsReadOn : (old now : Option (List ℕ)) → (before count : LineCount) → ℕ → Type 0
IsReadOn old now before count reads = IfSome old (λ xs. (ys : List ℕ) × (now ≡ Some ys) × (lines_with count ys ≡ lines_with before xs) × (length ys + reads ≤ length xs))

pub none_read : (known : Option (List ℕ)) (count : LineCount) → IsReadOn known known count count 0
none_read None count = tt
none_read (Some xs) count = (xs, refl, refl, omega arith)

on_from : (xs ys : List ℕ) (new : Option (List ℕ)) (before count more : LineCount) (reads n : ℕ) (buf : List ℕ) → lines_with count ys ≡ lines_with before xs → length ys + reads ≤ length xs → Consumes (Some ys) new (take n buf)
    → ((rest : List ℕ) → lines_with more rest ≡ lines_with count (take n buf ++ rest)) → n ≤ length buf → n ≢ 0
    → (zs : List ℕ) × (new ≡ Some zs) × (lines_with more zs ≡ lines_with before xs) × (length zs + (reads + 1) ≤ length xs)
on_from xs ys None before count more reads n buf so most took on fits some = absurd took
on_from xs ys (Some zs) before count more reads n buf so most took on fits some =
    let all = ap length took in
    let joined = length-append (take n buf) zs in
    let long = length-take n buf in
    (zs, refl, on zs ∙ ap (lines_with count) (sym took) ∙ so, omega arith)

pub read_on : (old now new : Option (List ℕ)) (before count more : LineCount) (reads n : ℕ) (buf : List ℕ) → IsReadOn old now before count reads → Consumes now new (take n buf)
    → ((rest : List ℕ) → lines_with more rest ≡ lines_with count (take n buf ++ rest)) → n ≤ length buf → n ≢ 0 → IsReadOn old new before more (reads + 1)
read_on None now new before count more reads n buf is took on fits some = tt
read_on (Some xs) now new before count more reads n buf is took on fits some = on_from xs is.0 new before count more reads n buf is.2 is.3 (rw is.1 at took) on fits some

-- one gave none
pub read_all : (old now new : Option (List ℕ)) (before count : LineCount) (reads n : ℕ) (buf : List ℕ) → n ≡ 0 → IsReadOn old now before count reads → Consumes now new (take n buf) → IsAtEnd new
    → IfSome old (λ bytes. length bytes < 2 ^ 64 - 1 → lines_with count [] ≡ lines_with before bytes)
read_all None now new before count reads n buf none is took end = tt
read_all (Some xs) now new before count reads n buf none is took end = λ few. end_from is.0 new is.2 (rw (is.1, none) at took) end
  where
    end_from : (ys : List ℕ) (new : Option (List ℕ)) → lines_with count ys ≡ lines_with before xs → Consumes (Some ys) new [] → IsAtEnd new → lines_with count [] ≡ lines_with before xs
    end_from ys None so took end = absurd took
    end_from ys (Some zs) so took end = ap (lines_with count) (sym (took ∙ end)) ∙ so

-- or so many of them gave bytes as a u64 counts
pub all_read : (old now : Option (List ℕ)) (before count : LineCount) (reads : ℕ) → IsReadOn old now before count reads → 2 ^ 64 - 1 ≤ reads
    → IfSome old (λ bytes. length bytes < 2 ^ 64 - 1 → lines_with count [] ≡ lines_with before bytes)
all_read None now before count reads is most = tt
all_read (Some xs) now before count reads is most = λ few. absurd (let long = is.3 in omega (arith, long, few, most))

-- ---- several texts

none_more : (counts other : List LineCount) (place : ℕ) (bytes : List ℕ) → length counts ≡ 0 → CountsAt counts other place bytes → length other ≡ 0
none_more [] other place bytes none on = ap length on
none_more (count ∷ counts) other place bytes none on = absurd (omega (arith, none))

none_set : (counts : List LineCount) (place : ℕ) (count : LineCount) → length counts ≡ 0 → length (slice_set counts place count) ≡ 0
none_set [] place count none = refl
none_set (other ∷ counts) place count none = absurd (omega (arith, none))

module _ {R : Type 0} (remaining : R → Option (List ℕ)) where
  -- no byte was given
  pub begin_counts : (readers : List R) (counts : List LineCount) → length counts ≡ length readers → All (λ reader. IsShort (remaining reader)) readers → All IsNew counts
      → AreCounted remaining (map remaining readers) 0 readers counts
  begin_counts [] [] same short new = refl
  begin_counts [] (count ∷ counts) same short new = absurd (omega (arith, same))
  begin_counts (reader ∷ readers) [] same short new = absurd (omega (arith, same))
  begin_counts (reader ∷ readers) (count ∷ counts) same short new = (
    begin_one (remaining reader) count (All-head IsNew count counts new) (All-head (λ r. IsShort (remaining r)) reader readers short),
    begin_counts readers counts (omega (arith, same)) (All-tail (λ r. IsShort (remaining r)) reader readers short) (All-tail IsNew count counts new),
  )

  -- so it is of those that are opened, where lines are counted
  pub begin_counted : {X : Type 0} (f : X → List ℕ) (under : Under) (counts : Bool) (names : List X) (readers : List R) (lines : List LineCount) (texts : List (Option (List ℕ)))
      → texts ≡ map (bytes_under under) (counted_names counts (map f names)) → counts ≡ true → map remaining readers ≡ map (λ name. bytes_under under (f name)) names → length lines ≡ length readers
      → All (λ reader. IsShort (remaining reader)) readers → All IsNew lines → AreCounted remaining texts 0 readers lines
  begin_counted f under counts names readers lines texts are asked opened same short new =
      let all : texts ≡ map remaining readers = are ∙ ap (λ c. map (bytes_under under) (counted_names c (map f names))) asked ∙ map-map (bytes_under under) f names ∙ sym opened in
      subst (λ ts. AreCounted remaining ts 0 readers lines) (sym all) (begin_counts readers lines same short new)

  -- and where they aren't
  pub begin_none : (under : Under) (counts : Bool) (names : List (List ℕ)) (readers : List R) (lines : List LineCount) (texts : List (Option (List ℕ)))
      → texts ≡ map (bytes_under under) (counted_names counts names) → counts ≡ false → length lines ≡ 0 → AreCounted remaining texts 0 readers lines
  begin_none under counts names readers lines texts are unasked none =
      let all : texts ≡ [] = are ∙ ap (λ c. map (bytes_under under) (counted_names c names)) unasked in
      subst (λ ts. AreCounted remaining ts 0 readers lines) (sym all) none

  -- there is a reader for each count
  pub counts_within : (texts : List (Option (List ℕ))) (place : ℕ) (readers : List R) (counts : List LineCount) → AreCounted remaining texts place readers counts → length counts ≤ length readers
  counts_within [] place readers counts are = omega (arith, are)
  counts_within (text ∷ texts) place [] counts are = absurd are
  counts_within (text ∷ texts) place (reader ∷ readers) [] are = absurd are
  counts_within (text ∷ texts) zero (reader ∷ readers) (count ∷ counts) are = let rest = counts_within texts zero readers counts are.1 in omega (arith, rest)
  counts_within (text ∷ texts) (suc place) (reader ∷ readers) (count ∷ counts) are = let rest = counts_within texts place readers counts are.1 in omega (arith, rest)

  -- the reader that is read now gave bytes
  pub counts_read : (texts : List (Option (List ℕ))) (place : ℕ) (readers : List R) (counts other : List LineCount) (old new : R) (bytes : List ℕ) → old ≡ slice_index_or readers place old
      → AreCounted remaining texts place readers counts → Consumes (remaining old) (remaining new) bytes → CountsAt counts other place bytes → AreCounted remaining texts place (slice_set readers place new) other
  counts_read [] place readers counts other old new bytes here are takes on = none_more counts other place bytes are on
  counts_read (text ∷ texts) place [] counts other old new bytes here are takes on = absurd are
  counts_read (text ∷ texts) place (reader ∷ readers) [] other old new bytes here are takes on = absurd are
  counts_read (text ∷ texts) place (reader ∷ readers) (count ∷ counts) [] old new bytes here are takes on = absurd on
  counts_read (text ∷ texts) zero (reader ∷ readers) (count ∷ counts) (next ∷ other) old new bytes here are takes on = (
    read_one text (remaining reader) (remaining new) count next bytes are.0 (subst (λ r. Consumes (remaining r) (remaining new) bytes) here takes) on.0,
    subst (λ cs. AreCounted remaining texts zero readers cs) (sym on.1) are.1,
  )
  counts_read (text ∷ texts) (suc place) (reader ∷ readers) (count ∷ counts) (next ∷ other) old new bytes here are takes on = (
    subst (λ c. IsCounted text (Some []) c) (sym on.0) are.0,
    counts_read texts place readers counts other old new bytes here are.1 takes on.1,
  )

  -- it is at its end
  end_at : (texts : List (Option (List ℕ))) (place : ℕ) (readers : List R) (counts : List LineCount) (old new : R) → old ≡ slice_index_or readers place old
      → AreCounted remaining texts place readers counts → Consumes (remaining old) (remaining new) [] → IsAtEnd (remaining new) → AreCounted remaining texts (suc place) (slice_set readers place new) counts
  end_at [] place readers counts old new here are takes end = are
  end_at (text ∷ texts) place [] counts old new here are takes end = absurd are
  end_at (text ∷ texts) place (reader ∷ readers) [] old new here are takes end = absurd are
  end_at (text ∷ texts) zero (reader ∷ readers) (count ∷ counts) old new here are takes end =
      (end_one text (remaining reader) (remaining new) count are.0 (subst (λ r. Consumes (remaining r) (remaining new) []) here takes) end, are.1)
  end_at (text ∷ texts) (suc place) (reader ∷ readers) (count ∷ counts) old new here are takes end = (are.0, end_at texts place readers counts old new here are.1 takes end)

  pub counts_end : (texts : List (Option (List ℕ))) (place : ℕ) (readers : List R) (counts : List LineCount) (old new : R) → old ≡ slice_index_or readers place old
      → AreCounted remaining texts place readers counts → Consumes (remaining old) (remaining new) [] → IsAtEnd (remaining new) → AreCounted remaining texts (place + 1) (slice_set readers place new) counts
  counts_end texts place readers counts old new here are takes end = rw add-one (end_at texts place readers counts old new here are takes end)

  -- a read of it failed
  pub counts_keep : (texts : List (Option (List ℕ))) (place : ℕ) (readers : List R) (counts : List LineCount) (old new : R) → old ≡ slice_index_or readers place old
      → AreCounted remaining texts place readers counts → Keeps (remaining old) (remaining new) → AreCounted remaining texts place (slice_set readers place new) counts
  counts_keep [] place readers counts old new here are keeps = are
  counts_keep (text ∷ texts) place [] counts old new here are keeps = absurd are
  counts_keep (text ∷ texts) place (reader ∷ readers) [] old new here are keeps = absurd are
  counts_keep (text ∷ texts) zero (reader ∷ readers) (count ∷ counts) old new here are keeps =
      (keep_one text (remaining reader) (remaining new) count are.0 (subst (λ r. Keeps (remaining r) (remaining new)) here keeps), are.1)
  counts_keep (text ∷ texts) (suc place) (reader ∷ readers) (count ∷ counts) old new here are keeps = (are.0, counts_keep texts place readers counts old new here are.1 keeps)

  -- what it has left is counted
  rest_at : (texts : List (Option (List ℕ))) (place : ℕ) (readers : List R) (counts : List LineCount) (old new : R) (d count all : LineCount) → old ≡ slice_index_or readers place old → count ≡ slice_index_or counts place d
      → AreCounted remaining texts place readers counts → IfSome (remaining old) (λ bytes. length bytes < 2 ^ 64 - 1 → lines_with all [] ≡ lines_with count bytes)
      → AreCounted remaining texts (suc place) (slice_set readers place new) (slice_set counts place all)
  rest_at [] place readers counts old new d count all here at are rest = none_set counts place all are
  rest_at (text ∷ texts) place [] counts old new d count all here at are rest = absurd are
  rest_at (text ∷ texts) place (reader ∷ readers) [] old new d count all here at are rest = absurd are
  rest_at (text ∷ texts) zero (reader ∷ readers) (first ∷ counts) old new d count all here at are rest = (
    last_one text (remaining old) count all (subst (λ c. IsCounted text (remaining old) c) (sym at) (subst (λ r. IsCounted text (remaining r) first) (sym here) are.0)) rest,
    are.1,
  )
  rest_at (text ∷ texts) (suc place) (reader ∷ readers) (first ∷ counts) old new d count all here at are rest = (are.0, rest_at texts place readers counts old new d count all here at are.1 rest)

  pub counts_rest : (texts : List (Option (List ℕ))) (place : ℕ) (readers : List R) (counts : List LineCount) (old new : R) (d count all : LineCount) → old ≡ slice_index_or readers place old → count ≡ slice_index_or counts place d
      → AreCounted remaining texts place readers counts → IfSome (remaining old) (λ bytes. length bytes < 2 ^ 64 - 1 → lines_with all [] ≡ lines_with count bytes)
      → AreCounted remaining texts (place + 1) (slice_set readers place new) (slice_set counts place all)
  counts_rest texts place readers counts old new d count all here at are rest = rw add-one (rest_at texts place readers counts old new d count all here at are rest)

  -- where nothing is left of any, each has the lines of its text
  pub all_counted : (texts : List (Option (List ℕ))) (place : ℕ) (readers : List R) (counts : List LineCount) → AreCounted remaining texts place readers counts → length counts ≤ place
      → (known : List (List ℕ)) → texts ≡ map Some known → map (λ count. lines_with count []) counts ≡ map (λ text. length (raw_lines text)) known
  all_counted [] place readers [] are past [] same = refl
  all_counted [] place readers (count ∷ counts) are past [] same = absurd (omega (arith, are))
  all_counted [] place readers counts are past (other ∷ known) same = cc
  all_counted (text ∷ texts) place readers counts are past [] same = cc
  all_counted (text ∷ texts) place [] counts are past (other ∷ known) same = absurd are
  all_counted (text ∷ texts) place (reader ∷ readers) [] are past (other ∷ known) same = absurd are
  all_counted (text ∷ texts) zero (reader ∷ readers) (count ∷ counts) are past (other ∷ known) same = absurd (omega (arith, past))
  all_counted (text ∷ texts) (suc place) (reader ∷ readers) (count ∷ counts) are past (other ∷ known) same =
      let first : text ≡ Some other = cc in
      let others : texts ≡ map Some known = cc in
      let is : IsCounted (Some other) (Some []) count = subst (λ t. IsCounted t (Some []) count) first are.0 in
      rw (is.0, all_counted texts place readers counts are.1 (omega (arith, past)) known others) refl
