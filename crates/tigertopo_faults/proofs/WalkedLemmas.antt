-- The segments of the chains that subjects draw.
use Rattle.std.proofs.Common.{◌≡◌, ℕ, zero, suc, ◌+◌, ◌≤◌, List, [], ◌∷◌, ◌++◌, Option, None, Some, length, take, get_or, slice_get, refl, sym, ap, ◌∙◌, arith, Vec, Global}
use Rattle.std.specs.Prelude.{option_map, position}
use Rattle.std.specs.Option.{option_map_or}
use Rattle.std.proofs.lemmas.List.{map-append, take_all}
use Rattle.std.proofs.lemmas.List.Quantifiers.{position-Some}
use Rattle.std.proofs.lemmas.Option.{slice_get-get_or}
use Rattle.tigertopo_faults.specs.declared.records.subject.Subject.{Subject}
use Rattle.tigertopo_faults.specs.declared.records.subject.Subject.TheVariants.{Drawn}
use Rattle.tigertopo_faults.specs.declared.records.line.RecordLine.{RecordLine}
use Rattle.tigertopo_faults.specs.declared.records.walk.HeldSegment.{HeldSegment}
use Rattle.tigertopo_faults.specs.Records.Ends.{segment_lines, with_ends}
use Rattle.tigertopo_faults.specs.Records.Naming.{same_subject}
use Rattle.tigertopo_faults.specs.Records.Kept.{walked, all_walked, in_lists, segment_of}
use Rattle.tigertopo_faults.proofs.KeptLemmas.{at_number, subject_is}

-- those of the subjects before a place, and of the one there
one_walked : (telling : ℕ) (keys : List Subject) (lists : List (Vec RecordLine Global)) (n : ℕ) (s : Subject) (its : List RecordLine) → slice_get keys n ≡ Some s → option_map (λ (l : Vec RecordLine Global). l.items) (slice_get lists n) ≡ Some its
    → all_walked telling (take (suc n) keys) (take (suc n) lists) ≡ all_walked telling (take n keys) (take n lists) ++ walked telling s its ∷ []
one_walked telling [] lists n s its at of = absurd (let wrong = at in cc)
one_walked telling (k ∷ keys) [] n s its at of = absurd (let wrong = of in cc)
one_walked telling (k ∷ keys) (l ∷ lists) zero s its at of =
    let one : k ≡ s = let all = at in cc in
    let two : l.items ≡ its = let all = of in cc in
    rw (one, two) refl
one_walked telling (k ∷ keys) (l ∷ lists) (suc n) s its at of = ap (λ (rest : List (List HeldSegment)). walked telling k l.items ∷ rest) (one_walked telling keys lists n s its at of)

pub one_more : (telling : ℕ) (keys : List Subject) (lists : List (Vec RecordLine Global)) (segments : List (Vec HeldSegment Global)) (new : Vec HeldSegment Global) (n : ℕ) (s : Subject) (its : List RecordLine)
    → slice_get keys n ≡ Some s → option_map (λ (l : Vec RecordLine Global). l.items) (slice_get lists n) ≡ Some its → new.items ≡ walked telling s its
    → in_lists segments ≡ all_walked telling (take n keys) (take n lists) → in_lists (segments ++ new ∷ []) ≡ all_walked telling (take (n + 1) keys) (take (n + 1) lists)
one_more telling keys lists segments new n s its at of found before =
    let next : suc n ≡ n + 1 = omega arith in
    map-append (λ (v : Vec HeldSegment Global). v.items) segments (new ∷ []) ∙ rw (before, found) (sym (one_walked telling keys lists n s its at of))
    ∙ ap (λ m. all_walked telling (take m keys) (take m lists)) next

-- those of all subjects
pub all_of : (telling : ℕ) (keys : List Subject) (lists : List (Vec RecordLine Global)) (segments : List (Vec HeldSegment Global)) (n : ℕ) → length keys ≤ n → length lists ≡ length keys
    → in_lists segments ≡ all_walked telling (take n keys) (take n lists) → in_lists segments ≡ all_walked telling keys lists
all_of telling keys lists segments n past paired found =
    found ∙ rw (take_all n keys past, take_all n lists (omega (arith, past, paired))) refl

-- those at a place
at_place : (telling : ℕ) (keys : List Subject) (lists : List (Vec RecordLine Global)) (n : ℕ) (s : Subject) (its : List RecordLine) → slice_get keys n ≡ Some s
    → option_map (λ (l : Vec RecordLine Global). l.items) (slice_get lists n) ≡ Some its → slice_get (all_walked telling keys lists) n ≡ Some (walked telling s its)
at_place telling [] lists n s its at of = absurd (let wrong = at in cc)
at_place telling (k ∷ keys) [] n s its at of = absurd (let wrong = of in cc)
at_place telling (k ∷ keys) (l ∷ lists) zero s its at of =
    let one : k ≡ s = let that = at in cc in
    let two : l.items ≡ its = let that = of in cc in
    rw (one, two) refl
at_place telling (k ∷ keys) (l ∷ lists) (suc n) s its at of = at_place telling keys lists n s its at of

module _ (keys : List Subject) (lists : List (Vec RecordLine Global)) (t k : ℕ) where
  -- a chain's segments are found at its subject's number
  pub ends_there : (n : ℕ) (its : List RecordLine) (first second : List (List HeldSegment)) → position (same_subject (Drawn t)) keys ≡ Some n
      → option_map (λ (l : Vec RecordLine Global). l.items) (slice_get lists n) ≡ Some its → first ≡ all_walked 0 keys lists → second ≡ all_walked 1 keys lists
      → with_ends (with_ends [] its k (segment_of first n k)) its k (segment_of second n k) ≡ segment_lines (at_number lists (position (same_subject (Drawn t)) keys)) (Some k)
  ends_there n its first second is of one two =
      let there = position-Some (same_subject (Drawn t)) keys n (Drawn t) is in
      let its_key : Drawn t ≡ get_or keys n (Drawn t) = subject_is (Drawn t) (get_or keys n (Drawn t)) there.1 in
      let at : slice_get keys n ≡ Some (Drawn t) = slice_get-get_or keys n (Drawn t) there.0 ∙ ap Some (sym its_key) in
      let held_is : at_number lists (Some n) ≡ its = held_at (slice_get lists n) its of in
      rw (is, held_is, one, two, at_place 0 keys lists n (Drawn t) its at of, at_place 1 keys lists n (Drawn t) its at of) refl
    where
      held_at : (place : Option (Vec RecordLine Global)) (its : List RecordLine) → option_map (λ (l : Vec RecordLine Global). l.items) place ≡ Some its → option_map_or (λ (lines : Vec RecordLine Global). lines.items) place [] ≡ its
      held_at None its of = absurd (let wrong = of in cc)
      held_at (Some l) its of = let that = of in cc
