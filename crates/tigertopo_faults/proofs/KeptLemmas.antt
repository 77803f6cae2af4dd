-- Lines that are kept under the subjects that name their records.
use Rattle.std.proofs.Common.{◌≡◌, ℕ, zero, suc, ◌+◌, ◌<◌, ◌&&◌, Bool, true, false, List, [], ◌∷◌, ◌++◌, Option, None, Some, length, get_or, slice_get, slice_set, nat_eq, eqb, refl, sym, ap, subst, ◌∙◌, arith, Contains, append_assoc, append-nil, inl, inr, eqb-true, if◌then◌else◌, Vec, Global, Result, Ok, Err, OnOk, take}
use Rattle.std.specs.Prelude.{is_some, position}
use Rattle.std.specs.Option.{option_map_or}
use Rattle.std.specs.Cmp.Lexicographic.{pointwise, same_text, nat_list_eq_equiv}
use Rattle.std.proofs.lemmas.Bool.{cases_Bool, eq-eqb, and_parts as both_true}
use Rattle.std.proofs.lemmas.List.{take_more}
use Rattle.std.proofs.lemmas.List.Quantifiers.{position-Some}
use Rattle.std.proofs.lemmas.Option.{slice_get-get_or}
use Rattle.indexmap.specs.IndexSet.{insert_key}
use Rattle.indexmap.proofs.CallerLemmas.{Contains-insert_key}
use Rattle.tl_record_key.specs.declared.key.PolyKey.{PolyKey}
use Rattle.tl_map_rules.specs.MapOf.{same_key}
use Rattle.tl_record.specs.declared.record.Record.{Record}
use Rattle.tl_record.specs.declared.record.Record.TheVariants.{Chain, Shape, Sides, PolyPoint, Landmark, AreaLink}
use Rattle.tigertopo_faults.specs.declared.records.subject.Subject.{Subject}
use Rattle.tigertopo_faults.specs.declared.records.subject.Subject.TheVariants as subject
use Rattle.tigertopo_faults.specs.contracts.records.subject.SubjectPartialEq.TheImpl.{eq-value}
use Rattle.tigertopo_faults.specs.declared.records.line.RecordLine.{RecordLine}
use Rattle.tigertopo_faults.specs.declared.records.kept.KeptLines.{KeptLines}
use Rattle.tigertopo_faults.specs.Records.SpokenOf.{Subjects, is_about, line_of, lines_about}
use Rattle.tigertopo_faults.specs.Records.Kept.{kept_of, Grows, Notes, NotesAll}
use Rattle.tigertopo_faults.specs.Records.Naming.{subjects_naming, same_subject, is_subject}
use Rattle.tl_map_rules.proofs.KeyLemmas.{same_key-is as key_same, same_key-refl as key_refl}

-- subjects that are the same are equal
pub subject_is : (s t : Subject) → same_subject s t ≡ true → s ≡ t
subject_is (subject.Chain t) (subject.Chain u) same = ap subject.Chain (eqb-true t u same)
subject_is (subject.Chain t) (subject.Shape u) same = absurd (let wrong = same in cc)
subject_is (subject.Chain t) (subject.Drawn u) same = absurd (let wrong = same in cc)
subject_is (subject.Chain t) (subject.Sides u) same = absurd (let wrong = same in cc)
subject_is (subject.Chain t) (subject.Polygon l) same = absurd (let wrong = same in cc)
subject_is (subject.Chain t) (subject.Land u) same = absurd (let wrong = same in cc)
subject_is (subject.Chain t) (subject.Link l m) same = absurd (let wrong = same in cc)
subject_is (subject.Shape t) (subject.Chain u) same = absurd (let wrong = same in cc)
subject_is (subject.Shape t) (subject.Shape u) same = ap subject.Shape (eqb-true t u same)
subject_is (subject.Shape t) (subject.Drawn u) same = absurd (let wrong = same in cc)
subject_is (subject.Shape t) (subject.Sides u) same = absurd (let wrong = same in cc)
subject_is (subject.Shape t) (subject.Polygon l) same = absurd (let wrong = same in cc)
subject_is (subject.Shape t) (subject.Land u) same = absurd (let wrong = same in cc)
subject_is (subject.Shape t) (subject.Link l m) same = absurd (let wrong = same in cc)
subject_is (subject.Drawn t) (subject.Chain u) same = absurd (let wrong = same in cc)
subject_is (subject.Drawn t) (subject.Shape u) same = absurd (let wrong = same in cc)
subject_is (subject.Drawn t) (subject.Drawn u) same = ap subject.Drawn (eqb-true t u same)
subject_is (subject.Drawn t) (subject.Sides u) same = absurd (let wrong = same in cc)
subject_is (subject.Drawn t) (subject.Polygon l) same = absurd (let wrong = same in cc)
subject_is (subject.Drawn t) (subject.Land u) same = absurd (let wrong = same in cc)
subject_is (subject.Drawn t) (subject.Link l m) same = absurd (let wrong = same in cc)
subject_is (subject.Sides t) (subject.Chain u) same = absurd (let wrong = same in cc)
subject_is (subject.Sides t) (subject.Shape u) same = absurd (let wrong = same in cc)
subject_is (subject.Sides t) (subject.Drawn u) same = absurd (let wrong = same in cc)
subject_is (subject.Sides t) (subject.Sides u) same = ap subject.Sides (eqb-true t u same)
subject_is (subject.Sides t) (subject.Polygon l) same = absurd (let wrong = same in cc)
subject_is (subject.Sides t) (subject.Land u) same = absurd (let wrong = same in cc)
subject_is (subject.Sides t) (subject.Link l m) same = absurd (let wrong = same in cc)
subject_is (subject.Polygon k) (subject.Chain u) same = absurd (let wrong = same in cc)
subject_is (subject.Polygon k) (subject.Shape u) same = absurd (let wrong = same in cc)
subject_is (subject.Polygon k) (subject.Drawn u) same = absurd (let wrong = same in cc)
subject_is (subject.Polygon k) (subject.Sides u) same = absurd (let wrong = same in cc)
subject_is (subject.Polygon k) (subject.Polygon l) same = ap subject.Polygon (key_same k l same)
subject_is (subject.Polygon k) (subject.Land u) same = absurd (let wrong = same in cc)
subject_is (subject.Polygon k) (subject.Link l m) same = absurd (let wrong = same in cc)
subject_is (subject.Land t) (subject.Chain u) same = absurd (let wrong = same in cc)
subject_is (subject.Land t) (subject.Shape u) same = absurd (let wrong = same in cc)
subject_is (subject.Land t) (subject.Drawn u) same = absurd (let wrong = same in cc)
subject_is (subject.Land t) (subject.Sides u) same = absurd (let wrong = same in cc)
subject_is (subject.Land t) (subject.Polygon l) same = absurd (let wrong = same in cc)
subject_is (subject.Land t) (subject.Land u) same = ap subject.Land (eqb-true t u same)
subject_is (subject.Land t) (subject.Link l m) same = absurd (let wrong = same in cc)
subject_is (subject.Link k n) (subject.Chain u) same = absurd (let wrong = same in cc)
subject_is (subject.Link k n) (subject.Shape u) same = absurd (let wrong = same in cc)
subject_is (subject.Link k n) (subject.Drawn u) same = absurd (let wrong = same in cc)
subject_is (subject.Link k n) (subject.Sides u) same = absurd (let wrong = same in cc)
subject_is (subject.Link k n) (subject.Polygon l) same = absurd (let wrong = same in cc)
subject_is (subject.Link k n) (subject.Land u) same = absurd (let wrong = same in cc)
subject_is (subject.Link k n) (subject.Link l m) same =
    let parts = both_true (same_key k l) (eqb n m) same in
    let one = key_same k l parts.0 in
    let two : n ≡ m = eqb-true n m parts.1 in
    cc

pub subject_refl : (s : Subject) → same_subject s s ≡ true
subject_refl (subject.Chain t) = eq-eqb t t refl
subject_refl (subject.Shape t) = eq-eqb t t refl
subject_refl (subject.Drawn t) = eq-eqb t t refl
subject_refl (subject.Sides t) = eq-eqb t t refl
subject_refl (subject.Polygon k) = key_refl k
subject_refl (subject.Land n) = eq-eqb n n refl
subject_refl (subject.Link k n) = rw (key_refl k) (eq-eqb n n refl)

-- a record stands under a subject where one of the two that name it is that one
named_once : (r : Record) (s : Subject) (line : RecordLine)
    → (if is_subject (subjects_naming r).0 s then line ∷ [] else []) ++ (if is_subject (subjects_naming r).1 s then line ∷ [] else []) ≡ (if is_about s r then line ∷ [] else [])
named_once (Chain u from to) (subject.Chain t) line = append-nil _
named_once (Chain u from to) (subject.Shape t) line = refl
named_once (Chain u from to) (subject.Drawn t) line = refl
named_once (Chain u from to) (subject.Sides t) line = refl
named_once (Chain u from to) (subject.Polygon k) line = refl
named_once (Chain u from to) (subject.Land t) line = refl
named_once (Chain u from to) (subject.Link k n) line = refl
named_once (Shape u rtsq pairs) (subject.Chain t) line = refl
named_once (Shape u rtsq pairs) (subject.Shape t) line = append-nil _
named_once (Shape u rtsq pairs) (subject.Drawn t) line = refl
named_once (Shape u rtsq pairs) (subject.Sides t) line = refl
named_once (Shape u rtsq pairs) (subject.Polygon k) line = refl
named_once (Shape u rtsq pairs) (subject.Land t) line = refl
named_once (Shape u rtsq pairs) (subject.Link k n) line = refl
named_once (Sides u a b left right) (subject.Chain t) line = refl
named_once (Sides u a b left right) (subject.Shape t) line = refl
named_once (Sides u a b left right) (subject.Drawn t) line = refl
named_once (Sides u a b left right) (subject.Sides t) line = append-nil _
named_once (Sides u a b left right) (subject.Polygon k) line = refl
named_once (Sides u a b left right) (subject.Land t) line = refl
named_once (Sides u a b left right) (subject.Link k n) line = refl
named_once (PolyPoint l point) (subject.Chain t) line = refl
named_once (PolyPoint l point) (subject.Shape t) line = refl
named_once (PolyPoint l point) (subject.Drawn t) line = refl
named_once (PolyPoint l point) (subject.Sides t) line = refl
named_once (PolyPoint l point) (subject.Polygon k) line = append-nil _
named_once (PolyPoint l point) (subject.Land t) line = refl
named_once (PolyPoint l point) (subject.Link k n) line = refl
named_once (Landmark n point) (subject.Chain t) line = refl
named_once (Landmark n point) (subject.Shape t) line = refl
named_once (Landmark n point) (subject.Drawn t) line = refl
named_once (Landmark n point) (subject.Sides t) line = refl
named_once (Landmark n point) (subject.Polygon k) line = refl
named_once (Landmark n point) (subject.Land t) line = refl
named_once (Landmark n point) (subject.Link k q) line = refl
named_once (AreaLink l m) (subject.Chain t) line = refl
named_once (AreaLink l m) (subject.Shape t) line = refl
named_once (AreaLink l m) (subject.Drawn t) line = refl
named_once (AreaLink l m) (subject.Sides t) line = refl
named_once (AreaLink l m) (subject.Polygon k) line = refl
named_once (AreaLink l m) (subject.Land t) line = refl
named_once (AreaLink l m) (subject.Link k n) line = append-nil _

-- the derived comparison is that one
derived_same : (s t : Subject) → eq-value.it s t ≡ same_subject s t
derived_same (subject.Chain t) (subject.Chain u) = refl
derived_same (subject.Chain t) (subject.Shape u) = refl
derived_same (subject.Chain t) (subject.Drawn u) = refl
derived_same (subject.Chain t) (subject.Sides u) = refl
derived_same (subject.Chain t) (subject.Polygon l) = refl
derived_same (subject.Chain t) (subject.Land u) = refl
derived_same (subject.Chain t) (subject.Link l m) = refl
derived_same (subject.Shape t) (subject.Chain u) = refl
derived_same (subject.Shape t) (subject.Shape u) = refl
derived_same (subject.Shape t) (subject.Drawn u) = refl
derived_same (subject.Shape t) (subject.Sides u) = refl
derived_same (subject.Shape t) (subject.Polygon l) = refl
derived_same (subject.Shape t) (subject.Land u) = refl
derived_same (subject.Shape t) (subject.Link l m) = refl
derived_same (subject.Drawn t) (subject.Chain u) = refl
derived_same (subject.Drawn t) (subject.Shape u) = refl
derived_same (subject.Drawn t) (subject.Drawn u) = refl
derived_same (subject.Drawn t) (subject.Sides u) = refl
derived_same (subject.Drawn t) (subject.Polygon l) = refl
derived_same (subject.Drawn t) (subject.Land u) = refl
derived_same (subject.Drawn t) (subject.Link l m) = refl
derived_same (subject.Sides t) (subject.Chain u) = refl
derived_same (subject.Sides t) (subject.Shape u) = refl
derived_same (subject.Sides t) (subject.Drawn u) = refl
derived_same (subject.Sides t) (subject.Sides u) = refl
derived_same (subject.Sides t) (subject.Polygon l) = refl
derived_same (subject.Sides t) (subject.Land u) = refl
derived_same (subject.Sides t) (subject.Link l m) = refl
derived_same (subject.Polygon k) (subject.Chain u) = refl
derived_same (subject.Polygon k) (subject.Shape u) = refl
derived_same (subject.Polygon k) (subject.Drawn u) = refl
derived_same (subject.Polygon k) (subject.Sides u) = refl
derived_same (subject.Polygon k) (subject.Polygon l) = refl
derived_same (subject.Polygon k) (subject.Land u) = refl
derived_same (subject.Polygon k) (subject.Link l m) = refl
derived_same (subject.Land t) (subject.Chain u) = refl
derived_same (subject.Land t) (subject.Shape u) = refl
derived_same (subject.Land t) (subject.Drawn u) = refl
derived_same (subject.Land t) (subject.Sides u) = refl
derived_same (subject.Land t) (subject.Polygon l) = refl
derived_same (subject.Land t) (subject.Land u) = refl
derived_same (subject.Land t) (subject.Link l m) = refl
derived_same (subject.Link k n) (subject.Chain u) = refl
derived_same (subject.Link k n) (subject.Shape u) = refl
derived_same (subject.Link k n) (subject.Drawn u) = refl
derived_same (subject.Link k n) (subject.Sides u) = refl
derived_same (subject.Link k n) (subject.Polygon l) = refl
derived_same (subject.Link k n) (subject.Land u) = refl
derived_same (subject.Link k n) (subject.Link l m) = refl

pub derived_index : (keys : List Subject) (s : Subject) (found : Option ℕ) → found ≡ position (eq-value.it s) keys → position (same_subject s) keys ≡ found
derived_index keys s found is = sym (is ∙ ap (λ (f : Subject → Bool). position f keys) (λ i t. derived_same s t i))

-- a subject that was put in is there
pub inserted : (old new : List Subject) (put s : Subject) → new ≡ insert_key eq-value.it old put → Some put ≡ Some s → Contains new s
inserted old new put s is same =
    let one : put ≡ s = let all = same in cc in
    subst (Contains new) one (subst (λ (l : List Subject). Contains l put) (sym is) (Contains-insert_key eq-value.it (λ a b yes. subject_is a b (sym (derived_same a b) ∙ yes)) old put))

-- ---- one line more

got_set : {A : Type 0} (xs : List A) (i : ℕ) (x : A) → i < length xs → slice_get (slice_set xs i x) i ≡ Some x
got_set [] i x within = absurd (omega arith)
got_set (y ∷ xs) zero x within = refl
got_set (y ∷ xs) (suc i) x within = got_set xs i x (omega arith)

got_other : {A : Type 0} (xs : List A) (i j : ℕ) (x : A) → (i ≡ j → ⊥) → slice_get (slice_set xs i x) j ≡ slice_get xs j
got_other [] i j x other = refl
got_other (y ∷ xs) zero zero x other = absurd (other refl)
got_other (y ∷ xs) zero (suc j) x other = refl
got_other (y ∷ xs) (suc i) zero x other = refl
got_other (y ∷ xs) (suc i) (suc j) x other = got_other xs i j x (λ same. other (ap suc same))

-- the lines at the number of a subject
abbrev pub at_number : List (Vec RecordLine Global) → Option ℕ → List RecordLine
at_number lists found = option_map_or (λ number. option_map_or (λ lines. lines.items) (slice_get lists number) []) found []

-- where two subjects have one number they are one
one_number : (keys : List Subject) (s t : Subject) (i : ℕ) → position (same_subject s) keys ≡ Some i → position (same_subject t) keys ≡ Some i → s ≡ t
one_number keys s t i of_s of_t =
    let here = position-Some (same_subject s) keys i s of_s in
    let there = position-Some (same_subject t) keys i s of_t in
    subject_is s (get_or keys i s) here.1 ∙ sym (subject_is t (get_or keys i s) there.1)

pub grown : (keys : List Subject) (lists : List (Vec RecordLine Global)) (t s : Subject) (i : ℕ) (old pushed : Vec RecordLine Global) (line : RecordLine) → position (same_subject t) keys ≡ Some i
    → i < length lists → old ≡ get_or lists i old → pushed.items ≡ old.items ++ line ∷ [] → is_some (position (same_subject s) keys) ≡ true
    → at_number (slice_set lists i pushed) (position (same_subject s) keys) ≡ at_number lists (position (same_subject s) keys) ++ (if same_subject t s then line ∷ [] else [])
grown keys lists t s i old pushed line of_t within at is wanted =
    elim (cases_Bool (same_subject t s)) [
      | inl same ↦
          let one : position (same_subject s) keys ≡ Some i = ap (λ (x : Subject). position (same_subject x) keys) (sym (subject_is t s same)) ∙ of_t in
          rw (one, same, got_set lists i pushed within, slice_get-get_or lists i old within, ← at) is
      | inr other ↦ rw other (unmoved (position (same_subject s) keys) refl wanted other)
    ]
  where
    unmoved : (found : Option ℕ) → position (same_subject s) keys ≡ found → is_some found ≡ true → same_subject t s ≡ false → at_number (slice_set lists i pushed) found ≡ at_number lists found ++ []
    unmoved None of_s some other = absurd (let wrong = some in cc)
    unmoved (Some j) of_s some other =
        let apart : i ≡ j → ⊥ = λ same.
        let one = one_number keys t s i of_t (of_s ∙ ap Some (sym same)) in
        let yes : same_subject t t ≡ true = subject_refl t in
        let no : same_subject t t ≡ false = ap (same_subject t) one ∙ other in
        absurd (let wrong = sym yes ∙ no in cc) in
        rw (got_other lists i j pushed apart, append-nil) refl

-- a record is noted under both of its subjects
noted : (old mid new : KeptLines) (subjects : Subjects) (number : ℕ) (r : Record) → subjects ≡ subjects_naming r → Grows old mid subjects.0 (line_of (number, r))
    → Grows mid new subjects.1 (line_of (number, r)) → Notes old new (number, r)
noted old mid new subjects number r is one two =
    let line : RecordLine = line_of (number, r) in record {
      wanted = λ s. two.wanted s ∙ one.wanted s;
      lines = λ s wanted.
          two.lines s (one.wanted s ∙ wanted) ∙ ap (λ (l : List RecordLine). l ++ (if is_subject subjects.1 s then line ∷ [] else [])) (one.lines s wanted)
          ∙ append_assoc (kept_of old s) (if is_subject subjects.0 s then line ∷ [] else []) (if is_subject subjects.1 s then line ∷ [] else [])
          ∙ ap (λ (l : List RecordLine). kept_of old s ++ l) (rw is (named_once r s line));
    }

pub noted_then : {E : Type 0} (old mid new : KeptLines) (subjects : Subjects) (number : ℕ) (r : Record) (done : Result (Unit {0}) E) → subjects ≡ subjects_naming r
    → Grows old mid subjects.0 (line_of (number, r)) → OnOk done (Grows mid new subjects.1 (line_of (number, r))) → OnOk done (Notes old new (number, r))
noted_then old mid new subjects number r (Ok done) is one two = noted old mid new subjects number r is one two
noted_then old mid new subjects number r (Err stop) is one two = tt

-- ---- several records, one after the other

lines_step : (entry : ℕ × Record) (rest : List (ℕ × Record)) (s : Subject) → lines_about (entry ∷ rest) s ≡ (if is_about s entry.1 then line_of entry ∷ [] else []) ++ lines_about rest s
lines_step entry rest s =
    elim (cases_Bool (is_about s entry.1)) [
      | inl holds ↦ rw holds refl
      | inr fails ↦ rw fails refl
    ]

pub about_behind : (entries more : List (ℕ × Record)) (s : Subject) → lines_about (entries ++ more) s ≡ lines_about entries s ++ lines_about more s
about_behind [] more s = refl
about_behind (entry ∷ rest) more s =
    let one = if is_about s entry.1 then line_of entry ∷ [] else [] in
    lines_step entry (rest ++ more) s ∙ ap (λ l. one ++ l) (about_behind rest more s) ∙ sym (append_assoc one (lines_about rest s) (lines_about more s))
    ∙ ap (λ l. l ++ lines_about more s) (sym (lines_step entry rest s))

pub noted_more : (first old new : KeptLines) (found : List (ℕ × Record)) (i : ℕ) (entry : ℕ × Record) → i < length found → entry ≡ get_or found i entry → NotesAll first old (take i found) → Notes old new entry
    → NotesAll first new (take (i + 1) found)
noted_more first old new found i entry within is before notes =
    let split : take (i + 1) found ≡ take i found ++ entry ∷ [] = take_more found i entry within ∙ ap (λ e. take i found ++ e ∷ []) (sym is) in record {
      wanted = λ s. notes.wanted s ∙ before.wanted s;
      lines = λ s wanted.
          notes.lines s (before.wanted s ∙ wanted) ∙ ap (λ l. l ++ (if is_about s entry.1 then line_of entry ∷ [] else [])) (before.lines s wanted)
          ∙ append_assoc (kept_of first s) (lines_about (take i found) s) (if is_about s entry.1 then line_of entry ∷ [] else [])
          ∙ ap (λ l. kept_of first s ++ (lines_about (take i found) s ++ l)) (sym (lines_step entry [] s ∙ append-nil (if is_about s entry.1 then line_of entry ∷ [] else [])))
          ∙ ap (λ l. kept_of first s ++ l) (sym (about_behind (take i found) (entry ∷ []) s))
          ∙ ap (λ l. kept_of first s ++ lines_about l s) (sym split);
    }

-- ---- no line

-- lists that hold nothing
abbrev pub AreEmpty : List (Vec RecordLine Global) → Type 0
AreEmpty lists = (i : ℕ) (v : Vec RecordLine Global) → slice_get lists i ≡ Some v → v.items ≡ []

pub empty_more : (lists : List (Vec RecordLine Global)) (new : Vec RecordLine Global) → new.items ≡ [] → AreEmpty lists → AreEmpty (lists ++ new ∷ [])
empty_more [] new none empty zero v is = let same : new ≡ v = let all = is in cc in ap (λ (w : Vec RecordLine Global). w.items) (sym same) ∙ none
empty_more [] new none empty (suc i) v is = absurd (let wrong = is in cc)
empty_more (first ∷ lists) new none empty zero v is = empty zero v is
empty_more (first ∷ lists) new none empty (suc i) v is = empty_more lists new none (λ j w at. empty (suc j) w at) i v is

pub holds_none : (lists : List (Vec RecordLine Global)) (found : Option ℕ) → AreEmpty lists → at_number lists found ≡ []
holds_none lists None empty = refl
holds_none lists (Some n) empty = at_place (slice_get lists n) (λ v is. empty n v is)
  where
    at_place : (place : Option (Vec RecordLine Global)) → ((v : Vec RecordLine Global) → place ≡ Some v → v.items ≡ []) → option_map_or (λ (lines : Vec RecordLine Global). lines.items) place [] ≡ []
    at_place None none = refl
    at_place (Some v) none = none v refl
