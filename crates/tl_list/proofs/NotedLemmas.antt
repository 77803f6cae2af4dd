-- What is noted of lines, one answer of a reader on.
use Rattle.std.proofs.Common.{◌≡◌, ℕ, zero, suc, ◌+◌, ◌-◌, ◌<◌, ◌≤◌, Bool, true, nat_le, List, [], ◌∷◌, ◌++◌, length, map, drop, take, Option, Some, None, refl, sym, ap, ◌∙◌, arith, append_assoc, append-nil, Vec, Global, inl, inr, subst, ◌⊎◌, add-one}
use Rattle.std.specs.Prelude.{Ok, Err, IfSome, ⊤, slice_index_or}
use Rattle.std.specs.Option.{option_map}
use Rattle.std.proofs.lemmas.Bool.{le-leb, cases_Bool, leb-true}
use Rattle.std.proofs.lemmas.List.{map-append, drop_at, get_or-drop, length-map}
use Rattle.tl_record.specs.declared.layout.Layout.{Layout}
use Rattle.tl_record.specs.declared.record.Record.{Record}
use Rattle.tl_record.specs.declared.stop.Cause.{Cause}
use Rattle.tl_record.specs.declared.stop.ReadStop.TheVariants.{Refused}
use Rattle.tl_record.specs.declared.refusal.Refusal.{Refusal}
use Rattle.tl_record.specs.declared.judge.Judgement.{Judgement}
use Rattle.tl_record.specs.declared.judge.Judgement.TheVariants as judged
use Rattle.tl_record.specs.Judgement.{judgement}
use Rattle.tl_record.specs.Limits.{most_lines, most_line_bytes}
use Rattle.tl_record.specs.Lines.{raw_lines}
use Rattle.tl_record.specs.Records.{Records, lines_read}
use Rattle.tl_record.specs.Refusals.{refused, refusals_of_lines}
use Rattle.tl_record.specs.declared.reader.Standing.{Standing}
use Rattle.tl_record.specs.declared.reader.Standing.TheVariants.{Reading, Ended, Stopped}
use Rattle.tl_record.specs.declared.reader.RecordReader.{RecordReader}
use Rattle.tl_record.specs.NextLine.{front_of}
use Rattle.tl_record.specs.Reader.{Gives, KeepsRecords, with_entry, lines_of, standing_of, pending_of, layout_of, unjudged, refusals_to_come, Repeats, WhereReading}
use Rattle.tl_record.specs.Leaving.{GivesLeft}
use Rattle.tl_record.specs.Fronts.{PassesLines, IsFront, TakesLines, WhereOn, lines_ahead}
use Rattle.tl_record.proofs.FrontLemmas.{passes-trans}
use Rattle.tl_record.specs.Searching.{pair_of}
use Rattle.tl_map_rules.specs.Listing.Refusals.Listing.{ListsAll}
use Rattle.tl_record.specs.Left.{left_of}
use Rattle.tl_record.specs.Fronts.{front_in}
use Rattle.tl_list_text.specs.declared.listing.Listing.{Listing}
use Rattle.tl_list_text.specs.declared.listing.Listing.TheVariants.{Sound, Faults}
use Rattle.tl_list_text.specs.declared.listing.Listing.TheVariants.{Refused as RefusedLines}
use Rattle.tl_list.specs.declared.left.Found.{Found}
use Rattle.tl_list.specs.declared.left.LeftFaults.{LeftFaults}
use Rattle.tl_list.specs.declared.noted.NotedLines.{NotedLines}
use Rattle.tl_list.specs.Noting.{IfRefused, WhereTold, NotesLines}
use Rattle.tl_list.specs.Keeping.OfRecords.{IsListingOfRecords}
use Rattle.tl_list.specs.Keeping.Noting.{bytes_of, no_front, NotesFronts, NotesSoFar}

-- ---- records

pub notes_none : (notes : Bool) (at_first : Option Records) → NotesSoFar notes at_first at_first []
notes_none notes None = λ on. tt
notes_none notes (Some all) = λ on. (all, refl, refl)

pub notes_more : (notes : Bool) (at_first now new : Option Records) (skipped line : ℕ) (r : Record) (old entries : List (ℕ × Record)) → Gives now new skipped (Ok (Some (line, r)))
    → NotesSoFar notes at_first now old → (notes ≡ true → entries ≡ old ++ (line, r) ∷ []) → NotesSoFar notes at_first new entries
notes_more notes None now new skipped line r old entries gives before added = λ on. tt
notes_more notes (Some all) now new skipped line r old entries gives before added = λ on.
    let so = before on in
    let more : (next : Records) × (new ≡ Some next) × (so.0 ≡ with_entry (line, r) next) = rw so.1 at gives in (
      more.0,
      more.1,
      so.2 ∙ ap (λ (x : Records). old ++ x.entries) more.2 ∙ sym (append_assoc old ((line, r) ∷ []) more.0.entries)
          ∙ ap (λ (l : List (ℕ × Record)). l ++ more.0.entries) (sym (added on)),
    )

-- a refused line that is passed over takes nothing of what is left
stays_left : (now mid new : Option Records) (skipped line : ℕ) (cause : Cause) (rest : Records) → GivesLeft now mid skipped (Err (Refused line cause)) → line ≤ most_lines
    → KeepsRecords mid new → now ≡ Some rest → new ≡ Some rest
stays_left None mid new skipped line cause rest gives few keeps is = absurd (cc)
stays_left (Some all) mid new skipped line cause rest gives few keeps is = let kept : new ≡ Some all = rw (gives few) at keeps in kept ∙ is

pub notes_passed : (notes : Bool) (at_first now mid new : Option Records) (skipped line : ℕ) (cause : Cause) (entries : List (ℕ × Record))
    → GivesLeft now mid skipped (Err (Refused line cause)) → line ≤ most_lines → KeepsRecords mid new → NotesSoFar notes at_first now entries → NotesSoFar notes at_first new entries
notes_passed notes None now mid new skipped line cause entries gives few keeps before = λ on. tt
notes_passed notes (Some all) now mid new skipped line cause entries gives few keeps before = λ on.
    let so = before on in (so.0, stays_left now mid new skipped line cause so.0 gives few keeps so.1, so.2)

pub notes_all : (notes : Bool) (at_first now new : Option Records) (skipped : ℕ) (entries : List (ℕ × Record)) → Gives now new skipped (Ok None) → NotesSoFar notes at_first now entries
    → notes ≡ true → IfSome at_first (λ all. all.entries ≡ entries)
notes_all notes None now new skipped entries gives before = λ on. tt
notes_all notes (Some all) now new skipped entries gives before = λ on.
    let so = before on in
    let end = rw so.1 at gives in
    so.2 ∙ ap (λ (x : Records). entries ++ x.entries) end ∙ append-nil entries

-- ---- the first bytes of refused lines

pub fronts_none : (notes : Bool) (known : Option (List ℕ)) (fronts : List (Vec ℕ Global)) → fronts ≡ [] → NotesFronts notes known [] fronts
fronts_none notes None fronts is = λ on. tt
fronts_none notes (Some text) fronts is = λ on. ap bytes_of is

few_front : (text : List ℕ) (line : ℕ) (cause : Cause) → line ≤ most_lines
    → front_in text (record { line = line; cause = cause }) ≡ take most_line_bytes (slice_index_or (raw_lines text) (line - 1) [])
few_front text line cause few = rw (le-leb line most_lines few) refl

pub fronts_more : (notes : Bool) (known : Option (List ℕ)) (ahead : Option (List (List ℕ))) (count line : ℕ) (cause : Cause) (list : List Refusal) (old new : List (Vec ℕ Global)) (front : List ℕ)
    → PassesLines count (option_map raw_lines known) ahead → IsFront ahead front → line ≡ count + 1 → line ≤ most_lines → NotesFronts notes known list old
    → (notes ≡ true → bytes_of new ≡ bytes_of old ++ front ∷ []) → NotesFronts notes known (list ++ record { line = line; cause = cause } ∷ []) new
fronts_more notes None ahead count line cause list old new front passes is number few before added = λ on. tt
fronts_more notes (Some text) ahead count line cause list old new front passes is number few before added = λ on.
    let lines = raw_lines text in
    let shown : front ≡ take most_line_bytes (slice_index_or (drop count lines) 0 []) = rw passes at is in
    let place : line - 1 ≡ count + 0 = omega (arith, number) in
    let told : front ≡ front_in text (record { line = line; cause = cause }) =
    shown ∙ ap (take most_line_bytes) (get_or-drop count lines 0 []) ∙ ap (λ k. take most_line_bytes (slice_index_or lines k [])) (sym place) ∙ sym (few_front text line cause few) in
    added on ∙ ap (λ (l : List (List ℕ)). l ++ front ∷ []) (before on) ∙ ap (λ (f : List ℕ). map (front_in text) list ++ f ∷ []) told
    ∙ sym (map-append (front_in text) list (record { line = line; cause = cause } ∷ []))

-- nothing more, of one more line
none_more : (items : List Refusal) (i : ℕ) → i < length items → map no_front (take (suc i) items) ≡ map no_front (take i items) ++ [] ∷ []
none_more [] i within = absurd (omega (arith, within))
none_more (refusal ∷ items) zero within = refl
none_more (refusal ∷ items) (suc i) within = ap (λ (l : List (List ℕ)). [] ∷ l) (none_more items i (omega (arith, within)))

pub none_added : (old new : List (Vec ℕ Global)) (front : Vec ℕ Global) (first : List (List ℕ)) (items : List Refusal) (i : ℕ) → new ≡ old ++ front ∷ [] → front.items ≡ [] → i < length items
    → bytes_of old ≡ first ++ map no_front (take i items) → bytes_of new ≡ first ++ map no_front (take (i + 1) items)
none_added old new front first items i added none within before =
    ap bytes_of added ∙ map-append (λ (f : Vec ℕ Global). f.items) old (front ∷ []) ∙ ap (λ (f : List ℕ). bytes_of old ++ f ∷ []) none
    ∙ ap (λ (l : List (List ℕ)). l ++ [] ∷ []) before ∙ append_assoc first (map no_front (take i items)) ([] ∷ [])
    ∙ rw add-one (ap (λ (l : List (List ℕ)). first ++ l) (sym (none_more items i within)))

-- ---- refused lines beyond the greatest number of a line

-- each of these lines comes behind the one before, and the first behind so many
abbrev RiseFrom : ℕ → List Refusal → Type 0
RiseFrom before [] = ⊤
RiseFrom before (refusal ∷ rest) = (before < refusal.line) × RiseFrom refusal.line rest

rise_later : (before later : ℕ) (list : List Refusal) → before ≤ later → RiseFrom later list → RiseFrom before list
rise_later before later [] is rise = tt
rise_later before later (refusal ∷ rest) is rise = (omega (arith, is, rise.0), rise.1)

refused_rise : (layout : Layout) (before : ℕ) (lines : List (List ℕ)) (list : List Refusal) → map pair_of list ≡ refusals_of_lines layout before lines → RiseFrom before list
refused_rise layout before [] [] is = tt
refused_rise layout before [] (refusal ∷ rest) is = absurd (let wrong = is in cc)
refused_rise layout before (line ∷ lines) list is = go (refused_rise layout (before + 1) lines) (judgement layout (before + 1) line) refl list is
  where
    go : ((list : List Refusal) → map pair_of list ≡ refusals_of_lines layout (before + 1) lines → RiseFrom (before + 1) list) → (j : Judgement) → judgement layout (before + 1) line ≡ j → (list : List Refusal) → map pair_of list ≡ refusals_of_lines layout before (line ∷ lines) → RiseFrom before list
    go deeper judged.PassedOver told list is = rise_later before (before + 1) list (omega arith) (deeper list (rw told at is))
    go deeper (judged.Read r) told list is = rise_later before (before + 1) list (omega arith) (deeper list (rw told at is))
    go deeper (judged.Refused cause) told [] is = tt
    go deeper (judged.Refused cause) told (refusal ∷ rest) is =
        let both : pair_of refusal ∷ map pair_of rest ≡ (before + 1, cause) ∷ refusals_of_lines layout (before + 1) lines = rw told at is in
        let pair : pair_of refusal ≡ (before + 1, cause) = cc in
        let number : refusal.line ≡ before + 1 = ap (λ (p : ℕ × Cause). p.0) pair in
        let behind : map pair_of rest ≡ refusals_of_lines layout (before + 1) lines = cc in
        (omega (arith, number), rise_later refusal.line (before + 1) rest (omega (arith, number)) (deeper rest behind))

many_front : (text : List ℕ) (refusal : Refusal) → most_lines < refusal.line → front_in text refusal ≡ []
many_front text refusal many =
    elim (cases_Bool (let is : Bool = nat_le refusal.line most_lines in is)) [
      | inl is ↦ let few = leb-true refusal.line most_lines is in absurd (omega (arith, few, many))
      | inr is ↦ rw is refl
    ]

none_beyond : (text : List ℕ) (before : ℕ) (list : List Refusal) → most_lines ≤ before → RiseFrom before list
    → map (front_in text) list ≡ map no_front list
none_beyond text before [] many rise = refl
none_beyond text before (refusal ∷ rest) many rise =
    let here = many_front text refusal (omega (arith, many, rise.0)) in
    let behind = none_beyond text refusal.line rest (omega (arith, many, rise.0)) rise.1 in
    rw (here, behind) refl

behind_rise : (before : ℕ) (front : List Refusal) (stop : Refusal) (behind : List Refusal) → RiseFrom before (front ++ stop ∷ behind) → RiseFrom stop.line behind
behind_rise before [] stop behind rise = rise.1
behind_rise before (refusal ∷ front) stop behind rise = behind_rise refusal.line front stop behind rise.1

-- all refused lines are to come of a reader that read nothing
pub first_refusals : {R : Type 0} (remaining : R → Option (List ℕ)) (reader : RecordReader R) → standing_of reader ≡ Reading → lines_of reader ≡ 0
    → refusals_to_come remaining reader ≡ refused (layout_of reader) 0 (unjudged remaining reader)
first_refusals remaining reader reading none = rw (reading, none) refl

-- behind a line beyond the greatest number there is no other, and none has first bytes that are told
pub fronts_end : (notes : Bool) (layout : Layout) (known : Option (List ℕ)) (front behind all : List Refusal) (stop : Refusal) (old new : List (Vec ℕ Global))
    → IfSome (refused layout 0 known) (λ rs. ListsAll rs all) → all ≡ (front ++ stop ∷ []) ++ behind → most_lines < stop.line → NotesFronts notes known front old
    → (notes ≡ true → bytes_of new ≡ bytes_of old ++ map no_front (drop (length old) all))
    → NotesFronts notes known all new
fronts_end notes layout None front behind all stop old new lists split many before added = λ on. tt
fronts_end notes layout (Some text) front behind all stop old new lists split many before added = λ on.
    let whole : all ≡ front ++ stop ∷ behind = split ∙ append_assoc front (stop ∷ []) behind in
    let size : length front ≡ length old = sym (length-map front (front_in text)) ∙ sym (ap length (before on)) ∙ length-map old (λ (f : Vec ℕ Global). f.items) in
    let rest : drop (length old) all ≡ stop ∷ behind = ap (drop (length old)) whole ∙ drop_at front (stop ∷ behind) (length old) size in
    let rise = behind_rise 0 front stop behind (rw whole at (refused_rise layout 0 (raw_lines text) all lists)) in
    let here = many_front text stop many in
    let later = none_beyond text stop.line behind (omega (arith, many)) rise in
    let told : map (front_in text) (stop ∷ behind) ≡ map no_front (stop ∷ behind) = rw (here, later) refl in
    added on ∙ ap (λ (l : List Refusal). bytes_of old ++ map no_front l) rest ∙ ap (λ (l : List (List ℕ)). bytes_of old ++ l) (sym told)
    ∙ ap (λ (l : List (List ℕ)). l ++ map (front_in text) (stop ∷ behind)) (before on)
    ∙ sym (map-append (front_in text) front (stop ∷ behind)) ∙ ap (map (front_in text)) (sym whole)

-- ---- lines that are ahead of a reader

where_on : (standing : Standing) (P Q : Type 0) → (P → Q) → WhereOn standing P → WhereOn standing Q
where_on Reading P Q so p = so p
where_on Ended P Q so p = tt
where_on (Stopped stop) P Q so p = tt

passes_on : (old new : ℕ) (a b c : Option (List (List ℕ))) → old ≤ new → PassesLines old a b → PassesLines (new - old) b c → PassesLines new a c
passes_on old new a b c onward p q = subst (λ k. PassesLines k a c) (omega (arith, onward)) (passes-trans old (new - old) a b c p q)

-- where a record is answered, and the reader reads on
pub ahead_on : {R : Type 0} (remaining : R → Option (List ℕ)) (lines : Option (List (List ℕ))) (old new : RecordReader R) (entry : ℕ × Record) → (standing_of old ≡ Reading) ⊎ (standing_of old ≡ Ended)
    → Repeats (standing_of old) old new (Ok (Some entry)) → lines_of old ≤ lines_of new → WhereReading (standing_of old) (TakesLines remaining old new (Ok (Some entry)))
    → WhereOn (standing_of old) (PassesLines (lines_of old) lines (lines_ahead remaining old)) → WhereOn (standing_of new) (PassesLines (lines_of new) lines (lines_ahead remaining new))
ahead_on remaining lines old new entry (inl reading) repeats onward takes before =
    where_on (standing_of new) _ _ (passes_on (lines_of old) (lines_of new) lines (lines_ahead remaining old) (lines_ahead remaining new) onward (rw reading at before)) (rw reading at takes)
ahead_on remaining lines old new entry (inr ended) repeats onward takes before = absurd (let same = rw ended at repeats in let wrong = same.0 in cc)

-- where it stops at a refused line
pub ahead_stop : {R : Type 0} (remaining : R → Option (List ℕ)) (lines : Option (List (List ℕ))) (old new : RecordReader R) (line : ℕ) (cause : Cause) → (standing_of old ≡ Reading) ⊎ (standing_of old ≡ Ended)
    → Repeats (standing_of old) old new (Err (Refused line cause)) → lines_of old ≤ lines_of new → WhereReading (standing_of old) (TakesLines remaining old new (Err (Refused line cause)))
    → WhereOn (standing_of old) (PassesLines (lines_of old) lines (lines_ahead remaining old))
    → PassesLines (lines_of new) lines (lines_ahead remaining new) × IsFront (lines_ahead remaining new) (front_of (pending_of new))
ahead_stop remaining lines old new line cause (inl reading) repeats onward takes before =
    let stopped : PassesLines (lines_of new - lines_of old) (lines_ahead remaining old) (lines_ahead remaining new) × IsFront (lines_ahead remaining new) (front_of (pending_of new)) =
    rw reading at takes in
    (passes_on (lines_of old) (lines_of new) lines (lines_ahead remaining old) (lines_ahead remaining new) onward (rw reading at before) stopped.0, stopped.1)
ahead_stop remaining lines old new line cause (inr ended) repeats onward takes before = absurd (let same = rw ended at repeats in let wrong = same.0 in cc)

-- where that line is passed over
pub ahead_passed : (lines mid ahead : Option (List (List ℕ))) (standing : Standing) (count now : ℕ) → now ≡ count + 1 → PassesLines count lines mid → PassesLines 1 mid ahead
    → WhereOn standing (PassesLines now lines ahead)
ahead_passed lines mid ahead Reading count now is p q = subst (λ k. PassesLines k lines ahead) (sym is) (passes-trans count 1 lines mid ahead p q)
ahead_passed lines mid ahead Ended count now is p q = tt
ahead_passed lines mid ahead (Stopped stop) count now is p q = tt

-- ---- what is found

if_refused : (listing : Listing) (P Q : Vec Refusal Global → Type 0) → IfRefused listing P → ((list : Vec Refusal Global) → P list → Q list) → IfRefused listing Q
if_refused (Sound report) P Q p so = tt
if_refused (RefusedLines list) P Q p so = so list p
if_refused (Faults faults touched) P Q p so = tt

where_told : (listing : Listing) (left : Option LeftFaults) (P : Type 0) → P → WhereTold listing left P
where_told (Sound report) left P p = p
where_told (RefusedLines list) (Some left) P p = p
where_told (RefusedLines list) None P p = tt
where_told (Faults faults touched) left P p = p

-- no line is refused where something is listed of records
pub not_refused : (faces : Bool) (all : Records) (listing : Listing) (P : Vec Refusal Global → Type 0) → IsListingOfRecords faces all listing → IfRefused listing P
not_refused faces all (Sound report) P is = tt
not_refused faces all (RefusedLines list) P is = absurd is
not_refused faces all (Faults faults touched) P is = tt

-- texts of the same lines have refused lines with the same first bytes
front_alike : (other text : List ℕ) (refusal : Refusal) → raw_lines other ≡ raw_lines text → front_in other refusal ≡ front_in text refusal
front_alike other text refusal same = rw same refl

fronts_alike : (notes : Bool) (ahead known : Option (List ℕ)) (refused : List Refusal) (fronts : List (Vec ℕ Global)) → option_map raw_lines ahead ≡ option_map raw_lines known
    → NotesFronts notes ahead refused fronts → NotesFronts notes known refused fronts
fronts_alike notes ahead None refused fronts same noted = λ on. tt
fronts_alike notes None (Some text) refused fronts same noted = absurd (let wrong = same in cc)
fronts_alike notes (Some other) (Some text) refused fronts same noted = λ on.
    let lines : raw_lines other ≡ raw_lines text = let one = same in cc in
    noted on ∙ ap (λ (front : Refusal → List ℕ). map front refused) (λ i refusal. front_alike other text refusal lines i)

-- where something is found of records
pub noted_of : (layout : Layout) (notes : Bool) (known ahead : Option (List ℕ)) (came : Option Records) (refused : Vec Refusal Global) (noted : NotedLines) (found : Found)
    → option_map raw_lines ahead ≡ option_map raw_lines known → came ≡ option_map (λ text. lines_read layout (left_of layout text)) known → NotesFronts notes ahead refused.items noted.fronts.items
    → (notes ≡ true → IfSome came (λ all. all.entries ≡ noted.records)) → found.noted ≡ noted → IfRefused found.whole.listing (λ list. list ≡ refused)
    → notes ≡ true → IfSome known (λ text. NotesLines layout text found)
noted_of layout notes None ahead came refused noted found lines read fronts records same is on = tt
noted_of layout notes (Some text) ahead came refused noted found lines read fronts records same is on =
    let shown = fronts_alike notes ahead (Some text) refused.items noted.fronts.items lines fronts on in
    let told = (rw read at records) on in
    record {
      fronts = if_refused found.whole.listing _ _ is
          (λ list one. ap (λ (n : NotedLines). bytes_of n.fronts.items) same ∙ shown ∙ ap (λ (v : Vec Refusal Global). map (front_in text) v.items) (sym one));
      records = where_told found.whole.listing found.left _ (ap (λ (n : NotedLines). n.records) same ∙ sym told);
    }

-- and of refused lines alone
pub noted_alone : (layout : Layout) (notes : Bool) (known ahead : Option (List ℕ)) (refused : Vec Refusal Global) (noted : NotedLines)
    → option_map raw_lines ahead ≡ option_map raw_lines known → NotesFronts notes ahead refused.items noted.fronts.items
    → notes ≡ true → IfSome known (λ text. NotesLines layout text (record { whole = record { listing = RefusedLines refused; map = None }; left = None; noted = noted }))
noted_alone layout notes None ahead refused noted lines fronts on = tt
noted_alone layout notes (Some text) ahead refused noted lines fronts on = record { fronts = fronts_alike notes ahead (Some text) refused.items noted.fronts.items lines fronts on; records = tt }
