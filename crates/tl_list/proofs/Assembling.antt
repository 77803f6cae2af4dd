-- What is told of a text, put together of what is told of its lines, its records and their map.
use Rattle.std.proofs.Common.{◌≡◌, ◌≢◌, ◌<◌, ℕ, inl, inr, List, [], ◌∷◌, map, Option, Some, None, refl, sym, ap, ◌∙◌, subst, arith, Bool, true, false, length, Vec, Global}
use Rattle.std.specs.Prelude.{IfSome, slice_get, ⊤}
use Rattle.std.proofs.lemmas.Option.{IfSome_then}
use Rattle.std.specs.Option.{option_map}
use Rattle.tl_record.specs.declared.record.Record.{Record}
use Rattle.tl_record.specs.declared.layout.Layout.{Layout}
use Rattle.tl_record.specs.declared.options.Options.{Options}
use Rattle.tl_record.specs.Layout.{layout_with}
use Rattle.tl_record.specs.declared.stop.Cause.{Cause}
use Rattle.tl_record.specs.declared.refusal.Refusal.{Refusal}
use Rattle.tl_record.specs.Left.{left_from, left_of}
use Rattle.tl_record.specs.Records.{Records, lines_read, records_of, judgements, joined_where, asked_where}
use Rattle.tl_record.specs.Lines.{raw_lines}
use Rattle.tl_record.specs.Refusals.{refusals_of}
use Rattle.tl_record.specs.Searching.{pair_of}
use Rattle.tl_record.proofs.RefusalLemmas.{first_refusal}
use Rattle.tl_map_rules.specs.Listing.Refusals.Listing.{ListsAll}
use Rattle.tl_map_rules.specs.declared.fault.RecordFault.{RecordFault}
use Rattle.tl_map_rules.specs.declared.lacking.Lacking.{Lacking}
use Rattle.tl_map_rules.specs.Lacking.{lacks, lacking_where}
use Rattle.tl_map_rules.specs.Reading.{IsReadFrom, lacking_of}
use Rattle.tl_map_county.specs.TheMap.{TheMap}
use Rattle.tl_map_rules.specs.Listing.AllFaults.{AreAllFaults}
use Rattle.tl_check_verdict.specs.Records.{HaveMap}
use Rattle.tl_list_text.specs.declared.listing.Listing.{Listing}
use Rattle.tl_list_text.specs.declared.listing.Listing.TheVariants.{Sound, Refused, Faults}
use Rattle.tl_map.specs.declared.collected.CollectedRecords.{CollectedRecords}
use Rattle.tl_map.specs.Collecting.{HasCollected, IsMapOfRecords}
use Rattle.tl_list.specs.MapListings.{IsListingFor}
use Rattle.tl_list.specs.Listings.{IsListingOf, told_with}
use Rattle.tl_list.proofs.Lacked.{told_some, lack_some, begin_with_records}
use Rattle.tl_list.specs.Keeping.Reading.{AreWhole, KeepsAll, IsStopped}
use Rattle.tl_list.specs.declared.of_records.Findings.{Findings}
use Rattle.tl_list.specs.declared.noted.NotedLines.{NotedLines}
use Rattle.tl_list.specs.declared.left.LeftFaults.{LeftFaults}
use Rattle.tl_list.specs.Findings.{AreOfMap, AreFindingsOf, AreFaultsOf, IsMapIfAny, BeginWithRecords, SaysWhy, IsLeft, IsFoundIn}
use Rattle.tl_list.specs.Keeping.OfRecords.{IsListingOfRecords, AreFindingsOfRecords, IsListOf, AreTold, AreRead, AreLeftOf}
use Rattle.tl_map_rules.specs.Faults.{IsTrueOf}
use Rattle.tl_decide.proofs.Emptiness.{map_empty, none_held}

read_from : (all : Records) (rs : List Record) (skipped : ℕ) (m : TheMap) → AreWhole all skipped rs → lacks (lacking_of all) ≡ false → IsMapOfRecords rs skipped m → IsReadFrom all m
read_from all rs skipped m whole none made = record {
  no_refusal = whole.no_refusal;
  no_fault = rw whole.records_are made.no_fault;
  none_lacking = none;
  map = rw whole.records_are made.map;
  skipped_lines = made.skipped_lines ∙ sym whole.skipped_lines;
}

-- what is told of the map is told of the records
pub drawn : (faces : Bool) (all : Records) (rs : List Record) (skipped : ℕ) (m : TheMap) (listing : Listing) → AreWhole all skipped rs → lacks (lacking_of all) ≡ false
    → IsMapOfRecords rs skipped m → IsListingFor faces m listing → IsListingOfRecords faces all listing
drawn faces all rs skipped m (Sound report) whole none made told = record { map = m; is_read = read_from all rs skipped m whole none made; so = told }
drawn faces all rs skipped m (Refused list) whole none made told = absurd told
drawn faces all rs skipped m (Faults faults touched) whole none made told =
    (told.0, whole.no_refusal, inr (record { map = m; is_read = read_from all rs skipped m whole none made; so = told.1.0 }))

-- faults of records are told
pub told_of_records : (faces : Bool) (all : Records) (rs : List Record) (skipped : ℕ) (lacking : Lacking) (told : List RecordFault) (listing : Listing) → AreWhole all skipped rs
    → lacking ≡ lacking_of all → AreAllFaults rs told → told_with lacking told ≢ [] → IsListOf lacking told listing
    → IsListingOfRecords faces all listing
told_of_records faces all rs skipped lacking told (Sound report) whole same are some is = absurd is
told_of_records faces all rs skipped lacking told (Refused list) whole same are some is = absurd is
told_of_records faces all rs skipped lacking told (Faults faults touched) whole same are some is = (
  (λ none. some (sym is.0 ∙ none)),
  whole.no_refusal,
  inl (record { told = told; are_all = rw whole.records_are are; are = is.0 ∙ ap (λ (l : Lacking). told_with l told) same }, is.1),
)

-- ---- beside the map

-- records that have a map are listed with it
pub listed_with_map : (faces : Bool) (all : Records) (rs : List Record) (skipped : ℕ) (m : TheMap) (listed : Findings) → AreWhole all skipped rs → lacks (lacking_of all) ≡ false
    → IsMapOfRecords rs skipped m → listed.map ≡ Some m → IsListingFor faces m listed.listing → AreFindingsOfRecords faces all listed
listed_with_map faces all rs skipped m listed whole none made is told = record {
  told = drawn faces all rs skipped m listed.listing whole none made told;
  drawn = rw is (read_from all rs skipped m whole none made);
}

-- of records of which a fault is true, some fault is told
some_told : (rs : List Record) (told : List RecordFault) (fault : RecordFault) → AreAllFaults rs told → IsTrueOf rs fault → told ≢ []
some_told rs told fault are true_one none = none_held fault (rw none at (are.every fault true_one))

-- and they have no map
pub listed_with_none : (faces : Bool) (all : Records) (rs : List Record) (skipped : ℕ) (lacking : Lacking) (fault : RecordFault) (listed : Findings) → AreWhole all skipped rs
    → lacking ≡ lacking_of all → lacks lacking ≡ false → IsTrueOf rs fault → AreTold rs lacking listed → AreFindingsOfRecords faces all listed
listed_with_none faces all rs skipped lacking fault listed whole same none true_one told = record {
  told =
      told_of_records faces all rs skipped lacking told.faults listed.listing whole same told.are_all
      (told_some lacking told.faults none (some_told rs told.faults fault told.are_all true_one)) told.told;
  drawn = rw told.undrawn (λ have. have.is_read.no_fault fault (rw whole.records_are true_one));
}

-- nor have they where there are none of some type that is asked for
pub listed_lacking : (faces : Bool) (all : Records) (rs : List Record) (skipped : ℕ) (lacking : Lacking) (listed : Findings) → AreWhole all skipped rs
    → lacking ≡ lacking_of all → lacks lacking ≡ true → AreTold rs lacking listed → AreFindingsOfRecords faces all listed
listed_lacking faces all rs skipped lacking listed whole same some told = record {
  told = told_of_records faces all rs skipped lacking told.faults listed.listing whole same told.are_all (lack_some lacking told.faults some) told.told;
  drawn = rw told.undrawn (λ have. let none = have.is_read.none_lacking in absurd (cc));
}

-- of which of the types there are none is the same of a text's records and of those that are kept
pub same_lack : (all : Records) (rs : List Record) (skipped : ℕ) (asked : Bool) (lacking : Lacking) → AreWhole all skipped rs → all.complete ≡ asked
    → lacking ≡ lacking_where asked rs → lacking ≡ lacking_of all
same_lack all rs skipped asked lacking whole is same = rw (is, whole.records_are) same

-- what is told of the records is told of their text
pub of_text : (options : Options) (text : List ℕ) (listing : Listing) → IsListingOfRecords options.faces (records_of (layout_with options) text) listing
    → IsListingOf options text listing
of_text options text (Sound report) told = told
of_text options text (Refused list) told = absurd told
of_text options text (Faults faults touched) told = told

pub first_is : (layout : Layout) (text : List ℕ) → slice_get (refusals_of layout text) 0 ≡ (records_of layout text).refusal
first_is layout text = first_refusal (judgements layout 0 (raw_lines text))

pub none_held_in : {X : Type 0} (xs : List X) → length xs ≡ 0 → xs ≡ []
none_held_in [] none = refl
none_held_in (x ∷ xs) none = absurd (omega (arith, none))

no_first : (rs : List (ℕ × Cause)) → slice_get rs 0 ≡ None → rs ≡ []
no_first [] none = refl
no_first (r ∷ rs) none = absurd (let wrong = none in cc)

listed_text : (options : Options) (text : List ℕ) (listed : Findings) → AreFindingsOfRecords options.faces (records_of (layout_with options) text) listed → AreFindingsOf options text listed
listed_text options text listed all = record { told = of_text options text listed.listing all.told; drawn = all.drawn }

-- where a line is refused there is no map
listed_refusals : (options : Options) (text : List ℕ) (refused : Vec Refusal Global) → refused.items ≢ [] → ListsAll (refusals_of (layout_with options) text) refused.items
    → AreFindingsOf options text (record { listing = Refused refused; map = None })
listed_refusals options text refused some told = record {
  told = (some, told);
  drawn = λ have. some (map_empty pair_of refused.items (told ∙ no_first (refusals_of (layout_with options) text) (first_is (layout_with options) text ∙ have.is_read.no_refusal)));
}

-- ---- why there is no map

some_length : {X : Type 0} (xs : List X) → xs ≢ [] → 0 < length xs
some_length [] some = absurd (some refl)
some_length (x ∷ xs) some = omega arith

says_why : (faces : Bool) (all : Records) (listed : Findings) → AreFindingsOfRecords faces all listed → SaysWhy listed.map listed.listing
says_why faces all listed are = go listed.listing are.told
  where
    no_map : listed.map ≡ None → ¬ HaveMap all (λ m. ⊤)
    no_map none = subst (IsMapIfAny all) none are.drawn

    go : (listing : Listing) → IsListingOfRecords faces all listing → SaysWhy listed.map listing
    go (Sound report) have = λ none. no_map none (record { map = have.map; is_read = have.is_read; so = tt })
    go (Refused list) told = absurd told
    go (Faults faults touched) told = λ none. elim told.2 [
      | inl records ↦ subst BeginWithRecords (sym records.0.are) (begin_with_records (lacking_of all) records.0.told (λ empty. told.0 (records.0.are ∙ empty)))
      | inr have ↦ absurd (no_map none (record { map = have.map; is_read = have.is_read; so = tt }))
    ]

-- ---- of bytes that may be known

known_as : {A B : Type 0} (f : A → B) (P : B → Type 0) (known : Option A) (all : Option B) → all ≡ option_map f known → IfSome all P → IfSome known (λ x. P (f x))
known_as f P None all is holds = tt
known_as f P (Some x) all is holds = rw is at holds

-- the records of what is left of a text, before more is asked of them
abbrev pub plain_left : Options → List ℕ → Records
plain_left options text = joined_where options.join (lines_read (layout_with options) (left_of (layout_with options) text))

-- the same records where more is asked of them
asked_whole : (complete : Bool) (all : Records) (skipped : ℕ) (rs : List Record) → AreWhole all skipped rs → AreWhole (asked_where complete all) skipped rs
asked_whole complete all skipped rs whole = record { records_are = whole.records_are; no_refusal = whole.no_refusal; skipped_lines = whole.skipped_lines }

pub left_text : (options : Options) (known : Option (List ℕ)) (came : Option Records)
    → came ≡ option_map (λ text. lines_read (layout_with options) (left_of (layout_with options) text)) known
    → option_map (joined_where options.join) came ≡ option_map (plain_left options) known
left_text options None came is = rw is refl
left_text options (Some text) came is = rw is refl

module _ (options : Options) (skips : Bool) (known : Option (List ℕ)) where
  -- what is listed of records that are kept
  pub kept_told : (came : Option Records) (skipped : ℕ) (held : CollectedRecords) (listed : Findings)
      → came ≡ option_map (plain_left options) known → KeepsAll came skipped held
      → ((all : Records) (rs : List Record) → AreWhole all skipped rs → all.complete ≡ options.complete → HasCollected rs held → AreFindingsOfRecords options.faces all listed)
      → IfSome known (λ text. AreFindingsOfRecords options.faces (records_of (layout_with options) (left_of (layout_with options) text)) listed)
  kept_told came skipped held listed is keeps told =
      known_as (plain_left options) (λ all. AreFindingsOfRecords options.faces (asked_where options.complete all) listed) known came is
      (IfSome_then came keeps.known (λ all whole. told (asked_where options.complete all) keeps.records (asked_whole options.complete all skipped keeps.records whole) refl keeps.keeps))

  pub told_of_some : (came : Option Records) (skipped : ℕ) (held : CollectedRecords) (listed : Findings) → KeepsAll came skipped held
      → ((all : Records) (rs : List Record) → AreWhole all skipped rs → all.complete ≡ options.complete → HasCollected rs held → AreFindingsOfRecords options.faces all listed)
      → (all : Records) × AreFindingsOfRecords options.faces all listed
  told_of_some came skipped held listed keeps told =
      let all : Records = record { entries = map (λ (r : Record). (0, r)) keeps.records; refusal = None; skipped = skipped; complete = options.complete } in
      (all, told all keeps.records (record { records_are = numbered keeps.records; no_refusal = refl; skipped_lines = refl }) refl keeps.keeps)
    where
      numbered : (rs : List Record) → map (λ (entry : ℕ × Record). entry.1) (map (λ (r : Record). (0, r)) rs) ≡ rs
      numbered [] = refl
      numbered (r ∷ rs) = ap (λ (rest : List Record). r ∷ rest) (numbered rs)

  pub refused_told : (refusals : Option (List (ℕ × Cause))) (refused : List Refusal) → refusals ≡ option_map (refusals_of (layout_with options)) known
      → IfSome refusals (λ rs. ListsAll rs refused) → IfSome known (λ text. ListsAll (refusals_of (layout_with options) text) refused)
  refused_told refusals refused is lists = known_as (refusals_of (layout_with options)) (λ rs. ListsAll rs refused) known refusals is lists

  -- lines are refused, and nothing is listed of what is left
  pub found_refused : (noted : NotedLines) (refusals : Option (List (ℕ × Cause))) (refused : Vec Refusal Global) → refusals ≡ option_map (refusals_of (layout_with options)) known
      → IsStopped skips refusals refused.items → IsFoundIn options skips known (record { whole = record { listing = Refused refused; map = None }; left = None; noted = noted })
  found_refused noted refusals refused is stops = record {
    whole = IfSome_then known (refused_told refusals refused.items is stops.all) (λ text lists. listed_refusals options text refused stops.some lists);
    why = some_length refused.items stops.some;
    left = stops.beyond;
  }

  no_left : (listed : Findings) → (all : Records) → AreFindingsOfRecords options.faces all listed → IsLeft options skips known listed.listing None
  no_left listed all are = go listed.listing are.told
    where
      go : (listing : Listing) → IsListingOfRecords options.faces all listing → IsLeft options skips known listing None
      go (Sound report) told = refl
      go (Refused list) told = absurd told
      go (Faults faults touched) told = refl

  -- no line is refused
  pub found_whole : (noted : NotedLines) (refused : List Refusal) (listed : Findings) → AreRead options skips known refused listed → refused ≡ []
      → IsFoundIn options skips known (record { whole = listed; left = None; noted = noted })
  found_whole noted refused listed read none = record { whole = go known read.all read.told; why = says_why options.faces read.of_some.0 listed read.of_some.1; left = no_left listed read.of_some.0 read.of_some.1 }
    where
      go : (bytes : Option (List ℕ)) → IfSome bytes (λ text. ListsAll (refusals_of (layout_with options) text) refused)
          → IfSome bytes (λ text. AreFindingsOfRecords options.faces (records_of (layout_with options) (left_of (layout_with options) text)) listed)
          → IfSome bytes (λ text. AreFindingsOf options text listed)
      go None lists are = tt
      go (Some text) lists are =
          let no_refusal : refusals_of (layout_with options) text ≡ [] = sym lists ∙ ap (map pair_of) none in
          let same : left_of (layout_with options) text ≡ text = ap (λ (rs : List (ℕ × Cause)). left_from 0 (map (λ (r : ℕ × Cause). r.0) rs) text) no_refusal in
          listed_text options text listed (subst (λ (t : List ℕ). AreFindingsOfRecords options.faces (records_of (layout_with options) t) listed) same are)

  -- lines are refused, and this is left
  pub found_left : (noted : NotedLines) (refused : Vec Refusal Global) (listed : Findings) (left : Option LeftFaults) → AreRead options skips known refused.items listed → refused.items ≢ []
      → ((faces : Bool) (all : Records) → AreFindingsOfRecords faces all listed → AreLeftOf faces all left)
      → IsFoundIn options skips known (record { whole = record { listing = Refused refused; map = None }; left = left; noted = noted })
  found_left noted refused listed left read some are_left = record {
    whole = IfSome_then known read.all (λ text lists. listed_refusals options text refused some lists);
    why = some_length refused.items some;
    left = go left known (IfSome_then known read.told (λ text are. are_left options.faces (records_of (layout_with options) (left_of (layout_with options) text)) are))
        (are_left options.faces read.of_some.0 read.of_some.1);
  }
    where
      skipping : (s : Bool) → skips ≡ s → s ≡ true
      skipping true is = refl
      skipping false is = absurd (some (read.none is))

      as_text : (text : List ℕ) (left : LeftFaults) → AreLeftOf options.faces (records_of (layout_with options) text) (Some left) → AreFaultsOf options text left.map left.faults left.touched
      as_text text left (inl are) = inl (listed_text options text (record { listing = Faults left.faults left.touched; map = left.map }) are)
      as_text text left (inr sound) = inr (sound.0, sound.1, (sound.2.0, listed_text options text (record { listing = Sound sound.2.0; map = left.map }) sound.2.1))

      go : (left : Option LeftFaults) (bytes : Option (List ℕ)) → IfSome bytes (λ text. AreLeftOf options.faces (records_of (layout_with options) (left_of (layout_with options) text)) left)
          → AreLeftOf options.faces read.of_some.0 left → IsLeft options skips bytes (Refused refused) left
      go (Some left) bytes are some = (skipping skips refl, IfSome_then bytes are (λ text a. as_text (left_of (layout_with options) text) left a))
      go None bytes are some = absurd some

-- ---- records that have no map

-- one of all faults, where there are some
pub some_fault : (rs : List Record) (faults : List RecordFault) → AreAllFaults rs faults → faults ≢ [] → (fault : RecordFault) × IsTrueOf rs fault
some_fault rs [] all some = absurd (some refl)
some_fault rs (fault ∷ faults) all some = (fault, all.each 0 fault (omega arith))

-- where no map is handed out, nothing is listed beside one
pub undrawn_of_map : (faces : Bool) (rs : List Record) (lacking : Lacking) (listed : Findings) → AreTold rs lacking listed → AreOfMap faces listed
undrawn_of_map faces rs lacking listed told = rw told.undrawn tt
