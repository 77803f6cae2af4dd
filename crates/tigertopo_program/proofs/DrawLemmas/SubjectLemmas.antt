-- What a picture is drawn of.
use Rattle.std.proofs.Common.{◌≡◌, ◌≢◌, inl, inr, ℕ, Bool, true, false, List, [], ◌∷◌, map, Some, None, Option, Result, Ok, Err, refl, sym, ap, subst, ◌∙◌, arith}
use Rattle.std.specs.Prelude.{⊤, All, slice_get}
use Rattle.std.specs.Option.{IfSome, option_map}
use Rattle.tl_record.specs.declared.layout.Layout.{Layout}
use Rattle.tl_record.specs.declared.options.Options.{Options}
use Rattle.tl_record.specs.Layout.{layout_with}
use Rattle.tl_record.specs.declared.refusal.Refusal.{Refusal}
use Rattle.tl_record.specs.Records.{Records as AllRecords, records_of, judgements}
use Rattle.tl_record.specs.Lines.{raw_lines}
use Rattle.tl_record.proofs.RefusalLemmas.{first_refusal as first_of_judged}
use Rattle.tl_record.specs.Refusals.{refusals_of}
use Rattle.tl_record.specs.Searching.{pair_of}
use Rattle.tl_map_rules.specs.Reading.{IsReadFrom}
use Rattle.tl_map_county.specs.TheMap.{TheMap}
use Rattle.tl_check_verdict.specs.declared.fault.MapFault.{MapFault}
use Rattle.tl_check_verdict.specs.declared.fault.MapFault.TheVariants as fault
use Rattle.tl_check_verdict.specs.Sound.{IsSoundFor}
use Rattle.tl_check_verdict.specs.Records.{HaveMap}
use Rattle.tl_check_verdict.proofs.OneMap.{same_map}
use Rattle.tl_cert_output.specs.declared.stop.Stop.{Stop}
use Rattle.tl_cert_output.specs.declared.stop.Stop.TheVariants.{Device}
use Rattle.tl_list_text.specs.declared.listing.Listing.{Listing}
use Rattle.tl_list_text.specs.declared.listing.Listing.TheVariants.{Sound, Refused, Faults}
use Rattle.tl_list.specs.Listings.{IsListingOf, AreFaults}
use Rattle.tl_decide.specs.MapFaults.{AreFaultsFor}
use Rattle.tl_list.specs.declared.of_records.Findings.{Findings}
use Rattle.tl_list.specs.Findings.{AreFindingsOf, IsMapIfAny, IsOfNoMap, BeginWithRecords, SaysWhy}
use Rattle.tl_list.specs.Telling.{IsTrueAmongFaults}
use Rattle.tl_list.proofs.Listed.{no_map, each_true}
use Rattle.tigertopo_files.specs.World.{MayStop}
use Rattle.tigertopo_program.specs.Records.{IsOfRecords, StopsRecords}
use Rattle.tigertopo_program.specs.Draw.Subjects.{AreFaultsOf, AreToShow}
use Rattle.tigertopo_program.specs.Draw.Keeping.{listed_faults, listed_touched, first_listed}
use Rattle.tigertopo_program.specs.Lists.Keeping.{stop_of_refusal}

pub first_is : (layout : Layout) (text : List ℕ) → slice_get (refusals_of layout text) 0 ≡ (records_of layout text).refusal
first_is layout text = first_of_judged (judgements layout 0 (raw_lines text))

-- ---- where there is a map

-- no line is refused of records that have one
no_refused : (layout : Layout) (text : List ℕ) (items : List Refusal) → items ≢ [] → map pair_of items ≡ refusals_of layout text → (records_of layout text).refusal ≡ None → ⊥
no_refused layout text [] some lists none = some refl
no_refused layout text (refusal ∷ rest) some lists none =
    let e : Some (pair_of refusal) ≡ None = ap (λ rs. slice_get rs 0) lists ∙ first_is layout text ∙ none in
    absurd cc

shown_faults : (faces : Bool) (all : AllRecords) (m : TheMap) (faults : List MapFault) (touched : ℕ) → IsReadFrom all m → faults ≢ [] → AreFaults faces all faults touched
    → AreFaultsOf faces m faults touched
shown_faults faces all m faults touched is some (inl records) = absurd (no_map faces all faults touched (λ m. ⊤) some records.0 (record { map = m; is_read = is; so = tt }))
shown_faults faces all m faults touched is some (inr have) = inr (subst (λ n. AreFaultsFor faces n faults touched) (same_map all have.map m have.is_read is) have.so)

-- what is listed of records that have a map is all faults of it
shown_findings : (options : Options) (text : List ℕ) (listing : Listing) (m : TheMap) → IsListingOf options text listing → IsReadFrom (records_of (layout_with options) text) m
    → AreFaultsOf options.faces m (listed_faults listing) (listed_touched listing)
shown_findings options text (Sound report) m have is = inl (refl, refl, subst (IsSoundFor options.faces) (same_map (records_of (layout_with options) text) have.map m have.is_read is) have.so.0)
shown_findings options text (Refused list) m lists is = absurd (no_refused (layout_with options) text list.items lists.0 lists.1 is.no_refusal)
shown_findings options text (Faults faults touched) m lists is = shown_faults options.faces (records_of (layout_with options) text) m faults.items touched is lists.0 lists.2

-- ---- where there is none

-- the fault of the records, or why they aren't read
abbrev pub IsWhy : Layout → Option (List ℕ) → Result MapFault Stop → Type 0
IsWhy layout known (Ok f) = IsOfRecords layout known (λ fault. ⊤) f
IsWhy layout known (Err stop) = MayStop (StopsRecords layout known) stop

-- the first of refusals, and the first of faults
abbrev first_refused : List Refusal → Option (Result MapFault Stop)
first_refused items = option_map (λ refusal. Err (stop_of_refusal refusal)) (slice_get items 0)

abbrev first_fault : List MapFault → Option (Result MapFault Stop)
first_fault faults = option_map (λ f. Ok f) (slice_get faults 0)

first_refusal : (layout : Layout) (text : List ℕ) (items : List Refusal) (why : Result MapFault Stop) → map pair_of items ≡ refusals_of layout text → first_refused items ≡ Some why
    → IsWhy layout (Some text) why
first_refusal layout text [] why lists is = absurd (let wrong = is in cc)
first_refusal layout text (refusal ∷ rest) why lists is =
    let some : Some (Err (stop_of_refusal refusal)) ≡ Some why = is in
    let same : Err (stop_of_refusal refusal) ≡ why = cc in
    subst (IsWhy layout (Some text)) same (sym (ap (λ rs. slice_get rs 0) lists ∙ first_is layout text))

-- a fault of records is theirs
is_of : (layout : Layout) (text : List ℕ) (faces : Bool) (f : MapFault) → IsOfNoMap f → IsTrueAmongFaults faces (records_of layout text) f → IsOfRecords layout (Some text) (λ fault. ⊤) f
is_of layout text faces (fault.Records f) of true_one = (tt, true_one)
is_of layout text faces (fault.NoRecords lacking) of true_one = true_one
is_of layout text faces (fault.Meet meet) of true_one = absurd of
is_of layout text faces (fault.Side node first next) of true_one = absurd of
is_of layout text faces (fault.PolygonPoint misplaced) of true_one = absurd of
is_of layout text faces (fault.Cell odds) of true_one = absurd of
is_of layout text faces (fault.Face f) of true_one = absurd of

first_told : (options : Options) (text : List ℕ) (faults : List MapFault) (why : Result MapFault Stop) → All (IsTrueAmongFaults options.faces (records_of (layout_with options) text)) faults
    → BeginWithRecords faults → first_fault faults ≡ Some why → IsWhy (layout_with options) (Some text) why
first_told options text [] why each begins is = absurd (let wrong = is in cc)
first_told options text (f ∷ rest) why each begins is =
    let same : Some (Ok f) ≡ Some why = is in
    let first : Some f ≡ Some begins.0 = begins.1.0 in
    let is_first : begins.0 ≡ f = cc in
    let is_why : Ok f ≡ why = cc in
    subst (IsWhy (layout_with options) (Some text)) is_why
    (is_of (layout_with options) text options.faces f (subst IsOfNoMap is_first begins.1.1) (each 0 f (omega arith)))

first_findings : (options : Options) (text : List ℕ) (listing : Listing) (why : Result MapFault Stop) → IsListingOf options text listing
    → ¬ HaveMap (records_of (layout_with options) text) (λ m. ⊤) → SaysWhy None listing → first_listed listing ≡ Some why → IsWhy (layout_with options) (Some text) why
first_findings options text (Sound report) why have none says is = absurd (none (record { map = have.map; is_read = have.is_read; so = tt }))
first_findings options text (Refused list) why lists none says is = first_refusal (layout_with options) text list.items why lists.1 is
first_findings options text (Faults faults touched) why lists none says is =
    first_told options text faults.items why (each_true options text (Faults faults touched) lists) (says refl) is

-- of a text that isn't known nothing is said but that the fault is one of records
unknown_refused : (layout : Layout) (items : List Refusal) (why : Result MapFault Stop) → first_refused items ≡ Some why → IsWhy layout None why
unknown_refused layout [] why is = absurd (let wrong = is in cc)
unknown_refused layout (refusal ∷ rest) why is =
    let some : Some (Err (stop_of_refusal refusal)) ≡ Some why = is in
    let same : Err (stop_of_refusal refusal) ≡ why = cc in
    subst (IsWhy layout None) same tt

of_unknown : (layout : Layout) (f : MapFault) → IsOfNoMap f → IsOfRecords layout None (λ fault. ⊤) f
of_unknown layout (fault.Records f) of = (tt, tt)
of_unknown layout (fault.NoRecords lacking) of = tt
of_unknown layout (fault.Meet meet) of = absurd of
of_unknown layout (fault.Side node first next) of = absurd of
of_unknown layout (fault.PolygonPoint misplaced) of = absurd of
of_unknown layout (fault.Cell odds) of = absurd of
of_unknown layout (fault.Face f) of = absurd of

unknown_first : (layout : Layout) (listing : Listing) (why : Result MapFault Stop) → SaysWhy None listing → first_listed listing ≡ Some why → IsWhy layout None why
unknown_first layout (Sound report) why says is = absurd (says refl)
unknown_first layout (Refused list) why says is = unknown_refused layout list.items why is
unknown_first layout (Faults faults touched) why says is =
    let begins = says refl in
    let same : Some (Ok begins.0) ≡ Some why = sym (ap (option_map (λ f. Ok f)) begins.1.0) ∙ is in
    let is_why : Ok begins.0 ≡ why = cc in
    subst (IsWhy layout None) is_why (of_unknown layout begins.0 begins.1.1)

-- no device failed
refused_no_device : (items : List Refusal) (stop : Stop) → first_refused items ≡ Some (Err stop) → ¬ (stop ≡ Device)
refused_no_device [] stop is = absurd (let wrong = is in cc)
refused_no_device (refusal ∷ rest) stop is = λ device.
    let same : Some (Err (stop_of_refusal refusal)) ≡ Some (Err stop) = is in
    absurd cc

fault_no_stop : (found : Option MapFault) (stop : Stop) → option_map (λ f. Ok f) found ≡ Some (Err stop) → ⊥
fault_no_stop None stop is = absurd (let wrong = is in cc)
fault_no_stop (Some f) stop is = absurd (let wrong = is in cc)

pub first_no_device : (listing : Listing) (stop : Stop) → first_listed listing ≡ Some (Err stop) → ¬ (stop ≡ Device)
first_no_device (Sound report) stop is = absurd (let wrong = is in cc)
first_no_device (Refused list) stop is = refused_no_device list.items stop is
first_no_device (Faults faults touched) stop is = absurd (fault_no_stop (slice_get faults.items 0) stop is)

-- ---- what is answered

pub subject_found : (options : Options) (known : Option (List ℕ)) (found : Findings) (m : TheMap) (faults : List MapFault) (touched : ℕ)
    → IfSome known (λ text. AreFindingsOf options text found) → found.map ≡ Some m → faults ≡ listed_faults found.listing → touched ≡ listed_touched found.listing
    → IfSome known (λ text. IsReadFrom (records_of (layout_with options) text) m × AreToShow options.faces true m faults touched)
subject_found options None found m faults touched is there same as_many = tt
subject_found options (Some text) found m faults touched is there same as_many =
    let drawn = subst (IsMapIfAny (records_of (layout_with options) text)) there is.drawn in
    let shown : AreFaultsOf options.faces m (listed_faults found.listing) (listed_touched found.listing) = shown_findings options text found.listing m is.told drawn in
    (drawn, rw (same, as_many) shown)

pub subject_missing : (options : Options) (known : Option (List ℕ)) (found : Findings) (why : Result MapFault Stop) → IfSome known (λ text. AreFindingsOf options text found)
    → found.map ≡ None → SaysWhy found.map found.listing → first_listed found.listing ≡ Some why → IsWhy (layout_with options) known why
subject_missing options None found why is none says first = unknown_first (layout_with options) found.listing why (subst (λ m. SaysWhy m found.listing) none says) first
subject_missing options (Some text) found why is none says first =
    first_findings options text found.listing why is.told (subst (IsMapIfAny (records_of (layout_with options) text)) none is.drawn)
    (subst (λ m. SaysWhy m found.listing) none says) first

-- the map alone
pub plain_subject : (options : Options) (known : Option (List ℕ)) (m : TheMap) (faults : List MapFault) (touched : ℕ)
    → IfSome known (λ text. IsReadFrom (records_of (layout_with options) text) m) → faults ≡ [] → touched ≡ 0
    → IfSome known (λ text. IsReadFrom (records_of (layout_with options) text) m × AreToShow options.faces false m faults touched)
plain_subject options None m faults touched is none as_none = tt
plain_subject options (Some text) m faults touched is none as_none = (is, (none, as_none))
