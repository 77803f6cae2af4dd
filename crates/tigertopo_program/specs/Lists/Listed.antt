-- What is answered where all that is wrong is asked for, or the records that faults speak of, or a file that is made of them.
--
-- `w` is what became of files, `known` the text of the records, where it is known, and `asked` what is asked.
use Rattle.std.specs.Prelude.{◌≡◌, ◌⊎◌, ℕ, Bool, true, false, List, [], ◌++◌, codes, length, decimal, take, Option, Some, None, IfSome, option_map, is_some, string_bytes, Vec}
use Rattle.std.specs.Global.{Global}
use Rattle.tl_record.specs.declared.options.Options.{Options}
use Rattle.tl_record.specs.declared.layout.Layout.{Layout}
use Rattle.tl_record.specs.declared.refusal.Refusal.{Refusal}
use Rattle.tl_record.specs.Layout.{layout_with}
use Rattle.tl_record.specs.Left.{left_of}
use Rattle.tl_record.specs.Records.{records_of}
use Rattle.tl_map_county.specs.TheMap.{TheMap}
use Rattle.tigertopo_files.specs.Files.{Under}
use Rattle.tigertopo_files.specs.World.{World, Made}
use Rattle.tigertopo_faults.specs.Hint.Telling.{HaveTexts}
use Rattle.tigertopo_faults.specs.Hint.Placed.{places_of}
use Rattle.tigertopo_faults.specs.Hint.Placed.{placed_text as refusals_placed}
use Rattle.tigertopo_faults.specs.declared.hint.form.RefusedForm.{RefusedForm}
use Rattle.tigertopo_faults.specs.declared.hint.form.RefusedForm.TheVariants.{Features}
use Rattle.tigertopo_faults.specs.declared.hint.form.RefusedForm.TheVariants as shown
use Rattle.tigertopo_words.specs.declared.budget.Told.{Told}
use Rattle.tigertopo_words.specs.declared.budget.Told.TheVariants.{One, All}
use Rattle.tigertopo_words.specs.declared.form.Form.{Form}
use Rattle.tigertopo_words.specs.declared.form.Form.TheVariants as form
use Rattle.tl_cert_output.specs.declared.stop.Stop.{Stop}
use Rattle.tl_check_verdict.specs.declared.fault.MapFault.{MapFault}
use Rattle.tl_check_verdict.specs.declared.verdict.Report.{Report}
use Rattle.tl_check_verdict.specs.Records.{HaveMap}
use Rattle.tl_check_verdict.specs.Sound.{IsSoundFor}
use Rattle.tl_list_text.specs.declared.listing.Listing.TheVariants as listing
use Rattle.tl_list.specs.Listings.{IsListingOf}
use Rattle.tl_list_text.specs.Texts.{listing_text, printed, count_line}
use Rattle.tl_list.specs.Findings.{AreFaultsOf, AreFindingsOf, HasBeyond}
use Rattle.tigertopo_faults.specs.Records.SpokenOf.{chains_of}
use Rattle.tigertopo_faults.specs.Records.Keeping.{held}
use Rattle.tigertopo_faults.specs.declared.lines.speaking.Spoken.{Spoken}
use Rattle.tigertopo_faults.specs.Lines.Speaking.{AreSpoken}
use Rattle.tigertopo_faults.specs.Geojson.Texts.{faults_text}
use Rattle.tigertopo_faults.specs.Told.{told_text}
use Rattle.tigertopo_faults.specs.Objects.Ends.{sound_object, refusals_end, skipped_end}
use Rattle.tigertopo_program.specs.declared.answer.Answer.{Answer}
use Rattle.tigertopo_program.specs.Records.{IsSoundWith, OfMap, StopsRecords}
use Rattle.tigertopo_program.specs.Texts.{answer_status, answer_text}
use Rattle.tigertopo_program.specs.declared.lists.listing.Wanted.{Wanted as TheWanted}

-- what is asked: of which files, which faults are told, the first or all or so many from the front, in which form, and the name of the file
-- that is made of them, if one is
pub record Asked : Type 0 where
  pub names : List (List ℕ)
  pub told : Told
  pub form : Form
  pub made : Option (List ℕ)

abbrev pub wanted_of : List (List ℕ) → TheWanted → Asked
wanted_of names wanted = record { names = names; told = wanted.told; form = wanted.form; made = option_map string_bytes wanted.made.now }

-- what is printed of a sound map's numbers
abbrev pub report_text : Form → Report → List ℕ
report_text form.Lines report = listing_text None (listing.Sound report)
report_text form.Records report = listing_text None (listing.Sound report)
report_text form.Objects report = sound_object report

-- how many of a list are told, where not each is
abbrev pub most_of : Told → Option ℕ
most_of One = Some 1
most_of (All most skips) = most

-- are refused lines skipped
abbrev pub is_skipping : Told → Bool
is_skipping One = false
is_skipping (All most skips) = skips

-- how many lines are refused, and how many of them are printed where a number is given
abbrev pub refusals_last : Form → (most : Option ℕ) → (count printed : ℕ) → List ℕ
refusals_last form.Lines most count printed = count_line (codes "refused=") most count
refusals_last form.Records most count printed = count_line (codes "refused=") most count
refusals_last form.Objects most count printed = refusals_end count printed

-- in which form refused lines are printed, with where they stand
abbrev pub refused_form : Form → RefusedForm
refused_form form.Lines = shown.Lines
refused_form form.Records = shown.Lines
refused_form form.Objects = shown.Objects

-- what is printed of refused lines, all or so many from the front, each with what is told of its place; and how many there are
abbrev pub refusals_text : Form → Option ℕ → List Refusal → List (List ℕ) → List ℕ
refusals_text form most refusals told =
    refusals_placed (refused_form form) (printed most refusals) told ++ refusals_last form most (length refusals) (length (printed most refusals))

-- is a refused line a stop, and not answered: where one fault is asked for as a line
abbrev pub stops_refused : Told → Form → Bool
stops_refused One form.Lines = true
stops_refused One form.Records = true
stops_refused One form.Objects = false
stops_refused (All most skips) form = false

-- have faults in this form the records that they speak of, and refused lines where they stand
abbrev pub has_places : Form → Bool
has_places form.Lines = false
has_places form.Records = true
has_places form.Objects = true

-- the faults that the file is made of, or the refused lines: the first, or all, however many are printed
abbrev pub featured : {A : Type 0} → Told → List A → List A
featured One list = take 1 list
featured (All most skips) list = list

-- are the lines of records asked for, and where refused lines stand: in this form, or for a file
abbrev pub asks_lines : Form → Option (List ℕ) → Bool
asks_lines form None = has_places form
asks_lines form (Some name) = true

-- how many refused lines were skipped, as a line
abbrev pub skipped_line : ℕ → List ℕ
skipped_line count = codes "refused lines=" ++ decimal count ++ codes " skipped\n"

-- the last line where refused lines are skipped, which says how many
abbrev pub skipped_text : Form → ℕ → List ℕ
skipped_text form.Lines count = skipped_line count
skipped_text form.Records count = skipped_line count
skipped_text form.Objects count = skipped_end count

-- the file of no fault, with these features of refused lines, each with a comma in front
abbrev pub refused_text : List (List ℕ) → List ℕ → List ℕ
refused_text names features = faults_text names [] None (λ s. []) [] [] 0 features

-- of refused lines it is told in this form where each stands, where that is asked for and the text of each file is known
abbrev pub TellsWhere : (asks : Bool) → RefusedForm → Layout → (known : Option (List ℕ)) → Under → List (List ℕ) → List Refusal → List (List ℕ) → Type 0
TellsWhere asks form layout known under names refusals told =
    IfSome known (λ held. asks ≡ true → (texts : List (List ℕ)) → HaveTexts under names texts → told ≡ places_of form layout names texts refusals)

-- the report of a sound map is answered, and no fault stands in the file
pub record IsSoundList (w : World) (asked : Asked) (report : Report) (answer : Answer) : Type 0 where
  pub kept : Made w asked.made (refused_text asked.names [])
  pub is : answer_status answer ≡ 0
  pub line : answer_text answer ≡ report_text asked.form report

-- faults that are listed, and how many polygons are touched
pub record Faults : Type 0 where
  pub faults : Vec MapFault Global
  pub touched : ℕ

-- faults are answered, with the records that they speak of where these are asked for, and those that are told stand in the file
pub record IsFaultList (w : World) (layout : Layout) (asked : Asked) (map : Option TheMap) (list : Faults) (answer : Answer) : Type 0 where
  pub spoken : Spoken
  pub speak : asks_lines asked.form asked.made ≡ true → AreSpoken layout w.before asked.names map (featured asked.told list.faults.items) spoken
  pub kept : Made w asked.made (faults_text asked.names spoken.counts.items map (held spoken.lines) spoken.places.items (featured asked.told list.faults.items) list.touched [])
  pub is : answer_status answer ≡ 1
  pub lines : answer_text answer ≡ told_text asked.names (chains_of map) spoken asked.form asked.told list.faults.items list.touched

-- why nothing is answered, but for want of memory and for a device that failed: the first line that is refused, where one fault is asked for
-- as a line
abbrev pub StopsList : Options → (known : Option (List ℕ)) → Asked → Stop → Type 0
StopsList options known asked stop = (stops_refused asked.told asked.form ≡ true) × StopsRecords (layout_with options) known stop

-- with the status 0 the report of a map that is sound, of which no fault stands in the file
pub record TellsSound (w : World) (options : Options) (known : Option (List ℕ)) (asked : Asked) (status : ℕ) (text : List ℕ) : Type 0 where
  pub report : Report
  pub sound : OfMap (layout_with options) known (IsSoundWith options.faces report)
  pub kept : Made w asked.made (refused_text asked.names [])
  pub is : status ≡ 0
  pub line : text ≡ report_text asked.form report

-- with the status 1 faults: those of the records and of no other, and all of them, where the text of the records is known; each lies where
-- the map has it, and where the texts of all files are known, the records behind them are those of the files that they speak of
pub record TellsFaults (w : World) (options : Options) (known : Option (List ℕ)) (asked : Asked) (status : ℕ) (text : List ℕ) : Type 0 where
  pub map : Option TheMap
  pub faults : Vec MapFault Global
  pub touched : ℕ
  pub are : IfSome known (λ held. AreFindingsOf options held (record { listing = listing.Faults faults touched; map = map }))
  pub unsound : IfSome known (λ held. ¬ HaveMap (records_of (layout_with options) held) (IsSoundFor options.faces))
  pub spoken : Spoken
  pub speak : asks_lines asked.form asked.made ≡ true → AreSpoken (layout_with options) w.before asked.names map (featured asked.told faults.items) spoken
  pub kept : Made w asked.made (faults_text asked.names spoken.counts.items map (held spoken.lines) spoken.places.items (featured asked.told faults.items) touched [])
  pub is : status ≡ 1
  pub lines : text ≡ told_text asked.names (chains_of map) spoken asked.form asked.told faults.items touched

-- where refused lines stand is told: `features` as the file has it, if one is made, and `told` as it is printed, if that is asked for
pub record AreRefused (w : World) (options : Options) (known : Option (List ℕ)) (asked : Asked) (list : List Refusal) (features told : List (List ℕ)) : Type 0 where
  pub stand : TellsWhere (is_some asked.made) Features (layout_with options) known w.before asked.names (featured asked.told list) features
  pub places : TellsWhere (has_places asked.form) (refused_form asked.form) (layout_with options) known w.before asked.names (printed (most_of asked.told) list) told
  pub plain : has_places asked.form ≡ false → told ≡ []

-- with the status 3 lines that are refused, where these are no stop; in the file stand the features of them, and no fault. Where they are
-- skipped, that is so only where one of them is beyond the greatest number of a line
pub record TellsRefusals (w : World) (options : Options) (known : Option (List ℕ)) (asked : Asked) (status : ℕ) (text : List ℕ) : Type 0 where
  pub told_all : stops_refused asked.told asked.form ≡ false
  pub list : Vec Refusal Global
  pub are_all : IfSome known (λ held. IsListingOf options held (listing.Refused list))
  pub alone : is_skipping asked.told ≡ true → HasBeyond list.items
  pub features : List (List ℕ)
  pub told : List (List ℕ)
  pub refused : AreRefused w options known asked list.items features told
  pub kept : Made w asked.made (refused_text asked.names (refusals_placed Features (featured asked.told list.items) features))
  pub is : status ≡ 3
  pub lines : text ≡ refusals_text asked.form (most_of asked.told) list.items told

-- with the status 3 lines that are refused, and where they are skipped, behind them the faults of the records that are left, as faults are
-- told of records of which none is refused, and how many lines were skipped; in the file stand these faults and the refused lines
pub record TellsLeft (w : World) (options : Options) (known : Option (List ℕ)) (asked : Asked) (status : ℕ) (text : List ℕ) : Type 0 where
  pub skipped : is_skipping asked.told ≡ true
  pub list : Vec Refusal Global
  pub are_all : IfSome known (λ held. IsListingOf options held (listing.Refused list))
  pub map : Option TheMap
  pub left : Faults
  pub are : IfSome known (λ held. AreFaultsOf options (left_of (layout_with options) held) map left.faults left.touched)
  pub spoken : Spoken
  pub speak : asks_lines asked.form asked.made ≡ true → AreSpoken (layout_with options) w.before asked.names map (featured asked.told left.faults.items) spoken
  pub features : List (List ℕ)
  pub told : List (List ℕ)
  pub refused : AreRefused w options known asked list.items features told
  pub kept : Made w asked.made (faults_text asked.names spoken.counts.items map (held spoken.lines) spoken.places.items (featured asked.told left.faults.items)
      left.touched (refusals_placed Features (featured asked.told list.items) features))
  pub is : status ≡ 3
  pub lines : text ≡ refusals_text asked.form (most_of asked.told) list.items told
      ++ told_text asked.names (chains_of map) spoken asked.form asked.told left.faults.items left.touched ++ skipped_text asked.form (length list.items)

-- what a list answers
abbrev pub ListAnswers : World → Options → (known : Option (List ℕ)) → Asked → ℕ → List ℕ → Type 0
ListAnswers w options known asked status text =
    TellsSound w options known asked status text
    ⊎ (TellsFaults w options known asked status text ⊎ (TellsRefusals w options known asked status text ⊎ TellsLeft w options known asked status text))
