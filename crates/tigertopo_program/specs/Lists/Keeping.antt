-- Kept on the way: what is prepared before it is told. No public contract cites this file.
use Rattle.std.specs.Prelude.{◌≡◌, ℕ, Bool, true, false, is_some, length, List, [], ◌++◌, map, Option, Some, None, IfSome, Vec}
use Rattle.std.specs.Global.{Global}
use Rattle.tl_map_county.specs.TheMap.{MapChain}
use Rattle.tigertopo_words.specs.declared.budget.Told.{Told}
use Rattle.tigertopo_words.specs.declared.budget.Told.TheVariants.{All}
use Rattle.tl_check_verdict.specs.declared.fault.MapFault.{MapFault}
use Rattle.tl_record.specs.declared.refusal.Refusal.{Refusal}
use Rattle.tl_cert_output.specs.declared.stop.Stop.{Stop}
use Rattle.tl_cert_output.specs.declared.stop.Stop.TheVariants.{Record}
use Rattle.tl_list_text.specs.declared.listing.Listing.TheVariants as listing
use Rattle.tigertopo_faults.specs.declared.lines.speaking.Spoken.{Spoken}
use Rattle.tigertopo_program.specs.declared.answer.Answer.{Answer}
use Rattle.tigertopo_program.specs.declared.answer.Answer.TheVariants as answer
use Rattle.tigertopo_program.specs.Texts.{answer_status, answer_text}
use Rattle.tl_list_text.specs.Texts.{printed}
use Rattle.tigertopo_words.specs.declared.form.Form.{Form}
use Rattle.tigertopo_words.specs.declared.form.Form.TheVariants.{Lines}
use Rattle.tl_record.specs.declared.layout.Layout.{Layout}
use Rattle.tigertopo_files.specs.Files.{Under}
use Rattle.tigertopo_files.specs.Joining.{joined}
use Rattle.tl_record.specs.Fronts.{front_in}
use Rattle.tigertopo_faults.specs.Hint.Telling.{HaveTexts}
use Rattle.tigertopo_faults.specs.Places.LinePlaces.{line_count}
use Rattle.tigertopo_faults.specs.Hint.Placed.{IsPlaced, TellsPlaces}
use Rattle.tigertopo_faults.specs.declared.hint.form.RefusedForm.TheVariants.{Features}
use Rattle.tl_record.specs.declared.options.Options.{Options}
use Rattle.tl_record.specs.declared.record.Record.{Record as TheRecord}
use Rattle.tl_record.specs.Layout.{layout_with}
use Rattle.tl_record.specs.Left.{left_of}
use Rattle.tl_record.specs.Records.{lines_read}
use Rattle.tl_list.specs.Findings.{IsFoundIn}
use Rattle.tl_list.specs.Noting.{NotesLines}
use Rattle.tl_list.specs.declared.left.Found.{Found}
use Rattle.tl_list.specs.declared.left.LeftFaults.{LeftFaults}
use Rattle.tigertopo_program.specs.declared.lists.skipping.LeftTexts.{LeftTexts}
use Rattle.tigertopo_faults.specs.Lines.Speaking.{AreSpoken}
use Rattle.tigertopo_faults.specs.Records.SpokenOf.{chains_of}
use Rattle.tigertopo_faults.specs.Told.{told_text}
use Rattle.tigertopo_program.specs.Lists.Listed.{Asked, asks_lines, featured, has_places, most_of, refused_form, refusals_text, skipped_text}

-- what is found in a text, and what is noted of its lines where that is asked for
pub record IsFoundWith (options : Options) (skips notes : Bool) (known : Option (List ℕ)) (found : Found) : Type 0 where
  pub are : IsFoundIn options skips known found
  pub noted : notes ≡ true → IfSome known (λ text. NotesLines (layout_with options) text found)

-- the same of files of these names, where the text of each is known: so many lines has each
abbrev pub AreNoted : Layout → Under → List (List ℕ) → (counts : List ℕ) → Found → Type 0
AreNoted layout under names counts found =
    (texts : List (List ℕ)) → HaveTexts under names texts → (counts ≡ map line_count texts) × NotesLines layout (joined texts) found

-- these are their records without refused lines, each with the number of its line
abbrev pub AreLinesOf : Layout → Under → List (List ℕ) → (counts : List ℕ) → List (ℕ × TheRecord) → Type 0
AreLinesOf layout under names counts entries = (texts : List (List ℕ)) → HaveTexts under names texts
    → (counts ≡ map line_count texts) × (entries ≡ (lines_read layout (left_of layout (joined texts))).entries)

-- so do refused lines of theirs begin
abbrev pub AreFronts : Under → List (List ℕ) → (counts : List ℕ) → List Refusal → (fronts : List (List ℕ)) → Type 0
AreFronts under names counts refusals fronts = (texts : List (List ℕ)) → HaveTexts under names texts
    → (counts ≡ map line_count texts) × (fronts ≡ map (front_in (joined texts)) refusals)

-- the text of faults, or nothing where they are printed as they are listed
abbrev pub IsPrepared : List (List ℕ) → List MapChain → Spoken → Form → Told → List MapFault → ℕ → Option (Vec ℕ Global) → Type 0
IsPrepared names chains spoken form told faults touched (Some text) = text.items ≡ told_text names chains spoken form told faults touched
IsPrepared names chains spoken form told faults touched None = (form ≡ Lines) × ((most : Option ℕ) × (skips : Bool) × (told ≡ All most skips))

-- the stop of a refusal
abbrev pub stop_of_refusal : Refusal → Stop
stop_of_refusal refusal = Record refusal.line refusal.cause

-- what was prepared of faults, or the listing of them
abbrev pub faults_answer : Option (Vec ℕ Global) → Vec MapFault Global → ℕ → Told → Answer
faults_answer (Some text) faults touched told = answer.Lines 1 text
faults_answer None faults touched told = answer.Listing (listing.Faults faults touched) (most_of told)

-- refused lines are answered, all or so many from the front, with where they stand if the form has that
pub record IsRefusedList (layout : Layout) (under : Under) (names : List (List ℕ)) (form : Form) (most : Option ℕ) (list : Vec Refusal Global) (answer : Answer) : Type 0 where
  pub told : List (List ℕ)
  pub stand : has_places form ≡ true → TellsPlaces (refused_form form) layout under names (printed most list.items) told
  pub plain : has_places form ≡ false → told ≡ []
  pub is : answer_status answer ≡ 3
  pub lines : answer_text answer ≡ refusals_text form most list.items told

-- what is answered of refused lines, which stand in files of so many lines each and begin with these bytes
abbrev pub AnswersFronted : Layout → Asked → Vec Refusal Global → (counts : List ℕ) → (fronts : List (List ℕ)) → Answer → Type 0
AnswersFronted layout asked list counts fronts answer = (under : Under)
    → (has_places asked.form ≡ true → AreFronts under asked.names counts list.items fronts)
    → IsRefusedList layout under asked.names asked.form (most_of asked.told) list answer

-- the features of refused lines, each with where it stands, if they are asked for
abbrev pub AreFeatures : Option (List ℕ) → Layout → Under → List (List ℕ) → List Refusal → List ℕ → Type 0
AreFeatures made layout under names refusals text = is_some made ≡ true → IsPlaced Features layout under names refusals text

-- what is answered of refused lines, and the features of those that the file has
pub record ArePrepared (layout : Layout) (under : Under) (asked : Asked) (list : Vec Refusal Global) (prepared : Answer × Vec ℕ Global) : Type 0 where
  pub answer : IsRefusedList layout under asked.names asked.form (most_of asked.told) list prepared.0
  pub features : AreFeatures asked.made layout under asked.names (featured asked.told list.items) prepared.1.items

-- the same of lines in files of so many lines each, which begin with these bytes
abbrev pub ArePreparedOf : Layout → Asked → Vec Refusal Global → (counts : List ℕ) → (fronts : List (List ℕ)) → Answer × Vec ℕ Global → Type 0
ArePreparedOf layout asked list counts fronts prepared = (under : Under)
    → (asks_lines asked.form asked.made ≡ true → AreFronts under asked.names counts list.items fronts)
    → ArePrepared layout under asked list prepared

-- what is answered of refused lines and of what is left, the records that its faults speak of, and the features of the refused lines that
-- the file has
pub record IsLeftPrepared (layout : Layout) (under : Under) (asked : Asked) (list : List Refusal) (left : LeftFaults) (texts : LeftTexts) : Type 0 where
  pub told : List (List ℕ)
  pub stand : has_places asked.form ≡ true → TellsPlaces (refused_form asked.form) layout under asked.names (printed (most_of asked.told) list) told
  pub plain : has_places asked.form ≡ false → told ≡ []
  pub lines : texts.text.items ≡ refusals_text asked.form (most_of asked.told) list told
      ++ told_text asked.names (chains_of left.map) texts.spoken asked.form asked.told left.faults.items left.touched ++ skipped_text asked.form (length list)
  pub speak : asks_lines asked.form asked.made ≡ true → AreSpoken layout under asked.names left.map (featured asked.told left.faults.items) texts.spoken
  pub features : AreFeatures asked.made layout under asked.names (featured asked.told list) texts.features.items
