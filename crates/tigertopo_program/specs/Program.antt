-- What the program answers to a command, whichever it is.
use Rattle.std.specs.Prelude.{ℕ, Bool, true, false, List, Option, None, map, option_map, string_bytes}
use Rattle.tl_record.specs.declared.options.Options.{Options}
use Rattle.tl_record.specs.Layout.{layout_with}
use Rattle.tl_cert_output.specs.declared.stop.Stop.{Stop}
use Rattle.tigertopo_words.specs.declared.asked.Asked.{Asked}
use Rattle.tigertopo_words.specs.declared.asked.Asked.TheVariants.{Show, Landmarks, Locate, Audit, Build, Check, Convert, Export, Draw, Border}
use Rattle.tigertopo_words.specs.declared.asked.Command.{Command}
use Rattle.tigertopo_words.specs.declared.budget.Told.{Told}
use Rattle.tigertopo_words.specs.declared.budget.Told.TheVariants.{One}
use Rattle.tigertopo_words.specs.declared.form.Form.{Form}
use Rattle.tigertopo_words.specs.declared.form.Form.TheVariants.{Lines}
use Rattle.tigertopo_files.specs.Files.{bytes_under}
use Rattle.tigertopo_files.specs.Reading.{text_under}
use Rattle.tigertopo_files.specs.World.{World}
use Rattle.tigertopo_program.specs.Answers.{ShowAnswers, LandmarksAnswers, LocateAnswers, AuditAnswers, CheckAnswers, ConvertAnswers}
use Rattle.tigertopo_program.specs.Records.{StopsRecords, StopsCheck, StopsNever}
use Rattle.tigertopo_program.specs.Building.{BuildAnswers}
use Rattle.tigertopo_program.specs.Borders.{BorderAnswers}
use Rattle.tigertopo_program.specs.Draw.Drawing.{DrawAnswers}
use Rattle.tigertopo_program.specs.Exports.{ExportAnswers, asked_of}
use Rattle.tigertopo_program.specs.Lists.Listed.{ListAnswers, StopsList}
use Rattle.tigertopo_program.specs.Lists.Listed as list

-- whether one fault is asked for, as a line, and no file
abbrev pub asks_one_line : Told → Form → Option (List ℕ) → Bool
asks_one_line One Lines None = true
asks_one_line told form made = false

abbrev pub is_one_line : list.Asked → Bool
is_one_line asked = asks_one_line asked.told asked.form asked.made

-- what is answered then, and where more is asked for
abbrev pub AuditOrList : (one_line : Bool) → World → Options → (known : Option (List ℕ)) → list.Asked → ℕ → List ℕ → Type 0
AuditOrList true w options known asked = AuditAnswers options known
AuditOrList false w options known asked = ListAnswers w options known asked

abbrev pub StopsAuditOrList : (one_line : Bool) → Options → (known : Option (List ℕ)) → list.Asked → Stop → Type 0
StopsAuditOrList true options known asked = StopsRecords (layout_with options) known
StopsAuditOrList false options known asked = StopsList options known asked

-- what is answered, with which status, where the records are in the files of these names
abbrev pub AnswersTo : Asked → Options → (names : List (List ℕ)) → World → ℕ → List ℕ → Type 0
AnswersTo Show options names w = ShowAnswers (layout_with options) (text_under w.before names)
AnswersTo Landmarks options names w = LandmarksAnswers (layout_with options) (text_under w.before names)
AnswersTo (Locate point) options names w = LocateAnswers (layout_with options) point (text_under w.before names)
AnswersTo (Audit told form made) options names w =
    let asked : list.Asked = record { names = names; told = told; form = form; made = option_map string_bytes made } in
    AuditOrList (is_one_line asked) w options (text_under w.before names) asked
AnswersTo (Build made) options names w = BuildAnswers w options (text_under w.before names) (string_bytes made)
AnswersTo (Check cert budget) options names w = CheckAnswers options budget (text_under w.before names) (bytes_under w.before (string_bytes cert))
AnswersTo (Convert cert made) options names w = ConvertAnswers w (bytes_under w.before (string_bytes cert)) (string_bytes made)
AnswersTo (Export made layer) options names w =
    ExportAnswers w (layout_with options) (text_under w.before names) (asked_of names (string_bytes made) layer)
AnswersTo (Draw made view faults) options names w =
    DrawAnswers w options (text_under w.before names) (record { name = string_bytes made; view = view; shows = faults })
AnswersTo (Border cenid made) options names w =
    BorderAnswers w options (text_under w.before names) (record { name = string_bytes made; cenid = cenid })

-- why nothing is, but for want of memory and for a device that failed
abbrev pub StopsTo : Asked → Options → (names : List (List ℕ)) → World → Stop → Type 0
StopsTo (Audit told form made) options names w =
    let asked : list.Asked = record { names = names; told = told; form = form; made = option_map string_bytes made } in
    StopsAuditOrList (is_one_line asked) options (text_under w.before names) asked
StopsTo (Check cert budget) options names w = StopsCheck options budget (text_under w.before names) (bytes_under w.before (string_bytes cert))
StopsTo (Convert cert made) options names w = StopsNever
StopsTo other options names w = StopsRecords (layout_with options) (text_under w.before names)

abbrev pub CommandAnswers : Command → World → ℕ → List ℕ → Type 0
CommandAnswers command w = AnswersTo command.asked command.options (map string_bytes command.files.items) w

abbrev pub CommandStops : Command → World → Stop → Type 0
CommandStops command w = StopsTo command.asked command.options (map string_bytes command.files.items) w
