-- What becomes of commands.
use Rattle.std.proofs.Common.{◌≡◌, ℕ, Bool, true, false, List, Option, Some, None, Result, Ok, Err, map, refl, sym, subst}
use Rattle.std.specs.Prelude.{OnOk, OnErr, is_err, string_bytes}
use Rattle.tl_cert_output.specs.declared.stop.Stop.{Stop}
use Rattle.tigertopo_words.specs.declared.asked.Asked.{Asked}
use Rattle.tigertopo_words.specs.declared.asked.Asked.TheVariants.{Show, Landmarks, Locate, Audit, Build, Check, Convert, Export, Draw, Border}
use Rattle.tigertopo_words.specs.declared.asked.Command.{Command}
use Rattle.tigertopo_words.specs.declared.budget.Told.{Told}
use Rattle.tigertopo_words.specs.declared.budget.Told.TheVariants.{One, All}
use Rattle.tigertopo_words.specs.declared.form.Form.{Form}
use Rattle.tigertopo_words.specs.declared.form.Form.TheVariants.{Lines, Records, Objects}
use Rattle.tigertopo_words.specs.Asked.{made_of}
use Rattle.tigertopo_files.specs.Files.{Under, IsRoom}
use Rattle.tigertopo_files.specs.declared.beginning.FileKind.{FileKind}
use Rattle.tigertopo_files.specs.declared.file_system.Room.{Room}
use Rattle.tigertopo_files.specs.declared.file_system.Room.TheVariants.{Free}
use Rattle.tigertopo_files.specs.World.{World, Does, MayMake}
use Rattle.tigertopo_program.specs.declared.answer.Answer.{Answer}
use Rattle.tigertopo_program.specs.Answers.{IsSaid}
use Rattle.tigertopo_program.specs.Commands.{names_with, names_read, inputs_with, kind_of}
use Rattle.tigertopo_program.specs.Program.{AnswersTo, StopsTo, CommandAnswers, CommandStops, asks_one_line}
use Rattle.tigertopo_program.specs.Running.{IsRoomWith}

-- a file that may be made beside what is read
pub may_make : (asked : Asked) (names : List (List ℕ)) (under : Under) → IsRoomWith under (made_of asked) (inputs_with asked names) (kind_of asked) Free → MayMake under (made_of asked) (names_with asked names) (kind_of asked)
may_make Show names under room = tt
may_make Landmarks names under room = tt
may_make (Locate point) names under room = tt
may_make (Audit told form None) names under room = tt
may_make (Audit told form (Some name)) names under room = room
may_make (Build made) names under room = room
may_make (Check cert budget) names under room = tt
may_make (Convert cert made) names under room = room
may_make (Export made layer) names under room = room
may_make (Draw made view faults) names under room = room
may_make (Border cenid made) names under room = room

-- a file that may not be made has a name
pub refused_name : (under : Under) (made : Option (List ℕ)) (read : List (List ℕ)) (kind : FileKind) (room : Room) → (room ≡ Free → ⊥) → IsRoomWith under made read kind room
    → (name : List ℕ) × (made ≡ Some name) × IsRoom under name read kind room
refused_name under None read kind room taken is = absurd (taken is)
refused_name under (Some name) read kind room taken is = (name, refl, is)

-- what a command does, by what it asks
pub by_asked : (command : Command) (asked : Asked) → command.asked ≡ asked → (w : World) (r : Result Answer Stop)
    → Does w (names_with asked (map string_bytes command.files.items)) (made_of asked) (IsSaid (AnswersTo asked command.options (map string_bytes command.files.items) w)) (StopsTo asked command.options (map string_bytes command.files.items) w) r
    → Does w (names_read command) (made_of command.asked) (IsSaid (CommandAnswers command w)) (CommandStops command w) r
by_asked command asked is w r =
    subst (λ a. Does w (names_with a (map string_bytes command.files.items)) (made_of a) (IsSaid (AnswersTo a command.options (map string_bytes command.files.items) w)) (StopsTo a command.options (map string_bytes command.files.items) w) r) (sym is)

-- an audit for one line makes no file
pub makes_none : (told : Told) (form : Form) (made : Option (List ℕ)) → asks_one_line told form made ≡ true → made ≡ None
makes_none One Lines None one = refl
makes_none One Lines (Some name) one = absurd (cc)
makes_none One Records made one = absurd (cc)
makes_none One Objects made one = absurd (cc)
makes_none (All most skips) form made one = absurd (cc)

-- what holds where a call did well that did
pub on_ok : {A B : Type 0} (P : Type 0) (r : Result A B) (test : Bool) → test ≡ is_err r → test ≡ false → OnOk r P → P
on_ok P (Ok a) test is differs holds = holds
on_ok P (Err b) test is differs holds = absurd (cc)

-- what holds where it failed that did
pub on_err : {A B : Type 0} (P : Type 0) (r : Result A B) (test : Bool) → test ≡ is_err r → test ≡ true → OnErr r P → P
on_err P (Ok a) test is differs holds = absurd (cc)
on_err P (Err b) test is differs holds = holds
