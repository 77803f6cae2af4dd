-- The texts that files are read as, and what comes of reading them.
use Rattle.std.specs.Prelude.{◌≡◌, ◌⊎◌, ◌<◌, ℕ, Bool, true, false, List, [], ◌∷◌, ◌++◌, Contains, length, map, Option, Some, None, Result, Err, IfOk, IfErr, IfSome, IfNone}
use Rattle.tl_record.specs.Lines.{raw_lines}
use Rattle.tl_cert_output.specs.declared.stop.Stop.{Stop}
use Rattle.tl_cert_output.specs.declared.stop.Stop.TheVariants.{Device}
use Rattle.tigertopo_files.specs.declared.lending.Reply.{Reply}
use Rattle.tigertopo_files.specs.Joining.{joined_bytes}
use Rattle.tigertopo_files.specs.Files.{Under, bytes_under}
use Rattle.tigertopo_files.specs.Log.{LogsAgain}
use Rattle.tigertopo_files.specs.World.{World, Failed, MayStop}

-- the text of the files of these names, which are read one after the other as one text, where the bytes of each are known
abbrev pub text_under : Under → List (List ℕ) → Option (List ℕ)
text_under under names = joined_bytes (bytes_under under) false names

-- the text of the file that is read by itself, where one is
abbrev pub single_under : Under → Option (List ℕ) → Option (List ℕ)
single_under under None = Some []
single_under under (Some name) = bytes_under under name

-- so many lines has the text under each name, where that is known
abbrev pub HaveLines : Under → List (List ℕ) → List ℕ → Type 0
HaveLines under names counts =
    (texts : List (List ℕ)) → map (bytes_under under) names ≡ map Some texts → counts ≡ map (λ text. length (raw_lines text)) texts

-- those of these names whose lines are counted, all or none
abbrev pub counted_names : (counts : Bool) → List (List ℕ) → List (List ℕ)
counted_names true names = names
counted_names false names = []

-- what is answered is so, and if the lines of the files of these names are counted, it is said how many each has, and else no number
pub record IsReply {T : Type 0} (answers : T → Type 0) (under : Under) (names : List (List ℕ)) (counts : Bool) (reply : Reply T) : Type 0 where
  pub answered : answers reply.answer
  pub counted : HaveLines under (counted_names counts names) reply.line_counts.items

-- the names of all, that of the one that is read by itself behind the others
abbrev pub all_names : List (List ℕ) → Option (List ℕ) → List (List ℕ)
all_names names None = names
all_names names (Some single) = names ++ single ∷ []

-- what a source has left, and how many reads of it failed: none has no bytes, and nothing of it fails
abbrev pub left_in : {R : Type 0} → (R → Option (List ℕ)) → Option R → Option (List ℕ)
left_in remaining None = Some []
left_in remaining (Some source) = remaining source

abbrev pub failures_in : {R : Type 0} → (R → ℕ) → Option R → ℕ
failures_in failures None = 0
failures_in failures (Some source) = failures source

-- under one of these names no file is known to stand, so that it may be that it can be read but once
abbrev pub SomePassing : Under → List (List ℕ) → Type 0
SomePassing under names = (name : List ℕ) × Contains names name × (under name ≡ None)

-- so many reads failed: some where a device is told that has no other reason to be, and else none
abbrev pub TellsReads : {T : Type 0} → (other : Type 0) → (count : ℕ) → Result T Stop → Type 0
TellsReads other count (Err Device) = (0 < count) ⊎ other
TellsReads other count answer = count ≡ 0

-- reads of a source of this kind may fail
abbrev pub MayFail : {R : Type 0} → (R → ℕ) → Type 0
MayFail {R} failures = (source : R) × (0 < failures source)

-- what is asked is answered, or that is why it isn't; a device is told where `failed` says that one did, or as `stops` says
pub record Tells {T : Type 0} (answers : T → Type 0) (stops : Stop → Type 0) (failed : Type 0) (result : Result T Stop) : Type 0 where
  pub answered : IfOk result answers
  pub stopped : IfErr result (MayStop stops)
  pub device : result ≡ Err Device → failed ⊎ stops Device

-- Files of these names were read once more. What is answered is so, and why nothing is; of a device, that a file failed; and nothing else
-- is done. Nothing is answered, either, where one of them may be a file that can be read but once.
pub record DoesAgain {T : Type 0} (w : World) (names : List (List ℕ)) (answers : T → Type 0) (stops : Stop → Type 0) (result : Result (Option T) Stop) : Type 0 where
  pub told : Tells (λ found. IfSome found answers) stops (Failed w names) result
  pub passing : IfOk result (λ found. IfNone found (SomePassing w.before names))
  pub stays : w.after ≡ w.before
  pub logged : w.knows ≡ true → LogsAgain w.log w.logged result
