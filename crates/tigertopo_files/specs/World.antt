-- The files of a file system before and after a command, and what it does with them.
use Rattle.std.specs.Prelude.{◌≡◌, ◌⊎◌, ℕ, ◌+◌, Bool, true, List, ◌++◌, take, Contains, Option, Some, None, Result, Ok, Err, IfOk, IfErr, ⊤}
use Rattle.tl_cert_output.specs.declared.stop.Stop.{Stop}
use Rattle.tl_cert_output.specs.declared.stop.Stop.TheVariants.{Record, Memory, Device, Budget}
use Rattle.tigertopo_files.specs.Files.{Under, bytes_under, IsFree, KeepsBut, KeepsEach, StandsUnder}
use Rattle.tigertopo_files.specs.declared.beginning.FileKind.{FileKind}
use Rattle.tigertopo_files.specs.Log.{Log, Fails, together, with_opened}

-- what stands under each name before and after, what had been done and what has, and whether that is known
pub record World : Type 0 where
  pub before : Under
  pub after : Under
  pub log : Log
  pub logged : Log
  pub knows : Bool

-- the same of a file system, by what it says of itself
abbrev pub world : {F : Type 0} → (F → Under) → (F → Log) → Bool → (old new : F) → World
world under log knows old new = record { before = under old; after = under new; log = log old; logged = log new; knows = knows }

-- one of these names has no bytes that are known, so that it may be that it can't be opened
abbrev pub SomeMissing : Under → List (List ℕ) → Type 0
SomeMissing under names = (name : List ℕ) × Contains names name × (bytes_under under name ≡ None)

-- a file failed: one of these names can't be opened, or a read or a write failed
abbrev pub Failed : World → List (List ℕ) → Type 0
Failed w names = SomeMissing w.before names ⊎ Fails w.knows w.log w.logged

-- files of these names were opened, each once, in their order, and all before the first is read; or none, where there is no answer. No
-- read failed but where a device is told
abbrev pub LogsReading : {T : Type 0} → Log → Log → List (List ℕ) → Result T Stop → Type 0
LogsReading before after names (Ok answer) = after ≡ with_opened before names
LogsReading before after names (Err Device) =
    (n : ℕ) × (count : ℕ) × (after ≡ record before { opened = before.opened ++ take n (together names); failures = before.failures + count })
LogsReading before after names (Err other) = (n : ℕ) × (after ≡ record before { opened = before.opened ++ take n (together names) })

-- why nothing is answered: memory was refused, a device failed, or as `stops` says, which may also say why a device failed
abbrev pub MayStop : (stops : Stop → Type 0) → Stop → Type 0
MayStop stops Memory = ⊤
MayStop stops Device = ⊤
MayStop stops (Record line cause) = stops (Record line cause)
MayStop stops Budget = stops Budget

-- what stands under each name is what stood there, but under that of a file that is made, if one is, and under that of one that isn't
-- whole yet
abbrev pub Keeps : World → (made : Option (List ℕ)) → Type 0
Keeps w None = w.after ≡ w.before
Keeps w (Some name) = KeepsBut w.before w.after name

-- no file was made: so it is under its name, too
abbrev pub Unmade : World → (made : Option (List ℕ)) → Type 0
Unmade w None = w.after ≡ w.before
Unmade w (Some name) = KeepsEach w.before w.after name

-- a file of this text was made, if one is to be made
abbrev pub Made : World → (made : Option (List ℕ)) → List ℕ → Type 0
Made w None text = ⊤
Made w (Some name) text = StandsUnder w.after name text

-- What a command does with files: it reads those of `names`, and makes one of the name `made`, if one is to be made. What is answered is
-- so, and why nothing is; of a device, that a file failed; and nothing else is done.
pub record Does {T : Type 0} (w : World) (names : List (List ℕ)) (made : Option (List ℕ)) (answers : T → Type 0) (stops : Stop → Type 0) (result : Result T Stop) : Type 0 where
  pub answered : IfOk result answers
  pub stopped : IfErr result (MayStop stops)
  pub device : result ≡ Err Device → Failed w names ⊎ stops Device
  pub keeps : Keeps w made
  pub unmade : IfErr result (λ stop. Unmade w made)
  pub logged : w.knows ≡ true → LogsReading w.log w.logged names result

-- a file of the kind may be made, if one is to be made, where the files of these names are read
abbrev pub MayMake : Under → (made : Option (List ℕ)) → List (List ℕ) → FileKind → Type 0
MayMake under None names kind = ⊤
MayMake under (Some name) names kind = IsFree under name names kind
