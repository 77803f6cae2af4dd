-- What a file system has done so far.
use Rattle.std.specs.Prelude.{◌≡◌, ◌⊎◌, ◌<◌, ℕ, ◌+◌, ◌-◌, Bool, false, List, [], ◌∷◌, ◌++◌, Option, None, Result, Ok, Err}
use Rattle.tl_cert_output.specs.declared.stop.Stop.{Stop}
use Rattle.tl_cert_output.specs.declared.stop.Stop.TheVariants.{Device}

-- the names of the files that were read, in the order in which they were opened, in one list those that were opened together; how many
-- new files are neither kept nor taken away; how many reads and writes failed; and the file that is read last, where it is to be shown
-- how far reading is
pub record Log : Type 0 where
  pub opened : List (List (List ℕ))
  pub drafts : ℕ
  pub failures : ℕ
  pub watched : Option (List ℕ)

-- these files, opened together, if there are any
abbrev pub together : List (List ℕ) → List (List (List ℕ))
together [] = []
together (name ∷ names) = (name ∷ names) ∷ []

-- files of the names were opened together, read and closed
abbrev pub with_opened : Log → List (List ℕ) → Log
with_opened log names = record log { opened = log.opened ++ together names }

-- so many reads failed
abbrev pub with_failed : Log → ℕ → Log
with_failed log failures = record log { failures = log.failures + failures }

-- files were opened once more, read and closed: reads of them failed where a device is told, and nowhere else
abbrev pub LogsAgain : {T : Type 0} → Log → Log → Result T Stop → Type 0
LogsAgain before after (Err Device) = (count : ℕ) × (after ≡ with_failed before count)
LogsAgain before after other = after ≡ before

-- a new file was begun, or none was
abbrev pub after_draft : {T : Type 0} → Log → Result T Stop → Log
after_draft log (Ok file) = record log { drafts = log.drafts + 1 }
after_draft log (Err stop) = log

-- a new file was kept or taken away, of which so many writes had failed
abbrev pub with_settled : Log → ℕ → Log
with_settled log failures = record log { drafts = log.drafts - 1; failures = log.failures + failures }

-- a read or a write of a file failed, or it isn't known what is done
abbrev pub Fails : (knows : Bool) → Log → Log → Type 0
Fails knows before after = (knows ≡ false) ⊎ (before.failures < after.failures)

-- one more failure is counted where a device is told, and nothing else is done
abbrev pub LogsFailure : {T : Type 0} → Log → Log → Result T Stop → Type 0
LogsFailure before after (Err Device) = after ≡ record before { failures = before.failures + 1 }
LogsFailure before after other = after ≡ before

-- nothing was done
abbrev pub nothing_done : Log
nothing_done = record { opened = []; drafts = 0; failures = 0; watched = None }
