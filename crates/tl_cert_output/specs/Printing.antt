-- What printing does to a sink.
use Rattle.std.specs.Prelude.{◌≡◌, ℕ, true, false, List, [], Option, Result, is_err}
use Rattle.tl_cert_output.specs.Writing.{PassesOn, PassesSome, FailsToWrite}
use Rattle.tl_cert_output.specs.Printed.{Printed}
use Rattle.tl_cert_output.specs.declared.printer.Printer.{Printer}

-- a printer prints the text; old and new are the sink and what the printer is, before and after
pub record Prints {S : Type 0} (contents : S → Option (List ℕ)) (failures : S → ℕ) (old new : S × Printed) (text : List ℕ) : Type 0 where
  -- where no write fails, the text is passed on behind what was held
  pub passes : old.1.failed ≡ false → new.1.failed ≡ false
      → PassesOn (contents old.0) (contents new.0) old.1.held new.1.held text × (failures new.0 ≡ failures old.0)
  -- where one fails now, it is counted, the sink took the front of what was held and of the text, and the rest is lost
  pub fails : old.1.failed ≡ false → new.1.failed ≡ true
      → PassesSome (contents old.0) (contents new.0) old.1.held text × FailsToWrite failures old.0 new.0
  -- behind a failure nothing is written
  pub stays : old.1.failed ≡ true → (new.1.failed ≡ true) × (new.0 ≡ old.0)

-- a printer that has ended with this result: it holds nothing, and an error tells that a write failed
abbrev pub ended : {T E : Type 0} → Result T E → Printed
ended result = record { held = []; failed = is_err result }

-- the sink of a printer, and what the printer is
abbrev pub stands : {S : Type 0} → Printer S → S × Printed
stands p = (p.out.now, record { held = p.held.items; failed = p.failed })

-- a printer prints the text to the sink that it has
pub record Adds {S : Type 0} (contents : S → Option (List ℕ)) (failures : S → ℕ) (old new : Printer S) (text : List ℕ) : Type 0 where
  pub same : new.out.ghost_name ≡ old.out.ghost_name
  pub prints : Prints contents failures (stands old) (stands new) text
