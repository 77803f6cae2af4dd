-- The lines of a text that are refused.
use Rattle.std.specs.Prelude.{ℕ, List, Option, None, Some}
use Rattle.std.specs.List.{filter_map}
use Rattle.std.specs.Option.{option_map}
use Rattle.tl_record.specs.declared.layout.Layout.{Layout}
use Rattle.tl_record.specs.declared.stop.Cause.{Cause}
use Rattle.tl_record.specs.declared.judge.Judgement.{Judgement}
use Rattle.tl_record.specs.declared.judge.Judgement.TheVariants.{PassedOver, Read, Refused}
use Rattle.tl_record.specs.Lines.{raw_lines}
use Rattle.tl_record.specs.Records.{judgements, refusal_of}

-- each of these lines that is refused, with its number and the cause; so many lines come before them
abbrev pub refusals_of_lines : Layout → ℕ → List (List ℕ) → List (ℕ × Cause)
refusals_of_lines layout before lines = filter_map refusal_of (judgements layout before lines)

-- each line of a text that is refused, with its number and the cause
abbrev pub refusals_of : Layout → List ℕ → List (ℕ × Cause)
refusals_of layout text = refusals_of_lines layout 0 (raw_lines text)

-- why a line is refused, if it is
abbrev pub cause_of : Judgement → Option Cause
cause_of PassedOver = None
cause_of (Read r) = None
cause_of (Refused cause) = Some cause

-- the lines that are refused of a text that may be known, where so many lines come before it
abbrev pub refused : Layout → ℕ → Option (List ℕ) → Option (List (ℕ × Cause))
refused layout before text = option_map (λ bytes. refusals_of_lines layout before (raw_lines bytes)) text
