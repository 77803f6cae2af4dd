-- What is printed of faults in each form.
use Rattle.std.specs.Prelude.{ℕ, List, ◌++◌, length}
use Rattle.tl_map_county.specs.TheMap.{MapChain}
use Rattle.tl_check_verdict.specs.declared.fault.MapFault.{MapFault}
use Rattle.tl_check_verdict.specs.Messages.{map_fault_text}
use Rattle.tl_list_text.specs.Texts.{lines}
use Rattle.tigertopo_words.specs.declared.budget.Told.{Told}
use Rattle.tigertopo_words.specs.declared.form.Form.{Form}
use Rattle.tigertopo_words.specs.declared.form.Form.TheVariants.{Lines, Records, Objects}
use Rattle.tigertopo_faults.specs.declared.lines.speaking.Spoken.{Spoken}
use Rattle.tigertopo_faults.specs.Records.Keeping.{held}
use Rattle.tigertopo_faults.specs.Lines.Texts.{placed_text, chosen, end_text}
use Rattle.tigertopo_faults.specs.Objects.Texts.{objects_text}

-- without the records that they speak of: the first line, or all, or so many from the front, and where all are told, how many there are
abbrev pub plain_text : Told → List MapFault → ℕ → List ℕ
plain_text told faults touched = lines map_fault_text (chosen told faults) ++ end_text told (length faults) touched

-- as lines, with the records that they speak of or without, or as objects
abbrev pub told_text : List (List ℕ) → List MapChain → Spoken → Form → Told → List MapFault → ℕ → List ℕ
told_text names chains spoken Lines told faults touched = plain_text told faults touched
told_text names chains spoken Records told faults touched =
    placed_text names spoken.counts.items chains (held spoken.lines) spoken.places.items told faults touched
told_text names chains spoken Objects told faults touched =
    objects_text names spoken.counts.items chains (held spoken.lines) spoken.places.items told faults touched
