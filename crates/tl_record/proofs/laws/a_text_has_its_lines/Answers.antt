use Rattle.std.proofs.Common.{subst}
use Rattle.tl_record.specs.Lines.{AreLinesOf}
use Rattle.tl_record.proofs.TextLemmas.{raw_lines_are, only_raw_lines}
use Rattle.tl_record.proofs.laws.a_text_has_its_lines.Goals as goal

pub returns : goal.returns
returns c = λ text lines. (λ is. subst (AreLinesOf text) is (raw_lines_are text), λ are. only_raw_lines lines text are)
