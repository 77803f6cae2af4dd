use Rattle.std.proofs.Common.{◌≡◌, ◌∙◌, ap, take}
use Rattle.std.proofs.lemmas.List.{take_min}
use Rattle.tl_record.specs.Limits.{most_line_bytes}
use Rattle.tl_record.specs.Lines.{first_line}
use Rattle.tl_record.proofs.FrontLemmas.{fed_line, unfed_line}
use Rattle.tl_record.proofs.reader.RecordReader.refused_line.Goals as goal

pub returns-in-Some : goal.returns-in-Some
returns-in-Some g c =
    let shown : take c.min.result c.bytes-bytes.result.now ≡ take most_line_bytes c.args.self.now.buffer =
    rw (c.min.ensures, c.bytes-bytes.ensures.value) (take_min most_line_bytes c.args.self.now.buffer) in
    fed_line _ c.in-Some.len (rw c.in-Some.is at c.memchr.ensures) ∙ ap first_line shown

pub returns-in-None : goal.returns-in-None
returns-in-None g c =
    let shown : take c.min.result c.bytes-bytes.result.now ≡ take most_line_bytes c.args.self.now.buffer =
    rw (c.min.ensures, c.bytes-bytes.ensures.value) (take_min most_line_bytes c.args.self.now.buffer) in
    unfed_line _ (rw c.in-None.is at c.memchr.ensures) ∙ ap first_line shown
