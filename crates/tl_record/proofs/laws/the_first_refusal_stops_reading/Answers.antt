use Rattle.tl_record.specs.Lines.{raw_lines}
use Rattle.tl_record.specs.Records.{judgements}
use Rattle.tl_record.proofs.RefusalLemmas.{first_refusal}
use Rattle.tl_record.proofs.laws.the_first_refusal_stops_reading.Goals as goal

pub returns : goal.returns
returns c = λ layout text. first_refusal (judgements layout 0 (raw_lines text))
