use Rattle.tl_record.specs.Judgement.{judgement}
use Rattle.std.proofs.Common.{arith, ap, ◌∙◌, take, ◌+◌}
use Rattle.tl_record.proofs.reader.RecordReader.judge_pending.Goals as goal

pub overflow_add-self : goal.overflow_add-self
overflow_add-self g c = omega arith

pub returns-clause-judged : goal.returns-clause-judged
returns-clause-judged g c = c.judge_into.ensures.judged ∙ ap (λ bytes. judgement c.args.self.now.layout (c.args.self.now.lines + 1) (take c.args.len bytes)) c.bytes.ensures.value

pub returns-clause-kept : goal.returns-clause-kept
returns-clause-kept g c = c.judge_into.ensures.kept

pub returns-clause-room : goal.returns-clause-room
returns-clause-room g c = c.bytes.ensures.room
