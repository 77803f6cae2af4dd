use Rattle.tl_record.proofs.reader.RecordReader.next_record.Goals as goal

pub returns-clause-gives : goal.returns-clause-gives
returns-clause-gives g c = rw c.with_record.ensures c.read_next-answer.ensures.gives

pub returns-clause-settles : goal.returns-clause-settles
returns-clause-settles g c = rw c.with_record.ensures c.read_next-answer.ensures.settles

pub returns-clause-repeats : goal.returns-clause-repeats
returns-clause-repeats g c = rw c.with_record.ensures c.read_next-answer.ensures.repeats

pub returns-clause-counts : goal.returns-clause-counts
returns-clause-counts g c = rw c.with_record.ensures c.read_next-answer.ensures.counts

pub returns-clause-failures : goal.returns-clause-failures
returns-clause-failures g c = rw c.with_record.ensures c.read_next-answer.ensures.failures

pub returns-clause-same_reference : goal.returns-clause-same_reference
returns-clause-same_reference g c = c.read_next-answer.ensures.same_reference

pub returns-clause-whole_lines : goal.returns-clause-whole_lines
returns-clause-whole_lines g c = rw c.with_record.ensures c.read_next-answer.ensures.whole_lines

pub returns-clause-refusals : goal.returns-clause-refusals
returns-clause-refusals g c = c.read_next-answer.ensures.refusals

pub returns-clause-left : goal.returns-clause-left
returns-clause-left g c = rw c.with_record.ensures c.read_next-answer.ensures.left

pub returns-clause-stops : goal.returns-clause-stops
returns-clause-stops g c = rw c.with_record.ensures c.read_next-answer.ensures.stops

pub returns-clause-onward : goal.returns-clause-onward
returns-clause-onward g c = c.read_next-answer.ensures.onward
