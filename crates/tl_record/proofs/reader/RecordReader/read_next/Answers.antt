use Rattle.tl_record.proofs.reader.RecordReader.read_next.Goals as goal

pub returns-in-Reading-clause-stops : goal.returns-in-Reading-clause-stops
returns-in-Reading-clause-stops g c = rw c.in-Reading.is c.read_on.ensures.leaves.stops
