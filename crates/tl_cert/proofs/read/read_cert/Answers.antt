use Rattle.tl_cert.proofs.read.read_cert.Goals as goal

pub collect_parts-requires-clause-standing : goal.collect_parts-requires-clause-standing
collect_parts-requires-clause-standing g c = c.new-reader.ensures.standing

pub collect_parts-requires-clause-lines : goal.collect_parts-requires-clause-lines
collect_parts-requires-clause-lines g c = c.new-reader.ensures.lines

pub returns-clause-certificate : goal.returns-clause-certificate
returns-clause-certificate g c = c.collect_parts.ensures.certificate
