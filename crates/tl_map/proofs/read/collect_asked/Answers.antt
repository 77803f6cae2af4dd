use Rattle.tl_record.specs.Reader.{outcome}
use Rattle.tl_map.proofs.JoinedReadLemmas.{told_joined}
use Rattle.tl_map.proofs.read.collect_asked.Goals as goal

pub returns-clause-all : goal.returns-clause-all
returns-clause-all g c =
    told_joined (outcome g.R.Source.remaining c.args.reader.now) _ c.args.joins c.in_ok-told.told c.in_ok-made.made c.if-not-joins.false
    c.in_ok-told.ensures.all c.in_ok-made.ensures
